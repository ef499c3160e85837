use Rattle.split_checks.proofs.Prelude.{◌≡◌, ◌∙◌, ◌+◌, ℕ, List, Result, Ok, IfOk, Some, None, Vec, Global, map, length, vec_len, sym, ap, subst, arith, min, Plane, code, Model, first_refusal, strictly_rises, Refusal, verdict_passed, verdict_failed, first_such, numbers_left, taken_in, crossing_edges, straddling_faces, straddling_conditions, cut_conditions, Pair, all_pairs, codes, cut_at, paired_face, AreCrossing, is_off, faces_in, AreFacesAlong}
use Rattle.split_checks.proofs.cut_places_laws.Edges.{all_cross, straddling_along}
use Rattle.split_checks.proofs.cut_places_laws.Sorted.{crossings_rise}
use Rattle.split_checks.proofs.cut_places_laws.Told.{solid_faces, solid_told}
use Rattle.split_checks.proofs.face_pairs_laws.Counts.{many_pairs}
use Rattle.split_checks.proofs.begin_checks_laws.Stages.{at_ok, at_err, edges_refused, faces_refused, numbers_decide}
use Rattle.split_checks.proofs.begin_checks.checks.check_cuts.Goals as goal

-- the numbers that are left decide where the edges and the faces can be cut
left : {A B : Type 0} (M : Model) (s : ℕ) (p : Plane) (es fs : List ℕ) → es ≡ crossing_edges M p s → fs ≡ straddling_faces M p s
    → (edges : Result A ℕ) (cut : A) → edges ≡ Ok cut → IfOk edges (λ _. first_such (is_off M p) es ≡ None)
    → (faces : Result (B × Vec Pair Global) Refusal) (paired : B × Vec Pair Global) → faces ≡ Ok paired
    → IfOk faces (λ _. first_refusal (straddling_conditions M p fs) ≡ None) → IfOk faces (λ paired. map codes paired.1.items ≡ all_pairs M p fs)
    → (m n k : ℕ) → m ≡ min (length es) 1000001 → n ≡ min k 1000001 → k ≡ vec_len paired.1
    → first_refusal (numbers_left (taken_in M) (record { faces = n; loops = n; edges = m + n; vertices = m })) ≡ first_refusal (cut_conditions M p (crossing_edges M p s) (straddling_faces M p s))
left M s p es fs along straddling edges cut is_cut on faces paired is_paired drawable pairs m n k is_m is_n is_k =
    let held : vec_len paired.1 ≡ length paired.1.items = omega (arith, paired.1.ok.0) in
    let whole = at_ok edges cut (λ _. first_such (is_off M p) es ≡ None) is_cut on in
    let able = at_ok faces paired (λ _. first_refusal (straddling_conditions M p fs) ≡ None) is_paired drawable in
    let are = at_ok faces paired (λ paired. map codes paired.1.items ≡ all_pairs M p fs) is_paired pairs in
    numbers_decide M s p (sym whole ∙ ap (first_such (is_off M p)) along) (ap (λ gs. first_refusal (straddling_conditions M p gs)) (sym straddling) ∙ able) m n
    (is_m ∙ ap (λ (ks : List ℕ). min (length ks) 1000001) along) (is_n ∙ ap (λ j. min j 1000001) (is_k ∙ held ∙ many_pairs M p _ _ (are ∙ ap (all_pairs M p) straddling)))

pub cut_edges-requires-clause-crossing : goal.cut_edges-requires-clause-crossing
cut_edges-requires-clause-crossing c =
    let M = c.args.arena.now.model in let p = c.args.plane in
    subst (AreCrossing M p) (sym (c.as_slice-edges.ensures.value ∙ c.requires.met.edges)) (all_cross M c.requires.ready.sound c.args.s p)

pub returns-in-Err-clause-refused : goal.returns-in-Err-clause-refused
returns-in-Err-clause-refused c =
    let M = c.args.arena.now.model in let p = c.args.plane in
    let off = at_err c.in_ok-cut.field-0 c.in-Err.e (λ e. first_such (is_off M p) c.as_slice-edges.result.now ≡ Some e) c.in-Err.is c.in_ok-cut.ensures.off in
    edges_refused M c.args.s p c.in-Err.e (ap (first_such (is_off M p)) (sym (c.as_slice-edges.ensures.value ∙ c.requires.met.edges)) ∙ off) ∙ ap Some (sym c.refusal.ensures)

pub check_faces-requires-clause-crossings : goal.check_faces-requires-clause-crossings
check_faces-requires-clause-crossings c =
    let M = c.args.arena.now.model in let p = c.args.plane in
    record {
      rising = ap strictly_rises (c.as_slice-edges.ensures.value ∙ c.requires.met.edges) ∙ crossings_rise M c.requires.ready.sound c.args.s p;
      points = c.as_slice.ensures.value ∙ at_ok c.in_ok-cut.field-0 c.in-Ok.cut (λ cut. cut.items ≡ map (cut_at M p) c.as_slice-edges.result.now) c.in-Ok.is c.in_ok-cut.ensures.cut;
    }

pub check_faces-requires-clause-whole : goal.check_faces-requires-clause-whole
check_faces-requires-clause-whole c =
    let M = c.args.arena.now.model in let p = c.args.plane in
    subst (AreFacesAlong M p c.as_slice-edges.result.now) (sym (ap faces_in c.as_slice-straddling.ensures.value ∙ solid_faces M p c.args.s c.args.met.now c.requires.met))
    (subst (λ es. AreFacesAlong M p es (straddling_faces M p c.args.s)) (sym (c.as_slice-edges.ensures.value ∙ c.requires.met.edges)) (straddling_along M c.requires.ready.sound c.args.s p))

pub check_faces-requires-clause-told : goal.check_faces-requires-clause-told
check_faces-requires-clause-told c =
    solid_told c.args.arena.now.model c.args.plane c.args.s c.args.met.now c.requires.met c.as_slice-straddling.result.now (map code c.as_slice-places.result.now) c.as_slice-straddling.ensures.value (ap (map code) c.as_slice-places.ensures.value)

pub returns-in-Err-2-clause-refused : goal.returns-in-Err-2-clause-refused
returns-in-Err-2-clause-refused c =
    let M = c.args.arena.now.model in let p = c.args.plane in
    let whole = sym (at_ok c.in_ok-cut.field-0 c.in-Ok.cut (λ _. first_such (is_off M p) c.as_slice-edges.result.now ≡ None) c.in-Ok.is c.in_ok-cut.ensures.whole) ∙ ap (first_such (is_off M p)) (c.as_slice-edges.ensures.value ∙ c.requires.met.edges) in
    faces_refused M c.args.s p whole c.in-Err-2.refusal
    (ap (λ fs. first_refusal (straddling_conditions M p fs)) (sym (ap faces_in c.as_slice-straddling.ensures.value ∙ solid_faces M p c.args.s c.args.met.now c.requires.met))
    ∙ at_err c.in_ok-paired.field-0 c.in-Err-2.refusal (λ refusal. first_refusal (straddling_conditions M p (faces_in c.as_slice-straddling.result.now)) ≡ Some refusal) c.in-Err-2.is c.in_ok-paired.ensures.refused)

pub returns-in-Ok-check_left-clause-accepted : goal.returns-in-Ok-check_left-clause-accepted
returns-in-Ok-check_left-clause-accepted c =
    let M = c.args.arena.now.model in
    sym (left M c.args.s c.args.plane _ _ (c.as_slice-edges.ensures.value ∙ c.requires.met.edges) (ap faces_in c.as_slice-straddling.ensures.value ∙ solid_faces M c.args.plane c.args.s c.args.met.now c.requires.met)
    _ _ c.in-Ok.is c.in_ok-cut.ensures.whole _ _ c.in-Ok-2.is c.in_ok-paired.ensures.accepted c.in_ok-paired.ensures.pairs c.min.result c.min-2.result c.len.result c.min.ensures c.min-2.ensures c.len.ensures)
    ∙ verdict_passed _ c.in-Ok-check_left.field-0 c.in-Ok-check_left.ensures

pub returns-in-Err-check_left-clause-refused : goal.returns-in-Err-check_left-clause-refused
returns-in-Err-check_left-clause-refused c =
    let M = c.args.arena.now.model in
    sym (left M c.args.s c.args.plane _ _ (c.as_slice-edges.ensures.value ∙ c.requires.met.edges) (ap faces_in c.as_slice-straddling.ensures.value ∙ solid_faces M c.args.plane c.args.s c.args.met.now c.requires.met)
    _ _ c.in-Ok.is c.in_ok-cut.ensures.whole _ _ c.in-Ok-2.is c.in_ok-paired.ensures.accepted c.in_ok-paired.ensures.pairs c.min.result c.min-2.result c.len.result c.min.ensures c.min-2.ensures c.len.ensures)
    ∙ verdict_failed _ c.in-Err-check_left.refusal c.in-Err-check_left.ensures

pub returns-in-Ok-check_left-clause-cuts : goal.returns-in-Ok-check_left-clause-cuts
returns-in-Ok-check_left-clause-cuts c =
    let M = c.args.arena.now.model in let p = c.args.plane in let s = c.args.s in
    record {
      edges = at_ok c.in_ok-cut.field-0 c.in-Ok.cut (λ cut. cut.items ≡ map (cut_at M p) c.as_slice-edges.result.now) c.in-Ok.is c.in_ok-cut.ensures.cut ∙ ap (map (cut_at M p)) (c.as_slice-edges.ensures.value ∙ c.requires.met.edges);
      faces = at_ok c.in_ok-paired.field-0 c.in-Ok-2.paired (λ paired. paired.0.items ≡ map (paired_face M p) (faces_in c.as_slice-straddling.result.now)) c.in-Ok-2.is c.in_ok-paired.ensures.faces
          ∙ ap (map (paired_face M p)) (ap faces_in c.as_slice-straddling.ensures.value ∙ solid_faces M p s c.args.met.now c.requires.met);
      pairs = at_ok c.in_ok-paired.field-0 c.in-Ok-2.paired (λ paired. map codes paired.1.items ≡ all_pairs M p (faces_in c.as_slice-straddling.result.now)) c.in-Ok-2.is c.in_ok-paired.ensures.pairs
          ∙ ap (all_pairs M p) (ap faces_in c.as_slice-straddling.ensures.value ∙ solid_faces M p s c.args.met.now c.requires.met);
    }
