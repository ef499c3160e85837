use Rattle.split_checks.proofs.Prelude.{◌≡◌, ◌∙◌, ℕ, ◌/◌, true, false, cond, not, length, Ok, List, [], ◌∷◌, ◌++◌, Some, map, slice_index_or, sym, ap, subst, append_assoc, code, first_such, is_crossed, place_pairs, codes, all_pairs, paired_face, AreTold, faces_in, AreFacesAlong, ArePlacesAlong, FaceMet}
use Rattle.split_checks.specs.declared.cuts.PairedFace.{PairedFace}
use Rattle.split_checks.proofs.cut_places_laws.Lists.{others, parts}
use Rattle.split_checks.proofs.cut_places_laws.Told.{no_met, enough, many, mine, more}
use Rattle.split_checks.proofs.face_pairs_laws.Meetings.{face_crossed, face_paired}
use Rattle.split_checks.proofs.face_pairs_laws.Counts.{pairs_of_places}
use Rattle.split_checks.proofs.place_order_laws.Ordered.{places_along}
use Rattle.split_checks.proofs.face_pairs.faces.pairs_of_faces.Goals as goal

pub split_at-requires : goal.split_at-requires
split_at-requires c =
    let M = c.args.arena.now.model in let p = c.args.plane in let qs = c.faces.rest.now in let hs = c.faces.left.now in let is = parts qs no_met c.in-len1-up.len_at_least in
    enough M p (slice_index_or qs 0 no_met) (others qs) hs (subst (λ (rs : List FaceMet). AreTold M p rs (map code hs)) is c.faces.invariant.told)

pub push_pairs-requires-clause-whole : goal.push_pairs-requires-clause-whole
push_pairs-requires-clause-whole c =
    let M = c.args.arena.now.model in let p = c.args.plane in let qs = c.faces.rest.now in let hs = c.faces.left.now in let is = parts qs no_met c.in-len1-up.len_at_least in
    let q = slice_index_or qs 0 no_met in let es = c.args.crossings.edges.now in
    let told = subst (λ (rs : List FaceMet). AreTold M p rs (map code hs)) is c.faces.invariant.told in
    let along = subst (λ (rs : List FaceMet). AreFacesAlong M p es (faces_in rs)) is c.faces.invariant.whole in
    subst (ArePlacesAlong M p es) (sym (ap (map code) c.split_at.ensures.front ∙ mine M p q (others qs) hs told)) (places_along M p q.face es c.requires.ready.sound along.1)

pub returns-then-not-are_paired-clause-crossed : goal.returns-then-not-are_paired-clause-crossed
returns-then-not-are_paired-clause-crossed c =
    let M = c.args.arena.now.model in let p = c.args.plane in let qs = c.faces.rest.now in let hs = c.faces.left.now in let is = parts qs no_met c.in-len1-up.len_at_least in
    let q = slice_index_or qs 0 no_met in let test = is_crossed M p in
    let told = subst (λ (rs : List FaceMet). AreTold M p rs (map code hs)) is c.faces.invariant.told in
    let crossed : test q.face ≡ true = sym (face_crossed M p q.face (map code c.split_at.result.0.now) (ap (map code) c.split_at.ensures.front ∙ mine M p q (others qs) hs told)) ∙ sym c.in_ok-are_paired.ensures.crossed ∙ ap not c.if-not-are_paired.true in
    sym c.faces.invariant.first ∙ ap (λ (rs : List FaceMet). first_such test (faces_in rs)) is ∙ ap (λ b. cond b (Some q.face) (first_such test (faces_in (others qs)))) crossed

pub faces-preserved : goal.faces-preserved
faces-preserved c =
    let M = c.args.arena.now.model in let p = c.args.plane in let qs = c.faces.rest.now in let hs = c.faces.left.now in let is = parts qs no_met c.in-len1-up.len_at_least in
    let q = slice_index_or qs 0 no_met in let es = c.args.crossings.edges.now in let test = is_crossed M p in
    let told = subst (λ (rs : List FaceMet). AreTold M p rs (map code hs)) is c.faces.invariant.told in
    let along = subst (λ (rs : List FaceMet). AreFacesAlong M p es (faces_in rs)) is c.faces.invariant.whole in
    let places_are = ap (map code) c.split_at.ensures.front ∙ mine M p q (others qs) hs told in
    let passed : test q.face ≡ false = sym (face_crossed M p q.face (map code c.split_at.result.0.now) places_are) ∙ sym c.in_ok-are_paired.ensures.crossed ∙ ap not c.if-not-are_paired.false in
    let here = face_paired M p q.face (map code c.split_at.result.0.now) places_are in
    let rest = faces_in (others qs) in let had = map codes c.faces.pairs.items in
    let counted : q.places / 2 ≡ length (place_pairs M p q.face) =
    ap (λ n. n / 2) (many M p q (others qs) hs told) ∙ sym (pairs_of_places M p q.face) in
    record {
      sides = c.push_pairs.ensures.sides;
      whole = along.2;
      told = subst (λ (ks : List ℕ). AreTold M p (others qs) ks) (sym (ap (map code) c.split_at.ensures.back)) (more M p q (others qs) hs told);
      first = sym (ap (λ (rs : List FaceMet). first_such test (faces_in rs)) is ∙ ap (λ b. cond b (Some q.face) (first_such test (faces_in (others qs)))) passed) ∙ c.faces.invariant.first;
      found = ap (λ (fs : List PairedFace). fs ++ map (paired_face M p) rest) (c.in_ok-push.ensures.items ∙ ap (λ n. c.faces.found.items ++ record { face = q.face; pairs = n } ∷ []) counted)
          ∙ append_assoc c.faces.found.items (paired_face M p q.face ∷ []) (map (paired_face M p) rest)
          ∙ ap (λ (rs : List FaceMet). c.faces.found.items ++ map (paired_face M p) (faces_in rs)) (sym is) ∙ c.faces.invariant.found;
      made = ap (λ (ps : List (ℕ × ℕ)). ps ++ all_pairs M p rest) (c.in_ok-are_paired.ensures.pairs (ap Ok c.if-not-are_paired.false) ∙ ap (λ (ps : List (ℕ × ℕ)). had ++ ps) here)
          ∙ append_assoc had (place_pairs M p q.face) (all_pairs M p rest)
          ∙ ap (λ (rs : List FaceMet). had ++ all_pairs M p (faces_in rs)) (sym is) ∙ c.faces.invariant.made;
    }
