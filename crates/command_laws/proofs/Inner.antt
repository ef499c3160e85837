-- An edge drawn in a face, two loops of a face joined, and a face that becomes a ring of another leave all that isn't of the solid.
use Rattle.command_laws.proofs.Prelude.{◌≡◌, ◌≢◌, ℕ, List, Some, None, is_some, refl, sym, ap, subst, ◌∙◌, true≢false, inl, inr, eqb-false, Corner, HalfEdge, code, edge_of, Model, content, face_of, loop_of, solid_of, Sound, Has, HasHalf, corner_loop, face_at, first_false, effect, inverse, kemr, mef, mfkrh, Mef, Kemr, Mekr, Kfmrh, Mfkrh, same_edge, face_row, loop_there, same_solid, solid_row, get-put_here, get-put_other, get-remove_other, row_elsewhere, effect_keeps_sound, inverse_goes, inverse_undoes, MakeGoes, kfmrh_goes, mfkrh_goes, kemr_goes, KemrGoes, mef_goes, MefGoes, JoinGoes, join_goes, LoopMoves, face_kept, face_moved, walks_same, loop_row, face_same, row_second}
use Rattle.euler_operators.specs.Table as table
use Rattle.euler_operators.specs.declared.Op.{Op}
use Rattle.euler_laws.proofs.Common.{row_else}
use Rattle.euler_laws.proofs.kemr.KemrSound as parted
use Rattle.euler_laws.proofs.mef.MefSound as drawn
use Rattle.euler_laws.proofs.mekr.Mekr.{mekr_is}
use Rattle.euler_laws.proofs.mekr.MekrSound as joins
use Rattle.command_laws.proofs.Owners.{Agree, is_of, solid_of_half, solid_of_loop, turned, is_it}

-- two models that agree but for one solid
abbrev pub AgreeBut : ℕ → Model → Model → Type 0
AgreeBut s M N = Agree M N (is_of s) (is_of s)

-- a loop with its face and its content has its row
pub same_row : (M N : Model) (q : ℕ) → Has M.loops q → table.has N.loops q ≡ table.has M.loops q → face_of N q ≡ face_of M q → content N q ≡ content M q → table.get N.loops q ≡ table.get M.loops q
same_row M N q there has face same = loop_row N q (has ∙ there) ∙ (λ i. Some (record { face = face i; content = same i })) ∙ sym (loop_row M q there)

-- what is new is of the solid
module _ (M N : Model) (s : ℕ) (w : AgreeBut s M N) where
  pub new_face : (k : ℕ) → Has N.faces k → table.get M.faces k ≡ None → solid_of N k ≡ s
  new_face k there free = is_it s (solid_of N k) (λ out. true≢false (sym there ∙ ap is_some ((w.faces_back k there out).0 ∙ free)))

-- ---- an edge between two corners of a loop, and a new face

module _ (M : Model) (sound : Sound M) (g k h f l : ℕ) (goes : MefGoes M g k h f l) where
  abbrev D : Model
  D = mef M g k h f l

  abbrev sd : ℕ
  sd = solid_of M (face_at M g)

  drawn_face : (q : ℕ) → q ≢ f → table.get D.faces q ≡ table.get M.faces q
  unfolding mef
  drawn_face q ne = get-put_other M.faces f _ q ne

  drawn_new : solid_of D f ≡ sd
  unfolding mef
  drawn_new = solid_row (mef M g k h f l) f _ (get-put_here M.faces f _)

  drawn_old : solid_of D (face_at M g) ≡ sd
  drawn_old = same_solid M D (face_at M g) (drawn_face (face_at M g) (row_elsewhere M.faces (face_at M g) f (sound.loops_of_faces (loop_of M g) (loop_there M sound g goes.g_there)) goes.face_free))

  drawn_edge : (x : ℕ) → HasHalf M x → table.get D.edges (edge_of x) ≡ table.get M.edges (edge_of x)
  unfolding mef
  drawn_edge x there = get-put_other M.edges (edge_of h) _ (edge_of x) (row_elsewhere M.edges (edge_of x) (edge_of h) there goes.edge_free)

  drawn_within : AgreeBut (solid_of M (face_at M g)) M (mef M g k h f l)
  drawn_within =
      let set = drawn.set sound goes in
      let new = drawn.not_l sound goes in
      record {
        before = sound;
        after = drawn.sound-mef sound goes;
        faces = λ q there out. (drawn_face q (row_elsewhere M.faces q f there goes.face_free), out);
        faces_back = λ q there out. let row = drawn_face q (λ e. eqb-false (solid_of D q) sd out (ap (solid_of D) e ∙ drawn_new)) in (row, out);
        loops = λ q there out. row_else set q (λ e. eqb-false (solid_of_loop M q) sd out (ap (solid_of_loop M) e)) (new q there);
        loops_back = λ q there out. row_else set q
            (λ e. eqb-false (solid_of_loop D q) sd out (ap (solid_of D) (ap (face_of D) e ∙ face_same set (loop_of M g) set.apart) ∙ drawn_old))
            (λ e. eqb-false (solid_of_loop D q) sd out (ap (solid_of D) (ap (face_of D) e ∙ drawn.face_l sound goes) ∙ drawn_new));
        edges = λ x there out. drawn_edge x there;
      }

-- ---- an edge that goes, and a new ring

module _ (M : Model) (sound : Sound M) (h l : ℕ) (goes : KemrGoes M h l) where
  abbrev P : Model
  P = kemr M h l

  abbrev sp : ℕ
  sp = solid_of M (face_at M h)

  parted_rows : (q : ℕ) → table.get P.faces q ≡ table.get M.faces q
  unfolding kemr
  parted_rows q = refl

  parted_edge : (x : ℕ) → HasHalf M x → solid_of_half M x ≢ sp → table.get P.edges (edge_of x) ≡ table.get M.edges (edge_of x)
  unfolding kemr
  parted_edge x there ne = get-remove_other M.edges (edge_of h) (edge_of x) (λ e. elim (same_edge x h e) [
    | inl z ↦ ne (ap (solid_of_half M) z)
    | inr z ↦ ne (ap (solid_of_half M) z ∙ sym (sound.one_solid h goes.h_there))
  ])

  parted_within : AgreeBut (solid_of M (face_at M h)) M (kemr M h l)
  parted_within =
      let set = parted.set M sound h l goes in
      let of : solid_of P (face_at M h) ≡ sp = same_solid M P (face_at M h) (parted_rows (face_at M h)) in
      record {
        before = sound;
        after = parted.sound-kemr M sound h l goes;
        faces = λ q there out. (parted_rows q, out);
        faces_back = λ q there out. (parted_rows q, out);
        loops = λ q there out. row_else set q (λ e. eqb-false (solid_of_loop M q) sp out (ap (solid_of_loop M) e)) (row_elsewhere M.loops q l there goes.loop_free);
        loops_back = λ q there out. row_else set q
            (λ e. eqb-false (solid_of_loop P q) sp out (ap (solid_of P) (ap (face_of P) e ∙ face_same set (loop_of M h) set.apart) ∙ of))
            (λ e. eqb-false (solid_of_loop P q) sp out (ap (solid_of P) (ap (face_of P) e ∙ face_row P l _ (row_second set)) ∙ of));
        edges = λ x there out. parted_edge x there (eqb-false (solid_of_half M x) sp out);
      }

-- ---- a ring that becomes a new face

module _ (M : Model) (sound : Sound M) (l f : ℕ) (goes : MakeGoes M l f) (after : Sound (mfkrh M l f)) where
  abbrev R : Model
  R = mfkrh M l f

  abbrev sr : ℕ
  sr = solid_of M (face_of M l)

  moves : LoopMoves M R l f
  unfolding mfkrh
  moves = record { there = goes.l_there; loops = refl; solids = refl; edges = refl; vertices = refl }

  ring_face : (q : ℕ) → q ≢ f → table.get R.faces q ≡ table.get M.faces q
  unfolding mfkrh
  ring_face q ne = get-put_other M.faces f _ q ne

  ring_new : solid_of R f ≡ sr
  unfolding mfkrh
  ring_new = solid_row (mfkrh M l f) f _ (get-put_here M.faces f _)

  ring_loop : (q : ℕ) → Has M.loops q → q ≢ l → table.get R.loops q ≡ table.get M.loops q
  ring_loop q there ne = let same = walks_same moves in same_row M R q there (same.loops q) (face_kept moves q ne) (same.contents q)

  ring_within : AgreeBut (solid_of M (face_of M l)) M (mfkrh M l f)
  ring_within = record {
    before = sound;
    after = after;
    faces = λ q there out. (ring_face q (row_elsewhere M.faces q f there goes.face_free), out);
    faces_back = λ q there out. let row = ring_face q (λ e. eqb-false (solid_of R q) sr out (ap (solid_of R) e ∙ ring_new)) in (row, out);
    loops = λ q there out. ring_loop q there (λ e. eqb-false (solid_of_loop M q) sr out (ap (solid_of_loop M) e));
    loops_back = λ q there out. ring_loop q (sym ((walks_same moves).loops q) ∙ there) (λ e. eqb-false (solid_of_loop R q) sr out (ap (solid_of R) (ap (face_of R) e ∙ face_moved moves) ∙ ring_new));
    edges = λ x there out. ap (λ t. table.get t (edge_of x)) (walks_same moves).edges;
  }

-- ---- each operator

module _ (M : Model) (op : Op) (sound : Sound M) (e : first_false M op ≡ None) where
  abbrev then : Model
  then = effect M op

  -- what its inverse works in, it works in
  taken_within : (u : ℕ) → AgreeBut u (effect M op) (effect (effect M op) (inverse M op)) → AgreeBut u M (effect M op)
  taken_within u w = turned then M (is_of u) (is_of u) (subst (AgreeBut u then) (inverse_undoes M op sound e) w)

pub mef_within : (g k h : HalfEdge) (f l : ℕ) (M : Model) → Sound M → first_false M (Mef g k h f l) ≡ None → AgreeBut (solid_of M (face_at M (code g))) M (effect M (Mef g k h f l))
unfolding effect
mef_within g k h f l M sound e = drawn_within M sound (code g) (code k) (code h) f l (mef_goes M g k h f l e)

kemr_within : (h : HalfEdge) (l : ℕ) (M : Model) → Sound M → first_false M (Kemr h l) ≡ None → AgreeBut (solid_of M (face_at M (code h))) M (effect M (Kemr h l))
unfolding effect
kemr_within h l M sound e = parted_within M sound (code h) l (kemr_goes M h l e)

mfkrh_within : (l f : ℕ) (M : Model) → Sound M → first_false M (Mfkrh l f) ≡ None → AgreeBut (solid_of M (face_of M l)) M (effect M (Mfkrh l f))
unfolding effect
mfkrh_within l f M sound e = ring_within M sound l f (mfkrh_goes M l f e) (effect_keeps_sound M (Mfkrh l f) sound e)

-- the half-edge that mekr makes is of the solid of its first corner
module _ (M : Model) (h q l u w : ℕ) (ys xs : List ℕ) (sound : Sound M) (goes : JoinGoes M h q l u w ys xs) where
  abbrev J : Model
  J = joins.join_loops M h q l u w ys xs

  joined_rows : (k : ℕ) → table.get J.faces k ≡ table.get M.faces k
  unfolding joins.join_loops
  joined_rows k = refl

  joined_half : solid_of_half (joins.join_loops M h q l u w ys xs) h ≡ solid_of_loop M q
  joined_half = let set = joins.set sound goes in
      ap (solid_of_loop J) (joins.loop_new sound goes h (inl refl)) ∙ ap (solid_of J) (face_same set q set.apart) ∙ same_solid M J (face_of M q) (joined_rows (face_of M q))

mekr_half : (M : Model) (c d : Corner) (h : HalfEdge) → Sound M → first_false M (Mekr c d h) ≡ None → solid_of_half (effect M (Mekr c d h)) (code h) ≡ solid_of_loop M (corner_loop M c)
unfolding effect
mekr_half M c d h sound e = subst (λ N. solid_of_half N (code h) ≡ solid_of_loop M (corner_loop M c)) (sym (mekr_is M c d (code h))) (joined_half M (code h) _ _ _ _ _ _ sound (join_goes M c d h sound e))

module _ (M : Model) (sound : Sound M) where
  pub mekr_within : (c d : Corner) (h : HalfEdge) → first_false M (Mekr c d h) ≡ None → AgreeBut (solid_of_loop M (corner_loop M c)) M (effect M (Mekr c d h))
  unfolding inverse
  mekr_within c d h e =
      let op = Mekr c d h in
      let N = effect M op in
      subst (λ u. AgreeBut u M N) (mekr_half M c d h sound e) (taken_within M op sound e _ (kemr_within h _ N (effect_keeps_sound M op sound e) (inverse_goes M op sound e)))

  pub kfmrh_within : (f g : ℕ) → first_false M (Kfmrh f g) ≡ None → AgreeBut (solid_of M f) M (effect M (Kfmrh f g))
  unfolding inverse
  kfmrh_within f g e =
      let op = Kfmrh f g in
      let N = effect M op in
      let was = kfmrh_goes M f g e in
      let goes = inverse_goes M op sound e in
      let back = taken_within M op sound e _ (mfkrh_within _ g N (effect_keeps_sound M op sound e) goes) in
      subst (λ u. AgreeBut u M N) (sym (was.one_solid ∙ new_face N M _ (turned M N (is_of _) (is_of _) back) g was.g_there (mfkrh_goes N _ g goes).face_free)) back
