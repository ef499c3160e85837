-- A solid that is closed and flat adds nothing to what is searched for in two solids.
use Rattle.gluing.proofs.Prelude.{◌≡◌, ℕ, Bool, true, false, not, cond, ◌&&◌, nat_eq, List, [], ◌∷◌, Option, Some, None, is_some, unwrap_or, refl, sym, ap, subst, ◌∙◌, eqb-true, IfSome, IsIn, Model, LoopRow, no_face, face_of, faces_of, first_refusal, solid_of, Sound, Has, is_lone, lists, LoneLoop, NotFlat, content_row, face_row, first_where_zero, IsIn_head, IsIn_rest, listed_passes, listed-from_in, faces_are_flat, faces_of_both, first_such, found, is_flat, least_lone, no_such, lesser_none}
use Rattle.euler_operators.specs.Table as table
use Rattle.solid_measure.proofs.solid_checks_laws.BentFaces.{first_bent, both_bent}
use Rattle.solid_walks.proofs.lone_laws.LoneLoops.{both_lone}
use Rattle.solid_walks.specs.Least.{lesser}
use Rattle.gluing.specs.Flat.{IsClosedFlat}

not_lone : (b c : Bool) → (c ≡ true → b ≡ false) → (b && c) ≡ false
not_lone true true h = h refl
not_lone b c h = refl

none_such : (p : ℕ → Bool) (ks : List ℕ) → ((k : ℕ) → IsIn k ks → p k ≡ false) → first_such p ks ≡ None
none_such p [] e = refl
none_such p (k ∷ ks) e = ap (λ b. cond b (Some k) (first_such p ks)) (e k (IsIn_head k ks)) ∙ none_such p ks (λ j i. e j (IsIn_rest j k ks i))

module _ (M : Model) (s : ℕ) (flat : IsClosedFlat M s) where
  in_solid : (k : ℕ) → lists (faces_of M s) k ≡ true → Has M.faces k × (solid_of M k ≡ s)
  unfolding solid_of
  in_solid k l = let p = listed_passes (λ _ row. nat_eq row.solid s) M.faces k l in (ap is_some p.1, ap (λ o. (unwrap_or o no_face).solid) p.1 ∙ eqb-true p.0.solid s p.2)

  none_passes : (q : ℕ) (row : LoopRow) → table.get M.loops q ≡ Some row → (is_lone row.content && lists (faces_of M s) row.face) ≡ false
  none_passes q row at = not_lone (is_lone row.content) (lists (faces_of M s) row.face)
      (λ e. ap is_lone (sym (content_row M q row at)) ∙ flat.closed q (ap is_some at) (in_solid (face_of M q) (ap (lists (faces_of M s)) (face_row M q row at) ∙ e)).1)

  -- it has no lone loop, and no face that isn't flat
  none_lone : least_lone M (faces_of M s) ≡ None
  none_lone = ap found (first_where_zero (λ _ row. is_lone row.content && lists (faces_of M s) row.face) M.loops none_passes)

  none_bent : first_bent M (faces_of M s) ≡ None
  none_bent = none_such (λ k. not (is_flat M k)) (faces_of M s) (λ k i. let w = in_solid k (listed-from_in k (faces_of M s) i) in ap not (flat.flat k w.0 w.1))

  -- so no condition on its faces alone is false
  pub none_false : first_refusal (faces_are_flat M (faces_of M s)) ≡ None
  none_false = λ i. first_refusal (no_such (none_lone i) LoneLoop ∷ no_such (none_bent i) NotFlat ∷ [])

module _ (M : Model) (sound : Sound M) (s t : ℕ) (flat : IsClosedFlat M s) where
  -- so the conditions of two solids are those of the other one
  pub flat_beside : faces_are_flat M (faces_of M t) ≡ faces_are_flat M (faces_of_both M s t)
  flat_beside =
      let lone = ap (λ o. lesser o (least_lone M (faces_of M t))) (sym (none_lone M s flat)) ∙ both_lone M sound s t in
      let bent = ap (λ o. lesser o (first_bent M (faces_of M t))) (sym (none_bent M s flat)) ∙ both_bent M sound s t in
      λ i. no_such (lone i) LoneLoop ∷ no_such (bent i) NotFlat ∷ []

  pub beside_flat : faces_are_flat M (faces_of M t) ≡ faces_are_flat M (faces_of_both M t s)
  beside_flat =
      let lone = sym (lesser_none (least_lone M (faces_of M t))) ∙ ap (lesser (least_lone M (faces_of M t))) (sym (none_lone M s flat)) ∙ both_lone M sound t s in
      let bent = sym (lesser_none (first_bent M (faces_of M t))) ∙ ap (lesser (first_bent M (faces_of M t))) (sym (none_bent M s flat)) ∙ both_bent M sound t s in
      λ i. no_such (lone i) LoneLoop ∷ no_such (bent i) NotFlat ∷ []

module _ (M : Model) (sound : Sound M) (s t : ℕ) (first : IsClosedFlat M s) (second : IsClosedFlat M t) where
  -- no loop of two such solids is lone, and no face isn't flat
  pub both_closed : least_lone M (faces_of_both M s t) ≡ None
  both_closed = sym (both_lone M sound s t) ∙ ((λ i. lesser (none_lone M s first i) (none_lone M t second i)))

  pub both_flat : first_such (λ k. not (is_flat M k)) (faces_of_both M s t) ≡ None
  both_flat = sym (both_bent M sound s t) ∙ ((λ i. lesser (none_bent M s first i) (none_bent M t second i)))

-- the solid that is known is this one
pub known_flat : (M : Model) (flat : Option ℕ) (u s : ℕ) → IfSome flat (IsClosedFlat M) → flat ≡ Some u → u ≡ s → IsClosedFlat M s
known_flat M flat u s known is same = subst (IsClosedFlat M) same (subst (λ o. IfSome o (IsClosedFlat M)) is known)
