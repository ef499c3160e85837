-- The walk over the faces of a solid, from each to the next.
use Rattle.solid_walks.proofs.Prelude.{◌≡◌, ℕ, ◌≤◌, true, nat_eq, ◌&&◌, [], ◌∷◌, ◌++◌, Some, None, ap, ◌∙◌, eq-eqb, eqb-true, and_parts, Model, faces_of, solid_of, Sound, Has, lists, up_to_all, up_to_next, IsNextFace, is_face_of, listed_face, face_listed, faces_rise, face_number, faces_to}
use Rattle.euler_operators.specs.Table as table
use Rattle.solid_walks.proofs.NextRing.{not_less}

module _ (M : Model) (sound : Sound M) (s : ℕ) where
  face_is : (f : ℕ) → is_face_of M s f ≡ true → Has M.faces f × (solid_of M f ≡ s)
  face_is f e = let p = and_parts (table.has M.faces f) (nat_eq (solid_of M f) s) e in (p.0, eqb-true (solid_of M f) s p.1)

  is_face : (f : ℕ) → lists (faces_of M s) f ≡ true → is_face_of M s f ≡ true
  is_face f i = let p = listed_face M sound s f i in ap (λ b. b && nat_eq (solid_of M f) s) p.0 ∙ eq-eqb (solid_of M f) s p.1

  pub next_face : (last f : ℕ) → IsNextFace M s last (Some f) → Has M.faces f × (f ≤ 1000000)
  next_face last f next = let t = (face_is f next.1).0 in (t, (face_number M sound s f t).1)

  pub faces_more : (last f : ℕ) → IsNextFace M s last (Some f) → faces_to M sound s f ≡ faces_to M sound s last ++ f ∷ []
  faces_more last f next =
      let t = face_is f next.1 in
      up_to_next last f (faces_of M s) (faces_rise M sound s) (face_listed M sound s f t.0 t.1) next.0 (λ k i l. not_less f k (is_face k i) (next.2 k l))

  pub faces_all : (last : ℕ) → IsNextFace M s last None → faces_to M sound s last ≡ faces_of M s
  faces_all last none = up_to_all last (faces_of M s) (λ k i. not_less k last (is_face k i) (none k))
