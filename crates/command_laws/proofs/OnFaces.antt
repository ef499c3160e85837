-- Half-edges and vertices on the loops of faces.
use Rattle.command_laws.proofs.Prelude.{◌≡◌, ℕ, subst, ◌⊎◌, inl, inr, arith, IsIn, Model, lone, items_of, tail, content, Sound, Has, from_map, item_there, vertices_on, HasHalf, mate, after, face_at, loop_of, corners, cycle_there, loop_there, loop_after, half_after, tail_in_face}

-- a vertex on a loop is that of the lone loop, or some item starts there
pub vertex_cases : (M : Model) (l v : ℕ) → IsIn v (vertices_on M (content M l)) → (content M l ≡ lone v) ⊎ ((h : ℕ) × IsIn h (items_of (content M l)) × (tail M h ≡ v))
vertex_cases M l v i = grind (arith, from_map)

module _ (M : Model) (sound : Sound M) where
  pub vertex_there : (l v : ℕ) → IsIn v (vertices_on M (content M l)) → Has M.vertices v
  vertex_there l v i = elim (vertex_cases M l v i) [
    | inl e ↦ sound.lone_at_vertex l v e
    | inr p ↦ subst (Has M.vertices) p.2 (sound.tails_there p.0 (item_there M sound l p.0 p.1))
  ]

-- the ends of a half-edge are corners of its face
module _ (M : Model) (sound : Sound M) (h : ℕ) (half : HasHalf M h) where
  pub starts_in : IsIn (tail M h) (corners M (face_at M h))
  starts_in = tail_in_face M h (loop_of M h) (loop_there M sound h half) (cycle_there M sound h half)

  pub ends_in : IsIn (tail M (mate h)) (corners M (face_at M h))
  ends_in = subst (λ v. IsIn v (corners M (face_at M h))) (sound.ends_meet h half) (tail_in_face M (after M h) (loop_of M h) (loop_there M sound h half)
      (subst (λ l. IsIn (after M h) (items_of (content M l))) (loop_after M sound h half) (cycle_there M sound (after M h) (half_after M sound h half))))
