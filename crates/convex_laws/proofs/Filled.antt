-- The loops of a solid without lone loops: at each corner of a face a half-edge of that face starts.
use Rattle.convex_laws.proofs.Prelude.{◌≡◌, ◌≢◌, ℕ, ◌&&◌, [], None, is_some, sym, ap, ◌∙◌, IsIn, Model, content, cycle, face_at, face_of, faces_of, is_lone, items_of, lists, solid_of, tail, Sound, Has, HasHalf, first_fails, in-holds, zero_first_where, listed-from_in, no_zero, not_lone_cycle, corners, least_lone, loops_of, face_listed, face_of_loop, none_is_lone, TailIn, tail_in}
use Rattle.euler_laws.proofs.Common.{loop_row}

module _ (M : Model) (s : ℕ) (sound : Sound M) (none_lone : least_lone M (faces_of M s) ≡ None) (f : ℕ) (has : Has M.faces f) (of : solid_of M f ≡ s) where
  loop_facts : (l : ℕ) → IsIn l (loops_of M f) → Has M.loops l × (face_of M l ≡ f)
  loop_facts l i = face_of_loop M sound f l has (listed-from_in l (loops_of M f) i)

  filled : (l : ℕ) → IsIn l (loops_of M f) → content M l ≡ cycle (items_of (content M l))
  filled l i = let w = loop_facts l i in not_lone_cycle (content M l) (first_fails (is_lone (content M l)) (lists (faces_of M s) (face_of M l))
      (zero_first_where (λ _ row. is_lone row.content && lists (faces_of M s) row.face) M.loops (λ q y got z. no_zero q z (sound.loops_fit q (ap is_some got)))
      (none_is_lone M (faces_of M s) none_lone) l (record { face = face_of M l; content = content M l }) (loop_row M l w.0))
      (ap (lists (faces_of M s)) w.1 ∙ face_listed M sound s f has of))

  pub has_items : (l : ℕ) → IsIn l (loops_of M f) → items_of (content M l) ≢ []
  has_items l i = (sound.cycles l (items_of (content M l)) (loop_facts l i).0 (filled l i)).some_item

  pub corner_half : (v : ℕ) → IsIn v (corners M f) → (h : ℕ) × HasHalf M h × (face_at M h ≡ f) × (tail M h ≡ v)
  unfolding corners
  corner_half v i =
      let r : TailIn M v (loops_of M f) = tail_in M v (loops_of M f) filled i in
      let stands = in-holds r.half (content M r.loop) r.half_in in
      (r.half, sound.only_edges r.half r.loop stands, ap (face_of M) (sound.one_loop r.half r.loop stands) ∙ (loop_facts r.loop r.loop_in).1, sym r.is)
