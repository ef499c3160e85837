-- The two parts of a split solid: from the drawn model to the one that the split makes.
use Rattle.split_laws.proofs.Prelude.{◌≡◌, ◌≢◌, ℕ, ◌+ℤ◌, false, List, None, refl, sym, ◌∙◌, Plane, is_above, is_below, Model, Sound, Has, lone_there, start, vertices_of, six_volume, some_above, some_below, faces_above, with_drawings, split_refusal, split_model, NoLoopIsLone, drawings_volumes, none_lone, IsOfSolid}
use Rattle.split_laws.proofs.volumes.Split.{both_there, split_shares, split_keeps}
use Rattle.split_laws.proofs.sides.Sides.{parts_sided, NoneLone, parts_none, vertices_fail}
use Rattle.split_laws.proofs.drawn.Drawn.{begins, never_stuck}
use Rattle.split_laws.proofs.Whole.{split_sound}
use Rattle.split_laws.proofs.measures.Splittable.{drawn_sided, s_there, can_be_split}

module _ (M : Model) (s : ℕ) (p : Plane) (t : ℕ) (sound : Sound M) (accepted : split_refusal M s p t ≡ None) where
  abbrev above : List ℕ
  above = faces_above (with_drawings M s p).model p s

  pub parts_there : Has (split_model M s p t).solids s × Has (split_model M s p t).solids t
  unfolding split_model
  parts_there = both_there (with_drawings M s p) above s p t (can_be_split M s p t sound accepted) (s_there M s p t sound accepted)

  pub volumes_shared : six_volume M s ≡ six_volume (split_model M s p t) s +ℤ six_volume (split_model M s p t) t
  unfolding split_model
  volumes_shared = sym (drawings_volumes M s p t sound (begins M s p t sound accepted) s) ∙ split_shares (with_drawings M s p) above s p t (can_be_split M s p t sound accepted)

  pub on_either_side : (l h : ℕ) → (IsOfSolid (split_model M s p t) s l h → is_above p (start (split_model M s p t) h) ≡ false) × (IsOfSolid (split_model M s p t) t l h → is_below p (start (split_model M s p t) h) ≡ false)
  unfolding split_model
  on_either_side l h = parts_sided (with_drawings M s p) above s p t (can_be_split M s p t sound accepted) (drawn_sided M s p t sound accepted) l h

  -- no loop of either is lone
  no_lone_left : NoneLone (split_model M s p t) s × NoneLone (split_model M s p t) t
  unfolding split_model
  no_lone_left = parts_none (with_drawings M s p) above s p t (can_be_split M s p t sound accepted)
      (λ l v at there. none_lone M (with_drawings M s p).model s p t sound (begins M s p t sound accepted) (never_stuck M s p t sound accepted, refl) l v at)

  pub none_is_lone : NoLoopIsLone (split_model M s p t) s × NoLoopIsLone (split_model M s p t) t
  none_is_lone = (
    λ l v at. no_lone_left.0 l v at ((split_sound M s p t sound accepted).loops_of_faces l (lone_there (split_model M s p t) l v at)),
    λ l v at. no_lone_left.1 l v at ((split_sound M s p t sound accepted).loops_of_faces l (lone_there (split_model M s p t) l v at)),
  )

  -- so the vertices lie where the half-edges start
  pub vertices_sided : (some_above (split_model M s p t) p (vertices_of (split_model M s p t) s) ≡ false) × (some_below (split_model M s p t) p (vertices_of (split_model M s p t) t) ≡ false)
  vertices_sided = (
    vertices_fail (split_model M s p t) (split_sound M s p t sound accepted) s none_is_lone.0 (is_above p) (λ l h. (on_either_side l h).0),
    vertices_fail (split_model M s p t) (split_sound M s p t sound accepted) t none_is_lone.1 (is_below p) (λ l h. (on_either_side l h).1),
  )

pub others_kept : (M : Model) (s : ℕ) (p : Plane) (t u : ℕ) → Sound M → split_refusal M s p t ≡ None → u ≢ s → u ≢ t → six_volume (split_model M s p t) u ≡ six_volume M u
unfolding split_model
others_kept M s p t u sound accepted not_s not_t = split_keeps (with_drawings M s p) (faces_above (with_drawings M s p).model p s) s p t u (can_be_split M s p t sound accepted) not_s not_t ∙ drawings_volumes M s p t sound (begins M s p t sound accepted) u
