-- The least face that isn't flat, solid by solid.
use Rattle.solid_measure.proofs.Prelude.{◌≡◌, ℕ, Bool, not, ◌&&◌, ◌||◌, List, Option, sym, ap, ◌∙◌, Model, faces_of, Sound, faces_of_both, first_such, is_flat, lesser, IsLeast, one_least, least_same, least_either, least_rising, and_or, member_both, faces_rise, both_rise}
use Rattle.solid_walks.proofs.face_walks_laws.Above.{member}

module _ (M : Model) where
  abbrev is_bent : ℕ → Bool
  is_bent f = not (is_flat M f)

  -- the first of some faces that isn't flat, if there is one
  abbrev pub first_bent : List ℕ → Option ℕ
  first_bent fs = first_such is_bent fs

  module _ (sound : Sound M) where
    least_of_solid : (s : ℕ) → IsLeast (λ k. is_bent k && member k (faces_of M s)) (first_bent (faces_of M s))
    least_of_solid s = least_rising is_bent (faces_of M s) (faces_rise M s)

    pub both_bent : (s t : ℕ) → lesser (first_bent (faces_of M s)) (first_bent (faces_of M t)) ≡ first_bent (faces_of_both M s t)
    both_bent s t = one_least (λ k. is_bent k && member k (faces_of_both M s t)) (lesser (first_bent (faces_of M s)) (first_bent (faces_of M t))) (first_bent (faces_of_both M s t))
        (least_same (λ k. (is_bent k && member k (faces_of M s)) || (is_bent k && member k (faces_of M t))) (λ k. is_bent k && member k (faces_of_both M s t))
        (λ k. and_or (is_bent k) (member k (faces_of M s)) (member k (faces_of M t)) ∙ ap (λ b. is_bent k && b) (sym (member_both M s t k)))
        (lesser (first_bent (faces_of M s)) (first_bent (faces_of M t)))
        (least_either (λ k. is_bent k && member k (faces_of M s)) (λ k. is_bent k && member k (faces_of M t)) (first_bent (faces_of M s)) (first_bent (faces_of M t)) (least_of_solid s) (least_of_solid t)))
        (least_rising is_bent (faces_of_both M s t) (both_rise M s t))
