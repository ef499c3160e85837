-- What an arena answers as a walk goes from a face of a solid to the next.
use Rattle.solid_walks.proofs.Prelude.{◌≡◌, ℕ, ◌<◌, Bool, true, ◌&&◌, ◌||◌, nat_eq, [], ◌∷◌, Option, Some, None, is_some, unwrap_or, refl, sym, ◌∙◌, get, has, Model, FaceRow, no_face, solid_of, faces_of, Sound, Has, IsIn, and_first, one_or_more, IsNextFace, is_face_of, listed-from_in, faces_of_both, loops_of, listed_face, face_of_loop}
use Rattle.solid_walks.proofs.face_walks_laws.Above.{above, member, AllAbove, Rising, all_above, next_above, none_above, all_above_members}
use Rattle.solid_walks.proofs.face_walks_laws.TableWalks.{passes, rising_passing, member_passing}

module _ (M : Model) where
  abbrev of_solid : ℕ → ℕ → FaceRow → Bool
  of_solid s f row = nat_eq row.solid s

  abbrev of_either : ℕ → ℕ → ℕ → FaceRow → Bool
  of_either s t f row = nat_eq row.solid s || nat_eq row.solid t

  face_passes : (s k : ℕ) (o : Option FaceRow) → passes (of_solid s) k o ≡ is_some o && nat_eq (unwrap_or o no_face).solid s
  face_passes s k None = refl
  face_passes s k (Some row) = refl

  pub member_faces : (s k : ℕ) → member k (faces_of M s) ≡ is_face_of M s k
  unfolding solid_of
  member_faces s k = member_passing (of_solid s) M.faces k ∙ face_passes s k (get M.faces k)

  pub member_both : (s t k : ℕ) → member k (faces_of_both M s t) ≡ member k (faces_of M s) || member k (faces_of M t)
  member_both s t k = member_passing (of_either s t) M.faces k ∙ either_passes (get M.faces k) ∙ sym (λ i. member_passing (of_solid s) M.faces k i || member_passing (of_solid t) M.faces k i) where
    either_passes : (o : Option FaceRow) → passes (of_either s t) k o ≡ passes (of_solid s) k o || passes (of_solid t) k o
    either_passes None = refl
    either_passes (Some row) = refl

  pub faces_rise : (s : ℕ) → Rising (faces_of M s)
  faces_rise s = rising_passing (of_solid s) M.faces

  pub both_rise : (s t : ℕ) → Rising (faces_of_both M s t)
  both_rise s t = rising_passing (of_either s t) M.faces

  pub next_face : (s n m : ℕ) → IsNextFace M s n (Some m) → above n (faces_of M s) ≡ m ∷ above m (faces_of M s)
  next_face s n m h = next_above n m (faces_of M s) (faces_rise s) h.0 (member_faces s m ∙ h.1) (λ k a b. member_faces s k ∙ h.2 k a b)

  pub no_face_left : (s n : ℕ) → IsNextFace M s n None → above n (faces_of M s) ≡ []
  no_face_left s n h = none_above n (faces_of M s) (λ k a. member_faces s k ∙ h k a)

  module _ (sound : Sound M) where
    pub face_positive : (k : ℕ) → has M.faces k ≡ true → 0 < k
    face_positive k there = one_or_more k (sound.faces_fit k there)

    pub faces_positive : (s : ℕ) → AllAbove 0 (faces_of M s)
    faces_positive s = all_above_members 0 (faces_of M s) (λ k m. face_positive k (and_first (has M.faces k) (nat_eq (solid_of M k) s) (sym (member_faces s k) ∙ m)))

    pub faces_from_zero : (s : ℕ) → above 0 (faces_of M s) ≡ faces_of M s
    faces_from_zero s = all_above 0 (faces_of M s) (faces_positive s)

    pub face_in : (s f : ℕ) → IsIn f (faces_of M s) → Has M.faces f
    face_in s f i = (listed_face M sound s f (listed-from_in f (faces_of M s) i)).0

    pub loop_in : (f l : ℕ) → Has M.faces f → IsIn l (loops_of M f) → Has M.loops l
    loop_in f l there i = (face_of_loop M sound f l there (listed-from_in l (loops_of M f) i)).0
