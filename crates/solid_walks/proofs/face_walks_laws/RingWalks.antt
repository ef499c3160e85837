-- What an arena answers as a walk goes from a ring of a face to the next.
use Rattle.solid_walks.proofs.Prelude.{◌≡◌, ℕ, Bool, true, false, not, ◌&&◌, nat_eq, [], ◌∷◌, Option, Some, None, is_some, unwrap_or, refl, sym, ◌∙◌, get, has, Model, LoopRow, no_loop, face_of, outer, rings_of, is_ring_of, Sound, one_or_more, IsNextRing}
use Rattle.solid_walks.proofs.face_walks_laws.Above.{above, member, all_above, next_above, none_above, all_above_members}
use Rattle.solid_walks.proofs.face_walks_laws.TableWalks.{passes, rising_passing, member_passing}

-- the rings of a face
module _ (M : Model) (f : ℕ) where
  abbrev is_ring : ℕ → LoopRow → Bool
  is_ring l row = nat_eq row.face f && not (nat_eq (outer M f) l)

  pub member_rings : (l : ℕ) → member l (rings_of M f) ≡ is_ring_of M f l
  unfolding face_of
  member_rings l = member_passing is_ring M.loops l ∙ ring_passes (get M.loops l) where
    ring_passes : (o : Option LoopRow) → passes is_ring l o ≡ is_some o && nat_eq (unwrap_or o no_loop).face f && not (nat_eq (outer M f) l)
    ring_passes None = refl
    ring_passes (Some row) = refl

  pub next_ring : (n m : ℕ) → IsNextRing M f n (Some m) → above n (rings_of M f) ≡ m ∷ above m (rings_of M f)
  next_ring n m h = next_above n m (rings_of M f) (rising_passing is_ring M.loops) h.0 (member_rings m ∙ h.1) (λ k a b. member_rings k ∙ h.2 k a b)

  pub no_ring : (n : ℕ) → IsNextRing M f n None → above n (rings_of M f) ≡ []
  no_ring n h = none_above n (rings_of M f) (λ k a. member_rings k ∙ h k a)

  ring_there : (a b c : Bool) → a && b && c ≡ true → a ≡ true
  ring_there true b c e = refl
  ring_there false b c e = e

  pub rings_from_zero : Sound M → above 0 (rings_of M f) ≡ rings_of M f
  rings_from_zero sound = all_above 0 (rings_of M f) (all_above_members 0 (rings_of M f) (λ k there. one_or_more k (sound.loops_fit k (ring_there (has M.loops k) (nat_eq (face_of M k) f) (not (nat_eq (outer M f) k)) (sym (member_rings k) ∙ there)))))
