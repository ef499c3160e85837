-- A test of the half-edges of a loop, walked from one of them on.
use Rattle.split_checks.proofs.Prelude.{◌≡◌, ◌≢◌, ℕ, Bool, true, false, ◌||◌, ◌∷◌, sym, ap, ◌∙◌, list_any, list_any-IsPermutation, IsIn, rotate_to, Model, cycle_of, loop_of, Sound, HasHalf, rotate_to-rotates, IsRotation-permutation, or_false, to_come, cycle_apart, item_in, start_is, goes_on, comes_back}
use Rattle.euler_operators.specs.Model as model
use Rattle.split_checks.proofs.cut_places_laws.Met.{or_joined}

module _ (M : Model) (sound : Sound M) (h : ℕ) (there : HasHalf M h) (p : ℕ → Bool) where
  -- whether one of those passes that are to be tested from x on
  abbrev pub left : ℕ → Bool
  left x = list_any p (x ∷ to_come h (cycle_of M h) x)

  pub walk_begins : left h ≡ list_any p (cycle_of M h)
  walk_begins =
      let hs = cycle_of M h in
      ap (list_any p) (sym (start_is h hs (cycle_apart M sound h there) (item_in M sound h there)))
      ∙ sym (list_any-IsPermutation p hs (rotate_to h hs) (IsRotation-permutation hs (rotate_to h hs) (rotate_to-rotates h hs)))

  pub walk_finds : (x : ℕ) → p x ≡ true → left x ≡ true
  walk_finds x e = ap (λ b. b || list_any p (to_come h (cycle_of M h) x)) e

  passed : (x : ℕ) → p x ≡ false → left x ≡ list_any p (to_come h (cycle_of M h) x)
  passed x e = ap (λ b. b || list_any p (to_come h (cycle_of M h) x)) e

  -- the next item is the first again, or another one
  pub walk_ended : (x r : ℕ) → IsIn x (cycle_of M h) → (loop_of M x ≢ 0 → r ≡ model.after M x) → r ≡ h → p x ≡ false → left x ≡ false
  walk_ended x r i n e off = passed x off ∙ ap (list_any p) (comes_back M sound h there x r i n e).0

  pub walk_left : (x r : ℕ) → IsIn x (cycle_of M h) → (loop_of M x ≢ 0 → r ≡ model.after M x) → r ≢ h → p x ≡ false → left r ≡ left x
  walk_left x r i n other off = sym (passed x off ∙ ap (list_any p) (goes_on M sound h there x r i n other).1)

  -- so where one that passes doesn't end the walk, with one had before or not
  pub walk_told : (had : Bool) (x r : ℕ) → IsIn x (cycle_of M h) → (loop_of M x ≢ 0 → r ≡ model.after M x) → r ≡ h → had || p x ≡ had || left x
  walk_told had x r i n e = ap (λ b. had || b) (sym (or_false (p x)) ∙ ap (λ ks. p x || list_any p ks) (sym (comes_back M sound h there x r i n e).0))

  pub walk_adds : (had : Bool) (x r : ℕ) → IsIn x (cycle_of M h) → (loop_of M x ≢ 0 → r ≡ model.after M x) → r ≢ h → (had || p x) || left r ≡ had || left x
  walk_adds had x r i n other = or_joined had (p x) (left r) ∙ ap (λ ks. had || (p x || list_any p ks)) (sym (goes_on M sound h there x r i n other).1)
