-- A ring of three items or more, read backwards, is another ring.
use Rattle.cyclic_list.proofs.Prelude.{◌≡◌, ℕ, ◌≤◌, List, [], ◌∷◌, length, reverse, sym, ap, ◌∙◌, arith, refl, IsIn, IsApart, tick, IsRotation, successor, predecessor}
use Rattle.cyclic_list.proofs.Lists.{tick_same, tick_other}
use Rattle.cyclic_list.proofs.Rings.{successor_inner, successor_same, predecessor-successor}
use Rattle.cyclic_list.proofs.Maps.{successor-reverse}

-- the first of two items differs from the second
first_other : (a b : ℕ) (xs : List ℕ) → IsApart (a ∷ b ∷ xs) → (b ≡ a → ⊥)
first_other a b xs apart e = let twice = apart a in omega (arith, twice, tick_same a, ap (tick a) e)

-- the item after the second is the one before it, if the ring read backwards is the same: so the third is the first
pub no-turned : (xs : List ℕ) → 3 ≤ length xs → IsApart xs → IsRotation xs (reverse xs) → ⊥
no-turned [] l apart r = omega (arith, l)
no-turned (a ∷ []) l apart r = omega (arith, l)
no-turned (a ∷ b ∷ []) l apart r = omega (arith, l)
no-turned (a ∷ b ∷ c ∷ xs) l apart r =
    let ring : List ℕ = a ∷ b ∷ c ∷ xs in
    let first : IsIn a ring = omega (arith, tick_same a) in
    let second : IsIn b ring = omega (arith, tick_same b) in
    let other : tick b a ≡ 0 = tick_other b a (first_other a b (c ∷ xs) apart) in
    let to_second : successor ring a ≡ b = successor_inner a b [] (c ∷ xs) refl in
    let to_third : successor ring b ≡ c = successor_inner b c (a ∷ []) xs (omega (arith, other)) in
    let back : predecessor ring b ≡ a = ap (predecessor ring) (sym to_second) ∙ predecessor-successor a ring apart first in
    let same : c ≡ a = sym to_third ∙ successor_same b ring (reverse ring) r apart second ∙ successor-reverse b ring apart second ∙ back in
    let twice = apart a in
    omega (arith, twice, tick_same a, ap (tick a) same)
