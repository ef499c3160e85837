-- A copy of a pool while it is made: first the codes with their tails and labels, then the successors, one by one.
use Rattle.std.specs.Prelude.{◌≡◌, ℕ, Option, Some, None}
use Rattle.std.specs.FinMap.{get}
use Rattle.raw_ring.specs.Rings.{Spot, RingMap, next_of}

-- what stands at a code, without the successor
abbrev pub but_next : Option (Option Spot) → Option (Option (ℕ × ℕ))
but_next None = None
but_next (Some None) = Some None
but_next (Some (Some s)) = Some (Some (s.tail, s.label))

-- the same map without the successors
abbrev pub IsAlike : RingMap → RingMap → Type 0
IsAlike m n = (c : ℕ) → but_next (get n c) ≡ but_next (get m c)

-- in new, code c is as in m, except for the successor, and all else is as in old
pub record IsCopied (m old new : RingMap) (c : ℕ) : Type 0 where
  pub here : but_next (get new c) ≡ but_next (get m c)
  pub others : (d : ℕ) → (d ≡ c → ⊥) → get new d ≡ get old d

-- a now leads to b; every other code leads where it led, except the one that led to b
pub record IsLed (old new : RingMap) (a b : ℕ) : Type 0 where
  pub next : next_of new a ≡ Some b
  pub others : (c : ℕ) → (c ≡ a → ⊥) → (next_of old c ≡ Some b → ⊥) → next_of new c ≡ next_of old c
  pub alike : IsAlike old new
