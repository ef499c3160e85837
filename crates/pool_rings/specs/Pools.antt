-- The rings of a pool, as lists.
use Rattle.std.specs.Prelude.{ℕ, List, ◌++◌}
use Rattle.raw_ring.specs.Rings.{RingMap, next_of, or_zero, IsLive}
use Rattle.cyclic_list.specs.Items.{IsIn, IsApart}
use Rattle.cyclic_list.specs.Rings.{IsRing}

-- the successor of a code, or 0 if the code isn't live
abbrev pub leads : RingMap → ℕ → ℕ
leads m c = or_zero (next_of m c)

-- the codes of the list are live, and each leads to the one after it, the last to the first
pub record IsRingOf (m : RingMap) (cs : List ℕ) : Type 0 where
  pub live : (c : ℕ) → IsIn c cs → IsLive m c
  pub ring : IsRing (leads m) cs

-- the list is a ring without repeats in which the code stands
pub record StandsIn (m : RingMap) (c : ℕ) (xs : List ℕ) : Type 0 where
  pub apart : IsApart xs
  pub ring : IsRingOf m xs
  pub here : IsIn c xs

-- both codes stand in one ring
pub record ShareRing (m : RingMap) (a b : ℕ) : Type 0 where
  pub ring : List ℕ
  pub first : StandsIn m a ring
  pub second : StandsIn m b ring

-- each stands in a ring of its own, and these have no code in common
pub record HaveTwoRings (m : RingMap) (a b : ℕ) : Type 0 where
  pub left : List ℕ
  pub right : List ℕ
  pub first : StandsIn m a left
  pub second : StandsIn m b right
  pub apart : IsApart (left ++ right)
