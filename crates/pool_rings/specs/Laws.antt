-- The rings of a pool, and what a splice makes of them.
use Rattle.std.specs.Prelude.{◌≡◌, ◌≢◌, ℕ, ◌⊎◌, Some, List, ◌++◌}
use Rattle.raw_ring.specs.Rings.{RingMap, next_of, Exchanged, IsLive, IsPermutation}
use Rattle.cyclic_list.specs.Items.{count, IsIn, IsApart}
use Rattle.cyclic_list.specs.Rings.{IsRotation, cut_left, cut_right, joined}
use Rattle.pool_rings.specs.Pools.{IsRingOf, StandsIn, ShareRing, HaveTwoRings}

-- each live code stands in a ring
abbrev pub EachCodeHasItsRing : Type 0
EachCodeHasItsRing = (m : RingMap) (c : ℕ) → IsPermutation m → IsLive m c → (xs : List ℕ) × StandsIn m c xs

-- it stands in only one: two rings that share a code are one ring, read from two codes on
abbrev pub RingsAreRotations : Type 0
RingsAreRotations = (m : RingMap) (c : ℕ) (xs ys : List ℕ) → StandsIn m c xs → StandsIn m c ys → IsRotation xs ys

-- so two live codes either share a ring, which a splice cuts, or have two rings, which it joins
abbrev pub CodesShareOrHaveTwo : Type 0
CodesShareOrHaveTwo = (m : RingMap) (a b : ℕ) → IsPermutation m → IsLive m a → IsLive m b → ShareRing m a b ⊎ HaveTwoRings m a b

-- a ring that has both codes becomes two rings
abbrev pub SplicedPoolsCut : Type 0
SplicedPoolsCut = (m n : RingMap) (a b : ℕ) (xs : List ℕ) → Exchanged m n a b → IsApart xs → IsRingOf m xs → IsIn a xs → IsIn b xs → a ≢ b
    → IsRingOf n (cut_left a b xs) × IsRingOf n (cut_right a b xs)

-- two rings that have one of the codes each become one ring
abbrev pub SplicedPoolsJoin : Type 0
SplicedPoolsJoin = (m n : RingMap) (a b : ℕ) (xs ys : List ℕ) → Exchanged m n a b → IsApart (xs ++ ys) → IsRingOf m xs → IsRingOf m ys → IsIn a xs → IsIn b ys
    → IsRingOf n (joined a b xs ys)

-- a ring in which neither code stands stays
abbrev pub SplicedPoolsKeepOthers : Type 0
SplicedPoolsKeepOthers = (m n : RingMap) (a b : ℕ) (xs : List ℕ) → Exchanged m n a b → count a xs ≡ 0 → count b xs ≡ 0 → IsRingOf m xs → IsRingOf n xs

-- if the two are one code, each code leads where it led before
abbrev pub SplicedPoolsStay : Type 0
SplicedPoolsStay = (m n : RingMap) (a : ℕ) → Exchanged m n a a → (c : ℕ) → next_of n c ≡ next_of m c

-- only one code leads to another
abbrev pub PoolsLeadBack : Type 0
PoolsLeadBack = (m : RingMap) (p q c : ℕ) → IsPermutation m → next_of m p ≡ Some c → next_of m q ≡ Some c → p ≡ q
