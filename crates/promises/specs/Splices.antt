-- What becomes of the rings in which two items stand when a splice exchanges what follows these items.
use Rattle.std.specs.Prelude.{◌≡◌, ◌≢◌, ℕ, List, ◌++◌}
use Rattle.script_running.specs.laws_below.{IsApart, IsIn, IsRing, count, cut_left, cut_right, joined, splice}

-- the one ring in which both stand is cut in two
abbrev pub SplicesCut : Type 0
SplicesCut = (a b : ℕ) (xs : List ℕ) → IsApart xs → IsIn a xs → IsIn b xs → a ≢ b → (next : ℕ → ℕ) → IsRing next xs →
    IsRing (splice next a b) (cut_left a b xs) × IsRing (splice next a b) (cut_right a b xs)

-- two rings, each with one of the items, are joined
abbrev pub SplicesJoin : Type 0
SplicesJoin = (a b : ℕ) (xs ys : List ℕ) → IsApart (xs ++ ys) → IsIn a xs → IsIn b ys → (next : ℕ → ℕ) → IsRing next xs → IsRing next ys →
    IsRing (splice next a b) (joined a b xs ys)

-- a ring in which neither stands stays
abbrev pub SplicesKeepOthers : Type 0
SplicesKeepOthers = (next : ℕ → ℕ) (a b : ℕ) (xs : List ℕ) → count a xs ≡ 0 → count b xs ≡ 0 → IsRing next xs → IsRing (splice next a b) xs
