-- The laws of a section's cycles, over every sound model and all lists of faces of a solid.
use Rattle.std.specs.Prelude.{◌≡◌, ℕ, true, List, map, flat_map, length}
use Rattle.euler_operators.specs.Common.{count, IsIn, IsApart, SameItems, head_or, least, mate, Model, tail, Sound, strictly_rises}
use Rattle.shapes.specs.Common.{below_halves, section_ends, next_below, section_cycles}
use Rattle.split_opening_laws.specs.cycles.Permuting.{Permutes}
use Rattle.split_opening_laws.specs.cycles.SectionCycles.{AreOf, IsBelowHalf, IsUnbranched, AreSectionCycles, AreApartCycles}

-- the below halves rise, so none of them stands twice
abbrev pub BelowHalvesRise : Type 0
BelowHalvesRise = (M : Model) (above : List ℕ) (s : ℕ) → Sound M → (strictly_rises (below_halves M above s) ≡ true) × IsApart (below_halves M above s)

-- they are the halves of the solid's edges that lie in a face that isn't above and whose mate lies in one that is
abbrev pub BelowHalvesAre : Type 0
BelowHalvesAre = (M : Model) (above : List ℕ) (s : ℕ) → Sound M → (b : ℕ) →
    (IsIn b (below_halves M above s) → IsBelowHalf M above s b) × (IsBelowHalf M above s b → IsIn b (below_halves M above s))

-- as many below halves start at a vertex as end there
abbrev pub AsManyStartAsEnd : Type 0
AsManyStartAsEnd = (M : Model) (above : List ℕ) (s : ℕ) → Sound M → AreOf M above s → (v : ℕ) →
    count v (map (tail M) (below_halves M above s)) ≡ count v (map (λ b. tail M (mate b)) (below_halves M above s))

-- if no vertex is branched, one below half starts and one ends at each end of a section edge
abbrev pub OneStartsAndOneEnds : Type 0
OneStartsAndOneEnds = (M : Model) (above : List ℕ) (s : ℕ) → Sound M → AreOf M above s → IsUnbranched M (below_halves M above s) →
    (v : ℕ) → IsIn v (section_ends M (below_halves M above s)) →
    (count v (map (tail M) (below_halves M above s)) ≡ 1) × (count v (map (λ b. tail M (mate b)) (below_halves M above s)) ≡ 1)

-- so each leads to one that starts where it ends, and no two lead to the same
abbrev pub NextBelowPermutes : Type 0
NextBelowPermutes = (M : Model) (above : List ℕ) (s : ℕ) → Sound M → AreOf M above s → IsUnbranched M (below_halves M above s) →
    Permutes (next_below M (below_halves M above s)) (below_halves M above s)
    × ((b : ℕ) → IsIn b (below_halves M above s) → tail M (next_below M (below_halves M above s) b) ≡ tail M (mate b))

-- the cycles together have each below half once
abbrev pub CyclesCover : Type 0
CyclesCover = (M : Model) (above : List ℕ) (s : ℕ) → Sound M → AreOf M above s → IsUnbranched M (below_halves M above s) →
    SameItems (flat_map (λ bs. bs) (section_cycles M (below_halves M above s))) (below_halves M above s)
    × (length (flat_map (λ bs. bs) (section_cycles M (below_halves M above s))) ≡ length (below_halves M above s))

-- each cycle begins with its least half, and the cycles rise by these
abbrev pub CyclesRise : Type 0
CyclesRise = (M : Model) (above : List ℕ) (s : ℕ) → Sound M → AreOf M above s → IsUnbranched M (below_halves M above s) →
    (map (head_or 0) (section_cycles M (below_halves M above s)) ≡ map least (section_cycles M (below_halves M above s)))
    × (strictly_rises (map least (section_cycles M (below_halves M above s))) ≡ true)

-- each cycle leads once round, and no other section edge meets it
abbrev pub CyclesLeadRound : Type 0
CyclesLeadRound = (M : Model) (above : List ℕ) (s : ℕ) → Sound M → AreOf M above s → IsUnbranched M (below_halves M above s) →
    AreSectionCycles M above s (section_cycles M (below_halves M above s))

-- no two halves of the cycles start at one vertex
abbrev pub CyclesAreApart : Type 0
CyclesAreApart = (M : Model) (above : List ℕ) (s : ℕ) → Sound M → AreOf M above s → IsUnbranched M (below_halves M above s) →
    AreApartCycles M above s (section_cycles M (below_halves M above s))
