-- The cycles of a section as they are found, and which of them are holes.
use Rattle.std.specs.Prelude.{◌≡◌, ℕ, ◌+◌, Bool, not, ◌&&◌, nat_eq, nat_lt, List, map, filter, length}
use Rattle.euler_operators.specs.Common.{Plane, Model}
use Rattle.shapes.specs.Common.{section_cycles, is_hole}
use Rattle.split_sections.specs.section_cycles.Halves.{halves_of}
use Rattle.split_sections.specs.declared.section_cycles.cycle.Cycle.{Cycle}

-- some cycle is a hole, and not exactly one cycle is outer
abbrev pub has_stray : List Cycle → Bool
has_stray cs = nat_lt 0 (length (filter (λ c. c.hole) cs)) && not (nat_eq (length cs) (length (filter (λ c. c.hole) cs) + 1))

-- cs are the cycles of these below halves, and say which of them are holes
pub record AreCyclesOf (M : Model) (p : Plane) (bs : List ℕ) (cs : List Cycle) : Type 0 where
  pub cycles : map halves_of cs ≡ section_cycles M bs
  pub holes : map (λ c. c.hole) cs ≡ map (is_hole M p) (map halves_of cs)
