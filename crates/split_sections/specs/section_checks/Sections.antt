-- The section of a solid, as the code has it.
use Rattle.std.specs.Prelude.{◌≡◌, ℕ, Bool, List, map}
use Rattle.euler_operators.specs.Common.{Plane, Model}
use Rattle.shapes.specs.Common.{below_halves, section_cycles, is_hole, faces_above}
use Rattle.split_sections.specs.section_cycles.Halves.{halves_of}
use Rattle.split_sections.specs.declared.section_checks.section.Section.{Section}

-- the halves of each cycle
abbrev pub cycles_of : Section → List (List ℕ)
cycles_of q = map halves_of q.cycles.items

-- whether each cycle is a hole
abbrev pub hole_flags : Section → List Bool
hole_flags q = map (λ c. c.hole) q.cycles.items

-- q is the section of solid s by the plane: its faces above, its cycles, and which of these are holes
pub record IsSection (M : Model) (s : ℕ) (p : Plane) (q : Section) : Type 0 where
  pub above : q.above.items ≡ faces_above M p s
  pub cycles : cycles_of q ≡ section_cycles M (below_halves M (faces_above M p s) s)
  pub holes : hole_flags q ≡ map (is_hole M p) (cycles_of q)
