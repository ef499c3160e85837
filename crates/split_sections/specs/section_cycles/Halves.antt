-- Lists of half-edges, as the code has them.
use Rattle.std.specs.Prelude.{◌≡◌, ℕ, true, List, map}
use Rattle.euler_operators.specs.Common.{IsIn, code, Model, has_half}
use Rattle.split_sections.specs.declared.section_cycles.cycle.Cycle.{Cycle}

-- the halves of a cycle
abbrev pub halves_of : Cycle → List ℕ
halves_of c = map code c.halves.items

-- each of these half-edges is there
abbrev pub AreThere : Model → List ℕ → Type 0
AreThere M hs = (h : ℕ) → IsIn h hs → has_half M h ≡ true
