-- The operators that close holes, and the upper faces that are then left, for caps as the code has them.
use Rattle.std.specs.Prelude.{ℕ, not, List, map, filter}
use Rattle.euler_operators.specs.declared.Op.{Op}
use Rattle.shapes.specs.Common.{Caps}
use Rattle.split_laws.specs.SplitOps.{closing_ops}
use Rattle.plane_split.specs.solid_opening.Capped.{all_caps}
use Rattle.plane_split.specs.declared.solid_opening.caps.Caps as declared

-- the caps of the holes among some caps become rings of the caps o
abbrev pub holes_ops : Caps → List declared.Caps → List Op
holes_ops o ks = closing_ops o (filter (λ k. k.hole) (all_caps ks))

-- among some caps, the caps above of the outer cycles
abbrev pub outer_uppers : List declared.Caps → List ℕ
outer_uppers ks = map (λ k. k.upper) (filter (λ k. not k.hole) (all_caps ks))
