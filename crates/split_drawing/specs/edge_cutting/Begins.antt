-- When a plane can begin to split a solid, and how an edge is cut.
use Rattle.std.specs.Prelude.{ℕ, ◌+◌}
use Rattle.euler_operators.specs.Common.{Plane, At, half, plus, minus, Model, after}
use Rattle.euler_operators.specs.declared.Op.{Op}
use Rattle.euler_operators.specs.declared.Op.TheVariants.{Mev}
use Rattle.shapes.specs.Common.{taken_in}
use Rattle.split_drawing_laws.specs.crossings.Laws.{CanBegin}
use Rattle.split_checks.specs.declared.cuts.CutEdge.{CutEdge}

-- the conditions that are tested before anything is changed hold, with some number for the upper part
abbrev pub CanBeCut : Model → ℕ → Plane → Type 0
CanBeCut M s p = (t : ℕ) × CanBegin M s p t

-- the operator that cuts an edge at a point, with the next numbers
abbrev pub cut_op : Model → CutEdge → Op
cut_op M c = Mev (At (half (plus c.edge))) (At (half (after M (minus c.edge)))) (half (plus ((taken_in M).edge + 1))) ((taken_in M).vertex + 1) c.point
