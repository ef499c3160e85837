-- The corner that a packed corner's name and number give.
use Rattle.std.specs.Prelude.{ℕ, true, false}
use Rattle.boundary_model.specs.declared.Corner.{Corner}
use Rattle.boundary_model.specs.declared.Corner.TheVariants as corner
use Rattle.boundary_model.specs.declared.packed.Named.{Named}
use Rattle.boundary_model.specs.declared.packed.Named.TheVariants.{Plus, Minus, Lone}

-- the corner at the tail of the first or the second half-edge of this edge, or that of this lone loop
abbrev pub named_corner : Named → ℕ → Corner
named_corner Plus e = corner.At (record { edge = e; first = true })
named_corner Minus e = corner.At (record { edge = e; first = false })
named_corner Lone l = corner.Lone l
