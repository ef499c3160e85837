-- The numbers that openings take.
use Rattle.std.specs.Prelude.{ℕ, ◌+◌, ◌*◌}
use Rattle.shapes.specs.Common.{Needed}

-- for cycles with n halves in all: a face and a loop for each half and for each cycle, and two edges and a vertex for each half
abbrev pub needed_for_openings : (n cycles : ℕ) → Needed
needed_for_openings n cycles = record { faces = n + cycles; loops = n + cycles; edges = 2 * n; vertices = n }
