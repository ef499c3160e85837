-- The greatest numbers in use, as the code keeps them.
use Rattle.std.specs.Prelude.{◌≤◌}
use Rattle.shapes.specs.Common.{Taken}
use Rattle.solid_walks.specs.declared.numbers.Counters.{Counters}

abbrev pub taken_of : Counters → Taken
taken_of c = record { face = c.faces; loop = c.loops; edge = c.edges; vertex = c.vertices }

-- no counter passes the limit of numbers
pub record AreWithin (c : Counters) : Type 0 where
  pub faces : c.faces ≤ 1000000
  pub loops : c.loops ≤ 1000000
  pub edges : c.edges ≤ 1000000
  pub vertices : c.vertices ≤ 1000000
