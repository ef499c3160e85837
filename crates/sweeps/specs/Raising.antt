-- What is asked of a loop that is to be swept, in terms of the half-edges that it holds; and the numbers taken after a lamina is drawn.
use Rattle.std.specs.Prelude.{ℕ, ◌+◌, List}
use Rattle.euler_operators.specs.Common.{Point, Model}
use Rattle.shapes.specs.Common.{Taken}
use Rattle.sweeps_laws.specs.prism.Ready.{Ready}

-- some loop of some face holds these half-edges, and is ready to be swept
pub record CanRise (M : Model) (c : Taken) (d : Point) (hs : List ℕ) : Type 0 where
  pub face : ℕ
  pub loop_number : ℕ
  pub ready : Ready M c face loop_number d hs

-- the numbers taken after a lamina of n corners is drawn
abbrev pub with_lamina : Taken → ℕ → Taken
with_lamina c n = record { face = c.face + 2; loop = c.loop + 2; edge = c.edge + n; vertex = c.vertex + n }
