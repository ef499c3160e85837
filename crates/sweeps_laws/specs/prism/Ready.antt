-- A loop ready to be swept.
use Rattle.std.specs.Prelude.{◌≡◌, ℕ, ◌*◌, List, length, Some}
use Rattle.euler_operators.specs.Common.{Point, IsInRange, moved, IsIn, Model, cycle, Sound}
use Rattle.euler_operators.specs.Table as table
use Rattle.shapes.specs.Common.{AreFree, AreLeft, Needed, Taken, start}

-- a face, a loop, two edges and a vertex for each of n items
abbrev pub needed_for_sides : ℕ → Needed
needed_for_sides n = record { faces = n; loops = n; edges = 2 * n; vertices = n }

-- loop l of face f in a sound model holds the cycle hs; all numbers above those taken are free, and there are enough of them; the moved points are in range
pub record Ready (M : Model) (c : Taken) (f l : ℕ) (d : Point) (hs : List ℕ) : Type 0 where
  pub sound : Sound M
  pub at : table.get M.loops l ≡ Some (record { face = f; content = cycle hs })
  pub free : AreFree M c
  pub left : AreLeft c (needed_for_sides (length hs))
  pub points_fit : (h : ℕ) → IsIn h hs → IsInRange (moved (start M h) d)
