-- A face that another solid takes over.
use Rattle.std.specs.Prelude.{◌≡◌, ℕ, true, List, ◌++◌}
use Rattle.euler_operators.specs.Common.{Point, IsIn, Model, solid_of, Has}
use Rattle.shapes.specs.Common.{loops_of, plane_of, is_flat}
use Rattle.command_laws.specs.RingedFaces.{loop_points}

-- qs is ps, read from another point on
pub record AreTurned (ps qs : List Point) : Type 0 where
  pub front : List Point
  pub back : List Point
  pub here : ps ≡ front ++ back
  pub there : qs ≡ back ++ front

-- face k of M is in N and belongs to solid s; it keeps its loops and its plane, and is flat; each loop has the same corner points, maybe from another
-- one on
pub record IsTakenOver (M N : Model) (k s : ℕ) : Type 0 where
  pub there : Has N.faces k
  pub solid : solid_of N k ≡ s
  pub loops : loops_of N k ≡ loops_of M k
  pub points : (l : ℕ) → IsIn l (loops_of M k) → AreTurned (loop_points M l) (loop_points N l)
  pub plane : plane_of N k ≡ plane_of M k
  pub flat : is_flat N k ≡ true
