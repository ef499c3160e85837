-- A face, with or without rings, after it was swept.
use Rattle.std.specs.Prelude.{◌≡◌, ℕ, List, map}
use Rattle.euler_operators.specs.Common.{Point, moved, IsIn, Model, content, point_of, solid_of, Sound, Has}
use Rattle.shapes.specs.Common.{loops_of, vertices_on, normal, anchor, plane_through, plane_of}
use Rattle.undo_journal.specs.Machine.{Machine, held}
use Rattle.command_laws.specs.Commands.{IsSweep}
use Rattle.command_laws.specs.NewFaces.{all_moved, corner_points}

-- the points of a loop's corners, in their order
abbrev pub loop_points : Model → ℕ → List Point
loop_points M l = map (point_of M) (vertices_on M (content M l))

-- face f of M keeps its number, its solid and its loops in N, the outer loop and the rings; the corners of each loop, and so all corners, have moved
-- by d; its plane has the same normal, and goes through the anchor that has moved
pub record IsFarFace (M N : Model) (f : ℕ) (d : Point) : Type 0 where
  pub there : Has N.faces f
  pub solid : solid_of N f ≡ solid_of M f
  pub loops : loops_of N f ≡ loops_of M f
  pub each_loop : (l : ℕ) → IsIn l (loops_of M f) → loop_points N l ≡ all_moved d (loop_points M l)
  pub points : corner_points N f ≡ all_moved d (corner_points M f)
  pub plane : plane_of N f ≡ plane_through (normal M f) (moved (anchor M f) d)

-- a face that was swept is the far face of the prism
abbrev pub RingedFaceIsFar : Type 0
RingedFaceIsFar = (before after : Machine) (f : ℕ) (d : Point) → Sound (held before) → IsSweep before after f d → IsFarFace (held before) (held after) f d
