-- What stays while edges are cut.
use Rattle.std.specs.Prelude.{◌≡◌, ℕ}
use Rattle.euler_operators.specs.Table as table
use Rattle.euler_operators.specs.Common.{Model, loop_of, face_of, Has, HasHalf}

-- solids and faces stay; each loop keeps its face, each half-edge its loop, and each vertex its point
pub record Kept (M N : Model) : Type 0 where
  pub solids : N.solids ≡ M.solids
  pub faces : N.faces ≡ M.faces
  pub loops : (l : ℕ) → table.has N.loops l ≡ table.has M.loops l
  pub face : (l : ℕ) → face_of N l ≡ face_of M l
  pub halves : (h : ℕ) → HasHalf M h → HasHalf N h
  pub loop : (h : ℕ) → HasHalf M h → loop_of N h ≡ loop_of M h
  pub points : (v : ℕ) → Has M.vertices v → table.get N.vertices v ≡ table.get M.vertices v
