-- What stays unchanged of the faces that a command leaves alone, which are told by their numbers in the model before.
use Rattle.std.specs.Prelude.{◌≡◌, ◌≢◌, ℕ}
use Rattle.euler_operators.specs.Common.{IsIn, edge_of, Model, content, face_of, solid_of, outer, rings_of, Has, HasHalf, face_at}
use Rattle.euler_operators.specs.Table as table
use Rattle.shapes.specs.Common.{vertices_on, plane_of}
use Rattle.command_laws.specs.NewFaces.{corner_points}

-- each of these faces that is there keeps its solid and its outer loop
abbrev pub KeepsRows : (ℕ → Type 0) → Model → Model → Type 0
KeepsRows Alone M N = (k : ℕ) → Has M.faces k → Alone k → table.get N.faces k ≡ table.get M.faces k

-- so it keeps its solid
abbrev pub KeepsOwners : (ℕ → Type 0) → Model → Model → Type 0
KeepsOwners Alone M N = (k : ℕ) → Has M.faces k → Alone k → solid_of N k ≡ solid_of M k

-- each loop of these faces keeps its face and its content
abbrev pub KeepsLoops : (ℕ → Type 0) → Model → Model → Type 0
KeepsLoops Alone M N = (l : ℕ) → Has M.loops l → Alone (face_of M l) → table.get N.loops l ≡ table.get M.loops l

-- each edge on these faces, named by its half-edge there, keeps its ends
abbrev pub KeepsEdges : (ℕ → Type 0) → Model → Model → Type 0
KeepsEdges Alone M N = (h : ℕ) → HasHalf M h → Alone (face_at M h) → table.get N.edges (edge_of h) ≡ table.get M.edges (edge_of h)

-- each vertex on the loops of these faces keeps its point
abbrev pub KeepsPoints : (ℕ → Type 0) → Model → Model → Type 0
KeepsPoints Alone M N = (l v : ℕ) → IsIn v (vertices_on M (content M l)) → Alone (face_of M l) → table.get N.vertices v ≡ table.get M.vertices v

-- face k stands as it did: it keeps its solid, its outer loop, its rings, its corner points and its plane
pub record StandsAsBefore (M N : Model) (k : ℕ) : Type 0 where
  pub there : Has N.faces k
  pub solid : solid_of N k ≡ solid_of M k
  pub outer : outer N k ≡ outer M k
  pub rings : rings_of N k ≡ rings_of M k
  pub points : corner_points N k ≡ corner_points M k
  pub plane : plane_of N k ≡ plane_of M k

-- each of these faces that is there stands as it did
abbrev pub KeepsShapes : (ℕ → Type 0) → Model → Model → Type 0
KeepsShapes Alone M N = (k : ℕ) → Has M.faces k → Alone k → StandsAsBefore M N k

-- ---- faces left alone

-- each face
abbrev pub Each : ℕ → Type 0
Each k = Unit {0}

-- each face but f
abbrev pub AllBut : ℕ → ℕ → Type 0
AllBut f k = k ≢ f

-- each face of a solid other than s
abbrev pub OfOthers : Model → ℕ → ℕ → Type 0
OfOthers M s k = solid_of M k ≢ s
