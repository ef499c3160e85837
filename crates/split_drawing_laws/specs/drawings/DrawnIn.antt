-- What stays while edges are drawn in a face.
use Rattle.std.specs.Prelude.{◌≡◌, ◌≢◌, ◌⊎◌, ℕ, None}
use Rattle.euler_operators.specs.Table as table
use Rattle.euler_operators.specs.Common.{Model, tail, loop_of, Sound, Has, HasHalf, face_at}
use Rattle.shapes.specs.Common.{AreFree, AreLeft, Taken}

-- each half-edge stays and starts where it did, and vertices and faces stay
pub record Stays (M N : Model) : Type 0 where
  pub halves : (h : ℕ) → HasHalf M h → HasHalf N h
  pub tails : (h : ℕ) → HasHalf M h → tail N h ≡ tail M h
  pub vertices : N.vertices ≡ M.vertices
  pub faces : (g : ℕ) → Has M.faces g → Has N.faces g

-- N is M with edges drawn in face f: half-edges of other faces keep their loop and face; those of f now belong to f or to a new face
pub record DrawnIn (M N : Model) (f : ℕ) : Type 0 where
  pub sound : Sound N
  pub stays : Stays M N
  pub beside : (h : ℕ) → HasHalf M h → face_at M h ≢ f → (loop_of N h ≡ loop_of M h) × (face_at N h ≡ face_at M h)
  pub within : (h : ℕ) → HasHalf M h → face_at M h ≡ f → (face_at N h ≡ f) ⊎ (table.get M.faces (face_at N h) ≡ None)

-- N is M with loops of face f joined: edges are drawn in f, and each half-edge keeps its face
pub record JoinedIn (M N : Model) (f : ℕ) : Type 0 where
  pub drawn : DrawnIn M N f
  pub faces : (h : ℕ) → HasHalf M h → face_at N h ≡ face_at M h

-- all numbers above those taken are free. A drawing makes no vertices, so nothing is asked of their numbers: those above the greatest in
-- use are free
abbrev pub AreFreeForPairs : Model → Taken → Type 0
AreFreeForPairs M c = AreFree M (record c { vertex = table.greatest M.vertices })

-- a face, a loop and an edge are left for each of n pairs, whatever vertices are taken
abbrev pub AreLeftForPairs : Taken → ℕ → Type 0
AreLeftForPairs c n = AreLeft (record c { vertex = 0 }) (record { faces = n; loops = n; edges = n; vertices = 0 })
