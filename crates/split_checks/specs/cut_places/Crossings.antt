-- The edges that cross a plane, as a walk over faces meets them.
use Rattle.std.specs.Prelude.{◌≡◌, ℕ, Bool, true, not, ◌&&◌, List, [], ◌∷◌, ◌++◌, map, filter}
use Rattle.euler_operators.specs.Common.{Plane, cuts_lattice, plus, edge_of, is_first, Model, Has}
use Rattle.shapes.specs.Common.{boundary, start, finish, crosses}

-- a half-edge is the plus one of an edge that crosses the plane
abbrev pub leads_across : Model → Plane → ℕ → Bool
leads_across M p h = is_first h && crosses M p h

-- the edges that cross the plane, found by their plus half-edges: among some half-edges, and among the half-edges of some faces
abbrev pub crossings_in : Model → Plane → List ℕ → List ℕ
crossings_in M p hs = map edge_of (filter (leads_across M p) hs)

abbrev pub crossings_met : Model → Plane → List ℕ → List ℕ
crossings_met M p [] = []
crossings_met M p (f ∷ fs) = crossings_in M p (boundary M f) ++ crossings_met M p fs

-- an edge that is there crosses the plane
pub record IsCrossing (M : Model) (p : Plane) (e : ℕ) : Type 0 where
  pub there : Has M.edges e
  pub crossing : crosses M p (plus e) ≡ true

abbrev pub AreCrossing : Model → Plane → List ℕ → Type 0
AreCrossing M p [] = Unit {0}
AreCrossing M p (e ∷ es) = IsCrossing M p e × AreCrossing M p es

-- the edge's cut point is off the lattice
abbrev pub is_off : Model → Plane → ℕ → Bool
is_off M p e = not (cuts_lattice p (start M (plus e)) (finish M (plus e)))
