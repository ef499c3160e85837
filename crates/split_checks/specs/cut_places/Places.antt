-- Cut places, and faces whose edges cross the plane.
use Rattle.std.specs.Prelude.{◌≡◌, ℕ, Bool, true, not, ◌&&◌, List, [], ◌∷◌}
use Rattle.std.specs.List.{list_any}
use Rattle.euler_operators.specs.Common.{Plane, is_on, IsIn, edge_of, Model, Has}
use Rattle.shapes.specs.Common.{boundary, start, crosses, is_place}

-- a half-edge starts on the plane at a corner that is no cut place; and whether one of some half-edges does
abbrev pub touches : Model → Plane → ℕ → Bool
touches M p h = is_on p (start M h) && not (is_place M p h)

abbrev pub some_touch : Model → Plane → List ℕ → Bool
some_touch M p hs = list_any (touches M p) hs

-- the edges es include each edge of face f that crosses the plane
abbrev pub IsFaceAlong : Model → Plane → List ℕ → ℕ → Type 0
IsFaceAlong M p es f = (h : ℕ) → IsIn h (boundary M f) → crosses M p h ≡ true → IsIn (edge_of h) es

-- the faces are there, and es includes each of their edges that crosses the plane
abbrev pub AreFacesAlong : Model → Plane → List ℕ → List ℕ → Type 0
AreFacesAlong M p es [] = Unit {0}
AreFacesAlong M p es (f ∷ fs) = Has M.faces f × IsFaceAlong M p es f × AreFacesAlong M p es fs
