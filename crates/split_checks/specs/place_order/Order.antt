-- Cut places as entries of a map, each under its point.
use Rattle.std.specs.Prelude.{◌≡◌, ℕ, ℤ, Bool, true, not, ◌||◌, List, map}
use Rattle.std.specs.List.{list_all}
use Rattle.euler_operators.specs.Common.{Point, Plane, IsIn, HalfEdge, code, half, edge_of, Model, HasHalf, strictly_rises}
use Rattle.shapes.specs.Common.{crosses, is_place, place_point, some_meet, sorted, in_pairs, is_up_and_down}
use Rattle.split_checks.specs.declared.cuts.CutEdge.{CutEdge}
use Rattle.split_checks.specs.Cuts.{cut_at}

-- edges that cross the plane, rising, and each of them with the point at which it meets the plane
pub record AreCrossings (M : Model) (p : Plane) (edges : List ℕ) (cut : List CutEdge) : Type 0 where
  pub rising : strictly_rises edges ≡ true
  pub points : cut ≡ map (cut_at M p) edges

-- a cut place; if its half-edge crosses the plane, the edge is among es
pub record IsPlaceAlong (M : Model) (p : Plane) (es : List ℕ) (h : ℕ) : Type 0 where
  pub there : HasHalf M h
  pub place : is_place M p h ≡ true
  pub crossing : crosses M p h ≡ true → IsIn (edge_of h) es

abbrev pub ArePlacesAlong : Model → Plane → List ℕ → List ℕ → Type 0
ArePlacesAlong M p es hs = (h : ℕ) → IsIn h hs → IsPlaceAlong M p es h

-- two of some cut places have equal points; or, once the places are sorted, a pair of them isn't one up and one down
abbrev pub are_crossed : Model → Plane → List ℕ → Bool
are_crossed M p hs = some_meet M p hs || not (list_all (is_up_and_down M p) (in_pairs (sorted M p hs)))

-- a point as a key of a map
abbrev pub Key : Type 0
Key = ℤ × ℤ × ℤ

abbrev pub key : Point → Key
key q = (q.x, q.y, q.z)

-- places as entries of a map: each half-edge under the point of its place
abbrev pub entries_of : Model → Plane → List ℕ → List (Key × HalfEdge)
entries_of M p hs = map (λ h. (key (place_point M p h), half h)) hs

-- the places of entries
abbrev pub places_of : List (Key × HalfEdge) → List ℕ
places_of es = map (λ e. code e.1) es
