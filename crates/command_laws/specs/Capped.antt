-- The caps of a split: two faces for each cycle of its section. One closes the part below, the other the part above.
use Rattle.std.specs.Prelude.{◌≡◌, ℕ, true, List, [], ◌∷◌, map, get_or}
use Rattle.euler_operators.specs.Common.{Plane, Point, mate, origin, moved, cross, direction, is_on, Model, point_of, solid_of, Has, lists}
use Rattle.shapes.specs.Common.{corners, area, normal, faces_above, with_drawings, below_halves, section_cycles, Caps, no_caps, opened_at}

-- the cycles of the section of solid s, once its faces are drawn
abbrev pub cycles_of : Model → ℕ → Plane → List (List ℕ)
cycles_of M s p = let D = (with_drawings M s p).model in section_cycles D (below_halves D (faces_above D p s) s)

-- the caps in the order of the cycles, and the caps of cycle i
abbrev pub caps_of : Model → ℕ → Plane → List Caps
caps_of M s p = let d = with_drawings M s p in (opened_at d (faces_above d.model p s) s p).caps

abbrev pub cap : Model → ℕ → Plane → ℕ → Caps
cap M s p i = get_or (caps_of M s p) i no_caps

-- face f is there and belongs to solid s, all its corners lie on the plane, and its normal is parallel to the plane's direction
pub record IsCapOf (M : Model) (p : Plane) (s f : ℕ) : Type 0 where
  pub there : Has M.faces f
  pub solid : solid_of M f ≡ s
  pub on_plane : (v : ℕ) → lists (corners M f) v ≡ true → is_on p (point_of M v) ≡ true
  pub across : cross (direction p) (normal M f) ≡ origin

-- the area round a cycle, in the sense in which its cap below goes round it; and the sum of some vectors
abbrev pub area_below : Model → List ℕ → Point
area_below M bs = area M (map mate bs)

abbrev pub sum_of : List Point → Point
sum_of [] = origin
sum_of (v ∷ vs) = moved v (sum_of vs)
