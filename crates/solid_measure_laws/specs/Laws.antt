-- The laws of normals and volumes.
use Rattle.std.specs.Prelude.{◌≡◌, ℕ, ◌+◌, ◌<◌, pos, ◌+ℤ◌, neg_ℤ, unsigned_abs, true, List, map, reverse, Some}
use Rattle.std.specs.List.{list_all}
use Rattle.euler_operators.specs.Common.{Point, Plane, origin, moved, dot, cross, height, is_on, are_opposite, cuts_lattice, cut_between, cut_point, SameItems, mate, Model, point_of, faces_of, Sound, Has, lists}
use Rattle.shapes.specs.Common.{boundary, corners, area, normal, anchor, is_plane_of, is_flat, six_volume, negated, scaled, towards}
use Rattle.solid_measure_laws.specs.Models.{turned, shifted, normals_in}

-- if all corners of a face lie on a plane, any two points of that plane have the same product along the face's normal
abbrev pub FlatFaces : Type 0
FlatFaces = (M : Model) (f : ℕ) (s : Plane) (r q : Point) → Sound M → is_plane_of M s (corners M f) ≡ true → is_on s r ≡ true → is_on s q ≡ true → dot r (normal M f) ≡ dot q (normal M f)

-- so what the face adds to the six volumes may be computed from any of these points
abbrev pub ToldAnywhere : Type 0
ToldAnywhere = (M : Model) (f : ℕ) (s : Plane) (r : Point) → Sound M → Has M.faces f → is_plane_of M s (corners M f) ≡ true → is_on s r ≡ true → dot r (normal M f) ≡ dot (anchor M f) (normal M f)

-- what a flat face adds may be computed from any of its corners
abbrev pub ToldFromCorners : Type 0
ToldFromCorners = (M : Model) (f v : ℕ) → is_flat M f ≡ true → lists (corners M f) v ≡ true → dot (point_of M v) (normal M f) ≡ dot (anchor M f) (normal M f)

-- half-edges run the other way have the opposite area
abbrev pub TurnedPaths : Type 0
TurnedPaths = (M : Model) (hs : List ℕ) → area M (reverse (map mate hs)) ≡ negated (area M hs)

-- a face that is bounded by the other halves of a face's edges has the opposite normal
abbrev pub OpposedFaces : Type 0
OpposedFaces = (M : Model) (f g : ℕ) → SameItems (boundary M g) (map mate (boundary M f)) → normal M g ≡ negated (normal M f)

-- if all loops are run the other way, each face has the opposite normal
abbrev pub TurnedFaces : Type 0
TurnedFaces = (M : Model) (f : ℕ) → normal (turned M) f ≡ negated (normal M f)

-- a solid with flat faces is then turned inside out, and has the opposite six volumes
abbrev pub InvertedSolids : Type 0
InvertedSolids = (M : Model) (s : ℕ) → Sound M → list_all (is_flat M) (faces_of M s) ≡ true → six_volume (turned M) s ≡ neg_ℤ (six_volume M s)

-- a face keeps its normal when the model is moved
abbrev pub ShiftedFaces : Type 0
ShiftedFaces = (M : Model) (d : Point) (f : ℕ) → Sound M → normal (shifted M d) f ≡ normal M f

-- the six volumes of a solid grow by the sum of its faces' normals along the way
abbrev pub ShiftedSolids : Type 0
ShiftedSolids = (M : Model) (d : Point) (s : ℕ) → Sound M → six_volume (shifted M d) s ≡ six_volume M s +ℤ dot d (normals_in M (faces_of M s))

-- the normals of a solid's faces sum to nothing
abbrev pub ClosedSolids : Type 0
ClosedSolids = (M : Model) (s : ℕ) → Sound M → normals_in M (faces_of M s) ≡ origin

-- so a solid that is moved keeps its six volumes
abbrev pub MovedSolids : Type 0
MovedSolids = (M : Model) (d : Point) (s : ℕ) → Sound M → six_volume (shifted M d) s ≡ six_volume M s

-- c lies inside the segment from p to q, and divides it in the ratio of m to n
abbrev pub Divides : ℕ → ℕ → Point → Point → Point → Type 0
Divides m n p q c = (0 < m) × (0 < n) × (scaled (pos (m + n)) (towards p c) ≡ scaled (pos m) (towards p q))

-- if the ends of a segment lie strictly on opposite sides of a plane, and the cut point is on the lattice, the cut point lies on the plane
abbrev pub CutsOnPlane : Type 0
CutsOnPlane = (s : Plane) (p q : Point) → are_opposite s p q ≡ true → cuts_lattice s p q ≡ true → is_on s (cut_between s p q) ≡ true

-- it lies inside the segment, and divides it in the ratio of the heights of the ends
abbrev pub CutsInside : Type 0
CutsInside = (s : Plane) (p q : Point) → are_opposite s p q ≡ true → cuts_lattice s p q ≡ true → Divides (unsigned_abs (height s p)) (unsigned_abs (height s q)) p q (cut_between s p q)

-- no lattice point is missed: one on the plane that lies inside the segment is the cut point
abbrev pub CutsMissNone : Type 0
CutsMissNone = (s : Plane) (m n : ℕ) (p q r : Point) → are_opposite s p q ≡ true → is_on s r ≡ true → Divides m n p q r → cut_point s p q ≡ Some r

-- the cut point lies on each plane on which both ends lie
abbrev pub CutsOnEachPlane : Type 0
CutsOnEachPlane = (s t : Plane) (p q : Point) → are_opposite s p q ≡ true → cuts_lattice s p q ≡ true → is_on t p ≡ true → is_on t q ≡ true → is_on t (cut_between s p q) ≡ true

-- a half-edge that is cut there keeps its part of an area
abbrev pub CutsKeepAreas : Type 0
CutsKeepAreas = (s : Plane) (p q : Point) → are_opposite s p q ≡ true → cuts_lattice s p q ≡ true → let c = cut_between s p q in moved (cross p c) (cross c q) ≡ cross p q

-- the cut point is the same from either end
abbrev pub CutsEitherWay : Type 0
CutsEitherWay = (s : Plane) (p q : Point) → (cuts_lattice s q p ≡ cuts_lattice s p q) × (cut_between s q p ≡ cut_between s p q)
