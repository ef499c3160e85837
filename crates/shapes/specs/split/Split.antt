-- A solid split by a plane: the part below and on the plane keeps the solid's number, and the part above is a new solid.
use Rattle.std.specs.Prelude.{ℕ, ◌+◌, ◌*◌, not, ◌&&◌, List, [], ◌∷◌, ◌++◌, map, filter, length, Option}
use Rattle.std.specs.List.{list_any}
use Rattle.euler_operators.specs.Common.{Plane, is_coordinate, origin, same_point, direction, cuts_lattice, is_offset, plus, Model, faces_of, Condition, need, never, first_refusal, numbers_in_range, part}
use Rattle.euler_operators.specs.Table as table
use Rattle.euler_operators.specs.declared.Refusal.{Refusal}
use Rattle.euler_operators.specs.declared.Why.TheVariants.{NoSolid, SolidTaken, PlaneRange, PlaneMisses, NotLattice, TouchedFace, CutOften, CutCrossed, BranchedVertex, SectionHoles}
use Rattle.shapes.specs.Faces.{start, finish}
use Rattle.shapes.specs.Fresh.{Taken, taken_in, numbers_left, no_such, first_such, found}
use Rattle.shapes.specs.Measure.{faces_are_flat}
use Rattle.shapes.specs.split.Sides.{reaches_above, reaches_below, straddling_faces, crossing_edges, faces_above}
use Rattle.shapes.specs.split.Places.{is_touched, is_cut_often, is_crossed, pair_count}
use Rattle.shapes.specs.split.Drawing.{Drawing, with_drawings}
use Rattle.shapes.specs.split.Section.{below_halves, section_ends, least_branched, section_cycles, has_stray_hole}
use Rattle.shapes.specs.split.Opening.{Caps, Opening, all_opened, holes_closed}

-- the solid is there, and the other number is free
abbrev pub number_conditions : Model → ℕ → ℕ → List Condition
number_conditions M s t = numbers_in_range (s ∷ t ∷ []) ++ need (table.has M.solids s) NoSolid s ∷ never (table.has M.solids t) SolidTaken t ∷ []

-- the coefficients of the plane are in range, and the first three aren't all zero
abbrev pub plane_in_range : Plane → List Condition
plane_in_range p =
    need (is_coordinate p.a) PlaneRange 1
    ∷ need (is_coordinate p.b) PlaneRange 2
    ∷ need (is_coordinate p.c) PlaneRange 3
    ∷ need (is_offset p.d) PlaneRange 4
    ∷ never (same_point (direction p) origin) PlaneRange 0 ∷ []

-- the conditions of a split that are tested before memory is asked for
unfoldable pub early_split_conditions : Model → ℕ → Plane → ℕ → List Condition
early_split_conditions M s p t = number_conditions M s t ++ plane_in_range p ++ faces_are_flat M (faces_of M s)

-- faces that straddle the plane can be cut
abbrev pub straddling_conditions : Model → Plane → List ℕ → List Condition
straddling_conditions M p fs =
    no_such (first_such (is_touched M p) fs) TouchedFace
    ∷ no_such (first_such (is_cut_often M p) fs) CutOften
    ∷ no_such (first_such (is_crossed M p) fs) CutCrossed ∷ []

-- what is asked of the edges that cross the plane, of the faces that straddle it, and of the numbers that cutting them takes
abbrev pub cut_conditions : Model → Plane → List ℕ → List ℕ → List Condition
cut_conditions M p es fs = let n = pair_count M p fs in
    no_such (first_such (λ e. not (cuts_lattice p (start M (plus e)) (finish M (plus e)))) es) NotLattice
    ∷ straddling_conditions M p fs ++ numbers_left (taken_in M) (record { faces = n; loops = n; edges = length es + n; vertices = length es })

-- the solid has vertices on both sides of the plane, and can be cut there
abbrev pub sectioning_conditions : Model → ℕ → Plane → List Condition
sectioning_conditions M s p =
    need (list_any (reaches_above M p) (faces_of M s) && list_any (reaches_below M p) (faces_of M s)) PlaneMisses s
    ∷ cut_conditions M p (crossing_edges M p s) (straddling_faces M p s)

-- the conditions that are tested before anything is changed
unfoldable pub first_conditions : Model → ℕ → Plane → ℕ → List Condition
first_conditions M s p t = early_split_conditions M s p t ++ sectioning_conditions M s p

-- what is asked of n section edges and their cycles. Fresh numbers come after c, the greatest numbers really taken by then
abbrev pub cycle_conditions : Model → ℕ → Plane → Taken → ℕ → List (List ℕ) → List Condition
cycle_conditions M s p c n cs =
    never (has_stray_hole M p cs) SectionHoles s
    ∷ numbers_left c (record { faces = n + length cs; loops = n + length cs; edges = 2 * n; vertices = n })

unfoldable pub section_conditions : Model → ℕ → Plane → Taken → List ℕ → List Condition
section_conditions M s p c bs =
    no_such (least_branched M (section_ends M bs)) BranchedVertex
    ∷ cycle_conditions M s p c (length bs) (section_cycles M bs)

-- the conditions that are tested once the faces are drawn
abbrev pub later_conditions : ℕ → Plane → Drawing → List Condition
later_conditions s p d = no_such (found d.stuck) CutCrossed ∷ section_conditions d.model s p d.taken (below_halves d.model (faces_above d.model p s) s)

unfoldable pub split_conditions : Model → ℕ → Plane → ℕ → List Condition
split_conditions M s p t = first_conditions M s p t ++ later_conditions s p (with_drawings M s p)

-- the refusal of the first false condition, if one is false
abbrev pub split_refusal : Model → ℕ → Plane → ℕ → Option Refusal
split_refusal M s p t = first_refusal (split_conditions M s p t)

-- the solid opened along the cycles of its section; `above` are its faces above
abbrev pub opened_at : Drawing → List ℕ → ℕ → Plane → Opening
opened_at d above s p = all_opened p above s (record { model = d.model; taken = d.taken; caps = [] }) (section_cycles d.model (below_halves d.model above s))

-- the upper faces that are left when the holes are closed: the faces above, and the upper caps of the outer cycles
abbrev pub upper_left : List ℕ → List Caps → List ℕ
upper_left above ks = above ++ map (λ k. k.upper) (filter (λ k. not k.hole) ks)

-- the solid is opened, the holes are closed, and then the upper faces that are left leave solid s and become solid t
abbrev pub split_drawn : Drawing → List ℕ → ℕ → Plane → ℕ → Model
split_drawn d above s p t = let o = opened_at d above s p in part (holes_closed o.model o.caps) s t (upper_left above o.caps)

-- the model that an accepted split makes
unfoldable pub split_model : Model → ℕ → Plane → ℕ → Model
split_model M s p t = let d = with_drawings M s p in split_drawn d (faces_above d.model p s) s p t
