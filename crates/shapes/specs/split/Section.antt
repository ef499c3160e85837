-- The edges of the section, between a face above and a face below, and their cycles.
use Rattle.std.specs.Prelude.{ℕ, ◌+◌, pos, int_lt, Bool, cond, not, ◌&&◌, nat_eq, nat_lt, List, [], ◌∷◌, ◌++◌, map, length, filter, flat_map, Option, unwrap_or}
use Rattle.euler_operators.specs.Common.{Plane, dot, direction, count, least, orbit, mate, plus, minus, Model, tail, face_at, lists}
use Rattle.euler_operators.specs.Table as table
use Rattle.shapes.specs.Faces.{edges_of}
use Rattle.shapes.specs.Fresh.{first_such, found}
use Rattle.shapes.specs.Measure.{area}

-- the half of a section edge in the face below; none if the edge is no section edge. `above` are the faces above
abbrev pub below_half : Model → List ℕ → ℕ → List ℕ
below_half M above e = let a = lists above (face_at M (plus e)) in let b = lists above (face_at M (minus e)) in
    cond a (cond b [] (minus e ∷ [])) (cond b (plus e ∷ []) [])

-- the below halves of a solid, by rising edge
unfoldable pub below_halves : Model → List ℕ → ℕ → List ℕ
below_halves M above s = flat_map (below_half M above) (edges_of M s)

-- the ends of the section edges, and the least vertex at which more than two of these edges meet, if there is one
abbrev pub section_ends : Model → List ℕ → List ℕ
section_ends M bs = map (tail M) bs ++ map (λ b. tail M (mate b)) bs

abbrev pub least_branched : Model → List ℕ → Option ℕ
least_branched M ends = found (table.first_where (λ v _. nat_lt 2 (count v ends)) M.vertices)

-- the below half that starts where b ends
abbrev pub next_below : Model → List ℕ → ℕ → ℕ
next_below M bs b = unwrap_or (first_such (λ c. nat_eq (tail M c) (tail M (mate b))) bs) 0

-- the cycle of below halves from b on
abbrev pub cycle_from : Model → List ℕ → ℕ → List ℕ
cycle_from M bs b = orbit (next_below M bs) b (length bs)

-- the cycles, each from its least edge on, in the order of their least edges
unfoldable pub section_cycles : Model → List ℕ → List (List ℕ)
section_cycles M bs = map (cycle_from M bs) (filter (λ b. nat_eq (least (cycle_from M bs b)) b) bs)

-- a cycle is a hole if the normal of its cap below points against the plane's direction, else it is outer
unfoldable pub is_hole : Model → Plane → List ℕ → Bool
is_hole M p bs = int_lt (dot (area M (map mate bs)) (direction p)) (pos 0)

abbrev pub holes_in : Model → Plane → List (List ℕ) → List (List ℕ)
holes_in M p cs = filter (is_hole M p) cs

-- there is a hole, and there isn't exactly one outer cycle
abbrev pub has_stray_hole : Model → Plane → List (List ℕ) → Bool
has_stray_hole M p cs = nat_lt 0 (length (holes_in M p cs)) && not (nat_eq (length cs) (length (holes_in M p cs) + 1))
