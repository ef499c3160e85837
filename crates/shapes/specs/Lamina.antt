-- A flat ring of corners with a face on either side.
use Rattle.std.specs.Prelude.{ℕ, zero, suc, ◌+◌, ◌-◌, cond, nat_le, List, [], ◌∷◌, ◌++◌, map, reverse, length, get_or, Option, Some, None}
use Rattle.std.specs.List.{list_any}
use Rattle.euler_operators.specs.Common.{Point, is_in_range, same_point, canonical, plus, minus, Table, Model, cycle, EdgeRow, no_point, Condition, need, never, first_refusal, numbers_in_range}
use Rattle.euler_operators.specs.Table as table
use Rattle.shapes.specs.Fresh.{Taken, taken_in, numbers_left, numbers_after, no_such}
use Rattle.euler_operators.specs.declared.Refusal.{Refusal}
use Rattle.euler_operators.specs.declared.Why.TheVariants.{SolidTaken, FewPoints, PointRange, RepeatedPoint}

-- the place, counted from 1, of the first point out of range, if there is one; i points come before these
abbrev pub first_far : ℕ → List Point → Option ℕ
first_far i [] = None
first_far i (p ∷ ps) = cond (is_in_range p) (first_far (i + 1) ps) (Some (i + 1))

-- the place, counted from 1, of the first point equal to an earlier one, if there is one
abbrev pub first_repeated : List Point → ℕ → List Point → Option ℕ
first_repeated seen i [] = None
first_repeated seen i (p ∷ ps) = cond (list_any (same_point p) seen) (Some (i + 1)) (first_repeated (seen ++ p ∷ []) (i + 1) ps)

unfoldable pub lamina_conditions : Model → ℕ → List Point → List Condition
lamina_conditions M s ps =
    numbers_in_range (s ∷ []) ++
    never (table.has M.solids s) SolidTaken s
    ∷ need (nat_le 3 (length ps)) FewPoints (length ps)
    ∷ no_such (first_far 0 ps) PointRange
    ∷ no_such (first_repeated [] 0 ps) RepeatedPoint
    ∷ numbers_left (taken_in M) (record { faces = 2; loops = 2; edges = length ps; vertices = length ps })

-- the refusal of the first false condition, if one is false
abbrev pub lamina_refusal : Model → ℕ → List Point → Option Refusal
lamina_refusal M s ps = first_refusal (lamina_conditions M s ps)

-- the first i points stand at the vertices from v + 1 on
abbrev pub with_points : Table Point → ℕ → List Point → ℕ → Table Point
with_points t v ps zero = t
with_points t v ps (suc i) = table.put (with_points t v ps i) (v + suc i) (get_or ps i no_point)

-- the first i edges, from e + 1 on, lead along the vertices from v + 1 on
abbrev pub with_path : Table EdgeRow → ℕ → ℕ → ℕ → Table EdgeRow
with_path t e v zero = t
with_path t e v (suc i) = table.put (with_path t e v i) (e + suc i) (record { plus_tail = v + suc i; minus_tail = v + suc i + 1 })

-- n edges in a ring, the last one from the last vertex to the first
abbrev pub with_ring : Table EdgeRow → ℕ → ℕ → ℕ → Table EdgeRow
with_ring t e v n = table.put (with_path t e v (n - 1)) (e + n) (record { plus_tail = v + n; minus_tail = v + 1 })

-- a ring of new edges through the points, with a new face on either side
abbrev pub lamina_at : Model → Taken → ℕ → List Point → Model
lamina_at M c s ps = let n = length ps in let es = numbers_after c.edge n in record {
  solids = table.put M.solids s tt;
  faces = table.put (table.put M.faces (c.face + 1) (record { solid = s; outer = c.loop + 1 })) (c.face + 2) (record { solid = s; outer = c.loop + 2 });
  loops = table.put (table.put M.loops (c.loop + 1) (record { face = c.face + 1; content = cycle (map plus es) }))
      (c.loop + 2) (record { face = c.face + 2; content = cycle (canonical (reverse (map minus es))) });
  edges = with_ring M.edges c.edge c.vertex n;
  vertices = with_points M.vertices c.vertex ps n;
}

-- the model that an accepted lamina makes
unfoldable pub lamina_model : Model → ℕ → List Point → Model
lamina_model M s ps = lamina_at M (taken_in M) s ps

-- its first face
abbrev pub lamina_face : Model → ℕ
lamina_face M = (taken_in M).face + 1
