-- The first rewriting: each edge that crosses the plane is cut at a new vertex there.
use Rattle.std.specs.Prelude.{ℕ, ◌+◌, List, fold}
use Rattle.euler_operators.specs.Common.{Plane, cut_between, At, half, plus, minus, Model, after, effect}
use Rattle.euler_operators.specs.declared.Op.{Op}
use Rattle.euler_operators.specs.declared.Op.TheVariants.{Mev}
use Rattle.shapes.specs.Faces.{start, finish}
use Rattle.shapes.specs.Fresh.{Growing, growing}
use Rattle.shapes.specs.split.Sides.{crossing_edges}

-- edge e is cut where it meets the plane, with a fresh edge and a fresh vertex: the new edge leads from e's start to this vertex, and e from there on
abbrev pub cut_edge : Plane → Growing → ℕ → Op
cut_edge p g e = let c = g.taken in
    Mev (At (half (plus e))) (At (half (after g.model (minus e)))) (half (plus (c.edge + 1))) (c.vertex + 1) (cut_between p (start g.model (plus e)) (finish g.model (plus e)))

-- one more edge
unfoldable pub next_cut : Plane → Growing → ℕ → Growing
next_cut p g e = let c = g.taken in record { model = effect g.model (cut_edge p g e); taken = record c { edge = c.edge + 1; vertex = c.vertex + 1 } }

-- some edges are cut, in their order
abbrev pub all_cut : Plane → Growing → List ℕ → Growing
all_cut p g es = fold (next_cut p) g es

-- the edges of solid s that cross the plane are cut, rising
unfoldable pub with_crossings : Model → ℕ → Plane → Growing
with_crossings M s p = all_cut p (growing M) (crossing_edges M p s)
