-- The first rewriting of a split in terms of the tables alone: each edge that crosses the plane becomes two.
use Rattle.std.specs.Prelude.{ℕ, ◌+◌, cond, nat_eq, List, [], ◌∷◌, length, fold, flat_map}
use Rattle.euler_operators.specs.Common.{Point, Plane, cut_between, plus, minus, Table, Model, EdgeRow, tail}
use Rattle.euler_operators.specs.Table as table
use Rattle.shapes.specs.Common.{start, finish, rewritten_row, Growing, growing, crossing_edges}

-- an edge that is cut, the fresh edge that comes before it, and the fresh vertex between the two
pub record Cut : Type 0 where
  pub edge : ℕ
  pub added : ℕ
  pub vertex : ℕ

-- the cuts of some edges, in their order, with fresh edges from k + 1 on and fresh vertices from v + 1 on
abbrev pub cuts_from : List ℕ → ℕ → ℕ → List Cut
cuts_from [] k v = []
cuts_from (e ∷ es) k v = record { edge = e; added = k + 1; vertex = v + 1 } ∷ cuts_from es (k + 1) (v + 1)

-- if E comes before e, +e becomes `+E +e`, and -e becomes `-e -E`
abbrev pub doubled_in : List Cut → ℕ → List ℕ
doubled_in [] h = h ∷ []
doubled_in (c ∷ cs) h = cond (nat_eq h (plus c.edge)) (plus c.added ∷ plus c.edge ∷ []) (cond (nat_eq h (minus c.edge)) (minus c.edge ∷ minus c.added ∷ []) (doubled_in cs h))

-- the fresh edge leads from the start of the edge to the fresh vertex, and the edge goes on from there
abbrev pub with_two_edges : Model → Table EdgeRow → Cut → Table EdgeRow
with_two_edges M t c = table.put (table.put t c.added (record { plus_tail = tail M (plus c.edge); minus_tail = c.vertex })) c.edge (record { plus_tail = c.vertex; minus_tail = tail M (minus c.edge) })

-- the fresh vertex stands where the edge meets the plane
abbrev pub with_cut_point : Model → Plane → Table Point → Cut → Table Point
with_cut_point M p t c = table.put t c.vertex (cut_between p (start M (plus c.edge)) (finish M (plus c.edge)))

-- each edge of the cuts becomes two, in all loops
abbrev pub doubled_at : Plane → Model → List Cut → Model
doubled_at p M cs = record M {
  loops = table.map_rows (rewritten_row (flat_map (doubled_in cs))) M.loops;
  edges = fold (with_two_edges M) M.edges cs;
  vertices = fold (with_cut_point M p) M.vertices cs;
}

-- the edges es become two each, with the numbers after those taken
unfoldable pub edges_doubled : Plane → Growing → List ℕ → Growing
edges_doubled p g es = let c = g.taken in record {
  model = doubled_at p g.model (cuts_from es c.edge c.vertex);
  taken = record c { edge = c.edge + length es; vertex = c.vertex + length es };
}

-- the edges of solid s that cross the plane become two each, in rising order
unfoldable pub crossings_doubled : Model → ℕ → Plane → Growing
crossings_doubled M s p = edges_doubled p (growing M) (crossing_edges M p s)
