-- A lamina while it is made: the models between its operators, and the operators.
use Rattle.std.specs.Prelude.{ℕ, zero, suc, ◌+◌, ◌-◌, true, false, List, [], ◌∷◌, ◌++◌, length, get_or}
use Rattle.euler_operators.specs.Common.{Point, HalfEdge, Corner, At, Lone, plus, minus, Model, LoopContent, lone, cycle, no_point}
use Rattle.euler_operators.specs.Table as table
use Rattle.euler_operators.specs.declared.Op.{Op}
use Rattle.euler_operators.specs.declared.Op.TheVariants.{Mvfs, Mev, Mef}
use Rattle.shapes.specs.Common.{Taken, taken_in, with_points, with_path}

-- the plus halves of j edges from e + 1 on, and their minus halves, the last one first
abbrev pub out : ℕ → ℕ → List ℕ
out e zero = []
out e (suc j) = out e j ++ plus (e + suc j) ∷ []

abbrev pub back : ℕ → ℕ → List ℕ
back e zero = []
back e (suc j) = minus (e + suc j) ∷ back e j

-- the loop along j edges and back
abbrev pub path_content : Taken → ℕ → LoopContent
path_content c zero = lone (c.vertex + 1)
path_content c (suc j) = cycle (out c.edge (suc j) ++ back c.edge (suc j))

-- a new solid with one face and one loop, which leads along j new edges, from point to point, and back
unfoldable pub path_at : Model → Taken → ℕ → List Point → ℕ → Model
path_at M c s ps j = record {
  solids = table.put M.solids s tt;
  faces = table.put M.faces (c.face + 1) (record { solid = s; outer = c.loop + 1 });
  loops = table.put M.loops (c.loop + 1) (record { face = c.face + 1; content = path_content c j });
  edges = with_path M.edges c.edge c.vertex j;
  vertices = with_points M.vertices c.vertex ps (suc j);
}

abbrev pub first_half : ℕ → HalfEdge
first_half e = record { edge = e; first = true }

abbrev pub second_half : ℕ → HalfEdge
second_half e = record { edge = e; first = false }

-- the operator that makes the first point
abbrev pub first_point : Taken → ℕ → List Point → Op
first_point c s ps = Mvfs s (c.face + 1) (c.loop + 1) (c.vertex + 1) (get_or ps 0 no_point)

-- the corner at the end of j edges
abbrev pub end_corner : Taken → ℕ → Corner
end_corner c zero = Lone (c.loop + 1)
end_corner c (suc j) = At (second_half (c.edge + suc j))

-- the operator that goes on from the end of j edges to the next point
abbrev pub next_point : Taken → List Point → ℕ → Op
next_point c ps j = Mev (end_corner c j) (end_corner c j) (first_half (c.edge + suc j)) (c.vertex + suc (suc j)) (get_or ps (suc j) no_point)

-- the operators that make j points after the first
abbrev pub further_points : Taken → List Point → ℕ → List Op
further_points c ps zero = []
further_points c ps (suc j) = further_points c ps j ++ next_point c ps j ∷ []

-- the operator that leads an edge from the end of j edges to their start
abbrev pub last_edge : Taken → ℕ → Op
last_edge c j = Mef (second_half (c.edge + j)) (first_half (c.edge + 1)) (first_half (c.edge + suc j)) (c.face + 2) (c.loop + 2)

-- the operators of a lamina
unfoldable pub lamina_operators : Model → ℕ → List Point → List Op
lamina_operators M s ps = let c = taken_in M in let j = length ps - 1 in first_point c s ps ∷ further_points c ps j ++ last_edge c j ∷ []
