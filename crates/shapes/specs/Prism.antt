-- A face swept along a vector.
use Rattle.std.specs.Prelude.{ℕ, zero, suc, ◌+◌, ◌*◌, cond, not, nat_eq, List, [], ◌∷◌, ◌++◌, length, get_or, fold, Option}
use Rattle.euler_operators.specs.Common.{Point, is_in_range, origin, moved, same_point, canonical, plus, minus, Model, cycle, items_of, content, tail, point_of, solid_of, Condition, need, never, first_refusal, numbers_in_range}
use Rattle.euler_operators.specs.Table as table
use Rattle.shapes.specs.Faces.{least_lone, loops_of, corners, start}
use Rattle.shapes.specs.Fresh.{Taken, Growing, growing, taken_in, numbers_left, no_such, first_such}
use Rattle.euler_operators.specs.declared.Refusal.{Refusal}
use Rattle.euler_operators.specs.declared.Why.TheVariants.{NoFace, ZeroSweep, LoneLoop, PointRange}

unfoldable pub prism_conditions : Model → ℕ → Point → List Condition
prism_conditions M f d = let n = length (corners M f) in
    numbers_in_range (f ∷ []) ++
    need (table.has M.faces f) NoFace f
    ∷ never (same_point d origin) ZeroSweep f
    ∷ no_such (least_lone M (f ∷ [])) LoneLoop
    ∷ no_such (first_such (λ v. not (is_in_range (moved (point_of M v) d))) (corners M f)) PointRange
    ∷ numbers_left (taken_in M) (record { faces = n; loops = n; edges = 2 * n; vertices = n })

abbrev pub prism_refusal : Model → ℕ → Point → Option Refusal
prism_refusal M f d = first_refusal (prism_conditions M f d)

-- of a loop of n items: the edge that rises at item i, and the edge over item i; e is the greatest edge before the sweep
abbrev pub riser : ℕ → ℕ → ℕ
riser e i = cond (nat_eq i 0) (e + 1) (e + 2 * i)

abbrev pub top_edge : ℕ → ℕ → ℕ → ℕ
top_edge e n i = cond (nat_eq (i + 1) n) (e + 2 * n) (e + 2 * i + 3)

-- the place of the next item
abbrev pub next_place : ℕ → ℕ → ℕ
next_place n i = cond (nat_eq (i + 1) n) 0 (i + 1)

-- the side over item i: it goes along the item, up the next riser, back along the top edge, and down the item's own riser
unfoldable pub with_side : Taken → ℕ → Point → List ℕ → ℕ → Model → Model
with_side c s d hs i M = let n = length hs in let h = get_or hs i 0 in let j = next_place n i in record M {
  faces = table.put M.faces (c.face + 1 + i) (record { solid = s; outer = c.loop + 1 + i });
  loops = table.put M.loops (c.loop + 1 + i) (record {
    face = c.face + 1 + i;
    content = cycle (canonical (h ∷ plus (riser c.edge j) ∷ minus (top_edge c.edge n i) ∷ minus (riser c.edge i) ∷ []));
  });
  edges = table.put (table.put M.edges (riser c.edge i) (record { plus_tail = tail M h; minus_tail = c.vertex + 1 + i }))
      (top_edge c.edge n i) (record { plus_tail = c.vertex + 1 + i; minus_tail = c.vertex + 1 + j });
  vertices = table.put M.vertices (c.vertex + 1 + i) (moved (start M h) d);
}

-- the sides over the first i items
abbrev pub with_sides : Taken → ℕ → Point → List ℕ → ℕ → Model → Model
with_sides c s d hs zero M = M
with_sides c s d hs (suc i) M = with_side c s d hs i (with_sides c s d hs i M)

-- the first i top edges
abbrev pub top_items : ℕ → ℕ → ℕ → List ℕ
top_items e n zero = []
top_items e n (suc i) = top_items e n i ++ plus (top_edge e n i) ∷ []

-- loop l of face f becomes the ring of the top edges
abbrev pub lifted : Model → ℕ → ℕ → List ℕ → Model
lifted M f l hs = record M { loops = table.put M.loops l (record { face = f; content = cycle hs }) }

-- a whole loop is swept: a side stands over each item, and the loop is lifted
abbrev pub raised_over : ℕ → Point → Growing → ℕ → List ℕ → Growing
raised_over f d g l hs = let c = g.taken in let n = length hs in record {
  model = lifted (with_sides c (solid_of g.model f) d hs n g.model) f l (top_items c.edge n n);
  taken = record { face = c.face + n; loop = c.loop + n; edge = c.edge + 2 * n; vertex = c.vertex + n };
}

unfoldable pub raised : ℕ → Point → Growing → ℕ → Growing
raised f d g l = raised_over f d g l (items_of (content g.model l))

-- the loops of the face are swept one after the other: the outer one, then the rings, rising
abbrev pub prism_from : ℕ → Point → Growing → List ℕ → Growing
prism_from f d g ls = fold (raised f d) g ls

-- the model that an accepted sweep makes. The face keeps its number and is the far one
unfoldable pub prism_model : Model → ℕ → Point → Model
prism_model M f d = (prism_from f d (growing M) (loops_of M f)).model
