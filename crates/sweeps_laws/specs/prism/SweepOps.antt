-- The Euler operators that make a sweep.
use Rattle.std.specs.Prelude.{ℕ, zero, suc, ◌+◌, ◌*◌, ◌-◌, List, [], ◌∷◌, ◌++◌, length, get_or}
use Rattle.euler_operators.specs.Common.{Point, moved, At, half, plus, minus, Model, items_of, content}
use Rattle.euler_operators.specs.declared.Op.{Op}
use Rattle.euler_operators.specs.declared.Op.TheVariants.{Mev, Mef}
use Rattle.shapes.specs.Common.{loops_of, start, Taken, taken_in, riser, top_edge}

-- the operator for item h, at place i of a loop: an edge rises from its start
abbrev pub raise_item : Model → Taken → Point → ℕ → ℕ → Op
raise_item M c d h i = Mev (At (half h)) (At (half h)) (half (plus (riser c.edge i))) (c.vertex + 1 + i) (moved (start M h) d)

abbrev pub raise : Model → Taken → Point → List ℕ → ℕ → Op
raise M c d hs i = raise_item M c d (get_or hs i 0) i

-- the operator that closes the side over item i of a loop of n items, between the edges that rise at it and at the next item
abbrev pub close : Taken → ℕ → ℕ → Op
close c n i = Mef (half (minus (riser c.edge i))) (half (minus (riser c.edge (suc i)))) (half (plus (top_edge c.edge n i))) (c.face + 1 + i) (c.loop + 1 + i)

-- the operator that closes the side over the last item i, up to the first top edge
abbrev pub close_last : Taken → ℕ → ℕ → Op
close_last c n i = Mef (half (minus (riser c.edge i))) (half (plus (top_edge c.edge n 0))) (half (plus (top_edge c.edge n i))) (c.face + 1 + i) (c.loop + 1 + i)

-- the first item is raised, and then some more, each with the side before it
abbrev pub rounds : Model → Taken → Point → List ℕ → ℕ → List Op
rounds M c d hs zero = raise M c d hs 0 ∷ []
rounds M c d hs (suc i) = rounds M c d hs i ++ raise M c d hs (suc i) ∷ close c (length hs) i ∷ []

-- the operators of a whole loop
abbrev pub loop_ops : Model → Taken → Point → List ℕ → List Op
loop_ops M c d hs = let n = length hs in rounds M c d hs (n - 1) ++ close_last c n (n - 1) ∷ []

-- the numbers taken after a loop of n items is swept
abbrev pub taken_after : Taken → ℕ → Taken
taken_after c n = record { face = c.face + n; loop = c.loop + n; edge = c.edge + 2 * n; vertex = c.vertex + n }

-- the operators of one loop after the other
abbrev pub ops_from : Model → Point → Taken → List ℕ → List Op
ops_from M d c [] = []
ops_from M d c (l ∷ ls) = let hs = items_of (content M l) in loop_ops M c d hs ++ ops_from M d (taken_after c (length hs)) ls

-- the operators that sweep face f along d: the outer loop first, then the rings in rising order
unfoldable pub sweep_ops : Model → ℕ → Point → List Op
sweep_ops M f d = ops_from M d (taken_in M) (loops_of M f)
