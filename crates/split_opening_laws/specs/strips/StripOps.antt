-- The Euler operators that cut the strips off and raise the copies.
use Rattle.std.specs.Prelude.{ℕ, zero, suc, ◌+◌, ◌-◌, cond, nat_eq, List, [], ◌∷◌, ◌++◌, length, get_or}
use Rattle.euler_operators.specs.Common.{At, half, mate, plus, minus, Model, tail, point_of, after}
use Rattle.euler_operators.specs.declared.Op.{Op}
use Rattle.euler_operators.specs.declared.Op.TheVariants.{Mev, Mef}
use Rattle.shapes.specs.Common.{Taken}
use Rattle.split_opening_laws.specs.strips.Strips.{copy_riser, strips_cut}

-- the operator that cuts off the strip at a place: mef from ai up to what then follows it in the model
abbrev pub cut_strip : Model → Taken → List ℕ → ℕ → Op
cut_strip N c bs i = let a = mate (get_or bs i 0) in Mef (half a) (half (after N a)) (half (plus (c.edge + suc i))) (c.face + suc i) (c.loop + suc i)

-- the operators of the first i strips
abbrev pub strip_ops : Model → ℕ → Taken → List ℕ → ℕ → List Op
strip_ops M s c bs zero = []
strip_ops M s c bs (suc i) = strip_ops M s c bs i ++ cut_strip (strips_cut M s c bs i) c bs i ∷ []

-- the place before, round a loop of n items
abbrev pub place_before : ℕ → ℕ → ℕ
place_before n i = cond (nat_eq i 0) (n - 1) (i - 1)

-- the operator that raises the copy at a place: mev from -ci up to the mate before ai
abbrev pub raise_copy : Model → Taken → List ℕ → ℕ → Op
raise_copy M c bs i = Mev (At (half (minus (c.edge + suc i)))) (At (half (mate (get_or bs (place_before (length bs) i) 0)))) (half (plus (copy_riser c bs i)))
    (c.vertex + suc i) (point_of M (tail M (get_or bs i 0)))

-- the operators of the first i copies
abbrev pub copy_ops : Model → Taken → List ℕ → ℕ → List Op
copy_ops M c bs zero = []
copy_ops M c bs (suc i) = copy_ops M c bs i ++ raise_copy M c bs i ∷ []
