-- Rewriting whole tables: the lists of all loops, numbers replaced by a list of pairs, and rows that are removed.
use Rattle.std.specs.Prelude.{ℕ, cond, nat_eq, List, [], ◌∷◌, fold}
use Rattle.euler_operators.specs.Common.{canonical, Table, LoopContent, LoopRow, lone, cycle}
use Rattle.euler_operators.specs.Table as table

-- a loop with its cycle rewritten; a lone loop stays as it is
abbrev pub rewritten : (List ℕ → List ℕ) → LoopContent → LoopContent
rewritten new (lone v) = lone v
rewritten new (cycle hs) = cycle (canonical (new hs))

abbrev pub rewritten_row : (List ℕ → List ℕ) → ℕ → LoopRow → LoopRow
rewritten_row new l row = record row { content = rewritten new row.content }

-- what a list of pairs gives for a number; if the number isn't in it, the number itself
abbrev pub renamed : List (ℕ × ℕ) → ℕ → ℕ
renamed [] n = n
renamed (p ∷ ps) n = cond (nat_eq p.0 n) p.1 (renamed ps n)

-- the table without the rows of some numbers
abbrev pub without_rows : {X : Type 0} → Table X → List ℕ → Table X
without_rows t ns = fold table.remove t ns
