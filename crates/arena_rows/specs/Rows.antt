-- Rows as tables.
use Rattle.std.specs.Prelude.{ℕ, Bool, false, nat_eq, List, length, Option, Some, None}
use Rattle.raw_cells.specs.Rows.{row_at}
use Rattle.arena_rows.specs.declared.rows.LoopCell.{LoopCell}
use Rattle.boundary_model.specs.Table.{Table, tabulate}

abbrev pub map_row : {X Y : Type 0} → (X → Y) → Option X → Option Y
map_row f None = None
map_row f (Some x) = Some (f x)

-- the table of the rows that are there, each as f reads it
abbrev pub table_of : {X Y : Type 0} → (X → Y) → List (Option X) → Table Y
table_of f rows = tabulate (λ q. map_row f (row_at rows q)) (length rows)

-- whether the row is that of a loop of face f
abbrev pub names : ℕ → Option LoopCell → Bool
names f None = false
names f (Some cell) = nat_eq cell.face f
