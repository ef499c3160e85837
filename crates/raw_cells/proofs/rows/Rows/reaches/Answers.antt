use Rattle.raw_cells.proofs.Prelude.{◌≡◌, length, arith, nat_tests}
use Rattle.raw_cells.proofs.numbers_laws.Cells.{length_rows}
use Rattle.raw_cells.proofs.rows.Rows.reaches.Goals as goal

pub returns-then-number-ne0 : goal.returns-then-number-ne0
returns-then-number-ne0 g c =
    let len : length c.args.self.now ≡ c.self.inside.room = rw (← c.self.view_is) (length_rows _ _ _ c.self.invariant) in
    grind (arith, nat_tests)
