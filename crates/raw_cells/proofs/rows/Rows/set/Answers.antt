use Rattle.std.proofs.Common.{◌∙◌, sym, refl}
use Rattle.raw_cells.proofs.numbers_laws.Cells.{length_rows, cell_room, cells_put, row_put, still_used, there_within}
use Rattle.raw_cells.proofs.rows.Rows.set.Goals as goal

pub put-requires : goal.put-requires
put-requires g c = cell_room _ _ _ c.self.invariant c.args.number (there_within _ _ _ c.self.invariant c.args.number (rw (← c.self.view_is) at c.requires))

pub invariant_of-self : goal.invariant_of-self
invariant_of-self g c =
    let there = rw (← c.self.view_is) at c.requires in
    rw c.put.ensures (cells_put _ _ _ c.self.invariant c.args.number (there_within _ _ _ c.self.invariant c.args.number there) _ refl c.args.row (still_used _ _ _ c.self.invariant c.args.number there))

pub returns-clause-rows : goal.returns-clause-rows
returns-clause-rows g c =
    let there = rw (← c.self.view_is) at c.requires in
    rw (← c.self.view_is, c.put.ensures) (row_put _ _ _ c.self.invariant c.args.number (there_within _ _ _ c.self.invariant c.args.number there) _ refl c.args.row (still_used _ _ _ c.self.invariant c.args.number there))

pub returns-clause-len : goal.returns-clause-len
returns-clause-len g c =
    let there = rw (← c.self.view_is) at c.requires in
    rw (← c.self.view_is, c.put.ensures) (length_rows _ _ _ (cells_put _ _ _ c.self.invariant c.args.number (there_within _ _ _ c.self.invariant c.args.number there) _ refl c.args.row (still_used _ _ _ c.self.invariant c.args.number there))
    ∙ sym (length_rows _ _ _ c.self.invariant))
