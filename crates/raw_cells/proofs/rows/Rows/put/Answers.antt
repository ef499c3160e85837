use Rattle.std.proofs.Common.{◌∙◌, sym}
use Rattle.raw_cells.proofs.numbers_laws.Cells.{length_rows, word_room, cell_room, cells_put, row_put}
use Rattle.raw_cells.proofs.rows.Rows.put.Goals as goal

pub put-requires : goal.put-requires
put-requires g c = cell_room _ _ _ c.self.invariant c.args.number (rw (length_rows _ _ _ c.self.invariant) at (rw (← c.self.view_is) at c.requires))

pub put-requires-2 : goal.put-requires-2
put-requires-2 g c = word_room _ _ _ c.self.invariant c.args.number (rw (length_rows _ _ _ c.self.invariant) at (rw (← c.self.view_is) at c.requires))

pub invariant_of-self : goal.invariant_of-self
invariant_of-self g c =
    let below = rw (length_rows _ _ _ c.self.invariant) at (rw (← c.self.view_is) at c.requires) in
    rw c.put.ensures (cells_put _ _ _ c.self.invariant c.args.number below _ c.put-2.ensures.len c.args.row c.put-2.ensures.uses)

pub returns-clause-rows : goal.returns-clause-rows
returns-clause-rows g c =
    let below = rw (length_rows _ _ _ c.self.invariant) at (rw (← c.self.view_is) at c.requires) in
    rw (← c.self.view_is, c.put.ensures) (row_put _ _ _ c.self.invariant c.args.number below _ c.put-2.ensures.len c.args.row c.put-2.ensures.uses)

pub returns-clause-len : goal.returns-clause-len
returns-clause-len g c =
    let below = rw (length_rows _ _ _ c.self.invariant) at (rw (← c.self.view_is) at c.requires) in
    rw (← c.self.view_is, c.put.ensures) (length_rows _ _ _ (cells_put _ _ _ c.self.invariant c.args.number below _ c.put-2.ensures.len c.args.row c.put-2.ensures.uses) ∙ sym (length_rows _ _ _ c.self.invariant))
