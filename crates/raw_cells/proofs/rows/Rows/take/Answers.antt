use Rattle.std.proofs.Common.{◌∙◌, sym}
use Rattle.raw_cells.proofs.numbers_laws.Cells.{length_rows, word_room, cells_left, row_gone}
use Rattle.raw_cells.proofs.rows.Rows.take.Goals as goal

pub take-requires : goal.take-requires
take-requires g c = word_room _ _ _ c.self.invariant c.args.number (rw (length_rows _ _ _ c.self.invariant) at (rw (← c.self.view_is) at c.requires))

pub invariant_of-self : goal.invariant_of-self
invariant_of-self g c =
    let below = rw (length_rows _ _ _ c.self.invariant) at (rw (← c.self.view_is) at c.requires) in
    cells_left _ _ _ c.self.invariant c.args.number below _ c.take.ensures.len c.take.ensures.uses

pub returns-clause-rows : goal.returns-clause-rows
returns-clause-rows g c =
    let below = rw (length_rows _ _ _ c.self.invariant) at (rw (← c.self.view_is) at c.requires) in
    rw (← c.self.view_is) (row_gone _ _ _ c.self.invariant c.args.number below _ c.take.ensures.len c.take.ensures.uses)

pub returns-clause-len : goal.returns-clause-len
returns-clause-len g c =
    let below = rw (length_rows _ _ _ c.self.invariant) at (rw (← c.self.view_is) at c.requires) in
    rw (← c.self.view_is) (length_rows _ _ _ (cells_left _ _ _ c.self.invariant c.args.number below _ c.take.ensures.len c.take.ensures.uses) ∙ sym (length_rows _ _ _ c.self.invariant))
