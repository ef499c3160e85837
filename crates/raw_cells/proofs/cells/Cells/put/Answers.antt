use Rattle.raw_cells.proofs.cells.Cells.put.Goals as goal

pub returns : goal.returns
returns g c = rw (← c.self.view_is) c.write.ensures.1
