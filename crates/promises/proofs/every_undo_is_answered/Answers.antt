use Rattle.promises.proofs.every_undo_is_answered.Goals as goal

pub returns : goal.returns
returns c = let told = c.undo.ensures in record { ok = told.ok; refused = told.refused; err = told.err }
