use Rattle.undo_journal.proofs.Copies as copies
use Rattle.undo_journal.proofs.laws.undo_gives_the_model_before.Goals as goal

pub returns : goal.returns
returns c = copies.undo_gives_the_model_before
