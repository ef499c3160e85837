use Rattle.undo_journal.proofs.Consistent as histories
use Rattle.undo_journal.proofs.laws.histories_are_consistent.Goals as goal

pub returns : goal.returns
returns c = record { larger = histories.larger_commands_are_calls; consistent = histories.histories_are_consistent }
