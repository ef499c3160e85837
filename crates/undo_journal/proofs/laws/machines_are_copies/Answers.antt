use Rattle.undo_journal.proofs.Copies.{held_is_at_the_place, accepted_is_appended, undo_moves_the_place, redo_moves_the_place}
use Rattle.undo_journal.proofs.laws.machines_are_copies.Goals as goal

pub returns : goal.returns
returns c = record { held = held_is_at_the_place; appended = accepted_is_appended; undo = undo_moves_the_place; redo = redo_moves_the_place }
