use Rattle.split_opening_laws.proofs.copies.Raising.{copies_accepted, copies_are_raised, raised_sound}
use Rattle.split_opening_laws.proofs.copies_are_raised.Goals as goal

pub returns : goal.returns
returns c = record { accepted = copies_accepted; raised = copies_are_raised; sound = raised_sound }
