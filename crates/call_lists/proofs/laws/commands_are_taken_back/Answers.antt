use Rattle.call_lists.proofs.TakenBack as taken
use Rattle.call_lists.proofs.laws.commands_are_taken_back.Goals as goal

pub returns : goal.returns
returns c = taken.commands_are_taken_back
