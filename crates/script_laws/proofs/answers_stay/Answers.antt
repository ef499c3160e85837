use Rattle.script_laws.proofs.Kept.{answers_stay}
use Rattle.script_laws.proofs.answers_stay.Goals as goal

pub returns : goal.returns
returns c = answers_stay
