use Rattle.script_running.proofs.Prelude.{refl}
use Rattle.script_running.proofs.Acting.{keeps_so}
use Rattle.script_running.proofs.script_judging.calls.say.Goals as goal

pub returns : goal.returns
returns c = keeps_so _ _ c.args.answer _ refl refl c.status.ensures
