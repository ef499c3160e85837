use Rattle.script_running.proofs.Prelude.{refl, act_of}
use Rattle.script_running.proofs.Acting.{heeds_so, none_heeds}
use Rattle.script_running.proofs.script_judging.calls.act.Goals as goal

pub returns-in-Some-clause-heeds : goal.returns-in-Some-clause-heeds
returns-in-Some-clause-heeds c = heeds_so _ _ _ (act_of c.args.op) _ _ _ c.in-Some.is refl c.act-ended.ensures c.keep_outcome.ensures.kept c.keep_outcome.ensures.kind

pub returns-clause-heeds : goal.returns-clause-heeds
returns-clause-heeds c = none_heeds _ _ _ _ c.in_default.is
