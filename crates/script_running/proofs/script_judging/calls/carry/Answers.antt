use Rattle.std.proofs.Common.{◌∙◌, refl, sym}
use Rattle.script_running.proofs.Acting.{heeds_so, none_heeds}
use Rattle.script_running.proofs.script_judging.calls.carry.Goals as goal

pub returns : goal.returns
returns c =
    let told = c.make-stage.result in
    heeds_so _ _ _ c.args.wanted c.in-Some.stage told.0 told.1 (sym c.take.ensures.value ∙ c.in-Some.is) refl c.make-stage.ensures.told c.keep.ensures c.status.ensures

pub returns-in_default : goal.returns-in_default
returns-in_default c = none_heeds _ _ _ _ (sym c.take.ensures.value ∙ c.in_default.is)
