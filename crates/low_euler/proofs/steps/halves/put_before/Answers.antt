use Rattle.low_euler.proofs.Prelude.{ap, ◌∙◌, code, join}
use Rattle.low_euler.proofs.steps_laws.StoreSteps.{join_puts}
use Rattle.low_euler.proofs.steps.halves.put_before.Goals as goal

pub returns : goal.returns
returns c = c.join_alone.ensures ∙ ap (λ p. join c.args.arena.now p (code c.args.half)) (c.prev-last.ensures.in_loop c.requires.corner.looped)
    ∙ join_puts c.args.arena.now (code c.args.corner) c.requires.corner (code c.args.half) c.requires.half
