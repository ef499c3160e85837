use Rattle.euler_conditions.proofs.Prelude.{ap, ◌∙◌, after}
use Rattle.euler_conditions.proofs.codes.round_code.Goals as goal

pub returns-clause-round : goal.returns-clause-round
returns-clause-round c = c.next_code.ensures.next ∙ ap (after c.args.arena.now.model) c.mate_code.ensures
