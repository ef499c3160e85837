use Rattle.solid_walks.proofs.Prelude.{ap, ◌∙◌, mate}
use Rattle.solid_walks.proofs.codes.back.Goals as goal

pub returns : goal.returns
returns c = c.mate_code.ensures ∙ ap mate c.previous_code.ensures.previous
