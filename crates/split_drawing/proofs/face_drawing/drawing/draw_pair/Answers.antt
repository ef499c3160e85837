use Rattle.split_drawing.proofs.Prelude.{◌∙◌, ap, first_false, after_step}
use Rattle.split_drawing.proofs.face_drawing_laws.PairOps.{draw_op}
use Rattle.split_drawing.proofs.face_drawing.drawing.draw_pair.Goals as goal

pub step_accepted-requires : goal.step_accepted-requires
step_accepted-requires c = ap (first_false c.args.draft.now.model) (draw_op c.args.taken c.args.pair) ∙ c.requires.accepted

pub returns-clause-ok : goal.returns-clause-ok
returns-clause-ok c = c.in_ok-step_accepted.ensures.ok ∙ ap (after_step c.args.draft.now) (draw_op c.args.taken c.args.pair)
