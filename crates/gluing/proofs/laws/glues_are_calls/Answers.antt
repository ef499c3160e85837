use Rattle.gluing.proofs.Prelude.{ap, ◌∙◌, glue_ops, held, accepted, glue_accepted, glue_is_glued}
use Rattle.undo_journal.proofs.Consistent.{larger_commands_are_calls}
use Rattle.gluing.proofs.laws.glues_are_calls.Goals as goal

pub returns : goal.returns
returns c m f g sound goes = larger_commands_are_calls m (glue_ops (held m) f g) (glue_accepted (held m) f g sound goes) ∙ ap (accepted m) (glue_is_glued (held m) f g sound goes)
