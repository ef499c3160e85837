use Rattle.plane_split.proofs.Prelude.{ap, ◌∙◌, split_ops, held, accepted, split_accepted, split_made}
use Rattle.undo_journal.proofs.Consistent.{larger_commands_are_calls}
use Rattle.plane_split.proofs.laws.splits_are_calls.Goals as goal

pub returns : goal.returns
returns c m s p t sound goes = larger_commands_are_calls m (split_ops (held m) s p t) (split_accepted (held m) s p t sound goes) ∙ ap (accepted m) (split_made (held m) s p t sound goes)
