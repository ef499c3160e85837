use Rattle.sweeps.proofs.Prelude.{ap, ◌∙◌, blocks_are_accepted, operators_make_blocks, operators_are_accepted, operators_make_lamina, sweep_accepted, sweep_is_prism, block_operators, lamina_operators, sweep_ops, held, accepted}
use Rattle.sweeps.specs.Calls.{LaminasAreCalls, BlocksAreCalls, SweepsAreCalls}
use Rattle.undo_journal.proofs.Consistent as histories
use Rattle.sweeps.proofs.laws.larger_commands_are_calls.Goals as goal

laminas : LaminasAreCalls
laminas m s ps sound goes = histories.larger_commands_are_calls m (lamina_operators (held m) s ps) (operators_are_accepted (held m) s ps sound goes) ∙ ap (accepted m) (operators_make_lamina (held m) s ps sound goes)

sweeps : SweepsAreCalls
sweeps m f d sound goes = histories.larger_commands_are_calls m (sweep_ops (held m) f d) (sweep_accepted (held m) f d sound goes) ∙ ap (accepted m) (sweep_is_prism (held m) f d sound goes)

blocks : BlocksAreCalls
blocks m s p dx dy dz sound goes =
    histories.larger_commands_are_calls m (block_operators (held m) s p dx dy dz) (blocks_are_accepted (held m) s p dx dy dz sound goes) ∙ ap (accepted m) (operators_make_blocks (held m) s p dx dy dz sound goes)

pub returns : goal.returns
returns c = record { lamina = laminas; block = blocks; sweep = sweeps }
