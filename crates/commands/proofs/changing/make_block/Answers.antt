use Rattle.commands.proofs.Prelude.{w64, to_z-of_z, at_sizes, TellsSession, told_of}
use Rattle.call_types.specs.declared.command.Change.TheVariants as change
use Rattle.call_types.specs.declared.command.Command.TheVariants as command
use Rattle.commands.proofs.Settling.{settled_exactly}
use Rattle.commands.proofs.changing.make_block.Goals as goal

pub returns : goal.returns
returns c =
    at_sizes (λ x y z. TellsSession c.args.session (command.Change (change.Block c.args.solid c.args.corner x y z)) (told_of c.block.result.1) c.block.result.0)
    _ _ _ _ _ _ (to_z-of_z w64 c.args.dx c.ranges.dx) (to_z-of_z w64 c.args.dy c.ranges.dy) (to_z-of_z w64 c.args.dz c.ranges.dz)
    (settled_exactly _ _ _ _ c.block.result.1 c.block.ensures.ok c.block.ensures.record c.block.ensures.refused c.block.ensures.err)
