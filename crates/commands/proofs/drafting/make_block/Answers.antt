use Rattle.commands.proofs.Prelude.{w64, to_z-of_z, on_ok_weaker, at_sizes, TellsDraft, told_of}
use Rattle.call_types.specs.declared.command.Change.TheVariants as change
use Rattle.call_types.specs.declared.command.Command.TheVariants as command
use Rattle.commands.proofs.Settling.{settled_exactly}
use Rattle.commands.proofs.drafting.make_block.Goals as goal

pub returns : goal.returns
returns c =
    let r = c.block_in.result in let e = c.block_in.ensures in
    at_sizes (λ x y z. TellsDraft c.args.draft.now (command.Change (change.Block c.args.solid c.args.corner x y z)) (told_of r) c.block_in.new.draft)
    _ _ _ _ _ _ (to_z-of_z w64 c.args.dx c.ranges.dx) (to_z-of_z w64 c.args.dy c.ranges.dy) (to_z-of_z w64 c.args.dz c.ranges.dz)
    (settled_exactly _ _ _ _ r e.ok (on_ok_weaker r (λ steps. (e.further, steps)) e.steps) e.refused e.err)
