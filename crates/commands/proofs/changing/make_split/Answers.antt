use Rattle.commands.proofs.Prelude.{w64, to_z-of_z, at_coefficients, held, TellsSession, told_of}
use Rattle.call_types.specs.declared.command.Change.TheVariants as change
use Rattle.call_types.specs.declared.command.Command.TheVariants as command
use Rattle.commands.proofs.Knowing.{flat_faces}
use Rattle.commands.proofs.Settling.{settled}
use Rattle.commands.proofs.changing.make_split.Goals as goal

pub split_with_flat-requires : goal.split_with_flat-requires
split_with_flat-requires c = record { flat = flat_faces (held c.args.session.machine) c.args.flat c.requires }

pub returns : goal.returns
returns c =
    at_coefficients (λ x y z w. TellsSession c.args.session (command.Change (change.Split c.args.solid x y z w c.args.above)) (told_of c.split_with_flat.result.1) c.split_with_flat.result.0)
    _ _ _ _ _ _ _ _ (to_z-of_z w64 c.args.a c.ranges.a) (to_z-of_z w64 c.args.b c.ranges.b) (to_z-of_z w64 c.args.c c.ranges.c) (to_z-of_z w64 c.args.d c.ranges.d)
    (settled _ _ _ _ _ c.split_with_flat.result.1 c.split_with_flat.ensures.ok c.split_with_flat.ensures.record c.split_with_flat.ensures.refused c.split_with_flat.ensures.memory c.split_with_flat.ensures.err)
