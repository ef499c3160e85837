use Rattle.commands.proofs.Prelude.{w64, to_z-of_z, on_ok_weaker, at_coefficients, TellsDraft, told_of}
use Rattle.call_types.specs.declared.command.Change.TheVariants as change
use Rattle.call_types.specs.declared.command.Command.TheVariants as command
use Rattle.commands.proofs.Settling.{settled}
use Rattle.commands.proofs.drafting.make_split.Goals as goal

pub returns : goal.returns
returns c =
    let r = c.split_in.result in let e = c.split_in.ensures in
    at_coefficients (λ x y z w. TellsDraft c.args.draft.now (command.Change (change.Split c.args.solid x y z w c.args.above)) (told_of r) c.split_in.new.draft)
    _ _ _ _ _ _ _ _ (to_z-of_z w64 c.args.a c.ranges.a) (to_z-of_z w64 c.args.b c.ranges.b) (to_z-of_z w64 c.args.c c.ranges.c) (to_z-of_z w64 c.args.d c.ranges.d)
    (settled _ _ _ _ _ r e.ok (on_ok_weaker r (λ steps. (e.further, steps)) e.steps) e.refused e.memory e.err)
