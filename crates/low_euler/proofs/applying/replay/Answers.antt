use Rattle.low_euler.proofs.Prelude.{IsReady, subst, sym}
use Rattle.low_euler.proofs.Undone.{ready_after}
use Rattle.low_euler.proofs.applying.replay.Goals as goal

pub returns-clause-ready : goal.returns-clause-ready
returns-clause-ready c = subst IsReady (sym c.change.ensures) (ready_after c.args.arena.now c.args.op.now c.requires)
