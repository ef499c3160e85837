use Rattle.low_euler.proofs.Prelude.{IsReady, subst, sym}
use Rattle.low_euler.proofs.Undone.{ready_told}
use Rattle.low_euler.proofs.applying.replay_told.Goals as goal

pub returns-clause-ready : goal.returns-clause-ready
returns-clause-ready c = subst IsReady (sym c.change_back.ensures.effect) (ready_told c.args.arena.now _ c.requires)
