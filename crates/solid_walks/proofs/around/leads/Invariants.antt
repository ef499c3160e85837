use Rattle.solid_walks.proofs.Prelude.{◌-◌, steps}
use Rattle.solid_walks.proofs.TwoWays.{Facing}
use Rattle.solid_walks.proofs.around.leads.Given as goal

abbrev pub invariant-round : goal.invariant-round
invariant-round l = Facing l.arena.model l.code l.ahead l.behind (steps - l.counter)
