use Rattle.low_euler.proofs.Prelude.{length, code, arc}
use Rattle.low_euler.proofs.steps_laws.Tails.{HasCome}
use Rattle.low_euler.proofs.steps.tails.move_tails.Given as goal

abbrev pub invariant-round : goal.invariant-round
invariant-round l = HasCome l.initial.arena l.arena (code l.fn.from) (code l.fn.to) l.code l.vertex

abbrev pub decreases-round : goal.decreases-round
decreases-round l = length (arc l.initial.arena.model l.code (code l.fn.to))
