use Rattle.euler_conditions.proofs.Prelude.{◌-◌, steps}
use Rattle.euler_conditions.proofs.Parallel.{HalfSeen}
use Rattle.euler_conditions.proofs.ends.parallel.Given as goal

abbrev pub invariant-round : goal.invariant-round
invariant-round l = HalfSeen l.arena.model l.code l.far l.least l.g (steps - l.counter)
    × HalfSeen l.arena.model l.mate l.near l.opposite_least l.opposite (steps - l.counter)
