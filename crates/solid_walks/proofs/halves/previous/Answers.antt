use Rattle.solid_walks.proofs.Prelude.{subst, sym, code, HasHalf}
use Rattle.euler_conditions.proofs.Known.{in_a_loop}
use Rattle.solid_walks.proofs.TwoWays.{before_there}
use Rattle.solid_walks.proofs.halves.previous.Goals as goal

pub returns-clause-previous : goal.returns-clause-previous
returns-clause-previous c = c.prev.ensures.in_loop (in_a_loop c.args.arena.now.model c.requires.ready.sound (code c.args.h) c.requires.there)

pub returns-clause-there : goal.returns-clause-there
returns-clause-there c =
    let M = c.args.arena.now.model in let sound = c.requires.ready.sound in let h : _ = code c.args.h in
    subst (HasHalf M) (sym (c.prev.ensures.in_loop (in_a_loop M sound h c.requires.there))) (before_there M sound h c.requires.there)
