use Rattle.euler_conditions.proofs.Prelude.{◌≡◌, subst, sym, code, after, HasHalf, half_after, half_of, of_half}
use Rattle.euler_conditions.proofs.Known.{in_a_loop}
use Rattle.euler_conditions.proofs.halves.next.Goals as goal

pub returns-clause-there : goal.returns-clause-there
returns-clause-there c =
    let M = c.args.arena.now.model in
    let t : HasHalf M (code c.args.h) = half_of M c.args.h c.requires.there in
    let e : code c.next.result ≡ after M (code c.args.h) = c.next.ensures.in_loop (in_a_loop M c.requires.ready.sound (code c.args.h) t) in
    of_half M c.next.result (subst (HasHalf M) (sym e) (half_after M c.requires.ready.sound (code c.args.h) t))
