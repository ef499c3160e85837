use Rattle.solid_walks.proofs.Prelude.{◌∙◌, ap, sym, arith, has, only}
use Rattle.solid_walks.proofs.lone_laws.LoneLoops.{lone_at, ringless_lone}
use Rattle.solid_walks.proofs.lone.least_lone_of_face.Goals as goal

pub lone_loop-requires-clause-there : goal.lone_loop-requires-clause-there
lone_loop-requires-clause-there c =
    let M = c.args.arena.now.model in ap (has M.loops) c.outer.ensures ∙ (c.requires.ready.sound.outers_there c.args.f c.requires.there).0

pub returns : goal.returns
returns c =
    let M = c.args.arena.now.model in
    c.lone_loop.ensures ∙ ap (λ l. only (lone_at M l) l) c.outer.ensures
    ∙ ringless_lone M c.requires.ready.sound c.args.f c.requires.there (omega (arith, sym c.ring_count.ensures, c.if-ring_count-gt0.false))
