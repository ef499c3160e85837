use Rattle.solid_measure.proofs.Prelude.{sym, ap, subst, ◌∙◌, IsIn, content, loop_in, yielded_in, IsFew, together, loop_met, loops_met}
use Rattle.euler_operators.specs.Table as table
use Rattle.solid_measure.proofs.solid_counts_laws.FaceSums.{parts_few, face_few}
use Rattle.solid_measure.proofs.solid_counts.loops.face_met.Goals as goal

pub loop_met-requires-in-loops-clause-there : goal.loop_met-requires-in-loops-clause-there
loop_met-requires-in-loops-clause-there c =
    loop_in c.args.arena.now.model c.requires.ready.sound c.args.f c.in-Some.l c.requires.there (subst (IsIn c.in-Some.l) (c.into_iter-l-iterator.ensures.into_iter_gives ∙ c.loops_of-l-items.ensures) (yielded_in (λ l. l) c.loops.yielded _ _ _ c.in-Some.l c.loops.yielded_by c.in-Some.ensures.steps))

pub together-sum-requires : goal.together-sum-requires
together-sum-requires c =
    let M = c.args.arena.now.model in
    let few = parts_few c.loops.sum (loop_met M (content M c.in-Some.l)) _ _ (ap (λ ls. together c.loops.sum (loops_met M ls)) (sym c.in-Some.ensures.steps) ∙ c.loops.invariant) (face_few M c.requires.ready.sound c.args.f c.requires.there) in
    record { a = few.0; b = subst IsFew (sym c.loop_met-in-loops.ensures) few.1 }
