use Rattle.solid_measure.proofs.Prelude.{length, sym, ap, subst, ◌∙◌, arith, length-append, IsIn, rings_of, loops_of, loops_in, face_in, yielded_in, rings_in, IsFew, together, loops_met}
use Rattle.solid_measure.proofs.solid_counts_laws.Sums.{nothing_together, loops-append}
use Rattle.solid_measure.proofs.solid_counts_laws.FaceSums.{parts_few, counted_more, solid_few, rings_few}
use Rattle.solid_measure.proofs.solid_counts.solids.solid_met.Goals as goal

pub faces-init : goal.faces-init
faces-init c =
    let M = c.args.arena.now.model in record {
      met = nothing_together _ ∙ ap (λ fs. loops_met M (loops_in M fs)) (c.into_iter-f-iterator.ensures.into_iter_gives ∙ c.faces_of-f-items.ensures);
      rings = omega (arith, ap (λ fs. length (rings_in M fs)) (c.into_iter-f-iterator.ensures.into_iter_gives ∙ c.faces_of-f-items.ensures));
    }

pub face_met-requires-clause-there : goal.face_met-requires-clause-there
face_met-requires-clause-there c =
    face_in c.args.arena.now.model c.requires.sound c.args.s c.in-Some.f (subst (IsIn c.in-Some.f) (c.into_iter-f-iterator.ensures.into_iter_gives ∙ c.faces_of-f-items.ensures) (yielded_in (λ f. f) c.faces.yielded _ _ _ c.in-Some.f c.faces.yielded_by c.in-Some.ensures.steps))

pub ring_count-more-requires : goal.ring_count-more-requires
ring_count-more-requires c =
    face_in c.args.arena.now.model c.requires.sound c.args.s c.in-Some.f (subst (IsIn c.in-Some.f) (c.into_iter-f-iterator.ensures.into_iter_gives ∙ c.faces_of-f-items.ensures) (yielded_in (λ f. f) c.faces.yielded _ _ _ c.in-Some.f c.faces.yielded_by c.in-Some.ensures.steps))

pub together-sum-requires : goal.together-sum-requires
together-sum-requires c =
    let M = c.args.arena.now.model in
    let few = parts_few c.faces.sum (loops_met M (loops_of M c.in-Some.f)) _ _
    (ap (together c.faces.sum) (sym (loops-append M (loops_of M c.in-Some.f) (loops_in M c.next.new.self))) ∙ ap (λ fs. together c.faces.sum (loops_met M (loops_in M fs))) (sym c.in-Some.ensures.steps) ∙ c.faces.invariant.met)
    (solid_few M c.requires.sound c.args.s) in
    record { a = few.0; b = subst IsFew (sym c.face_met.ensures) few.1 }

pub overflow_add-rings : goal.overflow_add-rings
overflow_add-rings c =
    let M = c.args.arena.now.model in
    omega (arith, c.faces.invariant.rings, ap (λ fs. length (rings_in M fs)) c.in-Some.ensures.steps, c.ring_count-more.ensures, length-append (rings_of M c.in-Some.f) (rings_in M c.next.new.self), rings_few M c.requires.sound c.args.s)

pub faces-preserved : goal.faces-preserved
faces-preserved c =
    let M = c.args.arena.now.model in record {
      met = counted_more c.faces.sum (loops_met M (loops_of M c.in-Some.f)) _ _
          (ap (together c.faces.sum) (sym (loops-append M (loops_of M c.in-Some.f) (loops_in M c.next.new.self))) ∙ ap (λ fs. together c.faces.sum (loops_met M (loops_in M fs))) (sym c.in-Some.ensures.steps) ∙ c.faces.invariant.met)
          c.together-sum.result (c.together-sum.ensures ∙ ap (together c.faces.sum) c.face_met.ensures);
      rings = omega (arith, c.faces.invariant.rings, ap (λ fs. length (rings_in M fs)) c.in-Some.ensures.steps, c.ring_count-more.ensures, length-append (rings_of M c.in-Some.f) (rings_in M c.next.new.self));
    }

pub returns-clause-rings : goal.returns-clause-rings
returns-clause-rings c = let M = c.args.arena.now.model in omega (arith, c.faces.invariant.rings, ap (λ fs. length (rings_in M fs)) c.in-None.ensures.steps.0)
