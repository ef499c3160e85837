use Rattle.solid_measure.proofs.Prelude.{sym, ap, subst, ◌∙◌, arith, IsVectorWithin, moved, items_of, content, ring_there, ring_number, area, area_limit}
use Rattle.solid_measure.proofs.Boundaries.{area_to_limited, area_to_start, area_to_next, area_to_end}
use Rattle.solid_measure.proofs.faces.rings_added.Goals as goal

pub rings-init : goal.rings-init
rings-init c = record { most = omega arith; summed = c.requires.vector ∙ area_to_start c.args.arena.now.model c.requires.ready.sound c.args.f }

pub loop_added-sum-requires-clause-vector : goal.loop_added-sum-requires-clause-vector
loop_added-sum-requires-clause-vector c = subst (IsVectorWithin area_limit) (sym c.rings.invariant.summed) (area_to_limited c.args.arena.now.model c.requires.ready.sound c.args.f c.rings.last)

pub rings-preserved : goal.rings-preserved
rings-preserved c =
    let M = c.args.arena.now.model in let ring = c.in-Some.ring in record {
      most = ring_number M c.requires.ready.sound ring (ring_there M c.args.f ring c.in-Some.ensures.1).0;
      summed = c.loop_added-sum.ensures ∙ ap (λ p. moved p (area M (items_of (content M ring)))) c.rings.invariant.summed ∙ area_to_next M c.requires.ready.sound c.args.f c.rings.last ring c.in-Some.ensures;
    }

pub returns-clause-is : goal.returns-clause-is
returns-clause-is c = c.rings.invariant.summed ∙ area_to_end c.args.arena.now.model c.requires.ready.sound c.args.f c.rings.last c.in_default.ensures

pub returns-clause-within : goal.returns-clause-within
returns-clause-within c = subst (IsVectorWithin area_limit) (sym c.rings.invariant.summed) (area_to_limited c.args.arena.now.model c.requires.ready.sound c.args.f c.rings.last)
