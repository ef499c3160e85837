use Rattle.solid_measure.proofs.Prelude.{◌∙◌, arith, next_face}
use mir.Syntax.{w128}
use mir.Val.{to_z}
use Rattle.solid_measure.proofs.Volumes.{volume_start, volume_end, sum_fits, sum_held}
use Rattle.solid_measure.proofs.measures.volume_of.Goals as goal

pub faces-init : goal.faces-init
faces-init c = record { most = omega arith; summed = volume_start c.args.arena.now.model c.requires.sound c.args.s }

pub volume_over-sum-requires-clause-there : goal.volume_over-sum-requires-clause-there
volume_over-sum-requires-clause-there c = (next_face c.args.arena.now.model c.requires.sound c.args.s c.faces.last c.in-Some.f c.in-Some.ensures).0

pub overflow_add-sum : goal.overflow_add-sum
overflow_add-sum c =
    sum_fits c.args.arena.now.model c.requires.sound c.args.s (to_z w128 c.faces.sum-bits) c.volume_over-sum.result c.faces.last c.in-Some.f c.faces.invariant.summed c.volume_over-sum.ensures.is c.volume_over-sum.ensures.within c.in-Some.ensures

pub faces-preserved : goal.faces-preserved
faces-preserved c =
    let M = c.args.arena.now.model in let r = c.requires.sound in let s = c.args.s in let f = c.in-Some.f in let last = c.faces.last in record {
      most = (next_face M r s last f c.in-Some.ensures).1;
      summed = sum_held M r s (to_z w128 c.faces.sum-bits) c.volume_over-sum.result last f c.faces.invariant.summed c.volume_over-sum.ensures.is c.volume_over-sum.ensures.within c.in-Some.ensures;
    }

pub returns : goal.returns
returns c = c.faces.invariant.summed ∙ volume_end c.args.arena.now.model c.requires.sound c.args.s c.faces.last c.in_default.ensures
