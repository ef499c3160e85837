use Rattle.solid_measure.proofs.Prelude.{ℕ, Option, Some, None, IfSome, sym, subst, ◌∙◌, IsVectorWithin, Model, Sound, IsNextRing, Frame, area_limit, IsFrame, IsOuterFrame}
use Rattle.solid_measure.proofs.Boundaries.{area_to_limited, area_to_start, area_to_end}
use Rattle.solid_measure.proofs.faces.short_frame.Goals as goal

-- what the outer loop sweeps is the normal of a face with no ring
outer_alone : (M : Model) (f : ℕ) (o : Option Frame) → Sound M → IsNextRing M f 0 None → IfSome o (IsOuterFrame M f) → IfSome o (IsFrame M f)
outer_alone M f None sound none outer = outer
outer_alone M f (Some found) sound none outer =
    let start = outer.summed ∙ area_to_start M sound f in record {
      summed = start ∙ area_to_end M sound f 0 none;
      within = subst (IsVectorWithin area_limit) (sym start) (area_to_limited M sound f 0);
      anchored = outer.anchored;
      range = outer.range;
    }

pub returns-in-None : goal.returns-in-None
returns-in-None c = outer_alone c.args.arena.now.model c.args.f c.outer_frame.result c.requires.ready.sound c.in-None.ensures c.outer_frame.ensures.frame
