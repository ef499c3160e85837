use Rattle.gluing.proofs.Prelude.{◌∙◌, ap, not, has_repeats}
use Rattle.gluing.proofs.glue_checks_laws.Keys.{is_met, key, met_more, was_met, first_new}
use Rattle.gluing.proofs.glue_checks.outlines.many_repeat.Goals as goal

pub points-preserved : goal.points-preserved
points-preserved c = first_new c.points.rest.now _ (is_met c.points.met) (is_met c.insert.new.self) (has_repeats c.args.points.now) c.in-len1-up.len_at_least
    (was_met c.points.met _ c.key_of.result c.in_ok-insert.field-0 c.key_of.ensures c.in_ok-insert.ensures.added ∙ ap not c.if-not-branch.false)
    (λ q. met_more _ q c.key_of.result (is_met c.points.met q) (is_met c.insert.new.self q) c.key_of.ensures (c.in_ok-insert.ensures.updates.0 (key q))) c.points.invariant
