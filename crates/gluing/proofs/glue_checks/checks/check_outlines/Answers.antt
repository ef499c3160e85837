use Rattle.gluing.proofs.Prelude.{◌≡◌, ◌∙◌, ap, sym, false, reverse, has_repeats, is_rotation, outline}
use Rattle.gluing.proofs.glue_checks_laws.Conditions.{no_match}
use Rattle.gluing.proofs.glue_checks_laws.Points.{repeats_turned}
use Rattle.gluing.proofs.glue_checks.checks.check_outlines.Goals as goal

pub is_rotation-requires : goal.is_rotation-requires
is_rotation-requires c =
    ap has_repeats (c.as_slice-4.ensures.value ∙ c.backwards.ensures) ∙ repeats_turned c.in_ok-others.others.items ∙ ap has_repeats (sym c.as_slice-2.ensures.value) ∙ sym c.in_ok-has_repeats-2.ensures ∙ c.if-branch-2.false

pub returns-then-not-is_rotation : goal.returns-then-not-is_rotation
returns-then-not-is_rotation c =
    let M = c.args.arena.now.model in let f = c.args.f in let g = c.args.other in
    let first : has_repeats (outline M f) ≡ false = sym (ap has_repeats (c.as_slice.ensures.value ∙ c.in_ok-points.ensures)) ∙ sym c.in_ok-has_repeats.ensures ∙ c.if-branch.false in
    let second : has_repeats (outline M g) ≡ false = sym (ap has_repeats (c.as_slice-2.ensures.value ∙ c.in_ok-others.ensures)) ∙ sym c.in_ok-has_repeats-2.ensures ∙ c.if-branch-2.false in
    let turned : is_rotation (outline M f) (reverse (outline M g)) ≡ false =
    sym (λ i. is_rotation ((c.as_slice-3.ensures.value ∙ c.in_ok-points.ensures) i) ((c.as_slice-4.ensures.value ∙ c.backwards.ensures ∙ ap reverse c.in_ok-others.ensures) i)) ∙ sym c.is_rotation.ensures ∙ c.if-not-is_rotation.true in
    no_match M f g c.refused-then-not-is_rotation.result first second turned c.refused-then-not-is_rotation.ensures
