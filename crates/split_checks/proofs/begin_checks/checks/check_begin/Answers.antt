use Rattle.std.proofs.Common.{◌≡◌, Some, None, IfOk, IfErr, subst}
use Rattle.split_checks.proofs.begin_checks_laws.Stages.{cut_plane, numbers_refused, range_refused, solid_refused, early_passed, section_decides, on_any}
use Rattle.split_checks.proofs.begin_checks.checks.check_begin.Goals as goal

pub returns-in-Err-clause-refused : goal.returns-in-Err-clause-refused
returns-in-Err-clause-refused c = numbers_refused c.args.arena.now.model c.args.s c.args.plane.now c.args.upper c.in-Err.refusal c.in-Err.ensures

pub returns-in-Err-check_plane-clause-refused : goal.returns-in-Err-check_plane-clause-refused
returns-in-Err-check_plane-clause-refused c = range_refused c.args.arena.now.model c.args.s c.args.plane.now c.args.upper c.in_default.field-0 c.in_default.ensures c.in-Err-check_plane.refusal c.in-Err-check_plane.ensures

pub returns-in-Err-check_solid-clause-refused : goal.returns-in-Err-check_solid-clause-refused
returns-in-Err-check_solid-clause-refused c =
    solid_refused c.args.arena.now.model c.args.s c.args.plane.now c.args.upper c.in_default.field-0 c.in_default.ensures c.in_default-check_plane.field-0 c.in_default-check_plane.ensures
    c.in-Err-check_solid.refusal c.in-Err-check_solid.ensures

pub check_section-requires-clause-plane : goal.check_section-requires-clause-plane
check_section-requires-clause-plane c = cut_plane c.args.arena.now.model c.args.s c.args.plane.now c.args.upper c.in_default-check_plane.field-0 c.in_default-check_plane.ensures

pub returns-clause-begins : goal.returns-clause-begins
returns-clause-begins c = subst (λ o. IfOk c.check_section.result (λ checked. IfOk checked (λ _. o ≡ None)))
    (section_decides c.args.arena.now.model c.args.s c.args.plane.now c.args.upper c.in_default.field-0 c.in_default.ensures c.in_default-check_plane.field-0 c.in_default-check_plane.ensures c.in_default-check_solid.field-0 c.in_default-check_solid.ensures) c.check_section.ensures.accepted

pub returns-clause-refused : goal.returns-clause-refused
returns-clause-refused c = subst (λ o. IfOk c.check_section.result (λ checked. IfErr checked (λ refusal. o ≡ Some refusal)))
    (section_decides c.args.arena.now.model c.args.s c.args.plane.now c.args.upper c.in_default.field-0 c.in_default.ensures c.in_default-check_plane.field-0 c.in_default-check_plane.ensures c.in_default-check_solid.field-0 c.in_default-check_solid.ensures) c.check_section.ensures.refused

pub returns-clause-memory : goal.returns-clause-memory
returns-clause-memory c = on_any c.check_section.result
    (early_passed c.args.arena.now.model c.args.s c.args.plane.now c.args.upper c.in_default.field-0 c.in_default.ensures c.in_default-check_plane.field-0 c.in_default-check_plane.ensures c.in_default-check_solid.field-0 c.in_default-check_solid.ensures)
