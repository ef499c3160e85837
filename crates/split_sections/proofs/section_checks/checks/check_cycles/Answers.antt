use Rattle.split_sections.proofs.Prelude.{◌≡◌, ◌∙◌, None, Vec, Global, map, sym, subst, arith, code, AreStarts, first_refusal, verdict_passed, verdict_failed, below_halves, section_conditions, taken_of, Cycle}
use Rattle.split_sections.specs.section_checks.Cycles.{AreCyclesOf}
use Rattle.split_sections.proofs.section_checks_laws.Facts.{there_now, rising_now, few_now, branched_now, next_now, all_now, few_told, few_listed, stray_now, numbers_now}
use Rattle.split_sections.proofs.section_checks_laws.Stages.{told, value_told}
use Rattle.split_sections.proofs.section_checks.checks.check_cycles.Goals as goal

pub starts_of-requires-clause-there : goal.starts_of-requires-clause-there
starts_of-requires-clause-there c = there_now _ c.requires.ready.sound _ _ c.requires.of_solid c.in_ok-halves.halves (c.in_ok-halves.ensures c.args.s c.requires.halves) _ c.as_slice-listed.ensures.value

pub returns-in-Some-clause-refused : goal.returns-in-Some-clause-refused
returns-in-Some-clause-refused c =
    λ r e. told _ _ r (branched_now _ c.requires.ready.sound _ _ c.requires.of_solid c.in_ok-halves.halves (c.in_ok-halves.ensures c.args.s c.requires.halves) _ c.as_slice-listed.ensures.value _ c.in_ok-found.ensures.branched c.args.plane (taken_of c.args.taken) c.in-Some.v c.in-Some.is) e

pub cycles-requires-clause-there : goal.cycles-requires-clause-there
cycles-requires-clause-there c = there_now _ c.requires.ready.sound _ _ c.requires.of_solid c.in_ok-halves.halves (c.in_ok-halves.ensures c.args.s c.requires.halves) _ c.as_slice-listed.ensures.value

pub cycles-requires-clause-starts : goal.cycles-requires-clause-starts
cycles-requires-clause-starts c =
    subst (AreStarts c.args.arena.now.model (map code c.as_slice-listed.result.now)) (sym c.as_slice.ensures.value) (c.in_ok-found.ensures.starts c.in_default.is)

pub cycles-requires-clause-rising : goal.cycles-requires-clause-rising
cycles-requires-clause-rising c = rising_now _ c.requires.ready.sound _ _ c.requires.of_solid c.in_ok-halves.halves (c.in_ok-halves.ensures c.args.s c.requires.halves) _ c.as_slice-listed.ensures.value

pub cycles-requires-clause-next : goal.cycles-requires-clause-next
cycles-requires-clause-next c = next_now _ c.requires.ready.sound _ _ c.requires.of_solid c.in_ok-halves.halves (c.in_ok-halves.ensures c.args.s c.requires.halves) _ c.as_slice-listed.ensures.value _ c.in_ok-found.ensures.branched c.in_default.is

pub has_stray_hole-requires : goal.has_stray_hole-requires
has_stray_hole-requires c =
    few_listed _ c.requires.ready.sound _ _ c.requires.of_solid c.in_ok-halves.halves (c.in_ok-halves.ensures c.args.s c.requires.halves) _ c.as_slice-listed.ensures.value _ c.in_ok-found.ensures.branched c.in_default.is
    c.args.plane c.in_ok-cycles.cycles c.in_ok-cycles.ensures.halves c.in_ok-cycles.ensures.holes _ c.as_slice-2.ensures.value

pub returns-then-has_stray_hole-clause-refused : goal.returns-then-has_stray_hole-clause-refused
returns-then-has_stray_hole-clause-refused c =
    λ r e. told _ _ r (stray_now _ c.requires.ready.sound _ _ c.requires.of_solid c.in_ok-halves.halves (c.in_ok-halves.ensures c.args.s c.requires.halves) _ c.as_slice-listed.ensures.value _ c.in_ok-found.ensures.branched c.in_default.is
    c.args.plane c.in_ok-cycles.cycles c.in_ok-cycles.ensures.halves c.in_ok-cycles.ensures.holes (taken_of c.args.taken) _ c.as_slice-2.ensures.value _ c.has_stray_hole.ensures c.if-has_stray_hole.true) e

pub check_left-requires-clause-edges : goal.check_left-requires-clause-edges
check_left-requires-clause-edges c = omega (arith, few_now _ c.requires.ready.sound _ _ c.requires.of_solid c.in_ok-halves.halves (c.in_ok-halves.ensures c.args.s c.requires.halves) _ c.as_slice-listed.ensures.value, c.len.ensures)

pub check_left-requires-clause-cycles : goal.check_left-requires-clause-cycles
check_left-requires-clause-cycles c =
    omega (
      arith,
      few_told _ c.requires.ready.sound _ _ c.requires.of_solid c.in_ok-halves.halves (c.in_ok-halves.ensures c.args.s c.requires.halves) _ c.as_slice-listed.ensures.value _ c.in_ok-found.ensures.branched c.in_default.is
          c.args.plane c.in_ok-cycles.cycles c.in_ok-cycles.ensures.halves c.in_ok-cycles.ensures.holes,
      c.len-2.ensures,
    )

pub returns-in-Ok-clause-open : goal.returns-in-Ok-clause-open
returns-in-Ok-clause-open c =
    let numbers = numbers_now _ c.requires.ready.sound _ _ c.requires.of_solid c.in_ok-halves.halves (c.in_ok-halves.ensures c.args.s c.requires.halves) _ c.as_slice-listed.ensures.value _ c.in_ok-found.ensures.branched c.in_default.is
    c.args.plane c.in_ok-cycles.cycles c.in_ok-cycles.ensures.halves c.in_ok-cycles.ensures.holes (taken_of c.args.taken) _ c.as_slice-2.ensures.value _ c.has_stray_hole.ensures c.if-has_stray_hole.false c.len.result c.len-2.result c.len.ensures c.len-2.ensures in
    λ v e.
    value_told (λ (v : Vec Cycle Global). (first_refusal (section_conditions c.args.arena.now.model c.args.s c.args.plane (taken_of c.args.taken) (below_halves c.args.arena.now.model c.args.above.now c.args.s)) ≡ None)
    × AreCyclesOf c.args.arena.now.model c.args.plane (below_halves c.args.arena.now.model c.args.above.now c.args.s) v.items)
    c.in_ok-cycles.cycles v (
      numbers ∙ verdict_passed _ _ c.in-Ok.ensures,
      all_now _ c.requires.ready.sound _ _ c.requires.of_solid c.in_ok-halves.halves (c.in_ok-halves.ensures c.args.s c.requires.halves) _ c.as_slice-listed.ensures.value _ c.in_ok-found.ensures.branched c.in_default.is
          c.args.plane c.in_ok-cycles.cycles c.in_ok-cycles.ensures.halves c.in_ok-cycles.ensures.holes,
    ) e

pub returns-clause-refused : goal.returns-clause-refused
returns-clause-refused c =
    let numbers = numbers_now _ c.requires.ready.sound _ _ c.requires.of_solid c.in_ok-halves.halves (c.in_ok-halves.ensures c.args.s c.requires.halves) _ c.as_slice-listed.ensures.value _ c.in_ok-found.ensures.branched c.in_default.is
    c.args.plane c.in_ok-cycles.cycles c.in_ok-cycles.ensures.halves c.in_ok-cycles.ensures.holes (taken_of c.args.taken) _ c.as_slice-2.ensures.value _ c.has_stray_hole.ensures c.if-has_stray_hole.false c.len.result c.len-2.result c.len.ensures c.len-2.ensures in
    λ r e. told _ _ r (numbers ∙ verdict_failed _ _ c.in-Err.ensures) e
