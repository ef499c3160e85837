use Rattle.split_sections.proofs.Prelude.{◌≡◌, ◌∙◌, List, ℕ, map, true, Ok, None, Some, sym, ap, subst, code, strictly_rises, first_refusal, AreOf, taken_of, below_halves, faces_above, section_conditions, AreCyclesOf, AreSectionHalves, IsSection, lying_below}
use Rattle.split_sections.proofs.section_checks_laws.Above.{above_rises, above_of}
use Rattle.split_sections.proofs.section_edges_laws.SectionHalves.{mates_there, section_halves}
use Rattle.split_sections.specs.declared.section_checks.section.Section.{Section}
use Rattle.split_sections.proofs.section_checks_laws.Stages.{told, value_told}
use Rattle.split_sections.proofs.section_checks.checks.find_section.Goals as goal

pub check_cycles-requires-clause-rising : goal.check_cycles-requires-clause-rising
check_cycles-requires-clause-rising c =
    let M = c.args.arena.now.model in
    subst (λ (fs : List ℕ). strictly_rises fs ≡ true) (sym (c.as_slice.ensures.value ∙ c.in_ok-looked.ensures.above)) (above_rises M c.requires.ready.sound c.args.s c.args.plane.now)

pub check_cycles-requires-clause-of_solid : goal.check_cycles-requires-clause-of_solid
check_cycles-requires-clause-of_solid c =
    let M = c.args.arena.now.model in
    subst (λ (fs : List ℕ). AreOf M fs c.args.s) (sym (c.as_slice.ensures.value ∙ c.in_ok-looked.ensures.above)) (above_of M c.requires.ready.sound c.args.s c.args.plane.now)

pub check_cycles-requires-clause-there : goal.check_cycles-requires-clause-there
check_cycles-requires-clause-there c = mates_there c.args.arena.now.model c.requires.ready.sound c.args.plane.now c.args.s _ c.in_ok-looked.ensures.mates

pub check_cycles-requires-clause-halves : goal.check_cycles-requires-clause-halves
check_cycles-requires-clause-halves c =
    let M = c.args.arena.now.model in let hs = map code c.in_ok-looked.looked.mates.items in
    subst (λ (fs : List ℕ). AreSectionHalves M fs c.args.s (lying_below M fs hs)) (sym (c.as_slice.ensures.value ∙ c.in_ok-looked.ensures.above))
    (section_halves M c.requires.ready.sound c.args.plane.now c.args.s hs c.in_ok-looked.ensures.mates)

pub returns-in-Ok-clause-open : goal.returns-in-Ok-clause-open
returns-in-Ok-clause-open c = λ q e.
    let conditions = λ (fs : List ℕ). first_refusal (section_conditions c.args.arena.now.model c.args.s c.args.plane.now (taken_of c.args.taken) (below_halves c.args.arena.now.model fs c.args.s)) in
    let r = subst (λ (fs : List ℕ). (conditions fs ≡ None) × AreCyclesOf c.args.arena.now.model c.args.plane.now (below_halves c.args.arena.now.model fs c.args.s) c.in-Ok.cycles.items)
    (c.as_slice.ensures.value ∙ c.in_ok-looked.ensures.above) (c.in_ok-cycles.ensures.open c.in-Ok.cycles (ap Ok c.in-Ok.is)) in
    value_told (λ (q : Section). (conditions (faces_above c.args.arena.now.model c.args.plane.now c.args.s) ≡ None) × IsSection c.args.arena.now.model c.args.s c.args.plane.now q) (record { above = c.in_ok-looked.looked.above; cycles = c.in-Ok.cycles }) q
    (r.0, record { above = c.in_ok-looked.ensures.above; cycles = r.1.cycles; holes = r.1.holes }) e

pub returns-in-Err-clause-refused : goal.returns-in-Err-clause-refused
returns-in-Err-clause-refused c = λ r e.
    told _ _ r (subst (λ (fs : List ℕ). first_refusal (section_conditions c.args.arena.now.model c.args.s c.args.plane.now (taken_of c.args.taken) (below_halves c.args.arena.now.model fs c.args.s)) ≡ Some c.in-Err.refusal)
    (c.as_slice.ensures.value ∙ c.in_ok-looked.ensures.above) (c.in_ok-cycles.ensures.refused c.in-Err.refusal (ap Ok c.in-Err.is))) e
