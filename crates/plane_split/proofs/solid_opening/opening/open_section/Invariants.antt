use Rattle.plane_split.proofs.Prelude.{◌≡◌, length, map, is_hole, all_opened, CanBeOpenedInTurn, openings_ops, cycles_of, halves_of, opening_of, unopened, opened_section, after_steps, IsFurther}
use Rattle.plane_split.proofs.solid_opening.opening.open_section.Given as goal

abbrev pub invariant-cycles : goal.invariant-cycles
invariant-cycles l = record {
  opens : CanBeOpenedInTurn l.section.above.items l.s (opening_of l.draft.model l.taken l.caps.items) (map halves_of l.rest);
  holes : map (λ q. q.hole) l.rest ≡ map (is_hole l.draft.model l.plane) (map halves_of l.rest);
  made : all_opened l.plane l.section.above.items l.s (opening_of l.draft.model l.taken l.caps.items) (map halves_of l.rest) ≡ opened_section l.fn.draft.model l.fn.from l.s l.plane l.section;
  steps : after_steps l.draft (openings_ops l.section.above.items l.s l.plane (opening_of l.draft.model l.taken l.caps.items) (map halves_of l.rest))
      ≡ after_steps l.fn.draft (openings_ops l.section.above.items l.s l.plane (unopened l.fn.draft.model l.fn.from) (cycles_of l.section));
  further : IsFurther l.fn.draft l.draft;
}

abbrev pub decreases-cycles : goal.decreases-cycles
decreases-cycles l = length l.rest
