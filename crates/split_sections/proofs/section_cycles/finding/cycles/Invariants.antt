use Rattle.split_sections.proofs.Prelude.{map, length, nat_cmp, contains, code, next_below, halves_of}
use Rattle.split_sections.proofs.section_cycles_laws.Found.{Finding}
use Rattle.split_sections.proofs.section_cycles_laws.Whole.{AreTold}
use Rattle.split_sections.proofs.section_cycles.finding.cycles.Given as goal

abbrev pub invariant-halves : goal.invariant-halves
invariant-halves l = record {
  found : Finding (next_below l.arena.model (map code l.halves)) (map code l.halves) (map code l.rest) (map halves_of l.cycles.items) (contains nat_cmp l.met);
  holes : AreTold l.arena.model l.plane l.cycles.items;
}

abbrev pub decreases-halves : goal.decreases-halves
decreases-halves l = length l.rest
