use Rattle.split_sections.proofs.Prelude.{map, length, code, AreThere, read}
use Rattle.split_sections.proofs.section_cycles_laws.Sums.{Summed}
use Rattle.split_sections.proofs.section_cycles.holes.mates_area.Given as goal

abbrev pub invariant-halves : goal.invariant-halves
invariant-halves l = record {
  there : AreThere l.arena.model (map code l.rest);
  sum : Summed l.arena.model (map code l.halves) (map code l.rest) (read l.area);
}

abbrev pub decreases-halves : goal.decreases-halves
decreases-halves l = length l.rest
