use Rattle.split_sections.proofs.Prelude.{◌≡◌, ◌++◌, map, length, code, AreThere, start_at}
use Rattle.split_sections.proofs.section_cycles.starts.sorted_starts.Given as goal

abbrev pub invariant-halves : goal.invariant-halves
invariant-halves l = record {
  there : AreThere l.arena.model (map code l.rest);
  made : (l.starts.items ++ map (start_at l.arena.model) l.rest) ≡ map (start_at l.arena.model) l.halves;
}

abbrev pub decreases-halves : goal.decreases-halves
decreases-halves l = length l.rest
