use Rattle.split_sections.proofs.Prelude.{◌-◌, length, FiltersInPlace, code, lies_below}
use Rattle.split_sections.proofs.section_edges.halves.keep_below.Given as goal

abbrev pub invariant-halves : goal.invariant-halves
invariant-halves l = FiltersInPlace (λ h. lies_below l.arena.model l.above (code h)) l.fn.halves.items l.halves.items l.kept l.i

abbrev pub decreases-halves : goal.decreases-halves
decreases-halves l = length l.fn.halves.items - l.i
