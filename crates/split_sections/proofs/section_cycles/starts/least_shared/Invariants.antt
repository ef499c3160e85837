use Rattle.split_sections.proofs.Prelude.{◌≡◌, length, start_vertices}
use Rattle.split_sections.proofs.section_cycles_laws.Started.{shared_after}
use Rattle.split_sections.proofs.section_cycles.starts.least_shared.Given as goal

abbrev pub invariant-starts : goal.invariant-starts
invariant-starts l = shared_after l.before (start_vertices l.rest) ≡ shared_after 0 (start_vertices l.starts)

abbrev pub decreases-starts : goal.decreases-starts
decreases-starts l = length l.rest
