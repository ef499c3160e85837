use Rattle.split_checks.proofs.Prelude.{◌≡◌, ◌++◌, map, length, first_such, cut_at, AreCrossing, is_off}
use Rattle.split_checks.proofs.begin_checks.crossings.cut_edges.Given as goal

abbrev pub invariant-edges : goal.invariant-edges
invariant-edges l = record {
  crossing : AreCrossing l.arena.model l.plane l.rest;
  first : first_such (is_off l.arena.model l.plane) l.rest ≡ first_such (is_off l.arena.model l.plane) l.edges;
  made : l.cut.items ++ map (cut_at l.arena.model l.plane) l.rest ≡ map (cut_at l.arena.model l.plane) l.edges;
}

abbrev pub decreases-edges : goal.decreases-edges
decreases-edges l = length l.rest
