use Rattle.split_sections.proofs.Prelude.{◌≡◌, ◌++◌, ◌∷◌, map, length, not, IsIn, SameItems, code, cycle_of, is_above, start, to_come, low_mates}
use Rattle.split_checks.specs.cut_places.Noted.{AreSides}
use Rattle.split_sections.proofs.section_edges.halves.push_mates_round.Given as goal

abbrev pub invariant-round : goal.invariant-round
invariant-round l = record {
  at_in : IsIn l.at (cycle_of l.arena.model l.first);
  sides : AreSides l.arena.model l.plane l.sides;
  low : l.low ≡ not (is_above l.plane (start l.arena.model l.at));
  mates : SameItems (map code l.mates.items ++ low_mates l.arena.model l.plane (l.at ∷ to_come l.first (cycle_of l.arena.model l.first) l.at))
      (map code l.fn.mates.items ++ low_mates l.arena.model l.plane (cycle_of l.arena.model l.first));
}

abbrev pub decreases-round : goal.decreases-round
decreases-round l = length (to_come l.first (cycle_of l.arena.model l.first) l.at)
