use Rattle.split_drawing.proofs.Prelude.{◌≡◌, ◌++◌, map, length, codes, AreSides, PairsThere, pairs_started}
use Rattle.split_drawing.proofs.solid_drawing.places.pairs_started.Given as goal

abbrev pub invariant-pairs : goal.invariant-pairs
invariant-pairs l = record {
  sides : AreSides l.arena.model l.plane l.sides;
  there : PairsThere l.arena.model (map codes l.rest);
  made : map codes l.started.items ++ pairs_started l.arena.model l.plane (map codes l.rest) ≡ pairs_started l.arena.model l.plane (map codes l.pairs);
}

abbrev pub decreases-pairs : goal.decreases-pairs
decreases-pairs l = length l.rest
