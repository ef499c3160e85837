use Rattle.split_checks.proofs.Prelude.{◌≡◌, ◌++◌, map, length, list_all, in_pairs, is_up_and_down, up_first, codes, AreThere, places_of}
use Rattle.split_checks.specs.Common.{AreSides}
use Rattle.split_checks.proofs.face_pairs.pairs.push_in_order.Given as goal

abbrev pub invariant-pairs : goal.invariant-pairs
invariant-pairs l = record {
  sides : AreSides l.arena.model l.plane l.sides;
  there : AreThere l.arena.model (places_of l.left.entries);
  differ : list_all (is_up_and_down l.arena.model l.plane) (in_pairs (places_of l.left.entries)) ≡ list_all (is_up_and_down l.arena.model l.plane) (in_pairs (places_of l.fn.order.entries));
  made : map codes l.pairs.items ++ map (up_first l.arena.model l.plane) (in_pairs (places_of l.left.entries))
      ≡ map codes l.fn.pairs.items ++ map (up_first l.arena.model l.plane) (in_pairs (places_of l.fn.order.entries));
}

abbrev pub decreases-pairs : goal.decreases-pairs
decreases-pairs l = length l.left.entries
