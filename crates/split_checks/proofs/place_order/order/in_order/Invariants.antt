use Rattle.split_checks.proofs.Prelude.{map, length, code, AreSides}
use Rattle.split_checks.proofs.place_order_laws.Sorting.{Sorting}
use Rattle.split_checks.proofs.place_order.order.in_order.Given as goal

abbrev pub invariant-places : goal.invariant-places
invariant-places l = record {
  sides : AreSides l.arena.model l.plane l.sides;
  sorting : Sorting l.arena.model l.plane (map code l.rest) (map code l.places) l.order.entries;
}

abbrev pub decreases-places : goal.decreases-places
decreases-places l = length l.rest
