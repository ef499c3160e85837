use Rattle.split_checks.proofs.Prelude.{◌≡◌, ◌∷◌, length, IsIn, height, sign_of, cycle_of, start, to_come, AreSides}
use Rattle.split_checks.proofs.cut_places_laws.Met.{Walked}
use Rattle.split_checks.proofs.cut_places.looking.look_round.Given as goal

abbrev pub invariant-round : goal.invariant-round
invariant-round l = record {
  at_in : IsIn l.at (cycle_of l.arena.model l.first);
  side : l.from ≡ sign_of (height l.plane (start l.arena.model l.at));
  sides : AreSides l.arena.model l.plane l.sides;
  walked : Walked l.arena.model l.plane l.fn.looked l.looked (l.at ∷ to_come l.first (cycle_of l.arena.model l.first) l.at) (cycle_of l.arena.model l.first);
}

abbrev pub decreases-round : goal.decreases-round
decreases-round l = length (to_come l.first (cycle_of l.arena.model l.first) l.at)
