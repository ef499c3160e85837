use Rattle.solid_walks.proofs.Prelude.{◌≤◌, ℕ, length, IsIn, cycle_of}
use Rattle.solid_walks.proofs.face_walks_laws.CycleWalks.{seen, to_come}
use Rattle.solid_walks.proofs.face_walks.items.least_item.Given as goal

abbrev pub invariant-round : goal.invariant-round
invariant-round l = record {
  at_in : IsIn l.at (cycle_of l.arena.model l.first);
  least_in : IsIn l.least (cycle_of l.arena.model l.first);
  below : (x : ℕ) → IsIn x (seen l.first (cycle_of l.arena.model l.first) l.at) → l.least ≤ x;
}

abbrev pub decreases-round : goal.decreases-round
decreases-round l = length (to_come l.first (cycle_of l.arena.model l.first) l.at)
