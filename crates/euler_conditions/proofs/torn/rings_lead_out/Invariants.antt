use Rattle.euler_conditions.proofs.Prelude.{ℕ, ◌≡◌, ◌≤◌, ◌-◌, true, is_ring_of, StaysIn}
use Rattle.euler_conditions.proofs.torn.rings_lead_out.Given as goal

abbrev pub invariant-rings : goal.invariant-rings
invariant-rings l = record {
  most : l.last ≤ 1000000;
  met : (k : ℕ) → k ≤ l.last → is_ring_of l.arena.model l.f k ≡ true → StaysIn l.arena.model l.listed_faces k;
}

abbrev pub decreases-rings : goal.decreases-rings
decreases-rings l = 1000000 - l.last
