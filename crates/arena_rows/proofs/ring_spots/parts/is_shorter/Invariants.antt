use Rattle.arena_rows.proofs.Prelude.{◌≡◌, ◌-◌, true, spot, codes, live}
use Rattle.arena_rows.proofs.ring_spots_laws.Lengths.{Counted}
use Rattle.arena_rows.proofs.ring_spots.parts.is_shorter.Given as goal

abbrev pub invariant-round : goal.invariant-round
invariant-round l = record {
  round_a : l.p.rings ≡ l.rings;
  round_b : l.q.rings ≡ l.rings;
  live_a : live (spot l.rings) l.p.code ≡ true;
  live_b : live (spot l.rings) l.q.code ≡ true;
  from_a : Counted (spot l.rings) l.a l.p.code l.counter (codes - l.counter);
  from_b : Counted (spot l.rings) l.b l.q.code l.counter (codes - l.counter);
}
