use Rattle.arena_rows.proofs.Prelude.{◌≡◌, ◌-◌, contains_key, spot, IsIn, walk_to, codes, next, ring, PartlyLabelled}
use Rattle.arena_rows.proofs.ring_spots.links.set_labels.Given as goal

abbrev pub invariant-round : goal.invariant-round
invariant-round l = record {
  done : PartlyLabelled (spot l.initial.rings) (spot l.rings) l.l (ring (spot l.initial.rings) l.from) (walk_to (next (spot l.initial.rings)) l.from l.h (codes - l.counter));
  here : IsIn l.h (ring (spot l.initial.rings) l.from);
  known : contains_key l.rings ≡ contains_key l.initial.rings;
}
