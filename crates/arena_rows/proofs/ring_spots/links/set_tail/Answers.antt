use Rattle.arena_rows.proofs.Prelude.{ap, ◌∙◌, contains_key, RingMap, spot}
use Rattle.arena_rows.proofs.ring_spots_laws.RingMaps.{spot-tail, known-tail}
use Rattle.arena_rows.proofs.ring_spots.links.set_tail.Goals as goal

pub returns : goal.returns
returns c = record {
  spots = ap (λ (m : RingMap). spot m) c.set_tail.ensures ∙ spot-tail _ _ _;
  known = ap (λ (m : RingMap). contains_key m) c.set_tail.ensures ∙ known-tail _ _ _;
}
