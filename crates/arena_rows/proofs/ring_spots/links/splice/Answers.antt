use Rattle.arena_rows.proofs.Prelude.{ap, ◌∙◌, contains_key, RingMap, spot}
use Rattle.arena_rows.proofs.ring_spots_laws.RingMaps.{spot-spliced, known-spliced}
use Rattle.arena_rows.proofs.ring_spots.links.splice.Goals as goal

pub returns : goal.returns
returns c = record {
  spots = ap (λ (m : RingMap). spot m) c.splice.ensures.map ∙ spot-spliced _ _ _;
  known = ap (λ (m : RingMap). contains_key m) c.splice.ensures.map ∙ known-spliced _ _ _;
}
