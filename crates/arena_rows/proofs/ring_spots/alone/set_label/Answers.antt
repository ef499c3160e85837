use Rattle.arena_rows.proofs.Prelude.{ap, ◌∙◌, contains_key, RingMap}
use Rattle.arena_rows.proofs.ring_spots_laws.RingMaps.{known-with}
use Rattle.arena_rows.proofs.ring_spots_laws.Alone.{labelled_one}
use Rattle.arena_rows.proofs.ring_spots.alone.set_label.Goals as goal

pub returns-clause-spots : goal.returns-clause-spots
returns-clause-spots c = labelled_one c.args.rings.now _ c.args.code c.args.l c.requires.alone c.set_label.ensures

pub returns-clause-known : goal.returns-clause-known
returns-clause-known c = ap (λ (m : RingMap). contains_key m) c.set_label.ensures ∙ (λ i q. known-with c.args.rings.now c.args.code (λ s. record s { label = c.args.l }) q i)
