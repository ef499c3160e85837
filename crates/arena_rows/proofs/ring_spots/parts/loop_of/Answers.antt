use Rattle.arena_rows.proofs.Prelude.{ap, refl, arith, or_zero}
use Rattle.arena_rows.proofs.ring_spots_laws.LabelLaws.{label_row}
use Rattle.arena_rows.proofs.ring_spots.parts.loop_of.Goals as goal

pub loop_at-requires : goal.loop_at-requires
loop_at-requires c = let below = label_row _ _ _ _ c.requires.whole c.args.code c.requires.there refl in omega (arith, below, ap or_zero c.label.ensures)
