use Rattle.arena_rows.proofs.Prelude.{ap, or_zero, IsLive-next}
use Rattle.arena_rows.proofs.ring_spots_laws.Alone.{cut_off}
use Rattle.arena_rows.proofs.ring_spots.alone.cut_labelled.Goals as goal

pub cut-requires-clause-together : goal.cut-requires-clause-together
cut-requires-clause-together c = (cut_off _ c.requires.whole.rings c.args.a c.args.b (IsLive-next _ _ _ c.requires.follows) (ap or_zero c.requires.follows) c.requires.apart).together
