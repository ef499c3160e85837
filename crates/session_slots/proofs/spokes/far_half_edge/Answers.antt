use Rattle.std.proofs.Common.{arith}
use Rattle.session_slots.proofs.Spoken.{start_at_all}
use Rattle.session_slots.proofs.spokes.far_half_edge.Goals as goal

pub returns : goal.returns
returns c = start_at_all c.args.arena.now.model c.requires.sound c.args.v c.rising_place-low.result _ (omega arith) c.in_default.ensures _ c.start_within-2.ensures
