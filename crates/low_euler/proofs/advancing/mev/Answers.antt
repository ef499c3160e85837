use Rattle.low_euler.proofs.Stepped.{stepped_grown, mev_back}
use Rattle.low_euler.proofs.advancing.mev.Goals as goal

pub returns-clause-stepped : goal.returns-clause-stepped
returns-clause-stepped c =
    stepped_grown _ _ _ _ _ c.requires.ready c.requires.accepted c.in_ok-room_for_two.ensures.grown c.in_ok-room_for_two.ensures.ok
    c.mev.ensures (mev_back _ _ _ _ _ _) tt
