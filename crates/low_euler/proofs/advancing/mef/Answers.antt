use Rattle.low_euler.proofs.Stepped.{stepped_grown, mef_back}
use Rattle.low_euler.proofs.advancing.mef.Goals as goal

pub returns-clause-stepped : goal.returns-clause-stepped
returns-clause-stepped c =
    stepped_grown _ _ _ _ _ c.requires.ready c.requires.accepted c.in_ok-room_for_three.ensures.grown c.in_ok-room_for_three.ensures.ok
    c.mef.ensures (mef_back _ _ _ _ _ _) tt
