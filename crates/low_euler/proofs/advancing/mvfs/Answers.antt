use Rattle.low_euler.proofs.Stepped.{stepped_grown, mvfs_back}
use Rattle.low_euler.proofs.advancing.mvfs.Goals as goal

pub returns-clause-stepped : goal.returns-clause-stepped
returns-clause-stepped c =
    stepped_grown _ _ _ _ _ c.requires.ready c.requires.accepted c.in_ok-room_for_solid.ensures.grown c.in_ok-room_for_solid.ensures.ok
    c.mvfs.ensures (mvfs_back _ _ _ _ _ _) tt
