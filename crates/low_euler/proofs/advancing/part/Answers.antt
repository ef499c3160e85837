use Rattle.low_euler.proofs.Stepped.{stepped_grown, part_back}
use Rattle.low_euler.proofs.advancing.part.Goals as goal

pub returns-clause-stepped : goal.returns-clause-stepped
returns-clause-stepped c =
    stepped_grown _ _ _ _ _ c.requires.ready c.requires.accepted c.in_ok-room_for_one.ensures.grown c.in_ok-room_for_one.ensures.ok
    c.part.ensures (part_back _ _ _ _) tt
