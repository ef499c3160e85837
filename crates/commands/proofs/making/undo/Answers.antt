use Rattle.commands.proofs.Settling.{settled_move}
use Rattle.commands.proofs.making.undo.Goals as goal

pub returns : goal.returns
returns c =
    let led = c.undo-ended in
    rw c.moved.ensures (settled_move _ _ _ led.result led.ensures.ok led.ensures.refused led.ensures.err)
