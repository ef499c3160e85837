use Rattle.script_running.proofs.Prelude.{Ok, Appends-kept, RunFault, released}
use Rattle.script_running.proofs.running.bring_out.Goals as goal

pub returns-in-Ok-hand_on-clause-tells : goal.returns-in-Ok-hand_on-clause-tells
returns-in-Ok-hand_on-clause-tells g c =
    let a = g.W.Write.contents c.args.writer.now in let b = g.W.Write.contents c.release.new.writer in let d = g.W.Write.contents c.hand_on.new.self in
    released {A = Unit {0}} {E = RunFault} a d c.args.text.now c.release.new.text (Ok tt) (Appends-kept a b d c.args.text.now c.in-Ok.ensures.puts c.in-Ok-hand_on.ensures.bytes) c.release.ensures.none
