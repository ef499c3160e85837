use Rattle.low_euler.proofs.Prelude.{sym, ap, ◌∙◌, Table, LoopRow, effect, ring_in, ring_in_goes}
use Rattle.low_euler.proofs.face_operators_laws.Rows.{loop_moved}
use Rattle.low_euler.proofs.face_operators.rings.ring_in.Goals as goal

pub returns : goal.returns
unfolding effect ring_in
returns c =
    let s = c.args.arena.now in let M = s.model in
    c.give_loop.ensures ∙ ap (λ (t : Table LoopRow). record s { model = record M { loops = t } }) (sym (loop_moved M c.args.ring c.args.to (ring_in_goes M c.args.ring c.args.to c.requires.holds).0.l_there))
