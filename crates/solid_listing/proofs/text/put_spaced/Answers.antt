use Rattle.solid_listing.proofs.Prelude.{[], ◌∷◌, err_from_is_err_and}
use Rattle.solid_listing.proofs.TellingLaws.{Breaks-longer, tells_after}
use Rattle.solid_listing.specs.Writing.{outgoing}
use Rattle.solid_listing.proofs.text.put_spaced.Goals as goal

pub returns-in_err-put : goal.returns-in_err-put
returns-in_err-put g c =
    let p = err_from_is_err_and c.from_residual.result c.from_residual.ensures.1 in
    rw p.1 (Breaks-longer (outgoing (g.W.Write.contents c.args.writer.now) c.args.text.now) (outgoing (g.W.Write.contents c.put.new.writer) c.put.new.text) (32 ∷ []) (g.I.Integer.text c.args.number) c.in_err-put.ensures)

pub returns : goal.returns
returns g c =
    tells_after (outgoing (g.W.Write.contents c.args.writer.now) c.args.text.now) (outgoing (g.W.Write.contents c.put.new.writer) c.put.new.text) (outgoing (g.W.Write.contents c.put_number.new.writer) c.put_number.new.text) (32 ∷ []) (g.I.Integer.text c.args.number)
    c.put_number.result c.in_ok-put.ensures c.put_number.ensures
