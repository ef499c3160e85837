use Rattle.solid_listing.proofs.Prelude.{◌∷◌, err_from_is_err_and, outgoing}
use Rattle.solid_listing.proofs.LineLaws.{spaced_next}
use Rattle.solid_listing.proofs.TellingLaws.{breaks_inside}
use Rattle.solid_listing.proofs.text.put_words.Goals as goal

pub returns-in_err-put_spaced : goal.returns-in_err-put_spaced
returns-in_err-put_spaced g c =
    let d = outgoing (g.W.Write.contents c.put_spaced.new.writer) c.put_spaced.new.text in
    let p = err_from_is_err_and c.from_residual-in_err-put_spaced.result c.from_residual-in_err-put_spaced.ensures.1 in
    rw p.1 (breaks_inside _ _ d _ _ _ (32 ∷ g.I.Integer.text c.n-item.result) c.loop-n.invariant c.in_err-put_spaced.ensures (spaced_next g.I.Integer.text c.args.numbers.now c.loop-n.n-index c.n-item.result c.loop-n-test.true c.n-item.is))
