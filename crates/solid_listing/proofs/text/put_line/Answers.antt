use Rattle.solid_listing.proofs.Prelude.{List, ℕ, [], ◌∷◌, ◌++◌, map, subst, append_assoc, err_from_is_err_and, spaced, outgoing, Tells}
use Rattle.solid_listing.proofs.TellingLaws.{Breaks, Breaks-longer, tells_after}
use Rattle.solid_listing.proofs.text.put_line.Goals as goal

pub returns-in_err-put_words : goal.returns-in_err-put_words
returns-in_err-put_words g c =
    let a = outgoing (g.W.Write.contents c.args.writer.now) c.args.text.now in let b = outgoing (g.W.Write.contents c.put_words.new.writer) c.put_words.new.text in
    let words = spaced (map g.I.Integer.text c.args.numbers.now) in
    let p = err_from_is_err_and c.from_residual.result c.from_residual.ensures.1 in
    rw p.1 (subst (Breaks a b) (append_assoc c.args.name.now words (10 ∷ [])) (Breaks-longer a b (c.args.name.now ++ words) (10 ∷ []) c.in_err-put_words.ensures))

pub returns : goal.returns
returns g c =
    let a = outgoing (g.W.Write.contents c.args.writer.now) c.args.text.now in let b = outgoing (g.W.Write.contents c.put_words.new.writer) c.put_words.new.text in let d = outgoing (g.W.Write.contents c.put.new.writer) c.put.new.text in
    let words = spaced (map g.I.Integer.text c.args.numbers.now) in
    subst (λ (t : List ℕ). Tells a d t c.put.result) (append_assoc c.args.name.now words (10 ∷ []))
    (tells_after a b d (c.args.name.now ++ words) (10 ∷ []) c.put.result c.in_ok-put_words.ensures c.put.ensures)
