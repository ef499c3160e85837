use Rattle.solid_listing.proofs.Prelude.{◌≡◌, sym, subst, ℕ, List, [], ◌∷◌, ◌++◌, codes, decimal, err_from_is_err_and, Loop, Model, content, spaced, line_text, line, content_words, outgoing}
use Rattle.solid_listing.proofs.LineLaws.{line_parts}
use Rattle.solid_listing.proofs.TellingLaws.{Breaks, Breaks-longer, Breaks-after, tells_as, tells_after}
use Rattle.solid_listing.proofs.entry.write_loop.Goals as goal

-- the first words of the line, what the loop holds, and the newline
abbrev head : ℕ → List ℕ
head l = codes "loop" ++ spaced (decimal l ∷ [])

abbrev held : Model → ℕ → List ℕ
held M l = spaced (content_words (content M l))

parts : (M : Model) (l : ℕ) → line_text (line M Loop l) ≡ head l ++ (held M l ++ 10 ∷ [])
parts M l = line_parts (codes "loop") (decimal l ∷ []) (content_words (content M l))

pub returns-in_err-put_words : goal.returns-in_err-put_words
returns-in_err-put_words g c =
    let a = outgoing (g.W.Write.contents c.args.writer.now) c.args.text.now in
    let b = outgoing (g.W.Write.contents c.put_words.new.writer) c.put_words.new.text in
    let p = err_from_is_err_and c.from_residual.result c.from_residual.ensures.1 in
    rw p.1 (subst (Breaks a b) (sym (parts _ _)) (Breaks-longer a b (head c.args.l) _ c.in_err-put_words.ensures))

pub returns-in_err-write_content : goal.returns-in_err-write_content
returns-in_err-write_content g c =
    let a = outgoing (g.W.Write.contents c.args.writer.now) c.args.text.now in
    let b = outgoing (g.W.Write.contents c.put_words.new.writer) c.put_words.new.text in
    let d = outgoing (g.W.Write.contents c.write_content.new.writer) c.write_content.new.text in
    let p = err_from_is_err_and c.from_residual-in_err-write_content.result c.from_residual-in_err-write_content.ensures.1 in
    rw p.1 (subst (Breaks a d) (sym (parts _ _)) (Breaks-after a b d (head c.args.l) _ c.in_ok-put_words.ensures (Breaks-longer b d (held c.args.arena.now.model c.args.l) (10 ∷ []) c.in_err-write_content.ensures)))

pub returns : goal.returns
returns g c =
    let e = outgoing (g.W.Write.contents c.put.new.writer) c.put.new.text in
    tells_as _ e _ _ c.put.result (sym (parts _ _)) (tells_after _ _ e (head c.args.l) _ c.put.result c.in_ok-put_words.ensures (tells_after _ _ e (held c.args.arena.now.model c.args.l) (10 ∷ []) c.put.result c.in_ok-write_content.ensures c.put.ensures))
