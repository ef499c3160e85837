use Rattle.solid_listing.proofs.Prelude.{◌≡◌, ◌∙◌, sym, ap, subst, ℕ, List, [], ◌∷◌, decimal, cond, refl, err_from_is_err_and, HalfEdge, code, edge_of, edge_of-code, is_first-code, half_word, Gathers, outgoing, Tells}
use Rattle.solid_listing.proofs.TellingLaws.{Breaks, Breaks-longer, tells_after}
use Rattle.solid_listing.proofs.cycle.put_half.Goals as goal
use Rattle.solid_listing.proofs.cycle.put_half.Goals.{then-h, else-h}

-- the word of a half-edge
half_word_is : (h : HalfEdge) → half_word (code h) ≡ cond h.first 43 45 ∷ decimal h.edge
half_word_is h = ap (λ b. cond b 43 45 ∷ decimal (edge_of (code h))) (is_first-code h) ∙ ap (λ e. cond h.first 43 45 ∷ decimal e) (edge_of-code h)

pub returns-in_err-put : goal.returns-in_err-put
returns-in_err-put g c =
    let a = outgoing (g.W.Write.contents c.args.writer.now) c.args.text.now in let b = outgoing (g.W.Write.contents c.put.new.writer) c.put.new.text in let h = c.args.h in
    let sign : c.if-h.put.now ≡ 32 ∷ cond h.first 43 45 ∷ [] = elim c.if-h.branch [ then-h w ↦ rw (w.put-is, w.if-h.true) refl | else-h w ↦ rw (w.put-is, w.if-h.false) refl ] in
    let p = err_from_is_err_and c.from_residual.result c.from_residual.ensures.1 in
    rw p.1 (subst (Breaks a b) (ap (λ (t : List ℕ). 32 ∷ t) (sym (half_word_is h))) (Breaks-longer a b (32 ∷ cond h.first 43 45 ∷ []) (decimal h.edge) (subst (Breaks a b) sign c.in_err-put.ensures)))

pub returns : goal.returns
returns g c =
    let a = outgoing (g.W.Write.contents c.args.writer.now) c.args.text.now in let b = outgoing (g.W.Write.contents c.put.new.writer) c.put.new.text in let d = outgoing (g.W.Write.contents c.put_number.new.writer) c.put_number.new.text in let h = c.args.h in
    let sign : c.if-h.put.now ≡ 32 ∷ cond h.first 43 45 ∷ [] = elim c.if-h.branch [ then-h w ↦ rw (w.put-is, w.if-h.true) refl | else-h w ↦ rw (w.put-is, w.if-h.false) refl ] in
    subst (λ (t : List ℕ). Tells a d t c.put_number.result) (ap (λ (t : List ℕ). 32 ∷ t) (sym (half_word_is h)))
    (tells_after a b d (32 ∷ cond h.first 43 45 ∷ []) (decimal h.edge) c.put_number.result (subst (Gathers a b) sign c.in_ok-put.ensures) c.put_number.ensures)
