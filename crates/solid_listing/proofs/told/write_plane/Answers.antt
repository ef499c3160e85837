use Rattle.solid_listing.proofs.Prelude.{◌≡◌, subst, List, ℕ, ◌++◌, ◌∷◌, [], codes, cond, refl, err_from_is_err_and, spaced, coefficient_words, outgoing, Tells}
use Rattle.solid_listing.specs.Common.{reply_text}
use Rattle.solid_listing.proofs.LineLaws.{last_word}
use Rattle.solid_listing.proofs.TellingLaws.{Breaks, Breaks-longer, tells_after}
use Rattle.solid_listing.proofs.told.write_plane.Goals as goal
use Rattle.solid_listing.proofs.told.write_plane.Goals.{then-flat, else-flat}

pub returns-in_err-write_coefficients : goal.returns-in_err-write_coefficients
unfolding reply_text
returns-in_err-write_coefficients g c =
    let a = outgoing (g.W.Write.contents c.args.writer.now) c.args.text.now in let b = outgoing (g.W.Write.contents c.write_coefficients.new.writer) c.write_coefficients.new.text in
    let words = coefficient_words c.args.plane.now in let last = cond c.args.flat (codes "flat") (codes "bent") in
    let p = err_from_is_err_and c.from_residual.result c.from_residual.ensures.1 in
    rw p.1 (subst (Breaks a b) (last_word (codes "plane") last words) (Breaks-longer a b (codes "plane" ++ spaced words) ((32 ∷ last) ++ 10 ∷ []) c.in_err-write_coefficients.ensures))

pub returns : goal.returns
unfolding reply_text
returns g c =
    let a = outgoing (g.W.Write.contents c.args.writer.now) c.args.text.now in let b = outgoing (g.W.Write.contents c.write_coefficients.new.writer) c.write_coefficients.new.text in let d = outgoing (g.W.Write.contents c.put.new.writer) c.put.new.text in
    let words = coefficient_words c.args.plane.now in let last = cond c.args.flat (codes "flat") (codes "bent") in
    let is : c.if-flat.put.now ≡ (32 ∷ last) ++ 10 ∷ [] = elim c.if-flat.branch [
      | then-flat w ↦ rw (w.put-is, w.if-flat.true) refl
      | else-flat w ↦ rw (w.put-is, w.if-flat.false) refl
    ] in
    subst (λ (t : List ℕ). Tells a d t c.put.result) (last_word (codes "plane") last words)
    (tells_after a b d (codes "plane" ++ spaced words) ((32 ∷ last) ++ 10 ∷ []) c.put.result c.in_ok-write_coefficients.ensures (subst (λ (t : List ℕ). Tells b d t c.put.result) is c.put.ensures))
