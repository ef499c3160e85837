use Rattle.solid_listing.proofs.Prelude.{◌∙◌, ◌-◌, ap, sym, ◌++◌, take, drop, length, List, ℕ, take-append-drop, take_rest}
use Rattle.solid_listing.proofs.WritingLaws.{wrote_more}
use Rattle.solid_listing.proofs.writing.write_whole.Goals as goal

pub loop-rest-preserved : goal.loop-rest-preserved
loop-rest-preserved g c =
    let rest = c.loop-rest.rest.now in
    let n = c.in-Ok.n in
    wrote_more (g.W.Write.contents c.args.writer.now) (g.W.Write.contents c.loop-rest.writer) (g.W.Write.contents c.write.new.self) c.args.text.now rest (take (length rest - n) (drop n rest)) (take n rest)
    c.loop-rest.invariant c.in-Ok.ensures.bytes (sym (take-append-drop n rest) ∙ ap (λ (xs : List ℕ). take n rest ++ xs) (sym (take_rest rest n)))
