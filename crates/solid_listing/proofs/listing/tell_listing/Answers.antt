use Rattle.solid_listing.proofs.Prelude.{sym, subst, List, ℕ, Solid, IsGreatest}
use Rattle.solid_listing.specs.Writing.{outgoing, Tells}
use Rattle.solid_listing.proofs.EmptyModels.{empty_text, lines_text}
use Rattle.solid_listing.proofs.listing.tell_listing.Goals as goal

pub returns-then-greatest-eq0 : goal.returns-then-greatest-eq0
returns-then-greatest-eq0 g c =
    let zero = subst (IsGreatest c.args.arena.now Solid) c.if-greatest-eq0.true c.greatest.ensures in
    subst (λ (t : List ℕ). Tells (outgoing (g.W.Write.contents c.args.writer.now) c.args.text.now) (outgoing (g.W.Write.contents c.put.new.writer) c.put.new.text) t c.put.result) (sym (empty_text c.args.arena.now c.requires.sound zero)) c.put.ensures

pub returns : goal.returns
returns g c = subst (λ (t : List ℕ). Tells (outgoing (g.W.Write.contents c.args.writer.now) c.args.text.now) (outgoing (g.W.Write.contents c.write_lines.new.writer) c.write_lines.new.text) t c.write_lines.result)
    (sym (lines_text c.args.arena.now c.greatest.result c.greatest.ensures c.if-greatest-eq0.false)) c.write_lines.ensures
