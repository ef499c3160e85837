use Rattle.std.proofs.lemmas.Result.{err_from_is_err_and}
use Rattle.solid_listing.proofs.TellingLaws.{told_past}
use Rattle.solid_listing.proofs.WritingLaws.{Stops-longer}
use Rattle.solid_listing.proofs.pending.put_past.Goals as goal

pub returns-in_err-release : goal.returns-in_err-release
returns-in_err-release g c =
    let p = err_from_is_err_and c.from_residual.result c.from_residual.ensures.1 in
    rw p.1 (Stops-longer (g.W.Write.contents c.args.writer.now) (g.W.Write.contents c.release.new.writer) c.args.text.now c.args.piece.now c.in_err-release.ensures.puts)

pub returns : goal.returns
returns g c = told_past (g.W.Write.contents c.args.writer.now) (g.W.Write.contents c.release.new.writer) (g.W.Write.contents c.write_whole.new.writer) c.args.text.now c.release.new.text c.args.piece.now c.write_whole.result
    c.in_ok-release.ensures.puts c.in_ok-release.ensures.none c.write_whole.ensures
