use Rattle.script_reader.proofs.Prelude.{rules, arith, ◌≢◌, [], length, ◌<◌, length-append, common_steps, words, points_of}
use Rattle.std.proofs.lemmas.Result.{err_from_is_err_and}
use Rattle.script_reader.proofs.PointLaws.{goes_on, ends, begins}
use Rattle.script_reader.proofs.places.points.Goals as goal

pub more-init : goal.more-init
more-init c = rw (c.new-corners.ensures, c.of-words.ensures) (begins (points_of 64 (words c.args.line.now)), omega arith)

pub returns-in_err-point : goal.returns-in_err-point
returns-in_err-point c =
    let p = err_from_is_err_and c.from_residual.result c.from_residual.ensures.1 in
    let room : length c.more.corners < 64 = grind (arith, common_steps, c.is_full.ensures) in
    let some : c.more.words ≢ [] = search rules in
    rw (p.1, p.2) (ends c.more.corners c.more.words _ (points_of 64 (words c.args.line.now)) room some c.in_err-point.ensures c.more.invariant.0)

pub more-preserved : goal.more-preserved
more-preserved c =
    let room : length c.more.corners < 64 = grind (arith, common_steps, c.is_full.ensures) in
    (goes_on c.more.corners c.push.new.self _ c.more.words _ (points_of 64 (words c.args.line.now)) room c.push.ensures c.in_ok-point.ensures c.more.invariant.0, rw c.push.ensures (simp length-append (omega arith)))

pub returns : goal.returns
returns c = search rules
