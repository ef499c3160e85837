use Rattle.solid_listing.proofs.Prelude.{ap, map, length, arith, err_from_is_err_and, line_text, text_of, line, outgoing}
use Rattle.solid_listing.proofs.Walks.{next_number}
use Rattle.solid_listing.proofs.TellingLaws.{told_more, breaks_inside}
use Rattle.solid_listing.proofs.listing.write_kind.Goals as goal

pub returns-in_err-write_entry : goal.returns-in_err-write_entry
returns-in_err-write_entry g c =
    let M = c.args.arena.now.model in
    let d = outgoing (g.W.Write.contents c.write_entry.new.writer) c.write_entry.new.text in
    let p = err_from_is_err_and c.from_residual.result c.from_residual.ensures.1 in
    rw p.1 (breaks_inside _ _ d _ _ _ (line_text (line M c.args.kind c.in-Some.n)) c.loop-n.invariant c.in_err-write_entry.ensures
    (ap (λ ns. text_of (map (line M c.args.kind) ns)) (next_number c.args.arena.now c.args.kind c.loop-n.above c.in-Some.n c.in-Some.ensures)))

pub loop-n-smaller : goal.loop-n-smaller
loop-n-smaller g c = let next = next_number c.args.arena.now c.args.kind c.loop-n.above c.in-Some.n c.in-Some.ensures in omega (arith, ap length next)

pub loop-n-preserved : goal.loop-n-preserved
loop-n-preserved g c =
    told_more _ _ _ _ _ _ _ c.loop-n.invariant c.in_ok-write_entry.ensures
    (ap (λ ns. text_of (map (line c.args.arena.now.model c.args.kind) ns)) (next_number c.args.arena.now c.args.kind c.loop-n.above c.in-Some.n c.in-Some.ensures))
