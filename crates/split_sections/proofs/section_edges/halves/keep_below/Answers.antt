use Rattle.split_sections.proofs.Prelude.{◌∙◌, ◌<◌, not, length, ap, sym, arith, FiltersInPlace-more_set, FiltersInPlace-more_no, code}
use Rattle.split_sections.proofs.section_edges_laws.Kept.{still_in}
use Rattle.split_sections.proofs.section_edges.halves.keep_below.Goals as goal

pub lies_above-requires-clause-there : goal.lies_above-requires-clause-there
lies_above-requires-clause-there c =
    let lt : c.halves.i < length c.halves.halves.items = omega (arith, c.halves-test.true, c.len.ensures, c.halves.halves.ok.0) in
    c.requires.there (code c.index-half.result.now) (still_in c.args.halves.now.items c.halves.halves.items c.halves.i c.index-half.result.now c.halves.invariant.rest lt c.halves.invariant.long c.index-half.ensures)

pub halves-preserved : goal.halves-preserved
halves-preserved c =
    let lt : c.halves.i < length c.halves.halves.items = omega (arith, c.halves-test.true, c.len.ensures, c.halves.halves.ok.0) in
    elim c.if-not-lies_above.branch [
      | goal.then-not-lies_above w ↦ rw (w.halves-is, w.kept-is) (FiltersInPlace-more_set c.halves.invariant lt (ap not (sym c.lies_above.ensures ∙ w.if-not-lies_above.true)) c.index-half.ensures)
      | goal.else-not-lies_above w ↦ rw (w.halves-is, w.kept-is) (FiltersInPlace-more_no c.halves.invariant lt (ap not (sym c.lies_above.ensures ∙ w.if-not-lies_above.false)) c.index-half.ensures)
    ]
