use Rattle.lattice.proofs.Prelude.{sym, ap, ◌∙◌, Some, cast_signed}
use mir.Syntax.{w64}
use Rattle.lattice.proofs.Crossings.{opposite_apart}
use Rattle.lattice.proofs.Cuts.{gap_told, multiple_range, multiple_quotient}
use Rattle.lattice.proofs.Magnitudes.{coordinate_is}
use Rattle.lattice.proofs.Multiples.{level_quotient}
use Rattle.lattice.proofs.planes.cut_coordinate.Goals as goal

pub returns-then-from-to-clause-is : goal.returns-then-from-to-clause-is
returns-then-from-to-clause-is c =
    let level = sym (coordinate_is c.args.from c.requires.from) ∙ ap (cast_signed w64) c.if-from-to.true ∙ coordinate_is c.args.to c.requires.to in
    ap Some (coordinate_is c.args.from c.requires.from) ∙ sym (level_quotient c.args.from c.args.to c.args.start c.args.end level (opposite_apart c.args.start c.args.end c.requires.opposite))

pub overflow_sub-start : goal.overflow_sub-start
overflow_sub-start c = (gap_told c.args.start c.args.end c.requires.start c.requires.end).fits

pub whole_quotient-requires-clause-divisor : goal.whole_quotient-requires-clause-divisor
whole_quotient-requires-clause-divisor c = λ e. opposite_apart c.args.start c.args.end c.requires.opposite (sym (gap_told c.args.start c.args.end c.requires.start c.requires.end).kept ∙ e)

pub whole_quotient-requires-clause-range : goal.whole_quotient-requires-clause-range
whole_quotient-requires-clause-range c =
    multiple_range c.args.to c.args.from c.args.start c.args.end c.cut_multiple.result c.requires.to c.requires.from c.requires.start c.requires.end c.requires.opposite c.cut_multiple.ensures.within c.cut_multiple.ensures.is

pub returns-clause-is : goal.returns-clause-is
returns-clause-is c = c.whole_quotient.ensures.is
    ∙ multiple_quotient c.args.to c.args.from c.args.start c.args.end c.cut_multiple.result c.requires.to c.requires.from c.requires.start c.requires.end c.requires.opposite c.cut_multiple.ensures.within c.cut_multiple.ensures.is
