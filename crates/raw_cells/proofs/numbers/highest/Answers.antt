use Rattle.raw_cells.proofs.Prelude.{◌<◌, ap, arith, subst, ◌∙◌, is_set}
use Rattle.raw_cells.proofs.numbers_laws.Bits.{highest_turned, highest_set, highest_none}
use Rattle.raw_cells.proofs.numbers.highest.Goals as goal

pub returns-clause-within : goal.returns-clause-within
returns-clause-within c = omega (arith, highest_turned c.args.word c.requires c.ranges.word.fits)

pub returns-clause-there : goal.returns-clause-there
returns-clause-there c = ap (is_set c.args.word) (highest_turned c.args.word c.requires c.ranges.word.fits) ∙ highest_set c.args.word c.requires c.ranges.word.fits

pub returns-clause-none : goal.returns-clause-none
returns-clause-none c k above = highest_none c.args.word c.requires c.ranges.word.fits k (subst (λ n. n < k) (highest_turned c.args.word c.requires c.ranges.word.fits) above)
