use Rattle.std.proofs.Common.{refl, arith}
use Rattle.raw_cells.proofs.rows.widen.Goals as goal

pub returns-then-number-len-clause-same : goal.returns-then-number-len-clause-same
returns-then-number-len-clause-same g c = λ _ _ _. refl

pub returns-then-number-len-clause-fits : goal.returns-then-number-len-clause-fits
returns-then-number-len-clause-fits g c = c.requires.fits

pub returns-then-number-len-clause-ok : goal.returns-then-number-len-clause-ok
returns-then-number-len-clause-ok g c = omega (arith, c.if-number-len.true, c.len.ensures)

pub move_on-requires-clause-short : goal.move_on-requires-clause-short
move_on-requires-clause-short g c = omega (arith, c.if-number-len.false, c.len.ensures)

pub move_on-requires-clause-written : goal.move_on-requires-clause-written
move_on-requires-clause-written g c = c.requires.written

pub returns-clause-known : goal.returns-clause-known
returns-clause-known g c = λ fits. absurd (omega (arith, fits, c.if-number-len.false, c.len.ensures))
