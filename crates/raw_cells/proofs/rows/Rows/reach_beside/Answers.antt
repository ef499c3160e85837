use Rattle.std.proofs.Common.{◌∙◌, arith}
use Rattle.raw_cells.proofs.numbers_laws.Cells.{length_rows, has_used, row_used, there_within}
use Rattle.raw_cells.proofs.rows.Rows.reach_beside.Goals as goal

pub widen-requires-clause-fits : goal.widen-requires-clause-fits
widen-requires-clause-fits g c = let fits = rw (← c.self.view_is) at c.requires.fits in omega (arith, fits, length_rows _ _ _ c.self.invariant)

pub widen-requires-clause-written : goal.widen-requires-clause-written
widen-requires-clause-written g c = λ k h. let written = rw (← c.self.view_is) at c.requires.written in written k (has_used _ _ _ c.self.invariant k ∙ h)

pub returns-clause-same : goal.returns-clause-same
returns-clause-same g c = rw (← c.self.view_is) (λ k h. c.widen.ensures.same k (there_within _ _ _ c.self.invariant k h) (row_used _ _ _ c.self.invariant k h))

pub returns-clause-fits : goal.returns-clause-fits
returns-clause-fits g c = rw (← c.self.view_is) (omega (arith, c.widen.ensures.fits, length_rows _ _ _ c.self.invariant))

pub returns-clause-known : goal.returns-clause-known
returns-clause-known g c = c.widen.ensures.known
