use Rattle.raw_cells.proofs.Prelude.{ap, ◌∙◌, length, arith, length-replicate}
use Rattle.raw_cells.proofs.rows.move_on.Goals as goal

pub with_count-requires : goal.with_count-requires
with_count-requires g c = omega (arith, c.count_for.ensures)

pub copy_rows-requires-clause-fits : goal.copy_rows-requires-clause-fits
copy_rows-requires-clause-fits g c = let len = ap length c.in_ok-wider.ensures ∙ length-replicate _ _ in omega (arith, len, c.count_for.ensures, c.requires.short, c.requires.fits)

pub copy_rows-requires-clause-written : goal.copy_rows-requires-clause-written
copy_rows-requires-clause-written g c = c.requires.written

pub returns-clause-same : goal.returns-clause-same
returns-clause-same g c = c.copy_rows.ensures.same

pub returns-clause-fits : goal.returns-clause-fits
returns-clause-fits g c = let len = c.copy_rows.ensures.len ∙ ap length c.in_ok-wider.ensures ∙ length-replicate _ _ in omega (arith, len, c.count_for.ensures, c.requires.short, c.requires.fits)

pub returns-clause-ok : goal.returns-clause-ok
returns-clause-ok g c = let len = c.copy_rows.ensures.len ∙ ap length c.in_ok-wider.ensures ∙ length-replicate _ _ in omega (arith, len, c.count_for.ensures)
