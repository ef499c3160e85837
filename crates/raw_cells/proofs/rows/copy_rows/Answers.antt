use Rattle.raw_cells.proofs.Prelude.{◌∙◌, arith, refl, inl, inr, ap, sym, cases_eq, uses, row_at}
use Rattle.raw_cells.proofs.rows.copy_rows.Goals as goal

pub rows-init : goal.rows-init
rows-init g c = record { same = λ k l u. absurd (omega (arith, l)); len = refl }

pub copy_row-requires-clause-room : goal.copy_row-requires-clause-room
copy_row-requires-clause-room g c = omega (arith, c.rows.invariant.len, c.requires.fits, c.rows-test.true)

pub rows-preserved : goal.rows-preserved
rows-preserved g c = record {
  same = λ k l u. elim (cases_eq k c.rows.n) [
    | inl e ↦ ap (row_at c.copy_row.new.copy) e ∙ c.copy_row.ensures.same (sym (ap (uses c.args.used.now) e) ∙ u) ∙ sym (ap (row_at c.args.cells.now) e)
    | inr ne ↦ c.copy_row.ensures.others k ne ∙ c.rows.invariant.same k (omega (arith, l, ne)) u
  ];
  len = c.copy_row.ensures.len ∙ c.rows.invariant.len;
}
