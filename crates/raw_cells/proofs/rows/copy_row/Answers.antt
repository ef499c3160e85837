use Rattle.std.proofs.Common.{true≢false, sym, ap, ◌∙◌, length, Some, None, slice_index_or, length-set, get_or-set_same, get_or-set_other}
use Rattle.raw_cells.proofs.rows.copy_row.Goals as goal

pub put-requires : goal.put-requires
put-requires g c = c.requires.room

pub returns-then-contains-clause-same : goal.returns-then-contains-clause-same
returns-then-contains-clause-same g c = λ u. ap (λ cells. slice_index_or cells c.args.number None) c.put.ensures ∙ get_or-set_same _ _ _ _ c.requires.room ∙ sym c.get.ensures

pub returns-then-contains-clause-others : goal.returns-then-contains-clause-others
returns-then-contains-clause-others g c = λ k ne. ap (λ cells. slice_index_or cells k None) c.put.ensures ∙ get_or-set_other c.args.copy.now c.args.number k (Some c.get.result) None ne

pub returns-then-contains-clause-len : goal.returns-then-contains-clause-len
returns-then-contains-clause-len g c = ap length c.put.ensures ∙ length-set _ _ _

pub returns-else-contains-clause-same : goal.returns-else-contains-clause-same
returns-else-contains-clause-same g c = λ u. absurd (true≢false (sym u ∙ sym c.contains.ensures ∙ c.if-contains.false))
