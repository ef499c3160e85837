use Rattle.raw_cells.proofs.Prelude.{ap, length, arith, word_at}
use Rattle.raw_cells.proofs.numbers.reach.Goals as goal

pub returns-in_err-resize-clause-same : goal.returns-in_err-resize-clause-same
returns-in_err-resize-clause-same c = λ k. ap (λ words. word_at words k) c.in_err-resize.ensures.items

pub returns-in_err-resize-clause-grows : goal.returns-in_err-resize-clause-grows
returns-in_err-resize-clause-grows c = omega (arith, ap length c.in_err-resize.ensures.items)

pub returns-in_err-resize-clause-limit : goal.returns-in_err-resize-clause-limit
returns-in_err-resize-clause-limit c = λ k _ old. omega (arith, old, ap length c.in_err-resize.ensures.items)

pub returns-in_ok-resize-clause-grows : goal.returns-in_ok-resize-clause-grows
returns-in_ok-resize-clause-grows c = omega (arith, c.in_ok-resize.ensures.len, c.if-len-wanted.true, c.len.ensures)

pub returns-in_ok-resize-clause-limit : goal.returns-in_ok-resize-clause-limit
returns-in_ok-resize-clause-limit c = λ k more _. omega (arith, more, c.in_ok-resize.ensures.len)

pub returns-in_ok-resize-clause-ok : goal.returns-in_ok-resize-clause-ok
returns-in_ok-resize-clause-ok c = omega (arith, c.in_ok-resize.ensures.len)

pub returns-else-len-wanted-clause-ok : goal.returns-else-len-wanted-clause-ok
returns-else-len-wanted-clause-ok c = omega (arith, c.if-len-wanted.false, c.len.ensures)
