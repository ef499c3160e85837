use Rattle.raw_ring.proofs.Prelude.{ap, joined, marks}
use Rattle.raw_ring.proofs.Joining.{joined_none}
use Rattle.raw_ring.proofs.table.Table.new.Goals as goal

pub invariant_of-result : goal.invariant_of-result
invariant_of-result c = rw (c.new.ensures, c.new-2.ensures, c.new-3.ensures) joined_none

pub returns : goal.returns
returns c = ap (λ places. joined places (marks c.new-2.result c.new-3.result)) c.new.ensures
