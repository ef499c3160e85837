use Rattle.arena_rows.proofs.owner_chains_laws.Whole.{chained-empty, view-empty}
use Rattle.arena_rows.proofs.owner_chains.chains.Chains.new.Goals as goal

pub invariant_of-result : goal.invariant_of-result
invariant_of-result c = rw (c.new.ensures, c.new-2.ensures) chained-empty

pub returns : goal.returns
returns c = rw (c.new.ensures, c.new-2.ensures) view-empty
