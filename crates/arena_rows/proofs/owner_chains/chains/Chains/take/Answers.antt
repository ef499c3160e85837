use Rattle.std.proofs.Common.{arith}
use Rattle.arena_rows.proofs.owner_chains_laws.Tables.{row_there}
use Rattle.arena_rows.proofs.owner_chains_laws.Following.{item_there}
use Rattle.arena_rows.proofs.owner_chains_laws.Going.{Goes, counted, goes, take_is}
use Rattle.arena_rows.proofs.owner_chains.chains.Chains.take.Goals as goal

pub known-gone-requires : goal.known-gone-requires
known-gone-requires c = row_there c.self.inside.links c.args.item (rw (← c.self.view_is) at c.requires)

pub link_out-requires-clause-previous : goal.link_out-requires-clause-previous
link_out-requires-clause-previous c = λ some. item_there c.self.inside.links c.known-gone.result.owner _ ((c.self.invariant.previous c.args.item c.known-gone.result c.known-gone.ensures).found some).1

pub link_out-requires-clause-next : goal.link_out-requires-clause-next
link_out-requires-clause-next c = λ some. item_there c.self.inside.links c.known-gone.result.owner _ ((c.self.invariant.nexts c.args.item c.known-gone.result c.known-gone.ensures).found some).1

pub lose-requires : goal.lose-requires
lose-requires c = omega (arith, counted _ _ c.args.item c.known-gone.result c.self.invariant c.known-gone.ensures)

step : (c : goal.After-lose) → Goes c.self.inside.heads c.lose.new.heads c.self.inside.links c.link_out.new.links c.args.item c.known-gone.result
step c = record {
  are = c.self.invariant;
  there = c.known-gone.ensures;
  rows = c.link_out.ensures.rows;
  len = c.link_out.ensures.len;
  head_rows = c.lose.ensures.rows;
  head_len = c.lose.ensures.len;
}

pub invariant_of-self : goal.invariant_of-self
invariant_of-self c = goes _ _ _ _ _ _ (step c)

pub returns : goal.returns
returns c = rw (← c.self.view_is) (take_is _ _ _ _ _ _ (step c))
