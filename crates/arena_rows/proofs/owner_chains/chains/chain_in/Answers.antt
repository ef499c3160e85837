use Rattle.std.proofs.Common.{arith}
use Rattle.arena_rows.proofs.owner_chains_laws.Tables.{few_owned}
use Rattle.arena_rows.proofs.owner_chains_laws.Following.{item_there}
use Rattle.arena_rows.proofs.owner_chains_laws.Coming.{Comes, comes, put_is}
use Rattle.arena_rows.proofs.owner_chains.chains.chain_in.Goals as goal

pub link_in-requires-clause-previous : goal.link_in-requires-clause-previous
link_in-requires-clause-previous c = λ some. item_there c.args.links.now c.args.new.owner _ (c.requires.below.found some).1

pub link_in-requires-clause-next : goal.link_in-requires-clause-next
link_in-requires-clause-next c = λ some. item_there c.args.links.now c.args.new.owner _ (c.requires.next.found some).1

pub gain-requires-clause-limit : goal.gain-requires-clause-limit
gain-requires-clause-limit c = omega (arith, c.requires.chained.counts c.args.new.owner, few_owned c.args.links.now c.args.new.owner, c.requires.chained.within)

step : (c : goal.After-gain) → Comes c.args.heads.now c.gain.new.heads c.args.links.now c.link_in.new.links c.args.item c.args.new
step c = record {
  are = c.requires.chained;
  some = c.requires.some;
  free = c.requires.free;
  reached = c.requires.owner_room;
  below = c.requires.below;
  next = c.requires.next;
  rows = c.link_in.ensures.rows;
  len = c.link_in.ensures.len;
  head_rows = c.gain.ensures.rows;
  head_len = c.gain.ensures.len;
}

pub returns-clause-chained : goal.returns-clause-chained
returns-clause-chained c = comes _ _ _ _ _ _ (step c)

pub returns-clause-put : goal.returns-clause-put
returns-clause-put c = put_is _ _ _ _ _ _ (step c)
