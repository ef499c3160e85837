use Rattle.arena_rows.proofs.Prelude.{sym, ap, head_in}
use Rattle.arena_rows.proofs.owner_chains_laws.Tables.{head_there}
use Rattle.arena_rows.proofs.owner_chains.rows.known_head.Goals as goal

pub known-requires : goal.known-requires
known-requires c = head_there _ c.requires

pub returns : goal.returns
returns c = sym (ap head_in c.known.ensures)
