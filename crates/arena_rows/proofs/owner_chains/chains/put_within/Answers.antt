use Rattle.arena_rows.proofs.Prelude.{ap, is_of}
use Rattle.arena_rows.proofs.owner_chains.chains.put_within.Goals as goal

pub place_of-place-requires-clause-free : goal.place_of-place-requires-clause-free
place_of-place-requires-clause-free c = ap (is_of c.args.owner) c.requires.free
