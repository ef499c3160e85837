use Rattle.std.proofs.Common.{rules}
use Rattle.script_reader.proofs.LinesLaws.{still_asked}
use Rattle.script_reader.proofs.buffer.read_retrying.Goals as goal

pub returns-in-Err-clause-retried : goal.returns-in-Err-clause-retried
returns-in-Err-clause-retried g c = search rules

pub read_after-requires-clause-asked : goal.read_after-requires-clause-asked
read_after-requires-clause-asked g c = still_asked g.R.Inlet.remaining g.R.Inlet.asks _ _ _ c.requires.asked c.tries.invariant.1
