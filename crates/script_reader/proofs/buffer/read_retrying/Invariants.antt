use Rattle.script_reader.proofs.Prelude.{◌≡◌, length, Keeps}
use Rattle.script_reader.proofs.buffer.read_retrying.Given as goal

abbrev pub invariant-tries : goal.invariant-tries
invariant-tries g l = (length l.bytes ≡ length l.fn.bytes) × Keeps (g.R.Inlet.remaining l.fn.reader) (g.R.Inlet.remaining l.reader)
