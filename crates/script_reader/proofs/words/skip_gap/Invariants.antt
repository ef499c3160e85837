use Rattle.script_reader.proofs.Prelude.{◌≡◌, length, words}
use Rattle.script_reader.proofs.words.skip_gap.Given as goal

abbrev pub invariant-loop-rest : goal.invariant-loop-rest
invariant-loop-rest l = words l.rest ≡ words l.line

abbrev pub decreases-loop-rest : goal.decreases-loop-rest
decreases-loop-rest l = length l.rest
