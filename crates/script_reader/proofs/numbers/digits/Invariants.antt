use Rattle.script_reader.proofs.Prelude.{◌≡◌, ◌^◌, length, digits_after}
use Rattle.script_reader.proofs.numbers.digits.Given as goal

abbrev pub invariant-loop-rest : goal.invariant-loop-rest
invariant-loop-rest l = digits_after (2 ^ 64) l.value l.rest ≡ digits_after (2 ^ 64) l.before l.line

abbrev pub decreases-loop-rest : goal.decreases-loop-rest
decreases-loop-rest l = length l.rest
