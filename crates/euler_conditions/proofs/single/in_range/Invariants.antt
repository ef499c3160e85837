use Rattle.euler_conditions.proofs.Prelude.{◌≡◌, length, numbers_in_range, first_refusal}
use Rattle.euler_conditions.proofs.single.in_range.Given as goal

abbrev pub invariant-numbers : goal.invariant-numbers
invariant-numbers l = first_refusal (numbers_in_range l.numbers) ≡ first_refusal (numbers_in_range l.rest)

abbrev pub decreases-numbers : goal.decreases-numbers
decreases-numbers l = length l.rest
