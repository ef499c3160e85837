use Rattle.sweeps.proofs.Prelude.{rules, tests, arith, common_steps, prism_conditions, tally}
use Rattle.sweeps.proofs.sweeping.check_sweep.Goals as goal

pub returns-then-not-is_number : goal.returns-then-not-is_number
unfolding prism_conditions tally
returns-then-not-is_number c = search (tests, rules)

pub returns-then-not-has : goal.returns-then-not-has
unfolding prism_conditions tally
returns-then-not-has c = search (tests, rules)

pub returns-then-is_zero : goal.returns-then-is_zero
unfolding prism_conditions tally
returns-then-is_zero c = search (tests, rules)

pub returns-in-Some : goal.returns-in-Some
unfolding prism_conditions tally
returns-in-Some c = search (tests, rules)

pub returns-in-Some-far : goal.returns-in-Some-far
unfolding prism_conditions tally
returns-in-Some-far c = search (tests, rules)

pub returns : goal.returns
unfolding prism_conditions tally
returns c = grind (arith, common_steps)
