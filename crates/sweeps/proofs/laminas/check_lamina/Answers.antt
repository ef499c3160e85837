use Rattle.sweeps.proofs.Prelude.{rules, tests, lamina_conditions}
use Rattle.sweeps.proofs.laminas.check_lamina.Goals as goal

pub returns-then-not-is_number : goal.returns-then-not-is_number
unfolding lamina_conditions
returns-then-not-is_number c = search (tests, rules)

pub returns-then-has : goal.returns-then-has
unfolding lamina_conditions
returns-then-has c = search (tests, rules)

pub returns-in-Some : goal.returns-in-Some
unfolding lamina_conditions
returns-in-Some c = search (tests, rules)

pub returns-in-Some-first_repeated : goal.returns-in-Some-first_repeated
unfolding lamina_conditions
returns-in-Some-first_repeated c = search (tests, rules)

pub returns : goal.returns
unfolding lamina_conditions
returns c = search (tests, rules)
