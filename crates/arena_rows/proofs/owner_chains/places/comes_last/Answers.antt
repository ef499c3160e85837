use Rattle.arena_rows.proofs.Prelude.{ap, ◌∙◌, arith, nat_tests, next_in}
use Rattle.arena_rows.proofs.owner_chains.places.comes_last.Goals as goal

pub known-requires : goal.known-requires
known-requires c = c.requires c.if-finger-number.true.0

pub returns-then-finger-number : goal.returns-then-finger-number
returns-then-finger-number c = λ e. (c.if-finger-number.true.0, c.if-finger-number.true.1, ap next_in c.known.ensures ∙ grind (arith, nat_tests))
