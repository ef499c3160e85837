use Rattle.raw_cells.proofs.Prelude.{sym, ap, ◌∙◌, ◌%◌, ◌/◌, ◌≤◌, ◌<◌, length, arith, nat_tests, get_or_default_zero, is_set}
use Rattle.raw_cells.proofs.numbers_laws.Words.{uses_is, uses_past}
use Rattle.raw_cells.proofs.numbers.contains.Goals as goal

pub returns-in-Some : goal.returns-in-Some
returns-in-Some c =
    let e = c.in-Some.ensures.lookup.0 in
    let below : c.args.number / 64 < length c.args.words.now = grind (arith, nat_tests) in
    c.is_set.ensures ∙ ap (λ w. is_set w (c.args.number % 64)) (c.in-Some.ensures.lookup.1 ∙ get_or_default_zero _ _ _ below) ∙ sym (uses_is c.args.words.now c.args.number)

pub returns-in-None : goal.returns-in-None
returns-in-None c = let e = c.in-None.ensures.lookup.0 in let past : length c.args.words.now ≤ c.args.number / 64 = grind (arith, nat_tests) in sym (uses_past c.args.words.now c.args.number past)
