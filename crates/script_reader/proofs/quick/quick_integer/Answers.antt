use Rattle.script_reader.proofs.Prelude.{◌≡◌, Ok, pos, rules, words, integer_of, next_of, BadNumber}
use Rattle.script_reader.proofs.QuickLaws.{integer_told, minus_told}
use Rattle.script_reader.proofs.quick.quick_integer.Goals as goal

pub returns-in-45 : goal.returns-in-45
returns-in-45 c =
    let told : next_of BadNumber integer_of (words c.args.line.now) ≡ Ok (c.in_ok-negative.field-0, words c.in_ok-value.rest.now) =
    minus_told c.args.line.now c.in_ok-value.value (words c.in_ok-value.rest.now) c.in_ok-negative.field-0 c.in-45.len_at_least (search rules) c.in_ok-value.ensures (search rules) in
    search rules

pub returns : goal.returns
returns c =
    let told : next_of BadNumber integer_of (words c.args.line.now) ≡ Ok (pos c.in_ok-value-2.value, words c.in_ok-value-2.rest.now) =
    integer_told c.args.line.now c.in_ok-value-2.value (words c.in_ok-value-2.rest.now) c.in_ok-value-2.ensures in
    search rules
