use Rattle.script_reader.proofs.Prelude.{◌≡◌, Some, rules, first_by, integer_of}
use Rattle.script_reader.proofs.NumberLaws.{minus}
use Rattle.script_reader.proofs.numbers.integer_of.Goals as goal

pub returns-in-45 : goal.returns-in-45
returns-in-45 c =
    let told : first_by integer_of c.args.line.now ≡ Some (c.in_ok-negative.field-0, c.in_ok-value.rest.now) =
    minus c.args.line.now c.in_ok-value.value c.in_ok-value.rest.now c.in_ok-negative.field-0 c.in-45.len_at_least (search rules) c.in_ok-value.ensures (search rules) in
    search rules
