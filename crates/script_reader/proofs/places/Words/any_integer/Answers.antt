use Rattle.script_reader.proofs.Prelude.{◌≡◌, Ok, sym, rules, ◌∙◌, words, integer_of, next_of, BadNumber}
use Rattle.script_reader.proofs.FirstLaws.{first_said, first_unsaid}
use Rattle.script_reader.proofs.places.Words.any_integer.Goals as goal

pub returns-in_default-integer_of : goal.returns-in_default-integer_of
returns-in_default-integer_of c = first_unsaid BadNumber integer_of c.args.self.now c.in-Some.line.now (sym c.self.view_is ∙ c.in-Some.ensures.0) c.in-Some.ensures.1 c.in-Some.ensures.2 c.in_default-integer_of.ensures

pub returns : goal.returns
returns c =
    let told : next_of BadNumber integer_of c.args.self.now ≡ Ok (c.in-Some-integer_of.value, words c.in-Some-integer_of.rest.now) = first_said BadNumber integer_of c.args.self.now c.in-Some.line.now c.in-Some-integer_of.value c.in-Some-integer_of.rest.now (sym c.self.view_is ∙ c.in-Some.ensures.0) c.in-Some.ensures.1 c.in-Some.ensures.2 c.in-Some-integer_of.ensures in
    search rules
