use Rattle.script_reader.proofs.Prelude.{sym, ◌∙◌, number_of, BadNumber}
use Rattle.script_reader.proofs.FirstLaws.{first_said, first_unsaid}
use Rattle.script_reader.proofs.places.Words.any_number.Goals as goal

pub returns-in_default-number_of : goal.returns-in_default-number_of
returns-in_default-number_of c = first_unsaid BadNumber number_of c.args.self.now c.in-Some.line.now (sym c.self.view_is ∙ c.in-Some.ensures.0) c.in-Some.ensures.1 c.in-Some.ensures.2 c.in_default-number_of.ensures

pub returns : goal.returns
returns c = first_said BadNumber number_of c.args.self.now c.in-Some.line.now c.in-Some-number_of.value c.in-Some-number_of.rest.now (sym c.self.view_is ∙ c.in-Some.ensures.0) c.in-Some.ensures.1 c.in-Some.ensures.2 c.in-Some-number_of.ensures
