use Rattle.script_reader.proofs.Prelude.{sym, ◌∙◌, half_of, BadNumber}
use Rattle.script_reader.proofs.FirstLaws.{first_said, first_unsaid}
use Rattle.script_reader.proofs.places.Words.any_half.Goals as goal

pub returns-in_default-half_of : goal.returns-in_default-half_of
returns-in_default-half_of c = first_unsaid BadNumber half_of c.args.self.now c.in-Some.line.now (sym c.self.view_is ∙ c.in-Some.ensures.0) c.in-Some.ensures.1 c.in-Some.ensures.2 c.in_default-half_of.ensures

pub returns : goal.returns
returns c = first_said BadNumber half_of c.args.self.now c.in-Some.line.now c.in-Some-half_of.value c.in-Some-half_of.rest.now (sym c.self.view_is ∙ c.in-Some.ensures.0) c.in-Some.ensures.1 c.in-Some.ensures.2 c.in-Some-half_of.ensures
