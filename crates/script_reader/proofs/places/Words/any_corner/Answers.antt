use Rattle.script_reader.proofs.Prelude.{sym, ◌∙◌, corner_of, BadNumber}
use Rattle.script_reader.proofs.FirstLaws.{first_said, first_unsaid}
use Rattle.script_reader.proofs.places.Words.any_corner.Goals as goal

pub returns-in_default-corner_of : goal.returns-in_default-corner_of
returns-in_default-corner_of c = first_unsaid BadNumber corner_of c.args.self.now c.in-Some.line.now (sym c.self.view_is ∙ c.in-Some.ensures.0) c.in-Some.ensures.1 c.in-Some.ensures.2 c.in_default-corner_of.ensures

pub returns : goal.returns
returns c = first_said BadNumber corner_of c.args.self.now c.in-Some.line.now c.in-Some-corner_of.value c.in-Some-corner_of.rest.now (sym c.self.view_is ∙ c.in-Some.ensures.0) c.in-Some.ensures.1 c.in-Some.ensures.2 c.in-Some-corner_of.ensures
