use Rattle.call_lists.proofs.Marks as marks
use Rattle.call_lists.proofs.laws.marks_lead_back.Goals as goal

pub returns : goal.returns
returns c = record { steps = marks.steps_are_marks; back = marks.marks_lead_back }
