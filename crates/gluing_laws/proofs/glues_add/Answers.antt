use Rattle.gluing_laws.proofs.FromConditions.{glue_adds, glue_keeps_others}
use Rattle.gluing_laws.proofs.glues_add.Goals as goal

pub returns : goal.returns
returns c = record { sum = glue_adds; others = glue_keeps_others }
