use Rattle.gluing_laws.proofs.glue.Glued.{glue_accepted, glue_is_glued, glued_sound}
use Rattle.gluing_laws.proofs.glues_make_glued.Goals as goal

pub returns : goal.returns
returns c = record { accepted = glue_accepted; made = glue_is_glued; sound = glued_sound }
