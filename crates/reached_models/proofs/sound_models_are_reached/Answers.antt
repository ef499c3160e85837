use Rattle.reached_models.proofs.Apart.{sound_reached, linked, built}
use Rattle.reached_models.proofs.sound_models_are_reached.Goals as goal

pub returns : goal.returns
returns c = record { reached = sound_reached; linked = linked; builders = built }
