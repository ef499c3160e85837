use Rattle.euler_laws.proofs.shared.Empty.{empty_sound}
use Rattle.euler_laws.proofs.Cases.{effect_keeps_sound}
use Rattle.euler_laws.proofs.effects_are_sound.Goals as goal

pub returns : goal.returns
returns c = record { empty = empty_sound; sound = effect_keeps_sound }
