use Rattle.euler_laws.proofs.Runs.{effects_keep_sound, inverses_go, inverses_undo}
use Rattle.euler_laws.proofs.runs_are_undone.Goals as goal

pub returns : goal.returns
returns c = record { sound = effects_keep_sound; accepted = inverses_go; undone = inverses_undo }
