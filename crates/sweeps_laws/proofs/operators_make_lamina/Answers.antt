use Rattle.sweeps_laws.proofs.lamina.Walk.{operators_are_accepted, operators_make_lamina, lamina_is_sound}
use Rattle.sweeps_laws.proofs.operators_make_lamina.Goals as goal

pub returns : goal.returns
returns c = record { accepted = operators_are_accepted; made = operators_make_lamina; sound = lamina_is_sound }
