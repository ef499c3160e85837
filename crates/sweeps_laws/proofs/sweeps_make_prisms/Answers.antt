use Rattle.sweeps_laws.proofs.prism.Accepted.{sweep_accepted, sweep_is_prism, prism_sound}
use Rattle.sweeps_laws.proofs.sweeps_make_prisms.Goals as goal

pub returns : goal.returns
returns c = record { accepted = sweep_accepted; made = sweep_is_prism; sound = prism_sound }
