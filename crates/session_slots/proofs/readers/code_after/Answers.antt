use Rattle.euler_operators.proofs.Common.{number_fits}
use Rattle.session_slots.proofs.readers.code_after.Goals as goal

pub code-requires : goal.code-requires
code-requires c = number_fits _ (c.requires.ready.sound.edges_fit _ c.next.ensures.there)
