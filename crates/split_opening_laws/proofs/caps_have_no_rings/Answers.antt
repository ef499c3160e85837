use Rattle.split_opening_laws.proofs.sections.InTurn.{caps_stay, caps_rise}
use Rattle.split_opening_laws.proofs.caps_have_no_rings.Goals as goal

pub returns : goal.returns
returns c = record { next = caps_stay; all = caps_rise }
