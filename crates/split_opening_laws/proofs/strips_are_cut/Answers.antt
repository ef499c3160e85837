use Rattle.split_opening_laws.proofs.strips.Whole.{strips_accepted, strips_are_cut, cut_sound}
use Rattle.split_opening_laws.proofs.strips_are_cut.Goals as goal

pub returns : goal.returns
returns c = record { accepted = strips_accepted; cut = strips_are_cut; sound = cut_sound }
