use Rattle.split_laws.proofs.Whole.{split_accepted, split_made, split_sound}
use Rattle.split_laws.proofs.splits_make_split.Goals as goal

pub returns : goal.returns
returns c = record { accepted = split_accepted; made = split_made; sound = split_sound }
