use Rattle.plane_split.proofs.SplitModels.{held_is, held_sound, parts_held, held_share, others_held, held_sided}
use Rattle.plane_split.proofs.laws.splits_are_held.Goals as goal

pub returns : goal.returns
returns c = record { made = held_is; sound = held_sound; parts = parts_held; volumes = held_share; others = others_held; sides = held_sided }
