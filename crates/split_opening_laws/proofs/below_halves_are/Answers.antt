use Rattle.split_opening_laws.proofs.cycles.BelowHalves.{halves_rise, halves_apart, halves_are, are_halves}
use Rattle.split_opening_laws.proofs.below_halves_are.Goals as goal

pub returns : goal.returns
returns c = record {
  rising = λ M above s sound. (halves_rise M above s sound, halves_apart M above s sound);
  members = λ M above s sound b. (halves_are M above s sound b, are_halves M above s sound b);
}
