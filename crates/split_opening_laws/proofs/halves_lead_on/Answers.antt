use Rattle.split_opening_laws.proofs.cycles.BelowHalves.{starts_are_ends}
use Rattle.split_opening_laws.proofs.cycles.NextBelow.{one_start, next_starts, permutes}
use Rattle.split_opening_laws.proofs.halves_lead_on.Goals as goal

pub returns : goal.returns
returns c = record {
  balanced = starts_are_ends;
  one = one_start;
  next = λ M above s sound faces unbranched. (permutes M above s sound faces unbranched, next_starts M above s sound faces unbranched);
}
