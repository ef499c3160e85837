use Rattle.split_opening_laws.proofs.cycles.NextBelow.{cycles_cover, cycles_begin, cycles_rise, cycles_lead_round, cycles_apart, cycles_long}
use Rattle.split_opening_laws.proofs.halves_form_cycles.Goals as goal

pub returns : goal.returns
returns c = record {
  covering = λ M above s sound faces unbranched. (cycles_cover M above s sound faces unbranched, cycles_long M above s sound faces unbranched);
  rising = λ M above s sound faces unbranched. (cycles_begin M above s sound faces unbranched, cycles_rise M above s sound faces unbranched);
  round = cycles_lead_round;
  apart = cycles_apart;
}
