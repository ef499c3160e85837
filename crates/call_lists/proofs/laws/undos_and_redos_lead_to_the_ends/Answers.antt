use Rattle.call_lists.proofs.Places.{places_are_counted, undos_lead_to_the_first, redos_lead_to_the_last}
use Rattle.call_lists.proofs.laws.undos_and_redos_lead_to_the_ends.Goals as goal

pub returns : goal.returns
returns c = record { counted = places_are_counted; undos = undos_lead_to_the_first c.commands_are_calls.ensures; redos = redos_lead_to_the_last }
