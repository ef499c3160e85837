use Rattle.script_laws.proofs.Back.{undos_lead_back, some_undos_lead_back}
use Rattle.script_laws.proofs.undos_lead_back.Goals as goal

pub returns : goal.returns
returns c = record { counted = undos_lead_back; some = some_undos_lead_back }
