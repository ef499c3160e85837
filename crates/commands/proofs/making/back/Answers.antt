use Rattle.commands.proofs.Prelude.{ap, refl, DraftJournal, Drafting}
use Rattle.commands.proofs.making.back.Goals as goal

pub returns : goal.returns
returns c = (refl, ap (λ (d : DraftJournal). Drafting (record { draft = d })) c.back_to.ensures)
