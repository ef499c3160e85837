use Rattle.undo_journal.proofs.Prelude.{subst, Sound, DraftJournal, IsConsistent}
use Rattle.undo_journal.proofs.Consistent.{journal_consistent}
use Rattle.undo_journal.proofs.Seen.{steps_seen}
use Rattle.undo_journal.proofs.draft.Draft.stays_consistent.Goals as goal

pub returns : goal.returns
returns c = record {
  session = subst (λ (d : DraftJournal). IsConsistent d.session.machine) c.self.view_is (journal_consistent _ _ _ c.self.invariant.1.journal);
  model = subst (λ (d : DraftJournal). Sound d.model) c.self.view_is c.self.invariant.1.ready.sound;
  further = steps_seen _ _ _ _ _ _ c.self.invariant.1 c.self.view_is;
}
