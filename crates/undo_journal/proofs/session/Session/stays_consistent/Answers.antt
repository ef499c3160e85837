use Rattle.undo_journal.proofs.Prelude.{subst, IsConsistent, Journal}
use Rattle.undo_journal.proofs.Consistent.{journal_consistent}
use Rattle.undo_journal.proofs.session.Session.stays_consistent.Goals as goal

pub returns : goal.returns
returns c = subst (λ (j : Journal). IsConsistent j.machine) c.self.view_is (journal_consistent _ _ _ c.self.invariant.journal)
