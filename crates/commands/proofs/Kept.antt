-- What isn't done changes nothing.
use Rattle.commands.proofs.Prelude.{◌≡◌, inl, inr, ap, ◌∙◌, ◌≢◌, Call, Command, Done, DraftJournal, Drafting, Journal, OpenDraft, Session, Stage, Told, Tells, TellsSession, TellsDraft}
use Rattle.call_types.specs.declared.command.Call.TheVariants as call
use Rattle.call_types.specs.declared.command.Command.TheVariants as command
use Rattle.commands.proofs.Settling.{stays}

pub session_kept : (s t : Journal) (c : Command) (a : Told) → a ≢ Done → TellsSession s c a t → t ≡ s
session_kept s t (command.Ask q) a other h = h.1
session_kept s t c a other h = stays _ _ _ _ a other h

draft_kept : (d e : DraftJournal) (c : Command) (a : Told) → a ≢ Done → TellsDraft d c a e → e ≡ d
draft_kept d e (command.Change c) a other h = stays _ _ _ _ a other h
draft_kept d e c a other h = h.1

open_draft_is : (d e : OpenDraft) → e.draft ≡ d.draft → e ≡ d
open_draft_is d e is = λ i. record { draft = is i }

pub only_done_changes : (g h : Stage) (c : Call) (a : Told) → a ≢ Done → Tells g c a h → h ≡ g
only_done_changes (Session s) h (call.Give c) a other x = x.1 ∙ ap Session (session_kept s x.0 c a other x.2)
only_done_changes (Session s) h call.Open a other (inl x) = absurd (other x.0)
only_done_changes (Session s) h call.Open a other (inr x) = x.1
only_done_changes (Session s) h c a other x = x.1
only_done_changes (Drafting d) h (call.Give c) a other x = x.1 ∙ ap Drafting (open_draft_is d x.0 (draft_kept d.draft x.0.draft c a other x.2))
only_done_changes (Drafting d) h call.Open a other x = x.1
only_done_changes (Drafting d) h call.Mark a other x = x.3
only_done_changes (Drafting d) h c a other x = absurd (other x.0)
