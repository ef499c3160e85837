-- A call of a session or a draft is one of a history.
use Rattle.call_lists.proofs.Prelude.{◌≡◌, inl, inr, Option, List, [], ◌∷◌, refl, sym, ap, subst, ◌∙◌, Call, Change, Command, Commit, DraftJournal, DraftState, Drafting, Give, IsCall, IsWhole, Machine, Mark, MayLack, Open, Refusal, Session, Stage, TakesSteps, Tells, TellsDraft, Told, accepted, commit, draft_step, held, made, open_draft, plain, refusal_of, tried, unless, AreAccepted, effects, IsFurther, same_machine, further_session, CommandsAreCalls, ended, machine_of}
use Rattle.call_lists.specs.Common.{Op}
use Rattle.undo_journal.specs.Histories as histories
use Rattle.commands.proofs.Calls.{stopped}

-- whatever a draft is told, its session stays
pub session_stays : (d e : DraftJournal) (c : Command) (a : Told) → TellsDraft d c a e → e.session ≡ d.session
session_stays d e (Change c) a h = elim (ended (refusal_of d.model c) (MayLack d.model c) (e ≡ d) ((e.model ≡ made d.model c) × TakesSteps d c e) a h) [
  | inl x ↦ further_session d e x.2.1.0
  | inr (inl r) ↦ ap (λ (x : DraftJournal). x.session) r.3
  | inr (inr m) ↦ ap (λ (x : DraftJournal). x.session) m.1
]
session_stays d e c a h = ap (λ (x : DraftJournal). x.session) h.1

-- operators that are accepted, each tried as a step
tried_all : (d : DraftState) (ops : List Op) → AreAccepted d.model ops → tried d ops ≡ record { session = d.session; model = effects d.model ops }
tried_all d [] goes = refl
tried_all d (op ∷ ops) goes = ap (λ (o : Option Refusal). tried (unless o (draft_step d op) d) ops) goes.0 ∙ tried_all (draft_step d op) ops goes.1

committed : (d : DraftJournal) (ops : List Op) → AreAccepted (held d.session.machine) ops → effects (held d.session.machine) ops ≡ d.model → IsCall d.session.machine (commit (plain d))
committed d ops goes make = record {
  call = histories.committed ops;
  leads = ap commit (tried_all (open_draft d.session.machine) ops goes) ∙ ap (accepted d.session.machine) make;
}

led : (m : Machine) (g h : Stage) → h ≡ g → IsCall m (machine_of g) → IsCall m (machine_of h)
led m g h is call = subst (λ (k : Stage). IsCall m (machine_of k)) (sym is) call

-- a call of a session or a draft is one, whatever it is told
pub stage_call : CommandsAreCalls → (g h : Stage) (c : Call) (a : Told) → IsWhole g → Tells g c a h → IsCall (machine_of g) (machine_of h)
unfolding IsFurther
stage_call l (Session s) h (Give c) a whole x = led s.machine (Session x.0) h x.1 (l s x.0 c a whole.held_sound x.2)
stage_call l (Session s) h Open a whole (inl x) = stopped s.machine _ (ap machine_of x.1)
stage_call l (Session s) h Open a whole (inr x) = stopped s.machine _ (ap machine_of x.1)
stage_call l (Session s) h c a whole x = stopped s.machine _ (ap machine_of x.1)
stage_call l (Drafting d) h (Give c) a whole x = stopped d.draft.session.machine _ (ap machine_of x.1 ∙ same_machine (session_stays d.draft x.0.draft c a x.2))
stage_call l (Drafting d) h Mark a whole x = stopped d.draft.session.machine _ (ap machine_of x.3)
stage_call l (Drafting d) h Commit a whole x = led d.draft.session.machine _ h x.1 (committed d.draft whole.2.0 whole.2.1 (sym (ap (λ (x : DraftJournal). x.model) whole.2.2)))
stage_call l (Drafting d) h c a whole x = stopped d.draft.session.machine _ (ap machine_of x.1)
