-- How many commands can be undone, and redone, after a list of calls.
use Rattle.call_lists.proofs.Prelude.{◌≡◌, ℕ, suc, ◌+◌, ◌-◌, Bool, true, false, inl, inr, None, List, [], ◌∷◌, length, is_some, refl, sym, ap, ◌∙◌, arith, true≢false, cond, Ask, Call, Change, Command, Commit, Done, Drafting, Give, Journal, Mark, Model, Open, Redo, Session, Stage, Tells, TellsSession, Told, Undo, ahead, depth, held, redo, redo_refusal, redos, undo, undo_refusal, undos, CommandsAreCalls, same_machine, Place, machine_of, place_of, after_command, after_done, place_after, place_after_all, PlacesAreCounted, UndosLeadToTheFirst, RedosLeadToTheLast}
use Rattle.undo_journal.proofs.Copies.{redone_to_last}
use Rattle.call_lists.proofs.Histories.{session_stays}
use Rattle.call_lists.proofs.Lists.{done_or_idle}
use Rattle.call_lists.proofs.Whole.{machine_whole, lists_keep_whole}

abbrev placed : ℕ → ℕ → Bool → Place
placed a b drafting = record { behind = a; ahead = b; drafting = drafting }

place_is : (a b x y : ℕ) (drafting : Bool) → a ≡ x → b ≡ y → placed a b drafting ≡ placed x y drafting
place_is a b x y drafting p q = λ i. record { behind = p i; ahead = q i; drafting = drafting }

one_more : (n : ℕ) → suc n ≡ n + 1
one_more n = omega arith

-- undo where a command is behind, and redo where one is ahead
pub undone_place : (past : List Model) (M : Model) (future : List Model) → undo_refusal (record { past = past; present = M; future = future }) ≡ None
    → (depth (undo (record { past = past; present = M; future = future })) ≡ length past - 1) × (ahead (undo (record { past = past; present = M; future = future })) ≡ length future + 1)
undone_place [] M future goes = absurd (true≢false (ap is_some goes))
undone_place (P ∷ past) M future goes = (omega arith, one_more (length future))

pub redone_place : (past : List Model) (M : Model) (future : List Model) → redo_refusal (record { past = past; present = M; future = future }) ≡ None
    → (depth (redo (record { past = past; present = M; future = future })) ≡ length past + 1) × (ahead (redo (record { past = past; present = M; future = future })) ≡ length future - 1)
redone_place past M [] goes = absurd (true≢false (ap is_some goes))
redone_place past M (N ∷ future) goes = (one_more (length past), omega arith)

-- a command that is done, and a call
session_place : (s t : Journal) (c : Command) → TellsSession s c Done t → place_of (Session t) ≡ after_command (place_of (Session s)) c
session_place s t (Change c) x = place_is _ _ _ _ false (ap depth x.1.0 ∙ one_more (depth s.machine)) (ap ahead x.1.0)
session_place s t (Ask q) x = ap (λ (j : Journal). place_of (Session j)) x.1
session_place s t Undo x =
    let moved = undone_place s.machine.past s.machine.present s.machine.future x.0 in place_is _ _ _ _ false (ap depth (same_machine x.1) ∙ moved.0) (ap ahead (same_machine x.1) ∙ moved.1)
session_place s t Redo x =
    let moved = redone_place s.machine.past s.machine.present s.machine.future x.0 in place_is _ _ _ _ false (ap depth (same_machine x.1) ∙ moved.0) (ap ahead (same_machine x.1) ∙ moved.1)

done_place : (g h : Stage) (c : Call) → Tells g c Done h → place_of h ≡ after_done (place_of g) c
done_place (Session s) h (Give c) x = ap place_of x.1 ∙ session_place s x.0 c x.2
done_place (Session s) h Open (inl x) = ap place_of x.1
done_place (Session s) h Open (inr x) = absurd (cc x.0)
done_place (Session s) h Commit x = absurd (cc x.0)
done_place (Session s) h c x = ap place_of x.1
done_place (Drafting d) h (Give c) x = ap place_of x.1 ∙ ap (λ (j : Journal). placed (depth j.machine) (ahead j.machine) true) (session_stays d.draft x.0.draft c Done x.2)
done_place (Drafting d) h Mark x = ap place_of x.3
done_place (Drafting d) h Commit x = ap place_of x.1 ∙ place_is _ _ _ _ false (one_more (depth d.draft.session.machine)) refl
done_place (Drafting d) h c x = ap place_of x.1

one_place : (g h : Stage) (c : Call) (a : Told) → Tells g c a h → place_of h ≡ place_after (place_of g) c a
one_place g h c a x = elim (done_or_idle g h c a x) [
  | inl d ↦ done_place g h c d.1 ∙ sym (ap (place_after (place_of g) c) d.0)
  | inr i ↦ ap place_of i.1 ∙ sym (ap (λ (b : Bool). cond b (after_done (place_of g) c) (place_of g)) i.0)
]

pub places_are_counted : PlacesAreCounted
places_are_counted g h [] [] x = ap place_of x
places_are_counted g h (c ∷ calls) (a ∷ answers) x = places_are_counted x.0 h calls answers x.2 ∙ ap (λ (p : Place). place_after_all p calls answers) (one_place g x.0 c a x.1)
places_are_counted g h _ _ x = absurd x

pub undos_lead_to_the_first : CommandsAreCalls → UndosLeadToTheFirst
undos_lead_to_the_first l g h calls answers whole x =
    ap (λ (p : Place). held (undos p.behind (machine_of h))) (sym (places_are_counted g h calls answers x)) ∙ (machine_whole h (lists_keep_whole l g h calls answers whole x)).undone

pub redos_lead_to_the_last : RedosLeadToTheLast
redos_lead_to_the_last g h calls answers x = ap (λ (p : Place). held (redos p.ahead (machine_of h))) (sym (places_are_counted g h calls answers x)) ∙ redone_to_last (machine_of h)
