-- A list of calls is a history, and what it leads to is whole.
use Rattle.call_lists.proofs.Prelude.{◌≡◌, ◌∙◌, suc, inl, inr, List, [], ◌∷◌, refl, sym, ap, subst, arith, Sound, effects_keep_sound, CommandsAreCalls, IsFurther, IsMark, back_at, further_none, further_on, further_session, Abandon, Back, Call, Commit, DraftJournal, Drafting, Give, IsCall, IsConsistent, IsWhole, Journal, Machine, Mark, Open, Session, Stage, Tells, Told, after_calls, machine_of, ListsAreHistories, ListsKeepWhole, EachIsWhole}
use Rattle.undo_journal.proofs.Consistent.{consistent_call}
use Rattle.call_lists.specs.Common.{new_draft}
use Rattle.call_lists.proofs.Histories.{stage_call}
use Rattle.call_lists.proofs.Marks.{draft_goes, further_in}

pub machine_whole : (g : Stage) → IsWhole g → IsConsistent (machine_of g)
machine_whole (Session s) whole = whole
machine_whole (Drafting d) whole = whole.0

-- a call of a consistent machine leads to one
consistent : (s t : Machine) → IsConsistent s → IsCall s t → IsConsistent t
consistent s t kept call = subst IsConsistent call.leads (consistent_call s call.call kept)

sound_further : (d e : DraftJournal) → Sound d.model → IsFurther d e → Sound e.model
unfolding IsFurther
sound_further d e sound further = subst Sound (sym (ap (λ (x : DraftJournal). x.model) further.2)) (effects_keep_sound d.model further.0 sound further.1)

started : (s : Journal) (e : DraftJournal) → IsConsistent s.machine → e.session ≡ s → IsFurther (new_draft s) e → IsConsistent e.session.machine × Sound e.model × IsFurther (new_draft e.session) e
started s e kept same further = (
  subst (λ (j : Journal). IsConsistent j.machine) (sym same) kept,
  sound_further (new_draft s) e kept.held_sound further,
  subst (λ (j : Journal). IsFurther (new_draft j) e) (sym same) further,
)

-- no step is a mark of a new draft
begun : (s : Journal) → IsMark (new_draft s) 0
begun s = record { steps = refl; inverses = refl; model = refl }

-- a call keeps a session or a draft whole, whatever it is told
call_keeps : CommandsAreCalls → (g h : Stage) (c : Call) (a : Told) → IsWhole g → Tells g c a h → IsWhole h
call_keeps l (Session s) h (Give c) a whole x = subst IsWhole (sym x.1) (consistent s.machine x.0.machine whole (l s x.0 c a whole.held_sound x.2))
call_keeps l (Session s) h Open a whole (inl x) = subst IsWhole (sym x.1) (whole, whole.held_sound, further_none (new_draft s))
call_keeps l (Session s) h Open a whole (inr x) = subst IsWhole (sym x.1) whole
call_keeps l (Session s) h c a whole x = subst IsWhole (sym x.1) whole
call_keeps l (Drafting d) h (Give c) a whole x =
    let goes = draft_goes d.draft x.0.draft c a x.2 in
    subst IsWhole (sym x.1) (started d.draft.session x.0.draft whole.0 (further_session d.draft x.0.draft goes) (further_on (new_draft d.draft.session) d.draft x.0.draft whole.2 goes))
call_keeps l (Drafting d) h Mark a whole x = subst IsWhole (sym x.3) whole
call_keeps l (Drafting d) h (Back n) a whole x =
    let s = d.draft.session in
    subst IsWhole (sym x.1) (started s (back_at d.draft n) whole.0 refl (further_in 0 n (new_draft s) d.draft (begun s) whole.2 (omega arith)))
call_keeps l (Drafting d) h Commit a whole x = subst IsWhole (sym x.1) (subst IsConsistent (ap machine_of x.1) (consistent d.draft.session.machine (machine_of h) whole.0 (stage_call l (Drafting d) h Commit a whole x)))
call_keeps l (Drafting d) h Abandon a whole x = subst IsWhole (sym x.1) whole.0
call_keeps l (Drafting d) h c a whole x = subst IsWhole (sym x.1) whole

pub lists_keep_whole : CommandsAreCalls → ListsKeepWhole
lists_keep_whole l g h [] [] whole x = subst IsWhole (sym x) whole
lists_keep_whole l g h (c ∷ calls) (a ∷ answers) whole x = lists_keep_whole l x.0 h calls answers (call_keeps l g x.0 c a whole x.1) x.2
lists_keep_whole l g h _ _ whole x = absurd x

pub each_is_whole : CommandsAreCalls → EachIsWhole
each_is_whole l g h [] more answers whole x = record { between = g; told = []; later = answers; answers_are = refl; before = refl; whole = whole; after = x }
each_is_whole l g h (c ∷ calls) more [] whole x = absurd x
each_is_whole l g h (c ∷ calls) more (a ∷ answers) whole x =
    let rest = each_is_whole l x.0 h calls more answers (call_keeps l g x.0 c a whole x.1) x.2 in record {
      between = rest.between;
      told = a ∷ rest.told;
      later = rest.later;
      answers_are = ap (λ (xs : List Told). a ∷ xs) rest.answers_are;
      before = (x.0, x.1, rest.before);
      whole = rest.whole;
      after = rest.after;
    }

pub lists_are_histories : CommandsAreCalls → ListsAreHistories
lists_are_histories l g h [] [] whole x = record { history = []; as_many = refl; leads = sym (ap machine_of x) }
lists_are_histories l g h (c ∷ calls) (a ∷ answers) whole x =
    let first = stage_call l g x.0 c a whole x.1 in
    let later = lists_are_histories l x.0 h calls answers (call_keeps l g x.0 c a whole x.1) x.2 in record {
      history = first.call ∷ later.history;
      as_many = ap suc later.as_many;
      leads = ap (λ (m : Machine). after_calls m later.history) first.leads ∙ later.leads;
    }
lists_are_histories l g h _ _ whole x = absurd x
