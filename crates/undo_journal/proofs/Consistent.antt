-- Every machine to which a history leads is consistent.
use Rattle.undo_journal.proofs.Prelude.{sym, subst, ap, ◌∙◌, arith, true≢false, ◌≡◌, ℕ, zero, suc, ◌+◌, ◌<◌, ◌≤◌, List, [], ◌∷◌, ◌++◌, length, reverse, drop, get_or, Option, Some, None, is_some, refl, Model, empty_model, Sound, first_false, effect, Op, effects, AreAccepted, empty_sound, effects-append, AreAccepted-append, effects_keep_sound, Record, Machine, DraftState, start, held, depth, ahead, accepted, act, undo, redo, open_draft, draft_step, models, model_at, Call, acted, made, committed, abandoned, undone, redone, stopped, unless, first_of, run_refusal, tried, after_call, after_calls, Follows, IsConsistent, LargerCommandsAreCalls, HistoriesAreConsistent, models_ahead, machine_of, AllLead, IsJournal}
use Rattle.euler_operators.specs.declared.Refusal.{Refusal}
use Rattle.undo_journal.proofs.Copies.{one_more, at_place, how_many, undone_to_first, redone_to_last}
use Rattle.undo_journal.proofs.Journals.{models_are}

-- models of which each follows the one before it, A before the first
abbrev AllFollow : Model → List Model → Type 0
AllFollow A [] = Unit {0}
AllFollow A (M ∷ Ms) = Follows A M × AllFollow M Ms

follows_at : (A : Model) (Ms : List Model) (i : ℕ) (d : Model) → i < length Ms → AllFollow A Ms → Follows (get_or (A ∷ Ms) i d) (get_or Ms i d)
follows_at A [] i d h all = absurd (omega arith)
follows_at A (M ∷ Ms) zero d h all = all.0
follows_at A (M ∷ Ms) (suc i) d h all = follows_at M Ms i d (omega arith) all.1

follows_sound : (M N : Model) → Sound M → Follows M N → Sound N
follows_sound M N sound f = subst Sound f.make (effects_keep_sound M f.operators sound f.are_accepted)

sound_at : (A : Model) (Ms : List Model) (i : ℕ) (d : Model) → i ≤ length Ms → Sound A → AllFollow A Ms → Sound (get_or (A ∷ Ms) i d)
sound_at A Ms zero d h sound all = sound
sound_at A [] (suc i) d h sound all = absurd (omega arith)
sound_at A (M ∷ Ms) (suc i) d h sound all = sound_at M Ms i d (omega arith) (follows_sound A M sound all.0) all.1

-- a machine whose models follow the empty one
module _ (s : Machine) (Ms : List Model) (are : models s ≡ empty_model ∷ Ms) (all : AllFollow empty_model Ms) where
  many : length Ms ≡ depth s + ahead s
  many = let a : suc (length Ms) ≡ length (models s) = ap length (sym are) in let b = how_many s in omega (arith, a, b)

  at_is : (i : ℕ) → get_or (empty_model ∷ Ms) i empty_model ≡ model_at s i
  at_is i = ap (λ (Xs : List Model). get_or Xs i empty_model) (sym are)

  sounds : (i : ℕ) → i ≤ depth s + ahead s → Sound (model_at s i)
  sounds i h = subst Sound (at_is i) (sound_at empty_model Ms i empty_model (omega (arith, many)) empty_sound all)

  links : (i : ℕ) → i < depth s + ahead s → Follows (model_at s i) (model_at s (i + 1))
  links i h =
      let next : suc i ≡ i + 1 = omega arith in
      subst (λ (X : Model). Follows X (model_at s (i + 1))) (at_is i)
      (subst (λ (X : Model). Follows (get_or (empty_model ∷ Ms) i empty_model) X) (at_is (suc i) ∙ ap (model_at s) next)
      (follows_at empty_model Ms i empty_model (omega (arith, many)) all))

  consistent : IsConsistent s
  consistent = record {
    first = sym (at_is 0);
    sound = sounds;
    linked = links;
    held_sound = subst Sound (at_place s) (sounds (depth s) (omega arith));
    undone = undone_to_first s ∙ sym (at_is 0);
    redone = redone_to_last s;
  }

-- models behind M, the nearest first, each of which is followed by the one before it in the list, and the last one is empty
abbrev Begins : Model → List Model → Type 0
Begins M [] = M ≡ empty_model
Begins M (P ∷ Ps) = Follows P M × Begins P Ps

-- the list of copies
record Copies (Ms : List Model) : Type 0 where
  later : List Model
  are : Ms ≡ empty_model ∷ later
  follow : AllFollow empty_model later

copies : (Ps : List Model) (M : Model) (Ns : List Model) → Begins M Ps → AllFollow M Ns → Copies (reverse Ps ++ M ∷ Ns)
copies [] M Ns begins all = record { later = Ns; are = ap (λ (X : Model). X ∷ Ns) begins; follow = subst (λ (X : Model). AllFollow X Ns) begins all }
copies (P ∷ Ps) M Ns begins all = subst Copies (sym (one_more Ps P (M ∷ Ns))) (copies Ps P (M ∷ Ns) begins.1 (begins.0, all))

-- what calls keep
record Grown (s : Machine) : Type 0 where
  begins : Begins s.present s.past
  follow : AllFollow s.present s.future

grown_consistent : (s : Machine) → Grown s → IsConsistent s
grown_consistent s grown = let c : Copies (models s) = copies s.past s.present s.future grown.begins grown.follow in consistent s c.later c.are c.follow

grown_accepted : (s : Machine) (N : Model) → Grown s → Follows (held s) N → Grown (accepted s N)
grown_accepted s N grown f = record { begins = (f, grown.begins); follow = tt }

back : (past : List Model) (M : Model) (future : List Model) → Begins M past → AllFollow M future → Grown (undo (record { past = past; present = M; future = future }))
back [] M future b f = record { begins = b; follow = f }
back (P ∷ Ps) M future b f = record { begins = b.1; follow = (b.0, f) }

forth : (past : List Model) (M : Model) (future : List Model) → Begins M past → AllFollow M future → Grown (redo (record { past = past; present = M; future = future }))
forth past M [] b f = record { begins = b; follow = f }
forth past M (N ∷ Ns) b f = record { begins = (f.0, b); follow = f.1 }

-- one operator, and some, each accepted in its turn
one_follows : (M : Model) (op : Op) → first_false M op ≡ None → Follows M (effect M op)
one_follows M op goes = record { operators = op ∷ []; are_accepted = (goes, tt); make = refl }

further_follows : (M N K : Model) → Follows M N → Follows N K → Follows M K
further_follows M N K f g = record {
  operators = f.operators ++ g.operators;
  are_accepted = AreAccepted-append M f.operators g.operators f.are_accepted (subst (λ (X : Model). AreAccepted X g.operators) (sym f.make) g.are_accepted);
  make = effects-append M f.operators g.operators ∙ ap (λ (X : Model). effects X g.operators) f.make ∙ g.make;
}

pub none_first : (a b : Option Refusal) → first_of a b ≡ None → (a ≡ None) × (b ≡ None)
none_first None b e = (refl, e)
none_first (Some r) b e = absurd (true≢false (ap is_some e))

pub run_goes : (M : Model) (ops : List Op) → run_refusal M ops ≡ None → AreAccepted M ops
run_goes M [] e = tt
run_goes M (op ∷ ops) e = let both = none_first (first_false M op) (run_refusal (effect M op) ops) e in (both.0, run_goes (effect M op) ops both.1)

both_none : (a b : Option Refusal) → a ≡ None → b ≡ None → first_of a b ≡ None
both_none a b e f = ap (λ (x : Option Refusal). first_of x b) e ∙ f

none_refused : (M : Model) (ops : List Op) → AreAccepted M ops → run_refusal M ops ≡ None
none_refused M [] a = refl
none_refused M (op ∷ ops) a = both_none (first_false M op) (run_refusal (effect M op) ops) a.0 (none_refused (effect M op) ops a.1)

pub larger_commands_are_calls : LargerCommandsAreCalls
larger_commands_are_calls s ops a = ap (λ (o : Option Refusal). unless o (accepted s (effects (held s) ops)) s) (none_refused (held s) ops a)

grown_unless : (o : Option Refusal) (new old : Machine) → (o ≡ None → Grown new) → Grown old → Grown (unless o new old)
grown_unless None new old n g = n refl
grown_unless (Some r) new old n g = g

-- a draft's machine stays, and its model follows the one held
pub tried_session : (d : DraftState) (ops : List Op) → (tried d ops).session ≡ d.session
tried_session d [] = refl
tried_session d (op ∷ ops) = tried_session (unless (first_false d.model op) (draft_step d op) d) ops ∙ one_session d op (first_false d.model op)
  where
    one_session : (d : DraftState) (op : Op) (o : Option Refusal) → (unless o (draft_step d op) d).session ≡ d.session
    one_session d op None = refl
    one_session d op (Some r) = refl

one_tried : (M : Model) (d : DraftState) (op : Op) (o : Option Refusal) → first_false d.model op ≡ o → Follows M d.model → Follows M (unless o (draft_step d op) d).model
one_tried M d op None e f = further_follows M d.model (effect d.model op) f (one_follows d.model op e)
one_tried M d op (Some r) e f = f

tried_follows : (M : Model) (d : DraftState) (ops : List Op) → Follows M d.model → Follows M (tried d ops).model
tried_follows M d [] f = f
tried_follows M d (op ∷ ops) f = tried_follows M (unless (first_false d.model op) (draft_step d op) d) ops (one_tried M d op (first_false d.model op) refl f)

grown_commit : (s : Machine) (d : DraftState) → d.session ≡ s → Follows (held s) d.model → Grown s → Grown (accepted d.session d.model)
grown_commit s d e f grown = subst (λ (x : Machine). Grown (accepted x d.model)) (sym e) (grown_accepted s d.model grown f)

nothing : (M : Model) → Follows M M
nothing M = record { operators = []; are_accepted = tt; make = refl }

grown_call : (s : Machine) (call : Call) → Grown s → Grown (after_call s call)
grown_call s (acted op) grown = grown_unless (first_false (held s) op) (act s op) s (λ (goes : first_false (held s) op ≡ None). grown_accepted s (effect (held s) op) grown (one_follows (held s) op goes)) grown
grown_call s (made ops) grown = grown_unless (run_refusal (held s) ops) (accepted s (effects (held s) ops)) s (λ (goes : run_refusal (held s) ops ≡ None). grown_accepted s (effects (held s) ops) grown (record { operators = ops; are_accepted = run_goes (held s) ops goes; make = refl })) grown
grown_call s (committed ops) grown = grown_commit s (tried (open_draft s) ops) (tried_session (open_draft s) ops) (tried_follows (held s) (open_draft s) ops (nothing (held s))) grown
grown_call s (abandoned ops) grown = subst Grown (sym (tried_session (open_draft s) ops)) grown
grown_call s undone grown = back s.past s.present s.future grown.begins grown.follow
grown_call s redone grown = forth s.past s.present s.future grown.begins grown.follow
grown_call s stopped grown = grown

grown_calls : (s : Machine) (calls : List Call) → Grown s → Grown (after_calls s calls)
grown_calls s [] grown = grown
grown_calls s (call ∷ calls) grown = grown_calls (after_call s call) calls (grown_call s call grown)

pub histories_are_consistent : HistoriesAreConsistent
histories_are_consistent calls = grown_consistent (after_calls start calls) (grown_calls start calls (record { begins = refl; follow = tt }))

-- ---- and a call of a consistent machine leads to one

first_of_list : {X : Type 0} (xs : List X) (y : X) (ys : List X) → (a : X) × (later : List X) × (xs ++ y ∷ ys ≡ a ∷ later)
first_of_list [] y ys = (y, ys, refl)
first_of_list (x ∷ xs) y ys = (x, xs ++ y ∷ ys, refl)

all_follow : (A : Model) (Ms : List Model) (d : Model) → ((i : ℕ) → i < length Ms → Follows (get_or (A ∷ Ms) i d) (get_or Ms i d)) → AllFollow A Ms
all_follow A [] d each = tt
all_follow A (M ∷ Ms) d each = (each 0 (omega arith), all_follow M Ms d (λ i h. each (suc i) (omega (arith, h))))

-- a list of copies, cut at the model held
parted : (Ps : List Model) (M : Model) (Ns : List Model) (A : Model) (later : List Model) → reverse Ps ++ M ∷ Ns ≡ A ∷ later → A ≡ empty_model → AllFollow A later → Begins M Ps × AllFollow M Ns
parted [] M Ns A later are empty all = (
  ap (λ (Xs : List Model). get_or Xs 0 empty_model) are ∙ empty,
  subst (λ (Xs : List Model). AllFollow M Xs) (sym (ap (drop 1) are)) (subst (λ (X : Model). AllFollow X later) (sym (ap (λ (Xs : List Model). get_or Xs 0 empty_model) are)) all),
)
parted (P ∷ Ps) M Ns A later are empty all =
    let before = parted Ps P (M ∷ Ns) A later (sym (one_more Ps P (M ∷ Ns)) ∙ are) empty all in ((before.1.0, before.0), before.1.1)

consistent_grown : (s : Machine) → IsConsistent s → Grown s
consistent_grown s kept =
    let begun = first_of_list (reverse s.past) s.present s.future in
    let A = begun.0 in let later = begun.1 in let are = begun.2 in
    let many : length later ≡ depth s + ahead s = let a : suc (length later) ≡ length (models s) = ap length (sym are) in let b = how_many s in omega (arith, a, b) in
    let at : (i : ℕ) → model_at s i ≡ get_or (A ∷ later) i empty_model = λ i. ap (λ (Xs : List Model). get_or Xs i empty_model) are in
    let next : (i : ℕ) → model_at s (i + 1) ≡ get_or later i empty_model = λ i. ap (model_at s) (let n : i + 1 ≡ suc i = omega arith in n) ∙ at (suc i) in
    let all = all_follow A later empty_model (λ i h. subst (λ (X : Model). Follows X (get_or later i empty_model)) (at i) (subst (λ (X : Model). Follows (model_at s i) X) (next i) (kept.linked i (omega (arith, h, many))))) in
    let cut = parted s.past s.present s.future A later are (sym (at 0) ∙ kept.first) all in record { begins = cut.0; follow = cut.1 }

pub consistent_call : (s : Machine) (call : Call) → IsConsistent s → IsConsistent (after_call s call)
consistent_call s call kept = grown_consistent (after_call s call) (grown_call s call (consistent_grown s kept))

-- records that lead on
lead_follow : (A : Model) (rs : List Record) → AllLead A rs → AllFollow A (models_ahead A rs)
lead_follow A [] lead = tt
lead_follow A (r ∷ rs) lead = (record { operators = r.forward; are_accepted = lead.0.forward_goes; make = refl }, lead_follow (effects A r.forward) rs lead.1)

pub journal_consistent : (M : Model) (records : List Record) (place : ℕ) → IsJournal M records place → IsConsistent (machine_of M records place)
journal_consistent M records place kept = consistent (machine_of M records place) (models_ahead empty_model records) (models_are M records place kept) (lead_follow empty_model records kept.lead)
