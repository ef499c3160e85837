-- What isn't done changes nothing; and where memory isn't refused, calls have one list of answers.
use Rattle.call_lists.proofs.Prelude.{◌≡◌, inl, inr, Bool, true, false, Option, List, [], ◌∷◌, refl, sym, ap, subst, ◌∙◌, true≢false, ◌≢◌, cond, Abandon, Ask, Back, Call, Change, Command, Commit, Done, DraftJournal, Drafting, Give, Journal, Machine, Mark, Memory, Model, Open, Redo, Refusal, Refused, Session, Settled, Stage, Tells, TellsDraft, TellsSession, Told, Undo, accepted, asked, held, made, redo, redo_refusal, refusal_of, undo, undo_refusal, same_machine, ended, MakesAll, OnlyDoneChanges, IdleListsStay, is_memory, heard, told_else, MemoryCanBeLeftOut, view_of, IsUnmarked, ListsHaveOneAnswer, ListsHaveOneOutcome}
use Rattle.undo_journal.specs.Journal.{recorded, record_of}
use Rattle.commands.specs.Changes.{operators_of}
use Rattle.solid_listing.specs.declared.told.Told.TheVariants as told
use Rattle.commands.proofs.Kept as kept
use Rattle.call_lists.proofs.Histories.{session_stays}

-- ---- what isn't done changes nothing

pub only_done_changes : OnlyDoneChanges
only_done_changes = kept.only_done_changes

pub idle_lists_stay : IdleListsStay
idle_lists_stay g h [] [] other x = x
idle_lists_stay g h (c ∷ calls) (a ∷ answers) other x = idle_lists_stay x.0 h calls answers other.1 x.2 ∙ only_done_changes g x.0 c a other.0 x.1
idle_lists_stay g h _ _ other x = absurd x

-- ---- calls that are told `Memory` can be left out

told_memory : (a : Told) → is_memory a ≡ true → a ≢ Done
told_memory a is e = true≢false (sym is ∙ ap is_memory e)

-- the first call is left out, or it isn't
module _ (g k h : Stage) (c : Call) (a : Told) (calls : List Call) (answers : List Told) (first : Tells g c a k) (rest : MakesAll k (heard calls answers) (told_else answers) h) where
  first_or_not : (b : Bool) → is_memory a ≡ b → MakesAll g (cond b (heard calls answers) (c ∷ heard calls answers)) (cond b (told_else answers) (a ∷ told_else answers)) h
  first_or_not true is = subst (λ (x : Stage). MakesAll x (heard calls answers) (told_else answers) h) (only_done_changes g k c a (told_memory a is) first) rest
  first_or_not false is = (k, first, rest)

pub memory_can_be_left_out : MemoryCanBeLeftOut
memory_can_be_left_out g h [] [] x = x
memory_can_be_left_out g h (c ∷ calls) (a ∷ answers) x = first_or_not g x.0 h c a calls answers x.1 (memory_can_be_left_out x.0 h calls answers x.2) (is_memory a) refl
memory_can_be_left_out g h _ _ x = absurd x

-- ---- one list of answers

-- two answers to a command that the same refuses are alike, and lead to the same view: done both, or idle both
both_alike : {V : Type 0} (o p : Option Refusal) (L S G K R H : Type 0) (a b : Told) (now next x y : V) → p ≡ o → a ≢ Memory → b ≢ Memory → (S → x ≡ now) → (G → x ≡ next) → (R → y ≡ now) → (H → y ≡ next)
    → Settled o L S G a → Settled p K R H b → (b ≡ a) × (y ≡ x)
both_alike o p L S G K R H a b now next x y same na nb idle goes idles go first second = elim (ended o L S G a first) [
  | inl d ↦ elim (ended p K R H b second) [
    | inl e ↦ (e.0 ∙ sym d.0, go e.2 ∙ sym (goes d.2))
    | inr (inl e) ↦ absurd (cc (sym d.1 ∙ sym same ∙ e.2))
    | inr (inr m) ↦ absurd (nb m.0)
  ]
  | inr (inl d) ↦ elim (ended p K R H b second) [
    | inl e ↦ absurd (cc (sym e.1 ∙ same ∙ d.2))
    | inr (inl e) ↦ (e.1 ∙ ap Refused (cc (sym e.2 ∙ same ∙ d.2)) ∙ sym d.1, idles e.3 ∙ sym (idle d.3))
    | inr (inr m) ↦ absurd (nb m.0)
  ]
  | inr (inr m) ↦ absurd (na m.0)
]

session_one : (s u t v : Journal) (c : Command) (a b : Told) → a ≢ Memory → b ≢ Memory → u.machine ≡ s.machine → TellsSession s c a t → TellsSession u c b v → (b ≡ a) × (v.machine ≡ t.machine)
session_one s u t v (Change c) a b na nb is x y =
    both_alike _ _ _ _ _ _ _ _ a b s.machine _ t.machine v.machine (ap (λ (m : Machine). refusal_of (held m) c) is) na nb same_machine (λ g. g.0)
    (λ k. same_machine k ∙ is) (λ h. h.0 ∙ ap (λ (m : Machine). accepted m (made (held m) c)) is) x y
session_one s u t v (Ask q) a b na nb is x y = (y.0 ∙ ap (λ (m : Machine). asked (held m) q) is ∙ sym x.0, same_machine y.1 ∙ is ∙ sym (same_machine x.1))
session_one s u t v Undo a b na nb is x y =
    both_alike _ _ _ _ _ _ _ _ a b s.machine _ t.machine v.machine (ap undo_refusal is) na nb same_machine same_machine (λ k. same_machine k ∙ is) (λ h. same_machine h ∙ ap undo is) x y
session_one s u t v Redo a b na nb is x y =
    both_alike _ _ _ _ _ _ _ _ a b s.machine _ t.machine v.machine (ap redo_refusal is) na nb same_machine same_machine (λ k. same_machine k ∙ is) (λ h. same_machine h ∙ ap redo is) x y

abbrev model_of : DraftJournal → Model
model_of d = d.model

draft_one : (d f e k : DraftJournal) (c : Command) (a b : Told) → a ≢ Memory → b ≢ Memory → f.model ≡ d.model → TellsDraft d c a e → TellsDraft f c b k → (b ≡ a) × (k.model ≡ e.model)
draft_one d f e k (Change c) a b na nb is x y =
    both_alike _ _ _ _ _ _ _ _ a b d.model _ e.model k.model (ap (λ (M : Model). refusal_of M c) is) na nb (ap model_of) (λ z. z.0) (λ z. ap model_of z ∙ is) (λ z. z.0 ∙ ap (λ (M : Model). made M c) is) x y
draft_one d f e k (Ask q) a b na nb is x y = (y.0 ∙ ap (λ (M : Model). asked M q) is ∙ sym x.0, ap model_of y.1 ∙ is ∙ sym (ap model_of x.1))
draft_one d f e k c a b na nb is x y = (y.0 ∙ sym x.0, ap model_of y.1 ∙ is ∙ sym (ap model_of x.1))

-- two stages that are reached are seen alike where those are that are known
alike : (g h k j : Stage) → h ≡ g → j ≡ k → view_of k ≡ view_of g → view_of j ≡ view_of h
alike g h k j x y is = ap view_of y ∙ is ∙ sym (ap view_of x)

one_call : (g k h j : Stage) (c : Call) (a b : Told) → IsUnmarked c → a ≢ Memory → b ≢ Memory → view_of k ≡ view_of g → Tells g c a h → Tells k c b j → (b ≡ a) × (view_of j ≡ view_of h)
one_call (Session s) (Session u) h j (Give c) a b un na nb is x y =
    let one = session_one s u x.0 y.0 c a b na nb (λ i. (is i).machine) x.2 y.2 in
    (one.0, alike (Session x.0) h (Session y.0) j x.1 y.1 (λ i. record { machine = one.1 i; model = held (one.1 i); drafting = false }))
one_call (Session s) (Session u) h j Open a b un na nb is (inl x) (inl y) =
    (y.0 ∙ sym x.0, alike _ h _ j x.1 y.1 (λ i. record { machine = (is i).machine; model = held (is i).machine; drafting = true }))
one_call (Session s) (Session u) h j Open a b un na nb is (inl x) (inr y) = absurd (nb y.0)
one_call (Session s) (Session u) h j Open a b un na nb is (inr x) y = absurd (na x.0)
one_call (Session s) (Session u) h j Mark a b un na nb is x y = absurd un
one_call (Session s) (Session u) h j (Back n) a b un na nb is x y = absurd un
one_call (Session s) (Session u) h j c a b un na nb is x y = (y.0 ∙ sym x.0, alike (Session s) h (Session u) j x.1 y.1 is)
one_call (Session s) (Drafting f) h j c a b un na nb is x y = absurd (true≢false (λ i. (is i).drafting))
one_call (Drafting d) (Session u) h j c a b un na nb is x y = absurd (true≢false (sym (λ i. (is i).drafting)))
one_call (Drafting d) (Drafting f) h j (Give c) a b un na nb is x y =
    let one = draft_one d.draft f.draft x.0.draft y.0.draft c a b na nb (λ i. (is i).model) x.2 y.2 in
    let first = session_stays d.draft x.0.draft c a x.2 in
    let second = session_stays f.draft y.0.draft c b y.2 in
    let known : f.draft.session.machine ≡ d.draft.session.machine = λ i. (is i).machine in
    let machine = same_machine second ∙ known ∙ sym (same_machine first) in
    (one.0, alike (Drafting x.0) h (Drafting y.0) j x.1 y.1 (λ i. record { machine = machine i; model = one.1 i; drafting = true }))
one_call (Drafting d) (Drafting f) h j Open a b un na nb is x y = (y.0 ∙ sym x.0, alike (Drafting d) h (Drafting f) j x.1 y.1 is)
one_call (Drafting d) (Drafting f) h j Commit a b un na nb is x y =
    (y.0 ∙ sym x.0, alike _ h _ j x.1 y.1 (λ i. record { machine = accepted (is i).machine (is i).model; model = (is i).model; drafting = false }))
one_call (Drafting d) (Drafting f) h j Abandon a b un na nb is x y =
    (y.0 ∙ sym x.0, alike _ h _ j x.1 y.1 (λ i. record { machine = (is i).machine; model = held (is i).machine; drafting = false }))
one_call (Drafting d) (Drafting f) h j c a b un na nb is x y = absurd un

pub lists_have_one_answer : ListsHaveOneAnswer
lists_have_one_answer g k h j [] [] [] un na nb is x y = (refl, alike g h k j x y is)
lists_have_one_answer g k h j [] [] (b ∷ others) un na nb is x y = absurd y
lists_have_one_answer g k h j (c ∷ calls) (a ∷ answers) [] un na nb is x y = absurd y
lists_have_one_answer g k h j (c ∷ calls) (a ∷ answers) (b ∷ others) un na nb is x y =
    let first = one_call g k x.0 y.0 c a b un.0 na.0 nb.0 is x.1 y.1 in
    let later = lists_have_one_answer x.0 y.0 h j calls answers others un.1 na.1 nb.1 first.1 x.2 y.2 in (
      λ i. first.0 i ∷ later.0 i,
      later.1,
    )
lists_have_one_answer g k h j _ _ others un na nb is x y = absurd x

-- ---- one list of answers, one stage, with marks, steps and records

session_all : (s t v : Journal) (c : Command) (a b : Told) → a ≢ Memory → b ≢ Memory → TellsSession s c a t → TellsSession s c b v → (b ≡ a) × (v ≡ t)
session_all s t v (Change c) a b na nb x y =
    both_alike _ _ _ _ _ _ _ _ a b s (record { machine = accepted s.machine (made (held s.machine) c); records = recorded s (record_of (held s.machine) (operators_of (held s.machine) c)) }) t v refl na nb
    (λ k. k) (λ g. (λ i. record { machine = g.0 i; records = g.1 i })) (λ k. k) (λ h. (λ i. record { machine = h.0 i; records = h.1 i })) x y
session_all s t v (Ask q) a b na nb x y = (y.0 ∙ sym x.0, y.1 ∙ sym x.1)
session_all s t v Undo a b na nb x y = both_alike _ _ _ _ _ _ _ _ a b s _ t v refl na nb (λ k. k) (λ k. k) (λ k. k) (λ k. k) x y
session_all s t v Redo a b na nb x y = both_alike _ _ _ _ _ _ _ _ a b s _ t v refl na nb (λ k. k) (λ k. k) (λ k. k) (λ k. k) x y

draft_all : (d e k : DraftJournal) (c : Command) (a b : Told) → a ≢ Memory → b ≢ Memory → TellsDraft d c a e → TellsDraft d c b k → (b ≡ a) × (k ≡ e)
draft_all d e k (Change c) a b na nb x y = both_alike _ _ _ _ _ _ _ _ a b d _ e k refl na nb (λ z. z) (λ z. z.1.1) (λ z. z) (λ z. z.1.1) x y
draft_all d e k (Ask q) a b na nb x y = (y.0 ∙ sym x.0, y.1 ∙ sym x.1)
draft_all d e k c a b na nb x y = (y.0 ∙ sym x.0, y.1 ∙ sym x.1)

abbrev drafting_of : DraftJournal → Stage
drafting_of d = Drafting (record { draft = d })

all_one : (g h j : Stage) (c : Call) (a b : Told) → a ≢ Memory → b ≢ Memory → Tells g c a h → Tells g c b j → (b ≡ a) × (j ≡ h)
all_one (Session s) h j (Give c) a b na nb x y =
    let one = session_all s x.0 y.0 c a b na nb x.2 y.2 in (one.0, y.1 ∙ ap Session one.1 ∙ sym x.1)
all_one (Session s) h j Open a b na nb (inl x) (inl y) = (y.0 ∙ sym x.0, y.1 ∙ sym x.1)
all_one (Session s) h j Open a b na nb (inl x) (inr y) = absurd (nb y.0)
all_one (Session s) h j Open a b na nb (inr x) y = absurd (na x.0)
all_one (Session s) h j c a b na nb x y = (y.0 ∙ sym x.0, y.1 ∙ sym x.1)
all_one (Drafting d) h j (Give c) a b na nb x y =
    let one = draft_all d.draft x.0.draft y.0.draft c a b na nb x.2 y.2 in (one.0, y.1 ∙ ap drafting_of one.1 ∙ sym x.1)
all_one (Drafting d) h j Mark a b na nb x y = (y.1 ∙ ap told.Steps (y.2.steps ∙ sym x.2.steps) ∙ sym x.1, y.3 ∙ sym x.3)
all_one (Drafting d) h j c a b na nb x y = (y.0 ∙ sym x.0, y.1 ∙ sym x.1)

pub lists_have_one_outcome : ListsHaveOneOutcome
lists_have_one_outcome g h j [] [] [] na nb x y = (refl, y ∙ sym x)
lists_have_one_outcome g h j [] [] (b ∷ others) na nb x y = absurd y
lists_have_one_outcome g h j (c ∷ calls) (a ∷ answers) [] na nb x y = absurd y
lists_have_one_outcome g h j (c ∷ calls) (a ∷ answers) (b ∷ others) na nb x y =
    let first = all_one g x.0 y.0 c a b na.0 nb.0 x.1 y.1 in
    let later = lists_have_one_outcome x.0 h j calls answers others na.1 nb.1 x.2 (subst (λ (z : Stage). MakesAll z calls others j) first.1 y.2) in
    (λ i. first.0 i ∷ later.0 i, later.1)
lists_have_one_outcome g h j _ _ others na nb x y = absurd x
