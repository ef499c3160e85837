-- A mark, and the draft as it was there.
use Rattle.call_lists.proofs.Prelude.{◌≡◌, ◌≢◌, ℕ, ◌+◌, ◌-◌, ◌≤◌, List, [], ◌∷◌, ◌++◌, length, take, drop, refl, sym, ap, subst, ◌∙◌, inl, inr, take-append-drop, arith, take-append-add, AreAccepted, effects, AreAccepted-front, effects-append, Back, Call, Change, Command, Done, DraftJournal, Drafting, Give, Mark, MayLack, NoDraft, Open, OpenDraft, Session, Stage, TakesSteps, Tells, TellsDraft, Told, held, made, refusal_of, IsFurther, IsMark, back_at, each_inverse, new_draft, each-length, each-take, further_none, further_same, further_on, back_at_mark, ended, MakesAll, Each, GoesOnFrom, StepsAreMarks, MarksLeadBack}
use Rattle.euler_operators.specs.Common.{Model}
use Rattle.euler_operators.specs.declared.Op.{Op}
use Rattle.solid_listing.specs.declared.told.Told.TheVariants as told

-- the steps of a draft that is what they make of a new one are a mark
mark_of : (d : DraftJournal) → IsFurther (new_draft d.session) d → IsMark d (length d.forward)
unfolding IsFurther
mark_of d further =
    let forward : d.forward ≡ further.0 = ap (λ (x : DraftJournal). x.forward) further.2 in record {
      steps = refl;
      inverses = ap length forward ∙ sym (each-length (held d.session.machine) further.0) ∙ sym (ap (λ (x : DraftJournal). length x.back) further.2);
      model = ap (λ (x : DraftJournal). x.model) further.2 ∙ ap (effects (held d.session.machine)) (sym forward);
    }

pub steps_are_marks : StepsAreMarks
steps_are_marks d whole = (length d.draft.forward, refl, mark_of d.draft whole.2, refl)

-- a draft that went further since a mark, taken back to a step from there on
pub further_in : (n m : ℕ) (d e : DraftJournal) → IsMark d n → IsFurther d e → n ≤ m → IsFurther d (back_at e m)
unfolding IsFurther
further_in n m d e mark further le =
    let ops = further.0 in
    let k = m - length d.forward in
    let there : m ≡ length d.forward + k = omega (arith, mark.steps, le) in
    let inverses_there : m ≡ length d.back + k = omega (arith, mark.steps, mark.inverses, le) in
    let forward = ap (λ (i : ℕ). take i (d.forward ++ ops)) there ∙ take-append-add d.forward ops k in
    let back = ap (λ (i : ℕ). take i (d.back ++ each_inverse d.model ops)) inverses_there ∙ take-append-add d.back (each_inverse d.model ops) k ∙ ap (λ (xs : List Op). d.back ++ xs) (each-take d.model k ops) in
    let model = ap (effects (held d.session.machine)) forward ∙ effects-append (held d.session.machine) d.forward (take k ops) ∙ ap (λ (M : Model). effects M (take k ops)) (sym mark.model) in (
      take k ops,
      AreAccepted-front d.model (take k ops) (drop k ops) (subst (AreAccepted d.model) (sym (take-append-drop k ops)) further.1),
      ap (λ (x : DraftJournal). back_at x m) further.2 ∙ (λ i. record { session = d.session; model = model i; forward = forward i; back = back i }),
    )

-- whatever a draft is told, it goes further
pub draft_goes : (d e : DraftJournal) (c : Command) (a : Told) → TellsDraft d c a e → IsFurther d e
draft_goes d e (Change c) a h = elim (ended (refusal_of d.model c) (MayLack d.model c) (e ≡ d) ((e.model ≡ made d.model c) × TakesSteps d c e) a h) [
  | inl x ↦ x.2.1.0
  | inr (inl r) ↦ further_same d e r.3
  | inr (inr m) ↦ further_same d e m.1
]
draft_goes d e c a h = further_same d e h.1

abbrev GoesFurther : DraftJournal → Stage → Type 0
GoesFurther d (Drafting e) = IsFurther d e.draft
GoesFurther d (Session s) = ⊥

goes_on : (d : DraftJournal) (n : ℕ) (g k : Stage) (c : Call) (a : Told) → IsMark d n → GoesOnFrom n c → GoesFurther d g → Tells g c a k → GoesFurther d k
goes_on d n (Drafting e) k (Give c) a mark on x t = subst (GoesFurther d) (sym t.1) (further_on d e.draft t.0.draft x (draft_goes e.draft t.0.draft c a t.2))
goes_on d n (Drafting e) k Open a mark on x t = subst (GoesFurther d) (sym t.1) x
goes_on d n (Drafting e) k Mark a mark on x t = subst (GoesFurther d) (sym t.3) x
goes_on d n (Drafting e) k (Back m) a mark on x t = subst (GoesFurther d) (sym t.1) (further_in n m d e.draft mark x on)
goes_on d n (Drafting e) k c a mark on x t = absurd on
goes_on d n (Session s) k c a mark on x t = absurd x

all_go : (d : DraftJournal) (n : ℕ) (g h : Stage) (calls : List Call) (answers : List Told) → IsMark d n → Each (GoesOnFrom n) calls → GoesFurther d g → MakesAll g calls answers h → GoesFurther d h
all_go d n g h [] [] mark on x m = subst (GoesFurther d) (sym m) x
all_go d n g h (c ∷ calls) (a ∷ answers) mark on x m = all_go d n m.0 h calls answers mark on.1 (goes_on d n g m.0 c a mark on.0 x m.1) m.2
all_go d n g h _ _ mark on x m = absurd m

back_there : (d : OpenDraft) (n : ℕ) (h j : Stage) (a : Told) → IsMark d.draft n → GoesFurther d.draft h → Tells h (Back n) a j → (a ≡ Done) × (j ≡ Drafting d)
back_there d n (Drafting e) j a mark x t = (t.0, t.1 ∙ ap (λ (z : DraftJournal). Drafting (record { draft = z })) (back_at_mark d.draft e.draft n mark x))
back_there d n (Session s) j a mark x t = absurd x

abbrev steps_told : Told → ℕ
steps_told (told.Steps n) = n
steps_told a = 0

is_told : (n : ℕ) → told.Steps n ≢ NoDraft
is_told n e = cc

pub marks_lead_back : MarksLeadBack
marks_lead_back (Session s) k h j n calls answers a t on m back = absurd (is_told n t.0)
marks_lead_back (Drafting d) k h j n calls answers a t on m back =
    let mark : IsMark d.draft n = subst (IsMark d.draft) (sym (ap steps_told t.1)) t.2 in
    back_there d n h j a mark (all_go d.draft n k h calls answers mark on (subst (GoesFurther d.draft) (sym t.3) (further_none d.draft)) m) back
