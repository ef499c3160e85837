-- Steps since a mark, taken back.
use Rattle.undo_journal.proofs.Prelude.{sym, subst, ap, ◌∙◌, ◌≡◌, ℕ, suc, List, [], ◌∷◌, ◌++◌, length, take, drop, reverse, refl, Result, Ok, Err, OnOk, OnErr, None, take-append-drop, take_at, append-nil, append_assoc, reverse-append, Model, Sound, effect, first_false, inverse, Op, effects, AreAccepted, inverses, effects-append, AreAccepted-append, AreAccepted-front, AreAccepted-back, effects_keep_sound, inverses_undo, inverses_go, LeadsBothWays, opened, command_of, held, accepted, Record, Journal, DraftJournal, new_draft, after_step, after_steps, after_commit, record_of, recorded, each_inverse, IsMark, IsFurther, IsRecorded, back_at}

-- ---- inverses in their order

pub each-append : (M : Model) (ops more : List Op) → each_inverse M (ops ++ more) ≡ each_inverse M ops ++ each_inverse (effects M ops) more
each-append M [] more = refl
each-append M (o ∷ ops) more = ap (λ (xs : List Op). inverse M o ∷ xs) (each-append (effect M o) ops more)

pub each-length : (M : Model) (ops : List Op) → length (each_inverse M ops) ≡ length ops
each-length M [] = refl
each-length M (o ∷ ops) = ap suc (each-length (effect M o) ops)

pub each-take : (M : Model) (n : ℕ) (ops : List Op) → take n (each_inverse M ops) ≡ each_inverse M (take n ops)
each-take M (suc n) (o ∷ ops) = ap (λ (xs : List Op). inverse M o ∷ xs) (each-take (effect M o) n ops)
each-take M n ops = refl

pub each-drop : (M : Model) (n : ℕ) (ops : List Op) → drop n (each_inverse M ops) ≡ each_inverse (effects M (take n ops)) (drop n ops)
each-drop M (suc n) (o ∷ ops) = each-drop (effect M o) n ops
each-drop M n ops = refl

pub each-reverse : (M : Model) (ops : List Op) → reverse (each_inverse M ops) ≡ inverses M ops
each-reverse M [] = refl
each-reverse M (o ∷ ops) = reverse-append (inverse M o ∷ []) (each_inverse (effect M o) ops) ∙ ap (λ (xs : List Op). xs ++ inverse M o ∷ []) (each-reverse (effect M o) ops)

-- ---- steps from A to M, and the inverse of each: those from the place n on are taken back
module _ (A M : Model) (forward back : List Op) (n : ℕ) (sound : Sound A) (goes : AreAccepted A forward) (made : effects A forward ≡ M) (paired : back ≡ each_inverse A forward) where
  abbrev at_mark : Model
  at_mark = effects A (take n forward)

  whole : AreAccepted A (take n forward ++ drop n forward)
  whole = subst (AreAccepted A) (sym (take-append-drop n forward)) goes

  front_goes : AreAccepted A (take n forward)
  front_goes = AreAccepted-front A (take n forward) (drop n forward) whole

  rest_goes : AreAccepted at_mark (drop n forward)
  rest_goes = AreAccepted-back A (take n forward) (drop n forward) whole

  rest_made : effects at_mark (drop n forward) ≡ M
  rest_made = sym (effects-append A (take n forward) (drop n forward)) ∙ ap (effects A) (take-append-drop n forward) ∙ made

  mark_sound : Sound at_mark
  mark_sound = effects_keep_sound A (take n forward) sound front_goes

  rest_inverses : reverse (drop n back) ≡ inverses at_mark (drop n forward)
  rest_inverses = ap (λ (xs : List Op). reverse (drop n xs)) paired ∙ ap reverse (each-drop A n forward) ∙ each-reverse at_mark (drop n forward)

  pub front_paired : take n back ≡ each_inverse A (take n forward)
  front_paired = ap (take n) paired ∙ each-take A n forward

  front_inverses : reverse (take n back) ≡ inverses A (take n forward)
  front_inverses = ap reverse front_paired ∙ each-reverse A (take n forward)

  pub rest_goes_back : AreAccepted M (reverse (drop n back))
  rest_goes_back =
      subst (λ (X : Model). AreAccepted X (reverse (drop n back))) rest_made
      (subst (AreAccepted (effects at_mark (drop n forward))) (sym rest_inverses) (inverses_go at_mark (drop n forward) mark_sound rest_goes))

  pub rest_undone : effects M (reverse (drop n back)) ≡ at_mark
  rest_undone =
      ap (effects M) rest_inverses
      ∙ ap (λ (X : Model). effects X (inverses at_mark (drop n forward))) (sym rest_made)
      ∙ inverses_undo at_mark (drop n forward) mark_sound rest_goes

  pub front_opened : opened at_mark (take n back) ≡ A
  front_opened = ap (effects at_mark) front_inverses ∙ inverses_undo A (take n forward) sound front_goes

  pub front_leads : LeadsBothWays A (command_of (take n forward) (take n back)) at_mark
  front_leads = record {
    forward_goes = front_goes;
    forward = refl;
    back_goes = subst (AreAccepted at_mark) (sym front_inverses) (inverses_go A (take n forward) sound front_goes);
    back = front_opened;
  }

-- ---- further steps

pub further_steps : (d : DraftJournal) (ops : List Op) → AreAccepted d.model ops → IsFurther d (after_steps d ops)
unfolding IsFurther
further_steps d ops goes = (ops, goes, refl)

pub no_steps : (d : DraftJournal) → after_steps d [] ≡ d
no_steps d i = record { session = d.session; model = d.model; forward = append-nil d.forward i; back = append-nil d.back i }

pub further_none : (d : DraftJournal) → IsFurther d d
further_none d = subst (IsFurther d) (no_steps d) (further_steps d [] tt)

pub further_same : (d e : DraftJournal) → e ≡ d → IsFurther d e
further_same d e same = subst (IsFurther d) (sym same) (further_none d)

pub further_tried : {X Y : Type 0} (d e : DraftJournal) (o : Op) (r : Result X Y) → first_false d.model o ≡ None → OnOk r (e ≡ after_step d o) → OnErr r (e ≡ d) → IsFurther d e
further_tried d e o (Ok x) goes ok err = subst (IsFurther d) (sym ok) (further_steps d (o ∷ []) (goes, tt))
further_tried d e o (Err y) goes ok err = further_same d e err

pub after_both : (d : DraftJournal) (ops more : List Op) → after_steps (after_steps d ops) more ≡ after_steps d (ops ++ more)
after_both d ops more =
    let back = append_assoc d.back (each_inverse d.model ops) (each_inverse (effects d.model ops) more) ∙ ap (λ (xs : List Op). d.back ++ xs) (sym (each-append d.model ops more)) in
    λ i. record { session = d.session; model = sym (effects-append d.model ops more) i; forward = append_assoc d.forward ops more i; back = back i }

pub further_on : (d e f : DraftJournal) → IsFurther d e → IsFurther e f → IsFurther d f
unfolding IsFurther
further_on d e f a b = (
  a.0 ++ b.0,
  AreAccepted-append d.model a.0 b.0 a.1 (subst (λ (x : DraftJournal). AreAccepted x.model b.0) a.2 b.1),
  b.2 ∙ ap (λ (x : DraftJournal). after_steps x b.0) a.2 ∙ after_both d a.0 b.0,
)

pub further_session : (d e : DraftJournal) → IsFurther d e → e.session ≡ d.session
unfolding IsFurther
further_session d e further = ap (λ (x : DraftJournal). x.session) further.2

-- a draft that was opened, went further and was committed leaves one record
pub further_recorded : (s t : Journal) (d e : DraftJournal) → d ≡ new_draft s → IsFurther d e → t ≡ after_commit e → IsRecorded s t
further_recorded s t d e opened further is =
    let command : Record = record { forward = e.forward; back = reverse e.back } in
    let session = further_session d e further ∙ ap (λ (x : DraftJournal). x.session) opened in
    record { command = command; appended = ap (λ (j : Journal). j.records) is ∙ ap (λ (j : Journal). recorded j command) session }

-- and what it made of the model, on the machine
pub further_accepted : (s t : Journal) (d e : DraftJournal) (made : Model → Model) → d ≡ new_draft s → IsFurther d e → e.model ≡ made d.model → t ≡ after_commit e → t.machine ≡ accepted s.machine (made (held s.machine))
further_accepted s t d e made opened further is done =
    let session = further_session d e further ∙ ap (λ (x : DraftJournal). x.session) opened in
    let model = is ∙ ap (λ (x : DraftJournal). made x.model) opened in
    ap (λ (j : Journal). j.machine) done ∙ (λ t. accepted (session t).machine (model t))

-- a draft that was opened, took some steps and was committed leaves the record of these steps
pub steps_recorded : (s t : Journal) (d e : DraftJournal) (ops : Model → List Op) → d ≡ new_draft s → e ≡ after_steps d (ops d.model) → t ≡ after_commit e → t.records ≡ recorded s (record_of (held s.machine) (ops (held s.machine)))
steps_recorded s t d e ops opened steps is = ap (λ (j : Journal). j.records) (is ∙ ap after_commit (steps ∙ ap (λ (x : DraftJournal). after_steps x (ops x.model)) opened))

-- one step
pub first_step : (d e : DraftJournal) (op : Op) → e ≡ after_step d op → e ≡ after_steps d (op ∷ [])
first_step d e op is = is

-- one step more
pub step_after : (d e f : DraftJournal) (ops : List Op) (op : Op) → e ≡ after_steps d ops → f ≡ after_step e op → f ≡ after_steps d (ops ++ op ∷ [])
step_after d e f ops op steps is = is ∙ ap (λ (x : DraftJournal). after_step x op) steps ∙ after_both d ops (op ∷ [])

-- what steps make of the model
pub steps_make : (d e : DraftJournal) (ops : List Op) → e ≡ after_steps d ops → e.model ≡ effects d.model ops
steps_make d e ops steps = ap (λ (x : DraftJournal). x.model) steps

-- some steps more
pub steps_after : (d e f : DraftJournal) (ops more : List Op) → e ≡ after_steps d ops → f ≡ after_steps e more → f ≡ after_steps d (ops ++ more)
steps_after d e f ops more steps is = is ∙ ap (λ (x : DraftJournal). after_steps x more) steps ∙ after_both d ops more

-- going back to a mark gives the draft as it was there
module _ (d e : DraftJournal) (n : ℕ) (mark : IsMark d n) (further : IsFurther d e) where
  pub back_at_mark : back_at e n ≡ d
  unfolding IsFurther
  back_at_mark =
      let forward = take_at d.forward further.0 n (sym mark.steps) in
      let back = take_at d.back (each_inverse d.model further.0) n (sym mark.inverses) in
      let model = ap (effects (held d.session.machine)) forward ∙ sym mark.model in
      ap (λ (x : DraftJournal). back_at x n) further.2 ∙ (λ i. record { session = d.session; model = model i; forward = forward i; back = back i })

  pub further_back : (f : DraftJournal) → f ≡ back_at e n → IsFurther d f
  further_back f is = further_same d f (is ∙ back_at_mark)
