-- The records of a session lead on from the empty model, and the models that they stand for are those after it.
use Rattle.undo_journal.proofs.Prelude.{sym, subst, ap, ◌∙◌, arith, ◌≡◌, ℕ, zero, suc, ◌+◌, ◌-◌, ◌<◌, ◌≤◌, List, [], ◌∷◌, ◌++◌, length, take, drop, reverse, get_or, refl, take-append-drop, length-take-le, length-drop, take_all, length-reverse, drop_all, take_more, drop_more, length_push, reverse-append, Model, empty_model, effects, AreAccepted, Record, depth, ahead, accepted, back_to, forth_to, undo, redo, Journal, models, model_at, models_back, models_ahead, past_of, future_of, machine_of, LeadsBothWays, AllLead, gone_forth, IsJournal}

-- the same session holds the same machine
pub same_machine : {t s : Journal} → t ≡ s → t.machine ≡ s.machine
same_machine e = ap (λ (j : Journal). j.machine) e

-- records taken back in their order
abbrev gone_back : Model → List Record → Model
gone_back M [] = M
gone_back M (r ∷ rs) = gone_back (effects M r.back) rs

gone-append : (M : Model) (rs more : List Record) → gone_back M (rs ++ more) ≡ gone_back (gone_back M rs) more
gone-append M [] more = refl
gone-append M (r ∷ rs) more = gone-append (effects M r.back) rs more

back-append : (M : Model) (rs more : List Record) → models_back M (rs ++ more) ≡ models_back M rs ++ models_back (gone_back M rs) more
back-append M [] more = refl
back-append M (r ∷ rs) more = ap (λ (Xs : List Model). effects M r.back ∷ Xs) (back-append (effects M r.back) rs more)

back-length : (M : Model) (rs : List Record) → length (models_back M rs) ≡ length rs
back-length M [] = refl
back-length M (r ∷ rs) = ap suc (back-length (effects M r.back) rs)

-- going back over records that lead on from A comes to A
back_is : (A : Model) (rs : List Record) → AllLead A rs → gone_back (gone_forth A rs) (reverse rs) ≡ A
back_is A [] lead = refl
back_is A (r ∷ rs) lead =
    let K : Model = gone_forth (effects A r.forward) rs in
    ap (gone_back K) (reverse-append (r ∷ []) rs)
    ∙ gone-append K (reverse rs) (r ∷ [])
    ∙ ap (λ (X : Model). effects X r.back) (back_is (effects A r.forward) rs lead.1)
    ∙ lead.0.back

-- the models behind, of which the last is A
last_is : (A : Model) (r : Record) (rs : List Record) → AllLead A (r ∷ rs) → models_back (gone_forth A (r ∷ rs)) (reverse (r ∷ rs)) ≡ models_back (gone_forth A (r ∷ rs)) (reverse rs) ++ A ∷ []
last_is A r rs lead =
    let K : Model = gone_forth (effects A r.forward) rs in
    ap (models_back K) (reverse-append (r ∷ []) rs)
    ∙ back-append K (reverse rs) (r ∷ [])
    ∙ ap (λ (X : Model). models_back K (reverse rs) ++ effects X r.back ∷ []) (back_is (effects A r.forward) rs lead.1)
    ∙ ap (λ (X : Model). models_back K (reverse rs) ++ X ∷ []) lead.0.back

split_is : (A : Model) (rs : List Record) (more : List Model) → AllLead A rs → reverse (models_back (gone_forth A rs) (reverse rs)) ++ gone_forth A rs ∷ more ≡ A ∷ (models_ahead A rs ++ more)
split_is A [] more lead = refl
split_is A (r ∷ rs) more lead =
    let N : Model = effects A r.forward in
    let K : Model = gone_forth N rs in
    ap (λ (Xs : List Model). reverse Xs ++ K ∷ more) (last_is A r rs lead)
    ∙ ap (λ (Xs : List Model). Xs ++ K ∷ more) (reverse-append (models_back K (reverse rs)) (A ∷ []))
    ∙ ap (λ (Xs : List Model). A ∷ Xs) (split_is N rs more lead.1)

lead-append : (A : Model) (rs more : List Record) → AllLead A rs → AllLead (gone_forth A rs) more → AllLead A (rs ++ more)
lead-append A [] more a b = b
lead-append A (r ∷ rs) more a b = (a.0, lead-append (effects A r.forward) rs more a.1 b)

lead-take : (A : Model) (n : ℕ) (rs : List Record) → AllLead A rs → AllLead A (take n rs)
lead-take A (suc n) (r ∷ rs) a = (a.0, lead-take (effects A r.forward) n rs a.1)
lead-take A n rs a = tt

forth-append : (A : Model) (rs more : List Record) → gone_forth A (rs ++ more) ≡ gone_forth (gone_forth A rs) more
forth-append A [] more = refl
forth-append A (r ∷ rs) more = forth-append (effects A r.forward) rs more

ahead-append : (A : Model) (rs more : List Record) → models_ahead A (rs ++ more) ≡ models_ahead A rs ++ models_ahead (gone_forth A rs) more
ahead-append A [] more = refl
ahead-append A (r ∷ rs) more = ap (λ (Xs : List Model). effects A r.forward ∷ Xs) (ahead-append (effects A r.forward) rs more)

ahead-length : (A : Model) (rs : List Record) → length (models_ahead A rs) ≡ length rs
ahead-length A [] = refl
ahead-length A (r ∷ rs) = ap suc (ahead-length (effects A r.forward) rs)

-- the model at a place is the one to which the records before it lead
at_is : (A d : Model) (rs : List Record) (i : ℕ) → i ≤ length rs → get_or (A ∷ models_ahead A rs) i d ≡ gone_forth A (take i rs)
at_is A d rs zero h = refl
at_is A d [] (suc i) h = absurd (omega arith)
at_is A d (r ∷ rs) (suc i) h = at_is (effects A r.forward) d rs i (omega arith)

-- each record leads from the model at its place to the next
lead_at : (A : Model) (rs : List Record) (i : ℕ) (r : Record) → i < length rs → r ≡ get_or rs i r → AllLead A rs → LeadsBothWays (gone_forth A (take i rs)) r (gone_forth A (take (suc i) rs))
lead_at A [] i r h e lead = absurd (omega arith)
lead_at A (q ∷ rs) zero r h e lead = subst (λ (x : Record). LeadsBothWays A x (effects A q.forward)) (sym e) lead.0
lead_at A (q ∷ rs) (suc i) r h e lead = lead_at (effects A q.forward) rs i r (omega arith) e lead.1

lead_next : (records : List Record) (i : ℕ) (r : Record) → i < length records → r ≡ get_or records i r → AllLead empty_model records → LeadsBothWays (gone_forth empty_model (take i records)) r (gone_forth empty_model (take (i + 1) records))
lead_next records i r h e lead =
    let next : suc i ≡ i + 1 = omega arith in
    subst (λ (n : ℕ). LeadsBothWays (gone_forth empty_model (take i records)) r (gone_forth empty_model (take n records))) next (lead_at empty_model records i r h e lead)

-- the models that a session stands for
pub models_are : (M : Model) (records : List Record) (place : ℕ) → IsJournal M records place → models (machine_of M records place) ≡ empty_model ∷ models_ahead empty_model records
unfolding past_of future_of
models_are M records place kept =
    ap (λ (X : Model). reverse (models_back X (reverse (take place records))) ++ X ∷ models_ahead X (drop place records)) kept.held
    ∙ split_is empty_model (take place records) (models_ahead (gone_forth empty_model (take place records)) (drop place records)) (lead-take empty_model place records kept.lead)
    ∙ ap (λ (Xs : List Model). empty_model ∷ Xs) (sym (ahead-append empty_model (take place records) (drop place records)))
    ∙ ap (λ (rs : List Record). empty_model ∷ models_ahead empty_model rs) (take-append-drop place records)

-- their numbers
past_length : (M : Model) (records : List Record) (place : ℕ) → place ≤ length records → length (past_of M records place) ≡ place
unfolding past_of
past_length M records place h = back-length M (reverse (take place records)) ∙ length-reverse (take place records) ∙ length-take-le place records h

future_length : (M : Model) (records : List Record) (place : ℕ) → length (future_of M records place) ≡ length records - place
unfolding future_of
future_length M records place = ahead-length M (drop place records) ∙ length-drop place records

-- two places beside each other, and the record between them
module _ (A N : Model) (records : List Record) (i : ℕ) (r : Record) (within : i < length records) (is : r ≡ get_or records i r) (leads : LeadsBothWays A r N) where
  turned : reverse (take (i + 1) records) ≡ r ∷ reverse (take i records)
  turned = ap reverse (take_more records i r within) ∙ ap (λ (x : Record). reverse (take i records ++ x ∷ [])) (sym is) ∙ reverse-append (take i records) (r ∷ [])

  past_next : past_of N records (i + 1) ≡ A ∷ past_of A records i
  unfolding past_of
  past_next = ap (models_back N) turned ∙ ap (λ (X : Model). X ∷ models_back X (reverse (take i records))) leads.back

  future_next : future_of A records i ≡ N ∷ future_of N records (i + 1)
  unfolding future_of
  future_next =
      ap (models_ahead A) (drop_more records i r within)
      ∙ ap (λ (x : Record). models_ahead A (x ∷ drop (i + 1) records)) (sym is)
      ∙ ap (λ (X : Model). X ∷ models_ahead X (drop (i + 1) records)) leads.forward

  pub place_back : machine_of A records i ≡ undo (machine_of N records (i + 1))
  place_back =
      ap (λ (Ms : List Model). record { past = past_of A records i; present = A; future = Ms }) future_next
      ∙ ap (λ (Ms : List Model). back_to Ms (machine_of N records (i + 1))) (sym past_next)

  pub place_on : machine_of N records (i + 1) ≡ redo (machine_of A records i)
  place_on =
      ap (λ (Ms : List Model). record { past = Ms; present = N; future = future_of N records (i + 1) }) past_next
      ∙ ap (λ (Ms : List Model). forth_to Ms (machine_of A records i)) (sym future_next)

module _ (M : Model) (records : List Record) (place : ℕ) (kept : IsJournal M records place) where
  pub depth_is : depth (machine_of M records place) ≡ place
  depth_is = past_length M records place kept.placed

  pub ahead_is : ahead (machine_of M records place) ≡ length records - place
  ahead_is = future_length M records place

  model_at_is : (i : ℕ) → i ≤ length records → model_at (machine_of M records place) i ≡ gone_forth empty_model (take i records)
  model_at_is i h = ap (λ (Ms : List Model). get_or Ms i empty_model) (models_are M records place kept) ∙ at_is empty_model empty_model records i h

  pub leads_at : (i : ℕ) (r : Record) → i < length records → r ≡ get_or records i r → LeadsBothWays (model_at (machine_of M records place) i) r (model_at (machine_of M records place) (i + 1))
  leads_at i r h e =
      subst (λ (X : Model). LeadsBothWays X r (model_at (machine_of M records place) (i + 1))) (sym (model_at_is i (omega arith)))
      (subst (λ (X : Model). LeadsBothWays (gone_forth empty_model (take i records)) r X) (sym (model_at_is (i + 1) (omega arith)))
      (lead_next records i r h e kept.lead))

  -- the record at the place leads on from the model held
  leads_next : (r : Record) → place < length records → r ≡ get_or records place r → LeadsBothWays M r (gone_forth empty_model (take (place + 1) records))
  leads_next r h e = subst (λ (X : Model). LeadsBothWays X r (gone_forth empty_model (take (place + 1) records))) (sym kept.held) (lead_next records place r h e kept.lead)

  pub goes_on : (r : Record) → place < length records → r ≡ get_or records place r → AreAccepted M r.forward
  goes_on r h e = (leads_next r h e).forward_goes

  pub journal_on : (r : Record) → place < length records → r ≡ get_or records place r → IsJournal (effects M r.forward) records (place + 1)
  journal_on r h e = record { placed = omega arith; lead = kept.lead; held = (leads_next r h e).forward }

  pub place_redone : (r : Record) → place < length records → r ≡ get_or records place r → machine_of (effects M r.forward) records (place + 1) ≡ redo (machine_of M records place)
  place_redone r h e =
      let leads = leads_next r h e in
      place_on M (effects M r.forward) records place r h e (subst (LeadsBothWays M r) (sym leads.forward) leads)

  -- a record more, in the place of those ahead
  front : length (take place records) ≡ place
  front = length-take-le place records kept.placed

  long : (r : Record) → length (take place records ++ r ∷ []) ≡ place + 1
  long r = length_push (take place records) r ∙ ap (λ (n : ℕ). n + 1) front

  whole : (r : Record) → take (place + 1) (take place records ++ r ∷ []) ≡ take place records ++ r ∷ []
  whole r = take_all (place + 1) (take place records ++ r ∷ []) (omega (arith, long r))

  pub journal_more : (r : Record) (N : Model) → LeadsBothWays M r N → IsJournal N (take place records ++ r ∷ []) (place + 1)
  journal_more r N leads = record {
    placed = omega (arith, long r);
    lead = lead-append empty_model (take place records) (r ∷ []) (lead-take empty_model place records kept.lead)
        (subst (λ (X : Model). LeadsBothWays X r (effects X r.forward)) kept.held (subst (λ (X : Model). LeadsBothWays M r X) (sym leads.forward) leads), tt);
    held = sym leads.forward ∙ ap (λ (X : Model). effects X r.forward) kept.held
        ∙ sym (forth-append empty_model (take place records) (r ∷ []))
        ∙ ap (gone_forth empty_model) (sym (whole r));
  }

  past_more : (r : Record) (N : Model) → LeadsBothWays M r N → past_of N (take place records ++ r ∷ []) (place + 1) ≡ M ∷ past_of M records place
  unfolding past_of
  past_more r N leads =
      ap (λ (rs : List Record). models_back N (reverse rs)) (whole r)
      ∙ ap (models_back N) (reverse-append (take place records) (r ∷ []))
      ∙ ap (λ (X : Model). X ∷ models_back X (reverse (take place records))) leads.back

  future_more : (r : Record) (N : Model) → future_of N (take place records ++ r ∷ []) (place + 1) ≡ []
  unfolding future_of
  future_more r N = ap (models_ahead N) (drop_all (place + 1) (take place records ++ r ∷ []) (omega (arith, long r)))

  pub machine_more : (r : Record) (N : Model) → LeadsBothWays M r N → machine_of N (take place records ++ r ∷ []) (place + 1) ≡ accepted (machine_of M records place) N
  machine_more r N leads =
      ap (λ (Ms : List Model). record { past = Ms; present = N; future = future_of N (take place records ++ r ∷ []) (place + 1) }) (past_more r N leads)
      ∙ ap (λ (Ms : List Model). record { past = M ∷ past_of M records place; present = N; future = Ms }) (future_more r N)

-- the record before the place leads back
module _ (M : Model) (records : List Record) (place : ℕ) (before : 0 < place) (kept : IsJournal M records place) (r : Record) (is : r ≡ get_or records (place - 1) r) where
  leads_to : LeadsBothWays (gone_forth empty_model (take (place - 1) records)) r M
  leads_to =
      let next : place - 1 + 1 ≡ place = omega arith in
      subst (λ (X : Model). LeadsBothWays (gone_forth empty_model (take (place - 1) records)) r X) (sym kept.held)
      (subst (λ (n : ℕ). LeadsBothWays (gone_forth empty_model (take (place - 1) records)) r (gone_forth empty_model (take n records))) next
      (lead_next records (place - 1) r (let h = kept.placed in omega arith) is kept.lead))

  pub goes_back : AreAccepted M r.back
  goes_back = leads_to.back_goes

  pub journal_back : IsJournal (effects M r.back) records (place - 1)
  journal_back = record { placed = let h = kept.placed in omega arith; lead = kept.lead; held = leads_to.back }

  pub place_undone : machine_of (effects M r.back) records (place - 1) ≡ undo (machine_of M records place)
  place_undone =
      let next : place - 1 + 1 ≡ place = omega arith in
      place_back (effects M r.back) M records (place - 1) r (let h = kept.placed in omega arith) is (subst (λ (X : Model). LeadsBothWays X r M) (sym leads_to.back) leads_to)
      ∙ ap (λ (n : ℕ). undo (machine_of M records n)) next

-- a session of no command
pub journal_start : IsJournal empty_model [] 0
journal_start = record { placed = omega arith; lead = tt; held = refl }
