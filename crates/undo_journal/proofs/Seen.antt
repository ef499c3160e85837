-- What callers see of a session and of a draft: the plain machine, and the records.
use Rattle.undo_journal.proofs.Prelude.{sym, ap, subst, ◌∙◌, arith, ◌≡◌, ℕ, ◌+◌, ◌-◌, ◌<◌, ◌≤◌, List, [], ◌∷◌, ◌++◌, take, drop, reverse, get_or, length, None, refl, Model, first_false, effect, inverse, Store, Op, effects, Record, Machine, held, depth, ahead, accepted, undo, redo, Journal, DraftJournal, recorded, after_act, after_undo, after_redo, new_draft, after_step, after_commit, IsFurther, IsMark, back_at, model_at, IsReady, IsStepped, machine_of, journal_of, LeadsBothWays, IsKept, opened, draft_of, command_of, IsDrafted, all_after}
use Rattle.undo_journal.proofs.Journals.{depth_is, ahead_is, leads_at, machine_more, place_undone, place_redone}
use Rattle.undo_journal.proofs.Kept.{one_leads, opened_same, same_start, made}
use Rattle.undo_journal.proofs.Marks.{each-length}

module _ (s : Store) (records : List Record) (place : ℕ) (j : Journal) (kept : IsKept s records place) (seen : journal_of s.model records place ≡ j) where
  pub machine_seen : machine_of s.model records place ≡ j.machine
  machine_seen = ap (λ (x : Journal). x.machine) seen

  pub records_seen : records ≡ j.records
  records_seen = ap (λ (x : Journal). x.records) seen

  pub held_seen : s.model ≡ held j.machine
  held_seen = ap held machine_seen

  pub goes_seen : (o : Op) → first_false (held j.machine) o ≡ None → first_false s.model o ≡ None
  goes_seen o goes = ap (λ (M : Model). first_false M o) held_seen ∙ goes

  pub depth_seen : place ≡ depth j.machine
  depth_seen = sym (depth_is s.model records place kept.journal) ∙ ap depth machine_seen

  pub ahead_seen : length records - place ≡ ahead j.machine
  ahead_seen = sym (ahead_is s.model records place kept.journal) ∙ ap ahead machine_seen

  pub within : (i : ℕ) → i < depth j.machine + ahead j.machine → i < length records
  within i h =
      let a : length records - place ≡ ahead j.machine = ahead_seen in
      let d : place ≡ depth j.machine = depth_seen in
      let p : place ≤ length records = kept.journal.placed in
      omega (arith, a, d, p, h)

  pub more_ahead : (n : ℕ) → n ≡ ahead j.machine → 0 < n → place < length records
  more_ahead n is h = let a : length records - place ≡ ahead j.machine = ahead_seen in omega (arith, a, is, h)

  pub leads_seen : (i : ℕ) (r : Record) → i < length records → r ≡ get_or records i r → LeadsBothWays (model_at j.machine i) r (model_at j.machine (i + 1))
  leads_seen i r h is = subst (λ (x : Machine). LeadsBothWays (model_at x i) r (model_at x (i + 1))) machine_seen (leads_at s.model records place kept.journal i r h is)

  -- the records after one more, which a session and a caller tell alike
  recorded_seen : (r : Record) → take place records ++ r ∷ [] ≡ recorded j r
  recorded_seen r = ap (λ (n : ℕ). take n records ++ r ∷ []) depth_seen ∙ ap (λ (rs : List Record). take (depth j.machine) rs ++ r ∷ []) records_seen

  machine_acted : (t : Store) (o : Op) → first_false s.model o ≡ None → IsStepped s o t → machine_of t.model (take place records ++ record { forward = o ∷ []; back = inverse s.model o ∷ [] } ∷ []) (place + 1) ≡ (after_act j o).machine
  machine_acted t o goes stepped =
      machine_more s.model records place kept.journal (record { forward = o ∷ []; back = inverse s.model o ∷ [] }) t.model (one_leads s.model t.model o kept.ready.sound goes stepped.model)
      ∙ ap (λ (x : Machine). accepted x t.model) machine_seen
      ∙ ap (accepted j.machine) (stepped.model ∙ ap (λ (M : Model). effect M o) held_seen)

  records_acted : (o : Op) → take place records ++ record { forward = o ∷ []; back = inverse s.model o ∷ [] } ∷ [] ≡ (after_act j o).records
  records_acted o = recorded_seen (record { forward = o ∷ []; back = inverse s.model o ∷ [] }) ∙ ap (λ (M : Model). recorded j (record { forward = o ∷ []; back = inverse M o ∷ [] })) held_seen

  pub act_seen : (t : Store) (o : Op) → first_false s.model o ≡ None → IsStepped s o t → journal_of t.model (take place records ++ record { forward = o ∷ []; back = inverse s.model o ∷ [] } ∷ []) (place + 1) ≡ after_act j o
  act_seen t o goes stepped i = record { machine = machine_acted t o goes stepped i; records = records_acted o i }

  pub open_seen : draft_of s.model records place [] [] ≡ new_draft j
  open_seen = ap (λ (x : Journal). record { session = x; model = s.model; forward = []; back = [] }) seen ∙ ap (λ (M : Model). record { session = j; model = M; forward = []; back = [] }) held_seen

  -- the place moved
  pub undo_seen : (r : Record) → 0 < place → r ≡ get_or records (place - 1) r → journal_of (effects s.model r.back) records (place - 1) ≡ after_undo j
  undo_seen r before is i = record { machine = (place_undone s.model records place before kept.journal r is ∙ ap undo machine_seen) i; records = records_seen i }

  pub redo_seen : (r : Record) → place < length records → r ≡ get_or records place r → journal_of (effects s.model r.forward) records (place + 1) ≡ after_redo j
  redo_seen r h is i = record { machine = (place_redone s.model records place kept.journal r h is ∙ ap redo machine_seen) i; records = records_seen i }

module _ (s : Store) (records : List Record) (place : ℕ) (forward back : List Op) (d : DraftJournal) (kept : IsDrafted s records place forward back) (seen : draft_of s.model records place forward back ≡ d) where
  pub step_seen : (t : Store) (o : Op) → first_false s.model o ≡ None → IsStepped s o t → draft_of t.model records place (forward ++ o ∷ []) (back ++ inverse s.model o ∷ []) ≡ after_step d o
  step_seen t o goes stepped =
      ap (λ (M : Model). record { session = journal_of M records place; model = t.model; forward = forward ++ o ∷ []; back = back ++ inverse s.model o ∷ [] }) (opened_same s.model t.model forward back o kept.ready.sound goes stepped.model)
      ∙ ap (λ (N : Model). record { session = journal_of (opened s.model back) records place; model = N; forward = forward ++ o ∷ []; back = back ++ inverse s.model o ∷ [] }) stepped.model
      ∙ ap (λ (x : DraftJournal). after_step x o) seen

  -- the draft at a mark
  pub back_seen : (n : ℕ) (t : Store) → t ≡ all_after s (reverse (drop n back)) → IsReady t → draft_of t.model records place (take n forward) (take n back) ≡ back_at d n
  back_seen n t is ready =
      ap (λ (M : Model). record { session = journal_of M records place; model = t.model; forward = take n forward; back = take n back }) (same_start s records place forward back kept n t is ready)
      ∙ ap (λ (N : Model). record { session = journal_of (opened s.model back) records place; model = N; forward = take n forward; back = take n back }) (made s records place forward back kept n t is ready)
      ∙ ap (λ (x : DraftJournal). back_at x n) seen

  pub mark_seen : IsMark d (length forward)
  mark_seen = subst (λ (x : DraftJournal). IsMark x (length forward)) seen (record {
    steps = refl;
    inverses = sym (ap length kept.paired ∙ each-length (opened s.model back) forward);
    model = sym kept.leads.forward;
  })

  -- the draft is what its steps make of a new one
  pub steps_seen : IsFurther (new_draft d.session) d
  unfolding IsFurther
  steps_seen = subst (λ (x : DraftJournal). IsFurther (new_draft x.session) x) seen (
    forward,
    kept.leads.forward_goes,
    λ i. record { session = journal_of (opened s.model back) records place; model = sym kept.leads.forward i; forward = forward; back = kept.paired i },
  )

  -- the place at which the command is recorded
  committed : take place records ++ command_of forward back ∷ [] ≡ recorded (journal_of (opened s.model back) records place) (command_of forward back)
  committed = ap (λ (n : ℕ). take n records ++ command_of forward back ∷ []) (sym (depth_is (opened s.model back) records place kept.journal))

  pub commit_seen : journal_of s.model (take place records ++ command_of forward back ∷ []) (place + 1) ≡ after_commit d
  commit_seen =
      (λ i. record { machine = machine_more (opened s.model back) records place kept.journal (command_of forward back) s.model kept.leads i; records = committed i })
      ∙ ap after_commit seen
