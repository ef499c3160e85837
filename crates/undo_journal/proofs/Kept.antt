-- What a session and a draft keep, from call to call.
use Rattle.undo_journal.proofs.Prelude.{sym, ap, subst, ◌∙◌, ◌≡◌, ℕ, ◌+◌, ◌-◌, ◌<◌, List, [], ◌∷◌, ◌++◌, take, drop, get_or, length, reverse, None, refl, reverse-append, Model, empty_model, Sound, first_false, effect, inverse, Store, empty_store, HasGrown, Op, empty_sound, effects, AreAccepted, inverse_goes, inverse_undoes, effects-append, AreAccepted-append, IsReady, Record, new_journal, each_inverse, IsStepped, KeepsRoom, past_of, future_of, journal_of, LeadsBothWays, IsJournal, AllHaveRoom, RecordsHaveRoom, IsKept, opened, command_of, IsDrafted, all_after}
use Rattle.undo_journal.proofs.Consistent.{journal_consistent}
use Rattle.undo_journal.proofs.Marks.{each-append, rest_goes_back, rest_undone, front_opened, front_leads, front_paired}
use Rattle.undo_journal.proofs.Journals.{journal_start, journal_more, journal_on, journal_back}
use Rattle.undo_journal.proofs.Rooms.{ops_kept, records_kept, ops-append, ops-reverse, ops-take, ops-drop, records-append, records-take, keeps_all_after}

-- a session of no command
pub kept_start : IsKept empty_store [] 0
kept_start = record { ready = record { sound = empty_sound; bare = refl }; journal = journal_start; room = tt }

pub journal_started : journal_of empty_model [] 0 ≡ new_journal
unfolding past_of future_of
journal_started = refl

-- room that grows
pub ready_grown : (s t : Store) → HasGrown s t → IsReady s → IsReady t
ready_grown s t grown ready = record { sound = subst Sound (sym grown.model) ready.sound; bare = grown.loose ∙ ready.bare }

pub kept_grown : (s t : Store) (records : List Record) (place : ℕ) → HasGrown s t → IsKept s records place → IsKept t records place
kept_grown s t records place grown kept = record {
  ready = ready_grown s t grown kept.ready;
  journal = subst (λ (M : Model). IsJournal M records place) (sym grown.model) kept.journal;
  room = records_kept s t records grown.kept kept.room;
}

pub drafted_grown : (s t : Store) (records : List Record) (place : ℕ) (forward back : List Op) → HasGrown s t → IsDrafted s records place forward back → IsDrafted t records place forward back
drafted_grown s t records place forward back grown kept = record {
  ready = ready_grown s t grown kept.ready;
  journal = subst (λ (M : Model). IsJournal (opened M back) records place) (sym grown.model) kept.journal;
  leads = subst (λ (M : Model). LeadsBothWays (opened M back) (command_of forward back) M) (sym grown.model) kept.leads;
  paired = subst (λ (M : Model). back ≡ each_inverse (opened M back) forward) (sym grown.model) kept.paired;
  room = records_kept s t records grown.kept kept.room;
  forward_room = ops_kept s t forward grown.kept kept.forward_room;
  back_room = ops_kept s t back grown.kept kept.back_room;
}

-- a record more, in the place of those ahead
pub kept_more : (A : Model) (t : Store) (records : List Record) (place : ℕ) (r : Record) → IsJournal A records place → RecordsHaveRoom t records → IsReady t → LeadsBothWays A r t.model → AllHaveRoom t r.forward → AllHaveRoom t r.back → IsKept t (take place records ++ r ∷ []) (place + 1)
kept_more A t records place r journal room ready leads forward back = record {
  ready = ready;
  journal = journal_more A records place journal r t.model leads;
  room = records-append t (take place records) (r ∷ []) (records-take t place records room) (forward, back, tt);
}

-- an operator and its inverse
pub one_leads : (M N : Model) (o : Op) → Sound M → first_false M o ≡ None → N ≡ effect M o → LeadsBothWays M (record { forward = o ∷ []; back = inverse M o ∷ [] }) N
one_leads M N o sound goes is = subst (λ (X : Model). LeadsBothWays M (record { forward = o ∷ []; back = inverse M o ∷ [] }) X) (sym is) (record {
  forward_goes = (goes, tt);
  forward = refl;
  back_goes = (inverse_goes M o sound goes, tt);
  back = inverse_undoes M o sound goes;
})

pub kept_act : (s t : Store) (records : List Record) (place : ℕ) (o : Op) → IsKept s records place → first_false s.model o ≡ None → IsStepped s o t → IsKept t (take place records ++ record { forward = o ∷ []; back = inverse s.model o ∷ [] } ∷ []) (place + 1)
kept_act s t records place o kept goes stepped =
    kept_more s.model t records place (record { forward = o ∷ []; back = inverse s.model o ∷ [] }) kept.journal (records_kept s t records stepped.kept kept.room) stepped.ready
    (one_leads s.model t.model o kept.ready.sound goes stepped.model) (stepped.room, tt) (stepped.inverse_room, tt)

-- a draft with one step more
module _ (M N : Model) (forward back : List Op) (o : Op) (sound : Sound M) (goes : first_false M o ≡ None) (is : N ≡ effect M o) where
  turned : reverse (back ++ inverse M o ∷ []) ≡ inverse M o ∷ reverse back
  turned = reverse-append back (inverse M o ∷ [])

  returns : effect N (inverse M o) ≡ M
  returns = ap (λ (X : Model). effect X (inverse M o)) is ∙ inverse_undoes M o sound goes

  pub opened_same : opened N (back ++ inverse M o ∷ []) ≡ opened M back
  opened_same = ap (effects N) turned ∙ ap (λ (X : Model). effects X (reverse back)) returns

  longer_leads : LeadsBothWays (opened M back) (command_of forward back) M → LeadsBothWays (opened M back) (record { forward = forward ++ o ∷ []; back = inverse M o ∷ reverse back }) N
  longer_leads leads = record {
    forward_goes = AreAccepted-append (opened M back) forward (o ∷ []) leads.forward_goes (ap (λ (X : Model). first_false X o) leads.forward ∙ goes, tt);
    forward = effects-append (opened M back) forward (o ∷ []) ∙ ap (λ (X : Model). effect X o) leads.forward ∙ sym is;
    back_goes = (ap (λ (X : Model). first_false X (inverse M o)) is ∙ inverse_goes M o sound goes, subst (λ (X : Model). AreAccepted X (reverse back)) (sym returns) leads.back_goes);
    back = ap (λ (X : Model). effects X (reverse back)) returns;
  }

  pub draft_leads : LeadsBothWays (opened M back) (command_of forward back) M → LeadsBothWays (opened N (back ++ inverse M o ∷ [])) (command_of (forward ++ o ∷ []) (back ++ inverse M o ∷ [])) N
  draft_leads leads =
      subst (λ (X : Model). LeadsBothWays X (command_of (forward ++ o ∷ []) (back ++ inverse M o ∷ [])) N) (sym opened_same)
      (subst (λ (xs : List Op). LeadsBothWays (opened M back) (record { forward = forward ++ o ∷ []; back = xs }) N) (sym turned) (longer_leads leads))

  pub longer_paired : effects (opened M back) forward ≡ M → back ≡ each_inverse (opened M back) forward → back ++ inverse M o ∷ [] ≡ each_inverse (opened N (back ++ inverse M o ∷ [])) (forward ++ o ∷ [])
  longer_paired made paired =
      ap (λ (xs : List Op). xs ++ inverse M o ∷ []) paired
      ∙ ap (λ (X : Model). each_inverse (opened M back) forward ++ inverse X o ∷ []) (sym made)
      ∙ sym (each-append (opened M back) forward (o ∷ []))
      ∙ ap (λ (X : Model). each_inverse X (forward ++ o ∷ [])) (sym opened_same)

pub drafted_step : (s t : Store) (records : List Record) (place : ℕ) (forward back : List Op) (o : Op) → IsDrafted s records place forward back → first_false s.model o ≡ None → IsStepped s o t → IsDrafted t records place (forward ++ o ∷ []) (back ++ inverse s.model o ∷ [])
drafted_step s t records place forward back o kept goes stepped = record {
  ready = stepped.ready;
  journal = subst (λ (M : Model). IsJournal M records place) (sym (opened_same s.model t.model forward back o kept.ready.sound goes stepped.model)) kept.journal;
  leads = draft_leads s.model t.model forward back o kept.ready.sound goes stepped.model kept.leads;
  paired = longer_paired s.model t.model forward back o kept.ready.sound goes stepped.model kept.leads.forward kept.paired;
  room = records_kept s t records stepped.kept kept.room;
  forward_room = ops-append t forward (o ∷ []) (ops_kept s t forward stepped.kept kept.forward_room) (stepped.room, tt);
  back_room = ops-append t back (inverse s.model o ∷ []) (ops_kept s t back stepped.kept kept.back_room) (stepped.inverse_room, tt);
}

pub kept_commit : (s : Store) (records : List Record) (place : ℕ) (forward back : List Op) → IsDrafted s records place forward back → IsKept s (take place records ++ command_of forward back ∷ []) (place + 1)
kept_commit s records place forward back kept =
    kept_more (opened s.model back) s records place (command_of forward back) kept.journal kept.room kept.ready kept.leads kept.forward_room (ops-reverse s back kept.back_room)

-- a draft whose steps from the place n on are taken back
module _ (s : Store) (records : List Record) (place : ℕ) (forward back : List Op) (kept : IsDrafted s records place forward back) (n : ℕ) where
  abbrev started : Model
  started = opened s.model back

  started_sound : Sound started
  started_sound = (journal_consistent started records place kept.journal).held_sound

  abbrev marked : Model
  marked = effects started (take n forward)

  pub back_goes : AreAccepted s.model (reverse (drop n back))
  back_goes = rest_goes_back started s.model forward back n started_sound kept.leads.forward_goes kept.leads.forward kept.paired

  pub back_room : AllHaveRoom s (reverse (drop n back))
  back_room = ops-reverse s (drop n back) (ops-drop s n back kept.back_room)

  pub back_made : effects s.model (reverse (drop n back)) ≡ marked
  back_made = rest_undone started s.model forward back n started_sound kept.leads.forward_goes kept.leads.forward kept.paired

  marked_opened : opened marked (take n back) ≡ started
  marked_opened = front_opened started s.model forward back n started_sound kept.leads.forward_goes kept.leads.forward kept.paired

  module _ (t : Store) (is : t ≡ all_after s (reverse (drop n back))) (ready : IsReady t) where
    pub made : t.model ≡ marked
    made = ap (λ (x : Store). x.model) is ∙ back_made

    pub same_start : opened t.model (take n back) ≡ started
    same_start = ap (λ (X : Model). opened X (take n back)) made ∙ marked_opened

    keeps : KeepsRoom s t
    keeps = subst (KeepsRoom s) (sym is) (keeps_all_after s (reverse (drop n back)))

    pub drafted_back : IsDrafted t records place (take n forward) (take n back)
    drafted_back = record {
      ready = ready;
      journal = subst (λ (M : Model). IsJournal M records place) (sym same_start) kept.journal;
      leads = subst (λ (M : Model). LeadsBothWays M (command_of (take n forward) (take n back)) t.model) (sym same_start)
          (subst (λ (M : Model). LeadsBothWays started (command_of (take n forward) (take n back)) M) (sym made) (front_leads started s.model forward back n started_sound kept.leads.forward_goes kept.leads.forward kept.paired));
      paired = front_paired started s.model forward back n started_sound kept.leads.forward_goes kept.leads.forward kept.paired ∙ ap (λ (M : Model). each_inverse M (take n forward)) (sym same_start);
      room = records_kept s t records keeps kept.room;
      forward_room = ops-take t n forward (ops_kept s t forward keeps kept.forward_room);
      back_room = ops-take t n back (ops_kept s t back keeps kept.back_room);
    }

-- a draft that is abandoned
pub kept_abandon : (s : Store) (records : List Record) (place : ℕ) (forward back : List Op) → IsDrafted s records place forward back → IsReady (all_after s (reverse back)) → IsKept (all_after s (reverse back)) records place
kept_abandon s records place forward back kept ready = record {
  ready = ready;
  journal = kept.journal;
  room = records_kept s (all_after s (reverse back)) records (keeps_all_after s (reverse back)) kept.room;
}

-- a command undone, and done again
pub kept_undo : (s : Store) (records : List Record) (place : ℕ) (r : Record) → 0 < place → r ≡ get_or records (place - 1) r → IsKept s records place → IsReady (all_after s r.back) → IsKept (all_after s r.back) records (place - 1)
kept_undo s records place r before is kept ready = record {
  ready = ready;
  journal = journal_back s.model records place before kept.journal r is;
  room = records_kept s (all_after s r.back) records (keeps_all_after s r.back) kept.room;
}

pub kept_redo : (s : Store) (records : List Record) (place : ℕ) (r : Record) → place < length records → r ≡ get_or records place r → IsKept s records place → IsReady (all_after s r.forward) → IsKept (all_after s r.forward) records (place + 1)
kept_redo s records place r within is kept ready = record {
  ready = ready;
  journal = journal_on s.model records place kept.journal r within is;
  room = records_kept s (all_after s r.forward) records (keeps_all_after s r.forward) kept.room;
}
