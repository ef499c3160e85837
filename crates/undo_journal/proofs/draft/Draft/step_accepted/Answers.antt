use Rattle.std.specs.declared.alloc.AllocError.{AllocError}
use Rattle.undo_journal.proofs.Prelude.{sym, subst, ap, ◌∙◌, ◌≡◌, ℕ, ◌++◌, List, [], ◌∷◌, None, Result, Ok, Err, OnOk, OnErr, Store, HasGrown, Op, first_false, inverse, Model, Record, DraftJournal, after_step, IsStepped, draft_of, IsDrafted}
use Rattle.undo_journal.proofs.Kept.{drafted_step, drafted_grown}
use Rattle.undo_journal.proofs.Seen.{step_seen}
use Rattle.undo_journal.proofs.Marks.{further_tried}
use Rattle.undo_journal.proofs.draft.Draft.step_accepted.Goals as goal

module _ (s t : Store) (records : List Record) (place : ℕ) (forward back : List Op) (o : Op) (kept : IsDrafted s records place forward back) (goes : first_false s.model o ≡ None) (f b : List Op) where
  either : (r : Result (Unit {0}) AllocError) → OnOk r (IsStepped s o t) → OnOk r (f ≡ forward ++ o ∷ []) → OnOk r (b ≡ back ++ inverse s.model o ∷ []) → OnErr r (HasGrown s t) → OnErr r (f ≡ forward) → OnErr r (b ≡ back) → IsDrafted t records place f b
  either (Ok u) stepped fs bs grown fk bk =
      subst (λ (x : List Op). IsDrafted t records place x b) (sym fs)
      (subst (λ (x : List Op). IsDrafted t records place (forward ++ o ∷ []) x) (sym bs) (drafted_step s t records place forward back o kept goes stepped))
  either (Err e) stepped fs bs grown fk bk =
      subst (λ (x : List Op). IsDrafted t records place x b) (sym fk)
      (subst (λ (x : List Op). IsDrafted t records place forward x) (sym bk) (drafted_grown s t records place forward back grown kept))

  seen_ok : (d : DraftJournal) → draft_of s.model records place forward back ≡ d → (r : Result (Unit {0}) AllocError) → OnOk r (IsStepped s o t) → OnOk r (f ≡ forward ++ o ∷ []) → OnOk r (b ≡ back ++ inverse s.model o ∷ []) → OnOk r (draft_of t.model records place f b ≡ after_step d o)
  seen_ok d seen (Ok u) stepped fs bs = ap (λ (x : List Op). draft_of t.model records place x b) fs ∙ ap (draft_of t.model records place (forward ++ o ∷ [])) bs ∙ step_seen s records place forward back d kept seen t o goes stepped
  seen_ok d seen (Err e) stepped fs bs = tt

  seen_err : (d : DraftJournal) → draft_of s.model records place forward back ≡ d → (r : Result (Unit {0}) AllocError) → OnErr r (HasGrown s t) → OnErr r (f ≡ forward) → OnErr r (b ≡ back) → OnErr r (draft_of t.model records place f b ≡ d)
  seen_err d seen (Ok u) grown fk bk = tt
  seen_err d seen (Err e) grown fk bk = ap (λ (x : List Op). draft_of t.model records place x b) fk ∙ ap (draft_of t.model records place forward) bk ∙ ap (λ (M : Model). draft_of M records place forward back) grown.model ∙ seen

-- what the step does to the arena, in its box
module _ (s t u : Store) (o : Op) (at : s ≡ t) (r : Result (Unit {0}) AllocError) where
  stepped_at : OnOk r (IsStepped s o u) → OnOk r (IsStepped t o u)
  stepped_at h = subst (λ (x : Store). OnOk r (IsStepped x o u)) at h

  back_at : (b back : List Op) → OnOk r (b ≡ back ++ inverse s.model o ∷ []) → OnOk r (b ≡ back ++ inverse t.model o ∷ [])
  back_at b back h = subst (λ (x : Store). OnOk r (b ≡ back ++ inverse x.model o ∷ [])) at h

  grown_at : OnErr r (HasGrown s u) → OnErr r (HasGrown t u)
  grown_at h = subst (λ (x : Store). OnErr r (HasGrown x u)) at h

abbrev goes_on : (c : goal.After-self-1) → first_false c.self.inside.arena.value.model c.args.op ≡ None
goes_on c = ap (λ (d : DraftJournal). first_false d.model c.args.op) c.self.view_is ∙ c.requires

pub step-requires-clause-accepted : goal.step-requires-clause-accepted
step-requires-clause-accepted c =
    subst (λ (x : Store). first_false x.model c.args.op ≡ None) (sym c.deref_mut.ensures.value) (ap (λ (d : DraftJournal). first_false d.model c.args.op) c.self.view_is ∙ c.requires)

pub invariant_of-self : goal.invariant_of-self
invariant_of-self c =
    let at = c.deref_mut.ensures.value in (
      c.self.invariant.0,
      either _ _ _ _ _ _ _ c.self.invariant.1 (goes_on c) _ _ c.step.result (stepped_at _ _ _ _ at _ c.step.ensures.stepped) c.step.ensures.steps (back_at _ _ c.step.new.arena _ at _ _ _ c.step.ensures.inverses)
          (grown_at _ _ _ c.args.op at _ c.step.ensures.err) c.step.ensures.err_steps c.step.ensures.err_inverses,
    )

pub returns-clause-ok : goal.returns-clause-ok
returns-clause-ok c =
    let at = c.deref_mut.ensures.value in
    seen_ok _ c.step.new.arena _ _ _ _ _ c.self.invariant.1 (goes_on c) c.step.new.steps.items _ _ c.self.view_is c.step.result (stepped_at _ _ _ _ at _ c.step.ensures.stepped) c.step.ensures.steps (back_at _ _ c.step.new.arena _ at _ _ _ c.step.ensures.inverses)

pub returns-clause-further : goal.returns-clause-further
returns-clause-further c =
    let at = c.deref_mut.ensures.value in
    further_tried _ _ c.args.op c.step.result c.requires (returns-clause-ok c)
    (seen_err _ c.step.new.arena _ _ _ _ _ c.self.invariant.1 (goes_on c) c.step.new.steps.items _ _ c.self.view_is c.step.result (grown_at _ _ _ c.args.op at _ c.step.ensures.err) c.step.ensures.err_steps c.step.ensures.err_inverses)
