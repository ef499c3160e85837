use Rattle.undo_journal.proofs.Prelude.{sym, subst, ap, ◌∙◌, ◌≡◌, reverse, AreAccepted, Store, IsReady, AllHaveRoom, IsKept, all_after, taken_back, step_inverses}
use Rattle.undo_journal.proofs.Inverses.{sliced}
use Rattle.undo_journal.proofs.Rooms.{ops-reverse}
use Rattle.undo_journal.proofs.Kept.{kept_abandon}
use Rattle.undo_journal.proofs.draft.Draft.abandon.Goals as goal

pub replay_back-requires-clause-accepted : goal.replay_back-requires-clause-accepted
replay_back-requires-clause-accepted c =
    subst (λ (s : Store). AreAccepted s.model (taken_back c.as_slice.result.now c.as_slice-2.result.now)) (sym c.deref_mut.ensures.value)
    (subst (AreAccepted c.self.inside.arena.value.model) (sym (sliced _ _ _ _ c.as_slice.ensures.value c.as_slice-2.ensures.value)) c.self.invariant.1.leads.back_goes)

pub replay_back-requires-clause-room : goal.replay_back-requires-clause-room
replay_back-requires-clause-room c =
    subst (λ (s : Store). AllHaveRoom s (taken_back c.as_slice.result.now c.as_slice-2.result.now)) (sym c.deref_mut.ensures.value)
    (subst (AllHaveRoom c.self.inside.arena.value) (sym (sliced _ _ _ _ c.as_slice.ensures.value c.as_slice-2.ensures.value)) (ops-reverse c.self.inside.arena.value _ c.self.invariant.1.back_room))

abbrev arena : (c : goal.After-drop-steps) → c.replay_back.new.arena ≡ all_after c.self.inside.arena.value (reverse (step_inverses c.self.inside.steps.items c.self.inside.untold.items))
arena c =
    c.replay_back.ensures.effects
    ∙ ap (λ (s : Store). all_after s (taken_back c.as_slice.result.now c.as_slice-2.result.now)) c.deref_mut.ensures.value
    ∙ ap (all_after c.self.inside.arena.value) (sliced _ _ _ _ c.as_slice.ensures.value c.as_slice-2.ensures.value)

pub invariant_of-result : goal.invariant_of-result
invariant_of-result c =
    subst (λ (s : Store). IsKept s c.self.inside.records.items c.self.inside.place) (sym (arena c))
    (kept_abandon _ _ _ _ _ c.self.invariant.1 (subst IsReady (arena c) c.replay_back.ensures.ready))
