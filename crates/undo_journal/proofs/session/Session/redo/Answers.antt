use Rattle.undo_journal.proofs.Prelude.{sym, subst, ap, ◌∙◌, arith, ◌≡◌, ◌+◌, ◌<◌, length, Store, AreAccepted, IsReady, journal_of, AllHaveRoom, IsKept, all_after}
use Rattle.undo_journal.proofs.Journals.{goes_on}
use Rattle.undo_journal.proofs.Rooms.{record_room}
use Rattle.undo_journal.proofs.Kept.{kept_redo}
use Rattle.undo_journal.proofs.Seen.{more_ahead, redo_seen}
use Rattle.undo_journal.proofs.session.Session.redo.Goals as goal

pub index-record-requires : goal.index-record-requires
index-record-requires c =
    let within : c.self.inside.place < length c.self.inside.records.items = more_ahead _ _ _ _ c.self.invariant c.self.view_is _ c.ahead.ensures (omega (arith, c.if-ahead-eq0.false)) in
    omega (arith, within, c.self.inside.records.ok.0)

within : (c : goal.After-deref_mut) → c.self.inside.place < length c.self.inside.records.items
within c = more_ahead _ _ _ _ c.self.invariant c.self.view_is _ c.ahead.ensures (omega (arith, c.if-ahead-eq0.false))

pub replay-requires-clause-accepted : goal.replay-requires-clause-accepted
replay-requires-clause-accepted c =
    subst (λ (s : Store). AreAccepted s.model c.index-record.result.now.forward) (sym c.deref_mut.ensures.value)
    (goes_on _ _ _ c.self.invariant.journal _ (within c) c.index-record.ensures)

pub replay-requires-clause-room : goal.replay-requires-clause-room
replay-requires-clause-room c =
    subst (λ (s : Store). AllHaveRoom s c.index-record.result.now.forward) (sym c.deref_mut.ensures.value)
    (record_room c.self.inside.arena.value _ _ _ (within c) c.index-record.ensures c.self.invariant.room).0

abbrev arena : (c : goal.After-self-2-1) → c.replay.new.arena ≡ all_after c.self.inside.arena.value c.index-record.result.now.forward
arena c = c.replay.ensures.effects ∙ ap (λ (s : Store). all_after s c.index-record.result.now.forward) c.deref_mut.ensures.value

kept : (c : goal.After-self-2-1) → IsKept (all_after c.self.inside.arena.value c.index-record.result.now.forward) c.self.inside.records.items (c.self.inside.place + 1)
kept c =
    let more : c.self.inside.place < length c.self.inside.records.items = more_ahead _ _ _ _ c.self.invariant c.self.view_is _ c.ahead.ensures (omega (arith, c.if-ahead-eq0.false)) in
    kept_redo _ _ _ _ more c.index-record.ensures c.self.invariant (subst IsReady (arena c) c.replay.ensures.ready)

pub invariant_of-self : goal.invariant_of-self
invariant_of-self c = subst (λ (s : Store). IsKept s c.self.inside.records.items (c.self.inside.place + 1)) (sym (arena c)) (kept c)

pub returns-clause-ok : goal.returns-clause-ok
returns-clause-ok c =
    ap (λ (s : Store). journal_of s.model c.self.inside.records.items (c.self.inside.place + 1)) (arena c)
    ∙ redo_seen _ _ _ _ c.self.invariant c.self.view_is _ (more_ahead _ _ _ _ c.self.invariant c.self.view_is _ c.ahead.ensures (omega (arith, c.if-ahead-eq0.false))) c.index-record.ensures
