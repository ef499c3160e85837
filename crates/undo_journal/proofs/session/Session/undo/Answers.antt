use Rattle.undo_journal.proofs.Prelude.{sym, subst, ap, ◌∙◌, arith, ◌≡◌, ℕ, zero, ◌-◌, ◌<◌, Bool, false, [], ◌∷◌, nat_eq, Ok, nat_tests, Store, AreAccepted, verdict, first_refusal, never, NothingToUndo, IsReady, depth, journal_of, AllHaveRoom, IsKept, all_after}
use Rattle.undo_journal.proofs.Journals.{goes_back}
use Rattle.undo_journal.proofs.Rooms.{record_room}
use Rattle.undo_journal.proofs.Kept.{kept_undo}
use Rattle.undo_journal.proofs.Seen.{depth_seen, undo_seen}
use Rattle.undo_journal.proofs.session.Session.undo.Goals as goal

pub replay_back-requires-clause-accepted : goal.replay_back-requires-clause-accepted
replay_back-requires-clause-accepted c =
    let before : 0 < c.self.inside.place = omega (arith, c.if-self-eq0.false) in
    subst (λ (s : Store). AreAccepted s.model c.index-record.result.now.back) (sym c.deref_mut.ensures.value)
    (goes_back _ _ _ before c.self.invariant.journal _ c.index-record.ensures)

pub replay_back-requires-clause-room : goal.replay_back-requires-clause-room
replay_back-requires-clause-room c =
    let within = c.self.invariant.journal.placed in
    subst (λ (s : Store). AllHaveRoom s c.index-record.result.now.back) (sym c.deref_mut.ensures.value)
    (record_room c.self.inside.arena.value _ _ _ (omega (arith, c.if-self-eq0.false, within)) c.index-record.ensures c.self.invariant.room).1

abbrev arena : (c : goal.After-self-2-1) → c.replay_back.new.arena ≡ all_after c.self.inside.arena.value c.index-record.result.now.back
arena c = c.replay_back.ensures.effects ∙ ap (λ (s : Store). all_after s c.index-record.result.now.back) c.deref_mut.ensures.value

kept : (c : goal.After-self-2-1) → IsKept (all_after c.self.inside.arena.value c.index-record.result.now.back) c.self.inside.records.items (c.self.inside.place - 1)
kept c =
    let before : 0 < c.self.inside.place = omega (arith, c.if-self-eq0.false) in
    kept_undo _ _ _ _ before c.index-record.ensures c.self.invariant (subst IsReady (arena c) c.replay_back.ensures.ready)

pub invariant_of-self : goal.invariant_of-self
invariant_of-self c = subst (λ (s : Store). IsKept s c.self.inside.records.items (c.self.inside.place - 1)) (sym (arena c)) (kept c)

pub returns-clause-ok : goal.returns-clause-ok
returns-clause-ok c =
    ap (λ (s : Store). journal_of s.model c.self.inside.records.items (c.self.inside.place - 1)) (arena c)
    ∙ undo_seen _ _ _ _ c.self.invariant c.self.view_is _ (omega (arith, c.if-self-eq0.false)) c.index-record.ensures

pub returns-then-self-eq0-clause-refused : goal.returns-then-self-eq0-clause-refused
returns-then-self-eq0-clause-refused c =
    let none : zero ≡ depth c.args.self.now.machine = omega (arith, c.if-self-eq0.true, depth_seen _ _ _ _ c.self.invariant c.self.view_is) in
    ap (λ (n : ℕ). verdict (first_refusal (never (nat_eq n 0) NothingToUndo 0 ∷ []))) none

-- some command can be undone
goes : (n : ℕ) → 0 < n → Ok tt ≡ verdict (first_refusal (never (nat_eq n 0) NothingToUndo 0 ∷ []))
goes n h =
    let some : nat_eq n 0 ≡ false = grind (arith, nat_tests) in
    ap (λ (b : Bool). verdict (first_refusal (never b NothingToUndo 0 ∷ []))) (sym some)

pub returns-clause-refused : goal.returns-clause-refused
returns-clause-refused c = goes (depth c.args.self.now.machine) (omega (arith, c.if-self-eq0.false, depth_seen _ _ _ _ c.self.invariant c.self.view_is))
