-- Operators replayed in turn.
use Rattle.undo_journal.proofs.Prelude.{sym, ap, subst, ◌∙◌, arith, ◌≡◌, ℕ, zero, suc, ◌+◌, ◌-◌, ◌<◌, ◌≤◌, List, [], ◌∷◌, ◌++◌, take, get_or, length, reverse, None, take_all, take_more, reverse-append, Model, first_false, effect, Store, Op, effects, AreAccepted, effects-append, IsReady, HasRoomFor, Accepts, after, AllHaveRoom, all_after}
use Rattle.undo_journal.proofs.Rooms.{op_kept, keeps_all_after}

goes_at : (M : Model) (ops : List Op) (i : ℕ) (o : Op) → i < length ops → o ≡ get_or ops i o → AreAccepted M ops → first_false (effects M (take i ops)) o ≡ None
goes_at M [] i o h e a = absurd (omega arith)
goes_at M (p ∷ ops) zero o h e a = ap (first_false M) e ∙ a.0
goes_at M (p ∷ ops) (suc i) o h e a = goes_at (effect M p) ops i o (omega arith) e a.1

room_at : (s : Store) (ops : List Op) (i : ℕ) (o : Op) → i < length ops → o ≡ get_or ops i o → AllHaveRoom s ops → HasRoomFor s o
room_at s [] i o h e a = absurd (omega arith)
room_at s (p ∷ ops) zero o h e a = subst (HasRoomFor s) (sym e) a.0
room_at s (p ∷ ops) (suc i) o h e a = room_at s ops i o (omega arith) e a.1

-- the operator at a place is accepted in its turn
pub accepts_at : (s t : Store) (ops : List Op) (i : ℕ) (o : Op) → i < length ops → o ≡ get_or ops i o → AreAccepted s.model ops → AllHaveRoom s ops → t ≡ all_after s (take i ops) → IsReady t → Accepts t o
accepts_at s t ops i o h e a room is ready = record {
  ready = ready;
  holds = ap (λ (x : Store). first_false x.model o) is ∙ goes_at s.model ops i o h e a;
  room = subst (λ (x : Store). HasRoomFor x o) (sym is) (op_kept s (all_after s (take i ops)) o (keeps_all_after s (take i ops)) (room_at s ops i o h e room));
}

-- and the arena after it
pub after_next : (s t : Store) (ops : List Op) (i : ℕ) (o : Op) → i < length ops → o ≡ get_or ops i o → t ≡ all_after s (take i ops) → after t o ≡ all_after s (take (i + 1) ops)
after_next s t ops i o h e is =
    ap (λ (x : Store). after x o) is
    ∙ ap (λ (M : Model). record s { model = M })
    (ap (effect (effects s.model (take i ops))) e
    ∙ sym (effects-append s.model (take i ops) (get_or ops i o ∷ []))
    ∙ ap (effects s.model) (sym (take_more ops i o h)))

-- some operators from the last to the first
pub reverse_last : (ops : List Op) (o : Op) → 1 ≤ length ops → o ≡ get_or ops (length ops - 1) o → reverse ops ≡ o ∷ reverse (take (length ops - 1) ops)
reverse_last ops o some is =
    let whole : take (length ops - 1) ops ++ o ∷ [] ≡ ops =
    ap (λ (p : Op). take (length ops - 1) ops ++ p ∷ []) is ∙ sym (take_more ops (length ops - 1) o (omega (arith, some)))
    ∙ take_all (length ops - 1 + 1) ops (omega (arith, some)) in
    ap reverse (sym whole) ∙ reverse-append (take (length ops - 1) ops) (o ∷ [])
