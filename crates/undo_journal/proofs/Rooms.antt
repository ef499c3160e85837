-- Room that is there stays.
use Rattle.undo_journal.proofs.Prelude.{sym, subst, arith, ◌≡◌, ℕ, zero, suc, ◌<◌, List, [], ◌∷◌, ◌++◌, take, drop, get_or, length, reverse, reverse-append, effects, Store, Op, HasRoomFor, Record, KeepsRoom, AllHaveRoom, RecordsHaveRoom, all_after}
use Rattle.low_euler.specs.Ready.{made}
use Rattle.low_euler.proofs.Made.{room_kept}
use Rattle.low_euler.proofs.Undone.{keeps_room}

pub op_kept : (s t : Store) (o : Op) → KeepsRoom s t → HasRoomFor s o → HasRoomFor t o
op_kept s t o k room = room_kept s t (made o) k room

pub ops_kept : (s t : Store) (ops : List Op) → KeepsRoom s t → AllHaveRoom s ops → AllHaveRoom t ops
ops_kept s t [] k room = tt
ops_kept s t (o ∷ ops) k room = (op_kept s t o k room.0, ops_kept s t ops k room.1)

pub records_kept : (s t : Store) (rs : List Record) → KeepsRoom s t → RecordsHaveRoom s rs → RecordsHaveRoom t rs
records_kept s t [] k room = tt
records_kept s t (r ∷ rs) k room = (ops_kept s t r.forward k room.0, ops_kept s t r.back k room.1, records_kept s t rs k room.2)

-- other models leave each room
pub keeps_all_after : (s : Store) (ops : List Op) → KeepsRoom s (all_after s ops)
keeps_all_after s ops = keeps_room s (effects s.model ops)

pub ops-append : (s : Store) (xs ys : List Op) → AllHaveRoom s xs → AllHaveRoom s ys → AllHaveRoom s (xs ++ ys)
ops-append s [] ys a b = b
ops-append s (o ∷ xs) ys a b = (a.0, ops-append s xs ys a.1 b)

pub ops-front : (s : Store) (xs ys : List Op) → AllHaveRoom s (xs ++ ys) → AllHaveRoom s xs
ops-front s [] ys a = tt
ops-front s (o ∷ xs) ys a = (a.0, ops-front s xs ys a.1)

pub ops-back : (s : Store) (xs ys : List Op) → AllHaveRoom s (xs ++ ys) → AllHaveRoom s ys
ops-back s [] ys a = a
ops-back s (o ∷ xs) ys a = ops-back s xs ys a.1

pub ops-reverse : (s : Store) (xs : List Op) → AllHaveRoom s xs → AllHaveRoom s (reverse xs)
ops-reverse s [] a = tt
ops-reverse s (o ∷ xs) a = subst (AllHaveRoom s) (sym (reverse-append (o ∷ []) xs)) (ops-append s (reverse xs) (o ∷ []) (ops-reverse s xs a.1) (a.0, tt))

pub ops-take : (s : Store) (n : ℕ) (xs : List Op) → AllHaveRoom s xs → AllHaveRoom s (take n xs)
ops-take s (suc n) (o ∷ xs) a = (a.0, ops-take s n xs a.1)
ops-take s n xs a = tt

pub ops-drop : (s : Store) (n : ℕ) (xs : List Op) → AllHaveRoom s xs → AllHaveRoom s (drop n xs)
ops-drop s zero xs a = a
ops-drop s (suc n) [] a = tt
ops-drop s (suc n) (o ∷ xs) a = ops-drop s n xs a.1

pub records-append : (s : Store) (xs ys : List Record) → RecordsHaveRoom s xs → RecordsHaveRoom s ys → RecordsHaveRoom s (xs ++ ys)
records-append s [] ys a b = b
records-append s (r ∷ xs) ys a b = (a.0, a.1, records-append s xs ys a.2 b)

pub records-take : (s : Store) (n : ℕ) (rs : List Record) → RecordsHaveRoom s rs → RecordsHaveRoom s (take n rs)
records-take s (suc n) (r ∷ rs) a = (a.0, a.1, records-take s n rs a.2)
records-take s n rs a = tt

pub record_room : (s : Store) (rs : List Record) (i : ℕ) (r : Record) → i < length rs → r ≡ get_or rs i r → RecordsHaveRoom s rs → AllHaveRoom s r.forward × AllHaveRoom s r.back
record_room s [] i r h e a = absurd (omega arith)
record_room s (q ∷ rs) zero r h e a = (subst (λ (x : Record). AllHaveRoom s x.forward) (sym e) a.0, subst (λ (x : Record). AllHaveRoom s x.back) (sym e) a.1)
record_room s (q ∷ rs) (suc i) r h e a = record_room s rs i r (omega arith) e a.2
