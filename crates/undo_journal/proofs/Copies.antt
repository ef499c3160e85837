-- A machine is a list of copies and a place.
use Rattle.undo_journal.proofs.Prelude.{sym, ap, ◌∙◌, arith, ◌≡◌, ℕ, zero, suc, ◌+◌, ◌-◌, ◌<◌, List, [], ◌∷◌, ◌++◌, length, reverse, take, get_or, nat_eq, Bool, false, None, refl, length-append, append_assoc, length-reverse, reverse-append, nat_tests, Model, empty_model, first_refusal, never, NothingToUndo, NothingToRedo, Machine, held, depth, ahead, undo, redo, models, model_at, undos, redos, HeldIsAtThePlace, AcceptedIsAppended, UndoMovesThePlace, RedoMovesThePlace, UndoGivesTheModelBefore}
use Rattle.euler_operators.specs.declared.Why.{Why}

-- one model more is behind
pub one_more : (Ps : List Model) (P : Model) (Ms : List Model) → reverse (P ∷ Ps) ++ Ms ≡ reverse Ps ++ P ∷ Ms
one_more Ps P Ms = ap (λ (Xs : List Model). Xs ++ Ms) (reverse-append (P ∷ []) Ps) ∙ append_assoc (reverse Ps) (P ∷ []) Ms

after_front : (Xs : List Model) (M : Model) (Ms : List Model) (d : Model) → get_or (Xs ++ M ∷ Ms) (length Xs) d ≡ M
after_front [] M Ms d = refl
after_front (X ∷ Xs) M Ms d = after_front Xs M Ms d

take_front : (Xs : List Model) (M : Model) (Ms : List Model) → take (suc (length Xs)) (Xs ++ M ∷ Ms) ≡ Xs ++ M ∷ []
take_front [] M Ms = refl
take_front (X ∷ Xs) M Ms = ap (λ (Ys : List Model). X ∷ Ys) (take_front Xs M Ms)

pub at_place : (s : Machine) → model_at s (depth s) ≡ held s
at_place s = ap (λ (n : ℕ). get_or (models s) n empty_model) (sym (length-reverse s.past)) ∙ after_front (reverse s.past) s.present s.future empty_model

pub how_many : (s : Machine) → length (models s) ≡ depth s + 1 + ahead s
how_many s =
    let a : length (models s) ≡ length (reverse s.past) + suc (length s.future) = length-append (reverse s.past) (s.present ∷ s.future) in
    let b : length (reverse s.past) ≡ length s.past = length-reverse s.past in
    omega (arith, a, b)

pub held_is_at_the_place : HeldIsAtThePlace
held_is_at_the_place s = (at_place s, how_many s)

pub accepted_is_appended : AcceptedIsAppended
accepted_is_appended s N =
    let b : length (reverse s.past) ≡ length s.past = length-reverse s.past in
    let place : suc (length (reverse s.past)) ≡ depth s + 1 = omega (arith, b) in (
      ap (λ (Xs : List Model). Xs ++ N ∷ []) (reverse-append (s.present ∷ []) s.past ∙ sym (take_front (reverse s.past) s.present s.future) ∙ ap (λ (n : ℕ). take n (models s)) place),
      omega arith,
    )

moved_back : (past : List Model) (M : Model) (future : List Model) → (models (undo (record { past = past; present = M; future = future })) ≡ models (record { past = past; present = M; future = future })) × (depth (undo (record { past = past; present = M; future = future })) ≡ length past - 1)
moved_back [] M future = (refl, refl)
moved_back (P ∷ Ps) M future = (sym (one_more Ps P (M ∷ future)), omega arith)

pub undo_moves_the_place : UndoMovesThePlace
undo_moves_the_place s = moved_back s.past s.present s.future

moved_on : (past : List Model) (M : Model) (future : List Model) → (models (redo (record { past = past; present = M; future = future })) ≡ models (record { past = past; present = M; future = future })) × (0 < length future → depth (redo (record { past = past; present = M; future = future })) ≡ length past + 1)
moved_on past M [] = (refl, λ (h : 0 < zero). absurd (omega arith))
moved_on past M (N ∷ future) = (one_more past M (N ∷ future), λ (h : 0 < suc (length future)). omega arith)

pub redo_moves_the_place : RedoMovesThePlace
redo_moves_the_place s = moved_on s.past s.present s.future

not_refused : (n : ℕ) (why : Why) → first_refusal (never (nat_eq (suc n) 0) why 0 ∷ []) ≡ None
not_refused n why =
    let some : nat_eq (suc n) 0 ≡ false = grind (arith, nat_tests) in
    ap (λ (b : Bool). first_refusal (never b why 0 ∷ [])) some

pub undo_gives_the_model_before : UndoGivesTheModelBefore
undo_gives_the_model_before s N = (not_refused (length s.past) NothingToUndo, refl, not_refused 0 NothingToRedo, refl)

-- several undos, and several redos
undos_stay : (n : ℕ) (s : Machine) → models (undos n s) ≡ models s
undos_stay zero s = refl
undos_stay (suc n) s = undos_stay n (undo s) ∙ (undo_moves_the_place s).0

redos_stay : (n : ℕ) (s : Machine) → models (redos n s) ≡ models s
redos_stay zero s = refl
redos_stay (suc n) s = redos_stay n (redo s) ∙ (redo_moves_the_place s).0

undos_depth : (past : List Model) (M : Model) (future : List Model) → depth (undos (length past) (record { past = past; present = M; future = future })) ≡ 0
undos_depth [] M future = refl
undos_depth (P ∷ Ps) M future = undos_depth Ps P (M ∷ future)

redos_depth : (past : List Model) (M : Model) (future : List Model) → depth (redos (length future) (record { past = past; present = M; future = future })) ≡ length past + length future
redos_depth past M [] = omega arith
redos_depth past M (N ∷ future) = let d = redos_depth (M ∷ past) N future in omega (arith, d)

pub undone_to_first : (s : Machine) → held (undos (depth s) s) ≡ model_at s 0
undone_to_first s =
    let t : Machine = undos (depth s) s in
    sym (at_place t)
    ∙ ap (λ (n : ℕ). model_at t n) (undos_depth s.past s.present s.future)
    ∙ ap (λ (Ms : List Model). get_or Ms 0 empty_model) (undos_stay (depth s) s)

pub redone_to_last : (s : Machine) → held (redos (ahead s) s) ≡ model_at s (depth s + ahead s)
redone_to_last s =
    let t : Machine = redos (ahead s) s in
    sym (at_place t)
    ∙ ap (λ (n : ℕ). model_at t n) (redos_depth s.past s.present s.future)
    ∙ ap (λ (Ms : List Model). get_or Ms (depth s + ahead s) empty_model) (redos_stay (ahead s) s)
