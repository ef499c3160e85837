use Rattle.euler_conditions.proofs.Prelude.{◌≡◌, ℕ, ◌∙◌, not, nat_eq, refl, sym, ap, List, [], ◌∷◌, Ok, Err, ne_eqb, eq-eqb, err_from_is_err_and, Condition, Corner, Model, face_of, is_ring_of, conditions, first_false, first_refusal, verdict, numbers_in_range, need, never, corner_number, corner_known, corner_lone, corner_loop, corner_tail, DifferentFaces, NotRing, SameTail, Mekr}
use Rattle.euler_conditions.proofs.Orders.{answer_refuses, middle_refuses}
use Rattle.euler_conditions.proofs.Tests.{refuses, passes, fails, all_pass, answer_holds, same_numbers, other_numbers}
use Rattle.euler_conditions.proofs.making.check_mekr.Goals as goal
use Rattle.euler_conditions.proofs.making.check_mekr.Goals.{After-face_of}

pub returns-in_err-start : goal.returns-in_err-start
unfolding conditions first_false
returns-in_err-start c =
    let M = c.args.arena.now.model in let p = err_from_is_err_and c.from_residual-in_err-start.result c.from_residual-in_err-start.ensures.1 in
    let held : verdict (first_refusal (numbers_in_range (c.number.result ∷ c.number-2.result ∷ c.args.made.edge ∷ []))) ≡ Ok tt = sym c.in_range.ensures ∙ c.in_ok-in_range.was in
    p.1 ∙ ap Err p.2 ∙ sym (middle_refuses (conditions M (Mekr c.args.from c.args.to c.args.made))
    (numbers_in_range (corner_number c.args.from ∷ corner_number c.args.to ∷ c.args.made.edge ∷ []))
    (corner_known M c.args.from ∷ corner_known M c.args.to ∷ corner_lone M c.args.from ∷ corner_lone M c.args.to ∷ [])
    _ _ refl (rw (c.number.ensures, c.number-2.ensures) at held) (answer_refuses _ _ _ (sym c.vertices.ensures ∙ c.in_err-start.was)))

-- the conditions on the faces of the two loops and on the two tails
abbrev last_conditions : Model → Corner → Corner → List Condition
last_conditions M c d =
    need (nat_eq (face_of M (corner_loop M c)) (face_of M (corner_loop M d))) DifferentFaces (face_of M (corner_loop M d))
    ∷ need (is_ring_of M (face_of M (corner_loop M d)) (corner_loop M d)) NotRing (corner_loop M d)
    ∷ never (nat_eq (corner_tail M c) (corner_tail M d)) SameTail (corner_tail M c)
    ∷ []

-- those before them hold
passed : (c : After-face_of) → let M = c.args.arena.now.model in verdict (first_false M (Mekr c.args.from c.args.to c.args.made)) ≡ verdict (first_refusal (last_conditions M c.args.from c.args.to))
unfolding conditions first_false
passed c =
    let M = c.args.arena.now.model in
    let numbers : verdict (first_refusal (numbers_in_range (c.number.result ∷ c.number-2.result ∷ c.args.made.edge ∷ []))) ≡ Ok tt = sym c.in_range.ensures ∙ c.in_ok-in_range.was in
    all_pass (numbers_in_range (corner_number c.args.from ∷ corner_number c.args.to ∷ c.args.made.edge ∷ [])) _ (rw (c.number.ensures, c.number-2.ensures) at numbers)
    ∙ all_pass (corner_known M c.args.from ∷ corner_known M c.args.to ∷ corner_lone M c.args.from ∷ corner_lone M c.args.to ∷ []) _ (answer_holds _ _ _ (sym c.vertices.ensures ∙ c.in_ok-start.was)).0
    ∙ passes _ _ _ (ap not (sym c.has.ensures.used ∙ c.if-has.false))
    ∙ passes _ _ _ (other_numbers _ _ (λ e. c.if-kept-ring.false (c.corner_loop-kept.ensures.is ∙ e ∙ sym c.corner_loop-ring.ensures.is)))

-- the two faces
kept_face : (c : After-face_of) → let M = c.args.arena.now.model in c.face_of.result ≡ face_of M (corner_loop M c.args.from)
kept_face c = c.face_of.ensures.is ∙ ap (face_of c.args.arena.now.model) c.corner_loop-kept.ensures.is

ring_face : (c : After-face_of) → let M = c.args.arena.now.model in c.face_of-face.result ≡ face_of M (corner_loop M c.args.to)
ring_face c = c.face_of-face.ensures.is ∙ ap (face_of c.args.arena.now.model) c.corner_loop-ring.ensures.is

pub returns-then-face_of-face : goal.returns-then-face_of-face
returns-then-face_of-face c =
    let w = (goal.at.returns-then-face_of-face c).After-face_of in
    c.refused-then-face_of-face.ensures ∙ ap (refuses DifferentFaces) (ring_face w)
    ∙ sym (passed w ∙ fails _ _ _ (ne_eqb _ _ (λ e. c.if-face_of-face.true (kept_face w ∙ e ∙ sym (ring_face w)))))

pub returns-then-not-is_ring : goal.returns-then-not-is_ring
returns-then-not-is_ring c =
    let M = c.args.arena.now.model in let w = (goal.at.returns-then-not-is_ring c).After-face_of in
    c.refused-then-not-is_ring.ensures ∙ ap (refuses NotRing) c.corner_loop-ring.ensures.is
    ∙ sym (passed w ∙ passes _ _ _ (eq-eqb _ _ (sym (kept_face w) ∙ c.if-face_of-face.false ∙ ring_face w))
    ∙ fails _ _ _ (sym (c.is_ring.ensures ∙ ap (λ l. is_ring_of M (face_of M l) l) c.corner_loop-ring.ensures.is) ∙ c.if-not-is_ring.true))

pub returns-then-start-end : goal.returns-then-start-end
returns-then-start-end c =
    let M = c.args.arena.now.model in let w = (goal.at.returns-then-start-end c).After-face_of in
    let tails = (answer_holds _ _ _ (sym c.vertices.ensures ∙ c.in_ok-start.was)).1 in
    c.refused-then-start-end.ensures ∙ ap (refuses SameTail) (sym (ap (λ (ends : ℕ × ℕ). ends.0) tails))
    ∙ sym (passed w ∙ passes _ _ _ (eq-eqb _ _ (sym (kept_face w) ∙ c.if-face_of-face.false ∙ ring_face w))
    ∙ passes _ _ _ (sym (c.is_ring.ensures ∙ ap (λ l. is_ring_of M (face_of M l) l) c.corner_loop-ring.ensures.is) ∙ c.if-not-is_ring.false)
    ∙ fails _ _ _ (same_numbers _ _ (ap (λ (ends : ℕ × ℕ). ends.0) tails ∙ c.if-start-end.true ∙ sym (ap (λ (ends : ℕ × ℕ). ends.1) tails))))

pub returns : goal.returns
returns c =
    let M = c.args.arena.now.model in let w = (goal.at.returns c).After-face_of in
    let tails = (answer_holds _ _ _ (sym c.vertices.ensures ∙ c.in_ok-start.was)).1 in
    sym (passed w ∙ passes _ _ _ (eq-eqb _ _ (sym (kept_face w) ∙ c.if-face_of-face.false ∙ ring_face w))
    ∙ passes _ _ _ (sym (c.is_ring.ensures ∙ ap (λ l. is_ring_of M (face_of M l) l) c.corner_loop-ring.ensures.is) ∙ c.if-not-is_ring.false)
    ∙ passes _ _ _ (other_numbers _ _ (λ e. c.if-start-end.false (sym (ap (λ (ends : ℕ × ℕ). ends.0) tails) ∙ e ∙ ap (λ (ends : ℕ × ℕ). ends.1) tails))))
