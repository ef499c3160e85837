-- The next face of a solid and the next ring of a face, by what stands beside the rows.
use Rattle.arena_rows.proofs.Prelude.{◌≡◌, ◌≢◌, ℕ, ◌<◌, true, false, cond, not, nat_eq, ◌&&◌, List, [], ◌∷◌, length, Option, Some, None, is_some, unwrap_or, refl, sym, ap, subst, ◌∙◌, arith, true≢false, eq-eqb, ne_eqb, inl, inr, eqb_tells, leb_tells, passes, count-all_where, count, IsIn, tick_same, tick_other, and_false, get, Model, FaceRow, solid_of, face_of, outer, is_ring_of, faces_of, no_face, no_loop, ArenaRows, IsWhole, Owners, owned, is_owner, IsNextItem, map_row, is_face_of, IsNextFace, IsNextRing, only_item, store_of, face_row, loop_row, FaceCell, LoopCell, row_at}
use Rattle.std.specs.Option.{option_eq}
use Rattle.arena_rows.proofs.Views.{get-table_of}
use Rattle.arena_rows.proofs.Indexed.{face_count_is}

module _ (arena : ArenaRows) (ss fs : Owners) (whole : IsWhole arena ss fs) where
  abbrev model : Model
  model = (store_of arena).model

  -- what stands beside the rows tells whether a face is of a solid
  pub face_test : (s k : ℕ) → is_owner s (get ss.owner_of k) ≡ is_face_of model s k
  unfolding solid_of
  face_test s k = ap (λ t. is_owner s (get t k)) whole.indexed.of_solids ∙ ap (is_owner s) (get-table_of (λ (cell : FaceCell). cell.solid) arena.faces k) ∙ owner_is_solid (row_at arena.faces k) ∙ sym (ap (λ o. is_some o && nat_eq (unwrap_or o no_face).solid s) (get-table_of face_row arena.faces k)) where
    owner_is_solid : (o : Option FaceCell) → is_owner s (map_row (λ (cell : FaceCell). cell.solid) o) ≡ is_some (map_row face_row o) && nat_eq (unwrap_or (map_row face_row o) no_face).solid s
    owner_is_solid None = refl
    owner_is_solid (Some cell) = refl

  -- the next item of a solid is its next face
  pub next_face : (s n : ℕ) (r : Option ℕ) → IsNextItem ss.owner_of s n r → IsNextFace model s n r
  next_face s n None h = λ k l. sym (face_test s k) ∙ h k l
  next_face s n (Some m) h = (h.0, sym (face_test s m) ∙ h.1, λ k l less. sym (face_test s k) ∙ h.2 k l less)

  -- it tells whether a loop is a ring of a face
  pub ring_test : (f k : ℕ) → is_owner f (get fs.owner_of k) && not (nat_eq (outer model f) k) ≡ is_ring_of model f k
  unfolding face_of
  ring_test f k =
      ap (λ t. is_owner f (get t k) && not (nat_eq (outer model f) k)) whole.indexed.of_faces
      ∙ ap (λ o. is_owner f o && not (nat_eq (outer model f) k)) (get-table_of (λ (cell : LoopCell). cell.face) arena.loops k)
      ∙ owner_is_face (row_at arena.loops k) ∙ sym (ap (λ o. is_some o && nat_eq (unwrap_or o no_loop).face f && not (nat_eq (outer model f) k)) (get-table_of (loop_row arena.spots) arena.loops k))
    where
      owner_is_face : (o : Option LoopCell) → is_owner f (map_row (λ (cell : LoopCell). cell.face) o) && not (nat_eq (outer model f) k) ≡ is_some (map_row (loop_row arena.spots) o) && nat_eq (unwrap_or (map_row (loop_row arena.spots) o) no_loop).face f && not (nat_eq (outer model f) k)
      owner_is_face None = refl
      owner_is_face (Some cell) = refl

  -- a loop of another face is no ring of the face
  not_ring : (f k : ℕ) → is_owner f (get fs.owner_of k) ≡ false → is_ring_of model f k ≡ false
  not_ring f k h = sym (ring_test f k) ∙ ap (λ b. b && not (nat_eq (outer model f) k)) h

  -- a face's outer loop is no ring of it
  no_outer_ring : (f k : ℕ) → k ≡ outer model f → is_ring_of model f k ≡ false
  no_outer_ring f k e = sym (ring_test f k) ∙ ap (λ b. is_owner f (get fs.owner_of k) && not b) (eq-eqb (outer model f) k (sym e)) ∙ and_false (is_owner f (get fs.owner_of k))

  -- the next loop of a face is its next ring, where it isn't the outer loop
  pub next_ring : (f n : ℕ) (r : Option ℕ) → r ≢ Some (outer model f) → IsNextItem fs.owner_of f n r → IsNextRing model f n r
  next_ring f n None other h = λ k l. not_ring f k (h k l)
  next_ring f n (Some m) other h =
      let apart : outer model f ≢ m = λ e. other (ap Some (sym e)) in
      (h.0, sym (ring_test f m) ∙ ap (λ b. b && not (nat_eq (outer model f) m)) h.1 ∙ ap not (ne_eqb (outer model f) m apart), λ k l less. not_ring f k (h.2 k l less))

  -- where it is the outer loop, the ring comes after that
  pub ring_past_outer : (f n : ℕ) (r : Option ℕ) → IsNextItem fs.owner_of f n (Some (outer model f)) → IsNextItem fs.owner_of f (outer model f) r → IsNextRing model f n r
  ring_past_outer f n r first second = ring_follows r second where
    between : (k : ℕ) → n < k → (outer model f < k → is_owner f (get fs.owner_of k) ≡ false) → is_ring_of model f k ≡ false
    between k l past = elim (eqb_tells k (outer model f)) [
      | inl e ↦ no_outer_ring f k e.1
      | inr e ↦ elim (leb_tells k (outer model f)) [
        | inl b ↦ not_ring f k (first.2 k l (omega (arith, b.1, e.1)))
        | inr b ↦ not_ring f k (past b.1)
      ]
    ]

    ring_follows : (r : Option ℕ) → IsNextItem fs.owner_of f (outer model f) r → IsNextRing model f n r
    ring_follows None h = λ k l. between k l (h k)
    ring_follows (Some m) h =
        let up = h.0 in
        let low = first.0 in
        let apart : outer model f ≢ m = omega arith in
        (omega arith, sym (ring_test f m) ∙ ap (λ b. b && not (nat_eq (outer model f) m)) h.1 ∙ ap not (ne_eqb (outer model f) m apart), λ k l less. between k l (λ past. h.2 k past less))

  -- the two, by the test whether the next loop is the outer one
  pub next_ring_told : (f n out : ℕ) → out ≡ outer model f → (next : Option ℕ) → option_eq nat_eq next (Some out) ≡ false → IsNextItem fs.owner_of f n next → IsNextRing model f n next
  next_ring_told f n out e next told h = next_ring f n next (λ is. true≢false (sym (same_option next (outer model f) is) ∙ ap (λ k. option_eq nat_eq next (Some k)) (sym e) ∙ told)) h where
    same_option : (x : Option ℕ) (y : ℕ) → x ≡ Some y → option_eq nat_eq x (Some y) ≡ true
    same_option None y is = cc
    same_option (Some z) y is = eq-eqb z y (cc)

  -- and where it is, by the loop after it
  pub ring_past_told : (f n out : ℕ) → out ≡ outer model f → (next : Option ℕ) → option_eq nat_eq next (Some out) ≡ true → IsNextItem fs.owner_of f n next → (r : Option ℕ) → IsNextItem fs.owner_of f out r → IsNextRing model f n r
  ring_past_told f n out e next told first r second = ring_past_outer f n r (subst (IsNextItem fs.owner_of f n) (told_option next out told ∙ ap Some e) first) (subst (λ k. IsNextItem fs.owner_of f k r) e second) where
    told_option : (x : Option ℕ) (y : ℕ) → option_eq nat_eq x (Some y) ≡ true → x ≡ Some y
    told_option None y is = absurd (true≢false (sym is))
    told_option (Some z) y is = elim (eqb_tells z y) [ inl p ↦ ap Some p.1 | inr p ↦ absurd (true≢false (sym is ∙ p.0)) ]

  -- the only item of a list of one is the one that stands in it
  nil_or_one : (ns : List ℕ) → length ns ≡ 1 → (m : ℕ) → IsIn m ns → only_item ns ≡ Some m
  nil_or_one [] e m i = absurd (omega (arith, e))
  nil_or_one (n ∷ []) e m i = elim (eqb_tells m n) [ inl p ↦ ap Some (sym p.1) | inr p ↦ absurd (omega (arith, i, tick_other m n p.1)) ]
  nil_or_one (n ∷ k ∷ ns) e m i = absurd (omega (arith, e))

  -- the one face of a solid
  one_face : (s m : ℕ) → length (faces_of model s) ≡ 1 → is_face_of model s m ≡ true → only_item (faces_of model s) ≡ Some m
  unfolding solid_of
  one_face s m e is = nil_or_one (faces_of model s) e m (omega (arith, count-all_where (λ _ (row : FaceRow). nat_eq row.solid s) model.faces m, passing (get model.faces m) is)) where
    passing : (o : Option FaceRow) → is_some o && nat_eq (unwrap_or o no_face).solid s ≡ true → passes (λ _ (row : FaceRow). nat_eq row.solid s) m o ≡ 1
    passing None h = absurd (true≢false (sym h))
    passing (Some row) h = ap {B = ℕ} (λ b. cond b 1 0) h

  -- a solid that has not just one face has no only one
  not_one_face : (s : ℕ) → length (faces_of model s) ≢ 1 → only_item (faces_of model s) ≡ None
  not_one_face s ne = no_only_item (faces_of model s) ne where
    no_only_item : (ns : List ℕ) → length ns ≢ 1 → only_item ns ≡ None
    no_only_item [] h = refl
    no_only_item (n ∷ []) h = absurd (h (omega arith))
    no_only_item (n ∷ k ∷ ns) h = refl

  -- a solid that has a face has one above 0
  some_face : (s : ℕ) → row_at arena.faces 0 ≡ None → length (faces_of model s) ≡ 1 → IsNextFace model s 0 None → ⊥
  unfolding solid_of
  some_face s zero e none = no_one (faces_of model s) e (λ q. omega (arith, count-all_where (λ _ (row : FaceRow). nat_eq row.solid s) model.faces q, passing q)) where
    no_one : (ns : List ℕ) → length ns ≡ 1 → ((q : ℕ) → count q ns ≡ 0) → ⊥
    no_one [] e h = omega (arith, e)
    no_one (n ∷ ns) e h = omega (arith, h n, tick_same n)

    fails : (q : ℕ) (o : Option FaceRow) → is_some o && nat_eq (unwrap_or o no_face).solid s ≡ false → passes (λ _ (row : FaceRow). nat_eq row.solid s) q o ≡ 0
    fails q None h = refl
    fails q (Some row) h = ap {B = ℕ} (λ b. cond b 1 0) h

    passing : (q : ℕ) → passes (λ _ (row : FaceRow). nat_eq row.solid s) q (get model.faces q) ≡ 0
    passing q = elim (eqb_tells q 0) [
      | inl p ↦ ap (λ k. passes (λ _ (row : FaceRow). nat_eq row.solid s) q (get model.faces k)) p.1 ∙ ap (passes (λ _ (row : FaceRow). nat_eq row.solid s) q) (get-table_of face_row arena.faces 0 ∙ ap (map_row face_row) zero)
      | inr p ↦ fails q (get model.faces q) (none q (omega (arith, p.1)))
    ]

  -- the only face of a solid, by its count and the next one above 0
  faces_counted : (s : ℕ) → length (owned s ss.owner_of) ≡ length (faces_of model s)
  faces_counted s = ap (λ t. length (owned s t)) whole.indexed.of_solids ∙ face_count_is arena.faces s

  -- a solid of one face: the next face above 0 is the only one
  pub only_told : (s : ℕ) → row_at arena.faces 0 ≡ None → length (owned s ss.owner_of) ≡ 1 → (r : Option ℕ) → IsNextItem ss.owner_of s 0 r → r ≡ only_item (faces_of model s)
  only_told s zero one r next = told_is_only r (next_face s 0 r next) where
    told_is_only : (r : Option ℕ) → IsNextFace model s 0 r → r ≡ only_item (faces_of model s)
    told_is_only None h = absurd (some_face s zero (sym (faces_counted s) ∙ one) h)
    told_is_only (Some m) h = sym (one_face s m (sym (faces_counted s) ∙ one) h.1)

  -- a solid of none or several has no only one
  pub none_told : (s : ℕ) → length (owned s ss.owner_of) ≢ 1 → None ≡ only_item (faces_of model s)
  none_told s ne = sym (not_one_face s (λ e. ne (faces_counted s ∙ e)))
