-- Faces that go to another solid one by one, until the solid has none.
use Rattle.low_euler.proofs.Prelude.{◌≡◌, ◌≢◌, ℕ, ◌<◌, Bool, true, false, cond, nat_eq, ◌&&◌, [], ◌∷◌, ◌+◌, length, Option, Some, None, is_some, unwrap_or, refl, sym, ap, ◌∙◌, arith, inl, inr, option_map, ne_eqb, eqb_tells, false_from_ne_true, count, tick, Table, get, map_rows, put, remove, get-map_rows, Model, FaceRow, no_face, solid_of, outer, faces_of, Sound, first_false, effect, merge, faces_to_solid, tick_same, tick_other, get-put_here, get-put_other, map-put, put_same, map_same, all_where_none, none_all_where, passes, count-all_where, same_length, Merge, merge_goes, no_zero, Store, set_solid, take_solid, is_face_of, IsNextFace, after}
use Rattle.low_euler.proofs.Faces.{row_there, row_tells}

pub merge_apart : (M : Model) (s t : ℕ) → first_false M (Merge s t) ≡ None → nat_eq s t ≡ false
merge_apart M s t e = ne_eqb s t (merge_goes M s t e).apart

module _ (s : Store) (kept gone : ℕ) where
  abbrev given : ℕ → FaceRow → FaceRow
  given = faces_to_solid (λ _ row. nat_eq row.solid gone) kept

  module _ (face : ℕ) (differs : nat_eq kept gone ≡ false) where
    abbrev row_after : FaceRow
    row_after = record { solid = kept; outer = outer s.model face }

    outer_is : (row : FaceRow) → get s.model.faces face ≡ Some row → outer s.model face ≡ row.outer
    unfolding outer
    outer_is row at = ap (λ o. (unwrap_or o no_face).outer) at

    rows_after : is_face_of s.model gone face ≡ true → map_rows given (put s.model.faces face row_after) ≡ map_rows given s.model.faces
    rows_after is =
        let r = row_there s.model gone face is in
        let row : FaceRow = r.0 in
        let new_is : given face row_after ≡ row_after = ap (λ b. cond b (record row_after { solid = kept }) row_after) differs in
        let old_is : given face row ≡ row_after = ap (λ b. cond b (record row { solid = kept }) row) r.2 ∙ ap (λ l. record { solid = kept; outer = l }) (sym (outer_is row r.1)) in
        map-put given s.model.faces face row_after
        ∙ put_same (map_rows given s.model.faces) face (given face row_after)
        (get-map_rows given s.model.faces face ∙ ap (option_map (given face)) r.1 ∙ ap Some (old_is ∙ sym new_is))

    -- merging comes to the same after one of the faces has gone over
    pub merge_same : is_face_of s.model gone face ≡ true → after (set_solid s face kept) (Merge kept gone) ≡ after s (Merge kept gone)
    unfolding effect merge
    merge_same is = ap (λ (t : Table FaceRow). record s { model = record s.model { solids = remove s.model.solids gone; faces = t } }) (rows_after is)

    other_face : (k : ℕ) → k ≢ face → is_face_of (set_solid s face kept).model gone k ≡ is_face_of s.model gone k
    unfolding solid_of
    other_face k ne = let g = get-put_other s.model.faces face row_after k ne in λ i. is_some (g i) && nat_eq (unwrap_or (g i) no_face).solid gone

    counted : (o : Option FaceRow) (b : Bool) → (is_some o && nat_eq (unwrap_or o no_face).solid gone) ≡ b → (q : ℕ) → passes (λ _ (row : FaceRow). nat_eq row.solid gone) q o ≡ cond b 1 0
    counted None b e q = ap {B = ℕ} (λ c. cond c 1 0) e
    counted (Some row) b e q = ap {B = ℕ} (λ c. cond c 1 0) e

    count_in : (M : Model) (q : ℕ) (b : Bool) → is_face_of M gone q ≡ b → count q (faces_of M gone) ≡ cond b 1 0
    unfolding solid_of
    count_in M q b e = count-all_where (λ _ (row : FaceRow). nat_eq row.solid gone) M.faces q ∙ counted (get M.faces q) b e q

    face_goes : is_face_of (set_solid s face kept).model gone face ≡ false
    face_goes = row_tells (set_solid s face kept).model gone face row_after (get-put_here s.model.faces face row_after) ∙ differs

    -- one face is taken from the solid
    pub one_less : is_face_of s.model gone face ≡ true → length (faces_of s.model gone) ≡ 1 + length (faces_of (set_solid s face kept).model gone)
    one_less is = same_length (faces_of s.model gone) (face ∷ faces_of (set_solid s face kept).model gone) (λ q. elim (eqb_tells q face) [
      | inl e ↦ let z : count q (faces_of (set_solid s face kept).model gone) ≡ 0 = count_in (set_solid s face kept).model q false (ap (is_face_of (set_solid s face kept).model gone) e.1 ∙ face_goes) in
          omega (arith, count_in s.model q true (ap (is_face_of s.model gone) e.1 ∙ is), z, ap (tick q) (sym e.1), tick_same q)
      | inr e ↦ omega (arith, tick_other q face e.1, count_in s.model q (is_face_of s.model gone q) refl, count_in (set_solid s face kept).model q (is_face_of s.model gone q) (other_face q e.1))
    ]) ∙ omega arith

    pub zero_stays : 0 < face → is_face_of s.model gone 0 ≡ false → is_face_of (set_solid s face kept).model gone 0 ≡ false
    zero_stays up none = other_face 0 (λ e. omega (arith, up, e)) ∙ none

  -- where the solid has no face left, merging takes the solid alone
  pub merge_ends : faces_of s.model gone ≡ [] → take_solid s gone ≡ after s (Merge kept gone)
  unfolding effect merge
  merge_ends none =
      ap (λ (t : Table FaceRow). record s { model = record s.model { solids = remove s.model.solids gone; faces = t } })
      (sym (map_same given s.model.faces (λ k row at. ap (λ b. cond b (record row { solid = kept }) row) (none_all_where (λ _ r. nat_eq r.solid gone) s.model.faces none k row at))))

-- a solid of which no face lies above 0 has none
pub no_face_left : (M : Model) (n : ℕ) → is_face_of M n 0 ≡ false → IsNextFace M n 0 None → faces_of M n ≡ []
no_face_left M n none next = all_where_none (λ _ row. nat_eq row.solid n) M.faces (λ k row at. sym (row_tells M n k row at) ∙ never k) where
  never : (k : ℕ) → is_face_of M n k ≡ false
  never k = grind (arith, eqb_tells k 0, none, next k)

-- 0 is no face
pub no_zero_face : (M : Model) (n : ℕ) → Sound M → is_face_of M n 0 ≡ false
no_zero_face M n sound = false_from_ne_true (is_face_of M n 0) (λ e. no_zero 0 refl (sound.faces_fit 0 (ap is_some (row_there M n 0 e).1)))
