-- A rewriting of one row is a row that is put.
use Rattle.low_euler.proofs.Prelude.{◌≡◌, ℕ, cond, refl, ap, ◌∙◌, ne_eqb, eq-eqb, map_rows, put, Model, FaceRow, LoopRow, content, face_of, solid_of, outer, Has, loop_to_face, face_to_outer, map_one, face_there, loop_row}

-- one loop that goes to another face
pub loop_moved : (M : Model) (l f : ℕ) → Has M.loops l → map_rows (loop_to_face l f) M.loops ≡ put M.loops l (record { face = f; content = content M l })
loop_moved M l f t =
    let row : LoopRow = record { face = face_of M l; content = content M l } in
    map_one (loop_to_face l f) M.loops l row (loop_row M l t) (λ q y ne at. ap (λ b. cond b (record y { face = f }) y) (ne_eqb q l ne))
    ∙ ap (put M.loops l) (ap (λ b. cond b (record row { face = f }) row) (eq-eqb l l refl))

-- one face that gets another outer loop
pub outer_changed : (M : Model) (f l : ℕ) → Has M.faces f → map_rows (face_to_outer f l) M.faces ≡ put M.faces f (record { solid = solid_of M f; outer = l })
outer_changed M f l t =
    let row : FaceRow = record { solid = solid_of M f; outer = outer M f } in
    map_one (face_to_outer f l) M.faces f row (face_there M f t) (λ q y ne at. ap (λ b. cond b (record y { outer = l }) y) (ne_eqb q f ne))
    ∙ ap (put M.faces f) (ap (λ b. cond b (record row { outer = l }) row) (eq-eqb f f refl))
