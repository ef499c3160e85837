-- A face that gets another outer loop while a loop goes to another face.
use Rattle.low_euler.proofs.Prelude.{◌≡◌, ℕ, true, refl, sym, ap, ◌∙◌, arith, nat_tests, Table, tables, map_rows, put, Model, FaceRow, content, solid_of, Has, loop_to_face, face_to_outer, same_content, Store, set_face, set_outer}
use Rattle.euler_operators.specs.Table as table
use Rattle.low_euler.proofs.face_operators_laws.Rows.{loop_moved, outer_changed}

-- one loop that goes to another face, whatever became of the faces
pub loop_given : (M : Model) (faces : Table FaceRow) (k f : ℕ) → Has M.loops k → put M.loops k (record { face = f; content = content (record M { faces = faces }) k }) ≡ map_rows (loop_to_face k f) M.loops
loop_given M faces k f t = ap (λ c. put M.loops k (record { face = f; content = c })) (same_content M (record M { faces = faces }) k refl) ∙ sym (loop_moved M k f t)

-- a face that is there stays where another outer loop is set
pub face_stays : (s : Store) (f l q : ℕ) → Has s.model.faces q → table.has (set_outer s f l).model.faces q ≡ true
face_stays s f l q h = grind (arith, nat_tests, tables)

pub swapped : (s : Store) (p l k f : ℕ) → Has s.model.faces p → Has s.model.loops k
    → set_face (set_outer s p l) k f ≡ record s { model = record s.model { faces = map_rows (face_to_outer p l) s.model.faces; loops = map_rows (loop_to_face k f) s.model.loops } }
swapped s p l k f has_face has_loop =
    let M : Model = s.model in let faces : Table FaceRow = put M.faces p (record { solid = solid_of M p; outer = l }) in
    let loops = loop_given M faces k f has_loop in
    (λ i. record s { model = record M { faces = sym (outer_changed M p l has_face) i; loops = loops i } })
