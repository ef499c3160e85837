-- Faces that go to another solid, and merge: it keeps a sound model sound.
use Rattle.euler_laws.proofs.Prelude.{◌≡◌, ◌≢◌, ℕ, Bool, true, false, cond, nat_eq, Some, None, unwrap_or, is_some, refl, sym, ap, ◌∙◌, subst, arith, inl, inr, option_map, ne_eqb, nat_tests, eqb_tells, not-true, eqb-false, mate, map_rows, get-map_rows, Model, FaceRow, no_face, no_loop, loop_of, content, face_of, solid_of, outer, Sound, Has, HasHalf, NumbersFit, first_false, conditions, merge, faces_to_solid, row_of, row_elsewhere, mate_there, Merge}
use Rattle.euler_operators.specs.Table as table
use Rattle.euler_laws.proofs.shared.Goes.{all_hold, none_refuses}
use Rattle.euler_laws.proofs.shared.Rows.{face_there}
use Rattle.euler_laws.proofs.shared.Faces.{sound-same}
use Rattle.euler_laws.proofs.shared.Same.{mapped_some}
use Rattle.euler_laws.proofs.shared.Parts.{RowSet, row_here, has_on, has_back}

-- ---- faces that go to another solid

-- the two models differ in solids, and in the solids of their faces
pub record OtherSolids (M N : Model) : Type 0 where
  pub loops : N.loops ≡ M.loops
  pub edges : N.edges ≡ M.edges
  pub vertices : N.vertices ≡ M.vertices
  pub has_face : (q : ℕ) → table.has N.faces q ≡ table.has M.faces q
  pub outers : (q : ℕ) → outer N q ≡ outer M q

module _ {M N : Model} (other : OtherSolids M N) where
  pub face_same : (q : ℕ) → face_of N q ≡ face_of M q
  unfolding face_of
  face_same q = ap (λ t. (unwrap_or (table.get t q) no_loop).face) other.loops

  content_same : (q : ℕ) → content N q ≡ content M q
  unfolding content
  content_same q = ap (λ t. (unwrap_or (table.get t q) no_loop).content) other.loops

  pub loop_same : (x : ℕ) → loop_of N x ≡ loop_of M x
  unfolding loop_of
  loop_same x = ap (table.first_where _) other.loops

  -- what is then left to show
  pub sound-solids : Sound M → ((q : ℕ) → Has M.faces q → Has N.solids (solid_of N q)) → ((n : ℕ) → Has N.solids n → (q : ℕ) × Has M.faces q × (solid_of N q ≡ n)) →
      ((x : ℕ) → HasHalf M x → solid_of N (face_of M (loop_of M x)) ≡ solid_of N (face_of M (loop_of M (mate x)))) → NumbersFit N.solids → Sound N
  sound-solids sound solids faces one fit = sound-same sound (record { edges = other.edges; vertices = other.vertices; contents = content_same; loops = λ q. ap (λ t. table.has t q) other.loops }) (record {
    loops_of_faces = λ q t. subst (Has N.faces) (sym (face_same q)) (other.has_face _ ∙ sound.loops_of_faces q t);
    outers_there = λ q t. let o = sound.outers_there q (sym (other.has_face q) ∙ t) in (subst (Has M.loops) (sym (other.outers q)) o.0, ap (face_of N) (other.outers q) ∙ face_same (outer M q) ∙ o.1);
    faces_of_solids = λ q t. solids q (sym (other.has_face q) ∙ t);
    solid_has_face = λ n t. let x = faces n t in (x.0, other.has_face x.0 ∙ x.1, x.2);
    one_solid = λ x t. ap (solid_of N) (face_same (loop_of M x)) ∙ one x t ∙ sym (ap (solid_of N) (face_same (loop_of M (mate x))));
    solids_fit = fit;
    faces_fit = λ n t. sound.faces_fit n (sym (other.has_face n) ∙ t);
  })

-- the rows of the faces that a test picks
module _ (M N : Model) (pick : ℕ → FaceRow → Bool) (n : ℕ) (is : N.faces ≡ map_rows (faces_to_solid pick n) M.faces) where
  row_is : (q : ℕ) → table.get N.faces q ≡ option_map (faces_to_solid pick n q) (table.get M.faces q)
  row_is q = ap (λ t. table.get t q) is ∙ get-map_rows (faces_to_solid pick n) M.faces q

  pub has_moved : (q : ℕ) → table.has N.faces q ≡ table.has M.faces q
  has_moved q = ap is_some (row_is q) ∙ mapped_some (faces_to_solid pick n q) (table.get M.faces q)

  row_outer : (q : ℕ) (row : FaceRow) → (faces_to_solid pick n q row).outer ≡ row.outer
  row_outer q row = elim (pick q row) as (λ b. (cond b (record row { solid = n }) row).outer ≡ row.outer) [ true ↦ refl | false ↦ refl ]

  row_solid : (q : ℕ) (row : FaceRow) → (faces_to_solid pick n q row).solid ≡ cond (pick q row) n row.solid
  row_solid q row = elim (pick q row) as (λ b. (cond b (record row { solid = n }) row).solid ≡ cond b n row.solid) [ true ↦ refl | false ↦ refl ]

  pub outer_moved : (q : ℕ) → outer N q ≡ outer M q
  unfolding outer
  outer_moved q = grind (arith, row_is, table.get, row_outer)

  at_row : (q : ℕ) (row : FaceRow) → table.get M.faces q ≡ Some row → solid_of N q ≡ cond (pick q row) n row.solid
  unfolding solid_of
  at_row q row at = ap (λ o. (unwrap_or o no_face).solid) (row_is q ∙ ap (option_map (faces_to_solid pick n q)) at) ∙ row_solid q row

  pub solid_moved : (q : ℕ) → Has M.faces q → solid_of N q ≡ cond (pick q (record { solid = solid_of M q; outer = outer M q })) n (solid_of M q)
  solid_moved q there = at_row q (record { solid = solid_of M q; outer = outer M q }) (face_there M q there)

-- ---- merge

pub record MergeGoes (M : Model) (s t : ℕ) : Type 0 where
  pub s_there : Has M.solids s
  pub t_there : Has M.solids t
  pub apart : s ≢ t

-- the solid of what was of solid n
abbrev pub joined : ℕ → ℕ → ℕ → ℕ
joined s t n = cond (nat_eq n t) s n

module _ {M : Model} (sound : Sound M) {s t : ℕ} (goes : MergeGoes M s t) where
  abbrev pub N : Model
  N = merge M s t

  faces_are : N.faces ≡ map_rows (faces_to_solid (λ _ row. nat_eq row.solid t) s) M.faces
  unfolding merge
  faces_are = refl

  pub merge_other : OtherSolids M N
  unfolding merge
  merge_other = grind (arith, has_moved M N, faces_are, outer_moved M N)

  pub solid_new : (q : ℕ) → Has M.faces q → solid_of N q ≡ joined s t (solid_of M q)
  solid_new q there = solid_moved M N (λ _ row. nat_eq row.solid t) s faces_are q there

  pub solid_taken : RowSet M.solids N.solids t None
  unfolding merge
  solid_taken = record { are = refl }

  not_t : (n : ℕ) → Has N.solids n → n ≢ t
  not_t n there = row_elsewhere N.solids n t there (row_here solid_taken)

  solid_back : (n : ℕ) → Has N.solids n → Has M.solids n
  solid_back n there = has_back solid_taken n (not_t n there) there

  pub joined_same : (n : ℕ) → n ≢ t → joined s t n ≡ n
  joined_same n a = let e : nat_eq n t ≡ false = grind (arith, nat_tests) in ap (λ b. cond b s n) e

  pub joined_t : joined s t t ≡ s
  joined_t = let e : nat_eq t t ≡ true = grind (arith, nat_tests) in ap (λ b. cond b s t) e

  joined_there : (n : ℕ) → Has M.solids n → Has N.solids (joined s t n)
  joined_there n there = elim (eqb_tells n t) [
    | inl e ↦ subst (Has N.solids) (sym (ap (joined s t) e.1 ∙ joined_t)) (has_on solid_taken s goes.apart goes.s_there)
    | inr e ↦ subst (Has N.solids) (sym (joined_same n e.1)) (has_on solid_taken n e.1 there)
  ]

  face_loop : (x : ℕ) → HasHalf M x → Has M.faces (face_of M (loop_of M x))
  face_loop x there = sound.loops_of_faces (loop_of M x) (ap is_some (row_of M sound x there))

  pub sound-merge : Sound N
  sound-merge = sound-solids merge_other sound
      (λ q there. subst (Has N.solids) (sym (solid_new q there)) (joined_there (solid_of M q) (sound.faces_of_solids q there)))
      (λ n there. let x = sound.solid_has_face n (solid_back n there) in (x.0, x.1, solid_new x.0 x.1 ∙ ap (joined s t) x.2 ∙ joined_same n (not_t n there)))
      (λ x there. solid_new _ (face_loop x there) ∙ ap (joined s t) (sound.one_solid x there) ∙ sym (solid_new _ (face_loop (mate x) (mate_there M x there))))
      (λ n there. sound.solids_fit n (solid_back n there))

pub merge_goes : (M : Model) (s t : ℕ) → first_false M (Merge s t) ≡ None → MergeGoes M s t
unfolding first_false conditions
merge_goes M s t e = grind (arith, all_hold (conditions M (Merge s t)) e, eqb-false, not-true)

pub merge_accepted : (N : Model) (s t : ℕ) → Sound N → MergeGoes N s t → first_false N (Merge s t) ≡ None
unfolding first_false conditions
merge_accepted N s t sound goes = grind (arith, none_refuses, sound.solids_fit, goes.s_there, goes.t_there, ne_eqb, goes.apart)
