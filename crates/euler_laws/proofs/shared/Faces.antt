-- Operators that leave each loop's content, the edges and the vertices: what stays sound, and loops that change their face.
use Rattle.euler_laws.proofs.Prelude.{◌≡◌, ℕ, Bool, true, false, cond, nat_eq, Some, is_some, refl, sym, ap, ◌∙◌, subst, arith, ◌≢◌, ◌⊎◌, inl, inr, ne_eqb, eq-eqb, eqb-true, eqb_tells, mate, map_rows, Model, lone, FaceRow, LoopRow, tail, loop_of, content, face_of, solid_of, outer, after, Sound, Has, HasHalf, IsLoneAt, NumbersFit, loop_to_face, face_to_outer, map_same, map_one, mate_there, row_of, content_row, face_row, same_content, same_face, solid_row, outer_row}
use Rattle.euler_operators.specs.Table as table
use Rattle.euler_laws.proofs.shared.Loops.{loop_sound, Walks}
use Rattle.euler_laws.proofs.shared.Same.{map_twice, solid_at}
use Rattle.euler_laws.proofs.shared.Rows.{loop_row, face_there}
use Rattle.euler_laws.proofs.shared.Parts.{sound_of, RowSet, row_here, row_other, has_same, FaceSet, solid_other}
use Rattle.euler_laws.proofs.shared.Rings.{SameRings, half_back, tail_same, walks-rings, loop-rings, ends_differ-rings, tail-rings, edges_fit-rings}

pub record SameWalks (M N : Model) : Type 0 where
  pub edges : N.edges ≡ M.edges
  pub vertices : N.vertices ≡ M.vertices
  pub contents : (q : ℕ) → content N q ≡ content M q
  pub loops : (q : ℕ) → table.has N.loops q ≡ table.has M.loops q

-- what is then left to show
pub record FaceFacts (M N : Model) : Type 0 where
  pub loops_of_faces : (l : ℕ) → Has M.loops l → Has N.faces (face_of N l)
  pub outers_there : (f : ℕ) → Has N.faces f → Has M.loops (outer N f) × (face_of N (outer N f) ≡ f)
  pub faces_of_solids : (f : ℕ) → Has N.faces f → Has N.solids (solid_of N f)
  pub solid_has_face : (s : ℕ) → Has N.solids s → (f : ℕ) × Has N.faces f × (solid_of N f ≡ s)
  pub one_solid : (x : ℕ) → HasHalf M x → solid_at N (loop_of M x) ≡ solid_at N (loop_of M (mate x))
  pub solids_fit : NumbersFit N.solids
  pub faces_fit : NumbersFit N.faces

module _ {M N : Model} (sound : Sound M) (same : SameWalks M N) where
  rings : SameRings M N
  rings = grind (arith, same.edges, same.contents, loop_sound M sound, same.loops)

  walks : Walks N (after M)
  walks = walks-rings M N sound rings

  back : (x : ℕ) → HasHalf N x → HasHalf M x
  back = half_back M N sound rings

  has_vertex : (v : ℕ) → Has M.vertices v → Has N.vertices v
  has_vertex v t = subst (λ y. Has y v) (sym same.vertices) t

  lone_back : (q v : ℕ) → IsLoneAt N q v → IsLoneAt M q v
  lone_back q v e = sym (same.contents q) ∙ e

  pub sound-same : FaceFacts M N → Sound N
  sound-same w = sound_of N (after M) walks
      (record {
        tails_there = λ x t. subst (Has N.vertices) (sym (tail_same M N sound rings x)) (has_vertex _ (sound.tails_there x (back x t)));
        ends_differ = ends_differ-rings M N sound rings;
        lone_or_tail = grind (arith, same.vertices, same.contents, sound.lone_or_tail, tail-rings M N sound rings);
        lone_is_no_tail = λ q x t e. sound.lone_is_no_tail q x (back x t) (lone_back q (tail N x) e ∙ ap lone (tail_same M N sound rings x));
        one_lone = λ a b v x y. sound.one_lone a b v (lone_back a v x) (lone_back b v y);
        lone_at_vertex = λ q v a. has_vertex v (sound.lone_at_vertex q v (lone_back q v a));
      })
      (grind (arith, w.loops_of_faces, w.outers_there, w.faces_of_solids, w.solid_has_face, same.loops, one_solid))
      (let edges = edges_fit-rings M N sound rings in let vertices = sound.vertices_fit in let points = sound.points_fit in
      grind (arith, w.solids_fit, w.faces_fit, sound.loops_fit, same.loops, edges, vertices, same.vertices, points)) where
        one_solid : (x : ℕ) → HasHalf N x → solid_at N (loop_of N x) ≡ solid_at N (loop_of N (mate x))
        one_solid x t = let o = back x t in ap (solid_at N) (loop-rings M N sound rings x o) ∙ w.one_solid x o ∙ sym (ap (solid_at N) (loop-rings M N sound rings (mate x) (mate_there M x o)))

-- ---- one loop goes to another face

-- loop l goes to face f; other loops, edges, vertices and solids stay
pub record LoopMoves (M N : Model) (l f : ℕ) : Type 0 where
  pub there : Has M.loops l
  pub loops : N.loops ≡ map_rows (loop_to_face l f) M.loops
  pub solids : N.solids ≡ M.solids
  pub edges : N.edges ≡ M.edges
  pub vertices : N.vertices ≡ M.vertices

-- what is then left to show of faces
pub record FacesAfter (M N : Model) (l f : ℕ) : Type 0 where
  pub home : Has N.faces f
  pub kept : (q : ℕ) → Has M.loops q → q ≢ l → Has N.faces (face_of M q)
  pub outers : (p : ℕ) → Has N.faces p → ((outer N p ≡ l) × (p ≡ f)) ⊎ ((outer N p ≢ l) × Has M.loops (outer N p) × (face_of M (outer N p) ≡ p))
  pub in_solid : (p : ℕ) → Has N.faces p → Has M.solids (solid_of N p)
  pub has_face : (s : ℕ) → Has M.solids s → (p : ℕ) × Has N.faces p × (solid_of N p ≡ s)
  pub solid_new : solid_of N f ≡ solid_of M (face_of M l)
  pub solid_kept : (q : ℕ) → Has M.loops q → q ≢ l → solid_of N (face_of M q) ≡ solid_of M (face_of M q)
  pub fit : NumbersFit N.faces

-- where each face keeps its solid, what is left to show is where the outer loops are
pub faces_after : {M N : Model} {l f : ℕ} → Sound M → ((p : ℕ) → table.has N.faces p ≡ table.has M.faces p) → ((p : ℕ) → solid_of N p ≡ solid_of M p) →
    Has M.faces f → solid_of M (face_of M l) ≡ solid_of M f →
    ((p : ℕ) → Has M.faces p → ((outer N p ≡ l) × (p ≡ f)) ⊎ ((outer N p ≢ l) × Has M.loops (outer N p) × (face_of M (outer N p) ≡ p))) → FacesAfter M N l f
faces_after {M = M} {f = f} sound has solid home one outers = record {
  home = has f ∙ home;
  kept = λ q t a. has (face_of M q) ∙ sound.loops_of_faces q t;
  outers = λ p t. outers p (sym (has p) ∙ t);
  in_solid = λ p t. subst (Has M.solids) (sym (solid p)) (sound.faces_of_solids p (sym (has p) ∙ t));
  has_face = λ s t. let x = sound.solid_has_face s t in (x.0, has x.0 ∙ x.1, solid x.0 ∙ x.2);
  solid_new = solid f ∙ sym one;
  solid_kept = λ q t a. solid (face_of M q);
  fit = λ p t. sound.faces_fit p (sym (has p) ∙ t);
}

module _ {M N : Model} {l f : ℕ} (moves : LoopMoves M N l f) where
  rows : RowSet M.loops N.loops l (Some (record { face = f; content = content M l }))
  rows = record {
    are = moves.loops
        ∙ map_one (loop_to_face l f) M.loops l _ (loop_row M l moves.there) (λ q row a at. ap (λ b. cond b (record row { face = f }) row) (ne_eqb q l a))
        ∙ ap (λ b. table.put M.loops l (cond b (record { face = f; content = content M l }) (record { face = face_of M l; content = content M l }))) (eq-eqb l l refl);
  }

  pub face_moved : face_of N l ≡ f
  face_moved = face_row N l _ (row_here rows)

  pub face_kept : (q : ℕ) → q ≢ l → face_of N q ≡ face_of M q
  face_kept q a = same_face M N q (row_other rows q a)

  pub walks_same : SameWalks M N
  walks_same =
      let one = content_row N l _ (row_here rows) in let two = same_content M N in let three = has_same rows moves.there refl in
      grind (arith, moves.edges, moves.vertices, eqb_tells, one, two, row_other rows, three)

  module _ (sound : Sound M) where
    -- a face that keeps its outer loop, which is another than l
    pub old_outer : (p : ℕ) → Has M.faces p → outer N p ≡ outer M p → outer M p ≢ l → (outer N p ≢ l) × Has M.loops (outer N p) × (face_of M (outer N p) ≡ p)
    old_outer p t e a = let o = sound.outers_there p t in (λ z. a (sym e ∙ z), subst (Has M.loops) (sym e) o.0, ap (face_of M) e ∙ o.1)

    module _ (after : FacesAfter M N l f) where
      solid_loop : (q : ℕ) → Has M.loops q → solid_at N q ≡ solid_at M q
      solid_loop q t = elim (eqb_tells q l) [
        | inl e ↦ ap (solid_at N) e.1 ∙ ap (solid_of N) face_moved ∙ after.solid_new ∙ sym (ap (solid_at M) e.1)
        | inr e ↦ ap (solid_of N) (face_kept q e.1) ∙ after.solid_kept q t e.1
      ]

      solid_half : (x : ℕ) → HasHalf M x → solid_at N (loop_of M x) ≡ solid_at M (loop_of M x)
      solid_half x t = solid_loop (loop_of M x) (ap is_some (row_of M sound x t))

      pub sound-moves : Sound N
      sound-moves = sound-same sound walks_same (record {
        loops_of_faces = grind (arith, eqb_tells, face_moved, after.home, face_kept, after.kept);
        outers_there = grind (arith, after.outers, moves.there, face_moved, face_kept);
        faces_of_solids = λ p t. subst (λ y. Has y (solid_of N p)) (sym moves.solids) (after.in_solid p t);
        solid_has_face = λ s t. after.has_face s (subst (λ y. Has y s) moves.solids t);
        one_solid = λ x t. solid_half x t ∙ sound.one_solid x t ∙ sym (solid_half (mate x) (mate_there M x t));
        solids_fit = λ n t. sound.solids_fit n (subst (λ y. Has y n) moves.solids t);
        faces_fit = after.fit;
      })

-- a loop that goes to another face, and home again
pub loop_home : (M : Model) (l f g : ℕ) → face_of M l ≡ g → map_rows (loop_to_face l g) (map_rows (loop_to_face l f) M.loops) ≡ M.loops
loop_home M l f g e = map_twice (loop_to_face l g) (loop_to_face l f) M.loops
    ∙ map_same _ M.loops (λ q row at. row_home row (nat_eq q l) (λ t. sym (face_row M q row at) ∙ ap (face_of M) (eqb-true q l t) ∙ e)) where
      row_home : (row : LoopRow) (b : Bool) → (b ≡ true → row.face ≡ g) → cond b (record (cond b (record row { face = f }) row) { face = g }) (cond b (record row { face = f }) row) ≡ row
      row_home row true h = λ i. record { face = sym (h refl) i; content = row.content }
      row_home row false h = refl

-- ---- a face gets another outer loop

-- face p gets the outer loop l; other faces stay
pub record OuterSet (M N : Model) (p l : ℕ) : Type 0 where
  pub there : Has M.faces p
  pub faces : N.faces ≡ map_rows (face_to_outer p l) M.faces

module _ {M N : Model} {p l : ℕ} (set : OuterSet M N p l) where
  pub outer_set : FaceSet M N p (Some (record { solid = solid_of M p; outer = l }))
  outer_set = record {
    rows = record {
      are = set.faces
          ∙ map_one (face_to_outer p l) M.faces p _ (face_there M p set.there) (λ q row a at. ap (λ b. cond b (record row { outer = l }) row) (ne_eqb q p a))
          ∙ ap (λ b. table.put M.faces p (cond b (record { solid = solid_of M p; outer = l }) (record { solid = solid_of M p; outer = outer M p }))) (eq-eqb p p refl);
    };
  }

  pub has_face_same : (q : ℕ) → table.has N.faces q ≡ table.has M.faces q
  has_face_same = has_same outer_set.rows set.there refl

  pub solid_same : (q : ℕ) → solid_of N q ≡ solid_of M q
  solid_same q = grind (arith, eqb_tells, solid_row N p, row_here outer_set.rows, solid_other outer_set, outer_set)

  pub outer_new : outer N p ≡ l
  outer_new = outer_row N p _ (row_here outer_set.rows)

-- and its old one back
pub outer_home : (M : Model) (p l o : ℕ) → outer M p ≡ o → map_rows (face_to_outer p o) (map_rows (face_to_outer p l) M.faces) ≡ M.faces
outer_home M p l o e = map_twice (face_to_outer p o) (face_to_outer p l) M.faces
    ∙ map_same _ M.faces (λ q row at. row_home row (nat_eq q p) (λ t. sym (outer_row M q row at) ∙ ap (outer M) (eqb-true q p t) ∙ e)) where
      row_home : (row : FaceRow) (b : Bool) → (b ≡ true → row.outer ≡ o) → cond b (record (cond b (record row { outer = l }) row) { outer = o }) (cond b (record row { outer = l }) row) ≡ row
      row_home row true h = λ i. record { solid = row.solid; outer = sym (h refl) i }
      row_home row false h = refl
