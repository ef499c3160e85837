-- A model, and the one with one more solid of one face, one lone loop and one vertex: where one is sound, the other is.
use Rattle.euler_laws.proofs.Prelude.{◌≡◌, ◌≢◌, ℕ, List, [], Some, None, is_some, IsTrue, refl, sym, ap, ◌∙◌, subst, ◌⊎◌, inl, inr, arith, eqb_tells, Point, IsInRange, mate, Model, lone, cycle, FaceRow, LoopRow, holds, tail, loop_of, content, cycle_of, face_of, solid_of, outer, after, is_number, Sound, Has, HasHalf, mvfs, row_of, content_cycle, never_lone, mate_there, content_row, face_row as face_row_of, solid_row, outer_row, same_content, same_face, row_elsewhere}
use Rattle.euler_operators.specs.Table as table
use Rattle.euler_laws.proofs.shared.Loops.{IsLoop, loop_sound, Walks, one_vertex}
use Rattle.euler_laws.proofs.shared.Same.{solid_at}
use Rattle.euler_laws.proofs.shared.Rings.{SameRings, half_back, tail_same, walks-rings, loop-rings, ends_differ-rings, tail-rings, edges_fit-rings}
use Rattle.euler_laws.proofs.shared.Rows.{content_none}
use Rattle.euler_laws.proofs.shared.Parts.{RangesHold, sound_of, fit-put, points-put, RowSet, FaceSet, row_here, row_other, has_on, has_back, solid_other, outer_other}

-- what the conditions of mvfs say
pub record MvfsGoes (M : Model) (s f l v : ℕ) (p : Point) : Type 0 where
  pub solid_free : table.get M.solids s ≡ None
  pub face_free : table.get M.faces f ≡ None
  pub loop_free : table.get M.loops l ≡ None
  pub vertex_free : table.get M.vertices v ≡ None
  pub solid_fits : IsTrue (is_number s)
  pub face_fits : IsTrue (is_number f)
  pub loop_fits : IsTrue (is_number l)
  pub vertex_fits : IsTrue (is_number v)
  pub point_fits : IsInRange p

-- ---- the model with one more solid, face, loop and vertex

module _ {M : Model} {s f l v : ℕ} {p : Point} (goes : MvfsGoes M s f l v p) where
  abbrev pub N : Model
  N = mvfs M s f l v p

  abbrev face_row : FaceRow
  face_row = record { solid = s; outer = l }

  abbrev loop_row : LoopRow
  loop_row = record { face = f; content = lone v }

  pub edges_same : N.edges ≡ M.edges
  unfolding mvfs
  edges_same = refl

  pub solids_put : RowSet M.solids N.solids s (Some tt)
  unfolding mvfs
  solids_put = record { are = refl }

  pub faces_put : FaceSet M N f (Some face_row)
  unfolding mvfs
  faces_put = record { rows = record { are = refl } }

  pub loops_put : RowSet M.loops N.loops l (Some loop_row)
  unfolding mvfs
  loops_put = record { are = refl }

  pub vertices_put : RowSet M.vertices N.vertices v (Some p)
  unfolding mvfs
  vertices_put = record { are = refl }

  -- what is in the old tables, and what in the new ones
  pub not_f : (q : ℕ) → Has M.faces q → q ≢ f
  not_f = λ q there. row_elsewhere M.faces q f there goes.face_free

  pub not_l : (q : ℕ) → Has M.loops q → q ≢ l
  not_l = λ q there. row_elsewhere M.loops q l there goes.loop_free

  pub not_v : (q : ℕ) → Has M.vertices q → q ≢ v
  not_v = λ q there. row_elsewhere M.vertices q v there goes.vertex_free

  pub not_s : (q : ℕ) → Has M.solids q → q ≢ s
  not_s = λ q there. row_elsewhere M.solids q s there goes.solid_free

  pub face_on : (q : ℕ) → Has M.faces q → Has N.faces q
  face_on q t = has_on faces_put.rows q (not_f q t) t

  pub loop_on : (q : ℕ) → Has M.loops q → Has N.loops q
  loop_on q t = has_on loops_put q (not_l q t) t

  vertex_on : (q : ℕ) → Has M.vertices q → Has N.vertices q
  vertex_on q t = has_on vertices_put q (not_v q t) t

  solid_on : (q : ℕ) → Has M.solids q → Has N.solids q
  solid_on q t = has_on solids_put q (not_s q t) t

  -- ---- what the readers answer

  pub content_new : content N l ≡ lone v
  content_new = content_row N l loop_row (row_here loops_put)

  pub content_other : (q : ℕ) → q ≢ l → content N q ≡ content M q
  content_other q a = same_content M N q (row_other loops_put q a)

  pub face_of_new : face_of N l ≡ f
  face_of_new = face_row_of N l loop_row (row_here loops_put)

  pub face_of_other : (q : ℕ) → q ≢ l → face_of N q ≡ face_of M q
  face_of_other q a = same_face M N q (row_other loops_put q a)

  pub solid_of_new : solid_of N f ≡ s
  solid_of_new = solid_row N f face_row (row_here faces_put.rows)

  pub outer_new : outer N f ≡ l
  outer_new = outer_row N f face_row (row_here faces_put.rows)

  -- each loop holds the same half-edges
  pub stand_same : (x q : ℕ) → holds x (content N q) ≡ holds x (content M q)
  unfolding holds
  stand_same x q = grind (arith, content_new, content_none, content_other)

  -- a lone loop of the old model is another than l
  lone_not_l : (q w : ℕ) → content M q ≡ lone w → q ≢ l
  lone_not_l q w e a = never_lone [] w (sym (content_none M l goes.loop_free) ∙ ap (content M) (sym a) ∙ e)

  -- ---- from the old model to the new one

  module _ (sound : Sound M) where
    rings_on : SameRings M N
    rings_on = grind (arith, edges_same, stand_same, eqb_tells, content_new, content_other, loop_sound M sound, has_back loops_put, loops_put)

    walks_on : Walks N (after M)
    walks_on = walks-rings M N sound rings_on

    half_old : (x : ℕ) → HasHalf N x → HasHalf M x
    half_old = half_back M N sound rings_on

    -- a lone loop of the new model is the new one, or an old one at an old vertex
    lone_cases : (q w : ℕ) → content N q ≡ lone w → ((q ≡ l) × (w ≡ v)) ⊎ ((content M q ≡ lone w) × Has M.vertices w)
    lone_cases q w e = grind (arith, content_new, content_other)

    solid_at_old : (x : ℕ) → HasHalf M x → solid_at N (loop_of N x) ≡ solid_at M (loop_of M x)
    solid_at_old x t =
        let r : Has M.loops (loop_of M x) = ap is_some (row_of M sound x t) in
        ap (solid_at N) (loop-rings M N sound rings_on x t) ∙ ap (solid_of N) (face_of_other (loop_of M x) (not_l _ r)) ∙ solid_other faces_put _ (not_f _ (sound.loops_of_faces _ r))

    ranges_on : RangesHold N
    unfolding mvfs
    ranges_on = grind (arith, sound, goes, fit-put, points-put)

    pub sound-mvfs : Sound N
    sound-mvfs = sound_of N (after M) walks_on (record {
      tails_there = λ x t. subst (Has N.vertices) (sym (tail_same M N sound rings_on x)) (vertex_on _ (sound.tails_there x (half_old x t)));
      ends_differ = ends_differ-rings M N sound rings_on;
      lone_or_tail = λ w t. elim (eqb_tells w v) [
        | inl e ↦ inl (l, content_new ∙ ap lone (sym e.1))
        | inr e ↦ elim (sound.lone_or_tail w (has_back vertices_put w e.1 t)) [
          | inl a ↦ inl (a.0, content_other a.0 (lone_not_l a.0 w a.1) ∙ a.1)
          | inr x ↦ inr (tail-rings M N sound rings_on w x)
        ]
      ];
      lone_is_no_tail = λ q x t e. let same = tail_same M N sound rings_on x in
          grind (arith, same, half_old x t, lone_cases q (tail N x) e, not_v, sound.tails_there x, sound.lone_is_no_tail q x);
      one_lone = λ a b w x y. grind (arith, lone_cases a w x, lone_cases b w y, not_v, sound.one_lone a b w);
      lone_at_vertex = λ q w a. grind (arith, lone_cases q w a, row_here vertices_put, vertex_on w);
    }) (record {
      loops_of_faces = grind (arith, eqb_tells, face_of_new, row_here faces_put.rows, face_of_other, face_on, sound.loops_of_faces, has_back loops_put);
      outers_there = let back = has_back faces_put.rows in let other = outer_other faces_put in
          grind (arith, eqb_tells, outer_new, row_here loops_put, face_of_new, sound.outers_there, back, other, loop_on, face_of_other, not_l);
      faces_of_solids = let back = has_back faces_put.rows in
          grind (arith, eqb_tells, solid_of_new, row_here solids_put, solid_other faces_put, solid_on, sound.faces_of_solids, back);
      solid_has_face = let other = solid_other faces_put in
          grind (arith, eqb_tells, row_here faces_put.rows, solid_of_new, sound.solid_has_face, has_back solids_put, face_on, other, not_f);
      one_solid = λ x t. let o = half_old x t in solid_at_old x o ∙ sound.one_solid x o ∙ sym (solid_at_old (mate x) (mate_there M x o));
    }) ranges_on

  -- ---- and back

  module _ (sound : Sound N) (no_face : (q : ℕ) → Has M.faces q → solid_of M q ≢ s) (no_ring : (q : ℕ) → Has M.loops q → face_of M q ≢ f) where
    rings_off : SameRings N M
    rings_off = record {
      edges = sym edges_same;
      stand = λ x q. sym (stand_same x q);
      loops = λ q t. subst (IsLoop (after N)) (content_other q (not_l q t)) (loop_sound N sound q (loop_on q t));
    }

    walks_off : Walks M (after N)
    walks_off = walks-rings N M sound rings_off

    half_new : (x : ℕ) → HasHalf M x → HasHalf N x
    half_new = half_back N M sound rings_off

    tail_off : (x : ℕ) → tail M x ≡ tail N x
    tail_off = tail_same N M sound rings_off

    never_v : (x : ℕ) → HasHalf M x → tail N x ≢ v
    never_v x t e = sound.lone_is_no_tail l x (half_new x t) (content_new ∙ ap lone (sym e))

    lone_on : (q w : ℕ) → content M q ≡ lone w → (content N q ≡ lone w) × (w ≢ v)
    lone_on q w e = grind (arith, lone_not_l q w e, content_other q, sound.one_lone q l v, content_new)

    solid_at_new : (x : ℕ) → HasHalf M x → solid_at M (loop_of M x) ≡ solid_at N (loop_of N x)
    solid_at_new x t =
        let o : HasHalf N x = half_new x t in
        let e : loop_of M x ≡ loop_of N x = loop-rings N M sound rings_off x o in
        let a : loop_of N x ≢ l = λ z. not_cycle (content_new_at x o z) in
        let r : Has M.loops (loop_of N x) = has_back loops_put (loop_of N x) a (ap is_some (row_of N sound x o)) in
        let k : face_of N (loop_of N x) ≡ face_of M (loop_of N x) = face_of_other (loop_of N x) a in
        ap (solid_at M) e ∙ ap (solid_of M) (sym k) ∙ sym (solid_other faces_put (face_of N (loop_of N x)) (λ z. no_ring (loop_of N x) r (sym k ∙ z))) where
          not_cycle : {hs : List ℕ} → lone v ≡ cycle hs → ⊥
          not_cycle e = never_lone _ v (sym e)

          content_new_at : (x : ℕ) → HasHalf N x → loop_of N x ≡ l → lone v ≡ cycle (cycle_of N x)
          content_new_at x o z = sym content_new ∙ ap (content N) (sym z) ∙ content_cycle N sound x o

    ranges_off : RangesHold M
    ranges_off =
        let solids = sound.solids_fit in let faces = sound.faces_fit in let loops = sound.loops_fit in let edges = edges_fit-rings N M sound rings_off in
        let vertices = sound.vertices_fit in let points = sound.points_fit in
        grind (arith, solids, solid_on, faces, face_on, loops, loop_on, edges, vertices, vertex_on, points, row_other vertices_put, not_v)

    pub sound-back : Sound M
    sound-back = sound_of M (after N) walks_off (record {
      tails_there = λ x t. subst (Has M.vertices) (sym (tail_off x)) (has_back vertices_put _ (never_v x t) (sound.tails_there x (half_new x t)));
      ends_differ = ends_differ-rings N M sound rings_off;
      lone_or_tail = λ w t. elim (sound.lone_or_tail w (vertex_on w t)) [
        | inl a ↦ inl (a.0, sym (content_other a.0 (λ z. not_v w t (one_vertex w v (sym a.1 ∙ ap (content N) z ∙ content_new)))) ∙ a.1)
        | inr x ↦ inr (tail-rings N M sound rings_off w x)
      ];
      lone_is_no_tail = λ q x t e. sound.lone_is_no_tail q x (half_new x t) ((lone_on q (tail M x) e).0 ∙ ap lone (tail_off x));
      one_lone = λ a b w x y. sound.one_lone a b w (lone_on a w x).0 (lone_on b w y).0;
      lone_at_vertex = λ q w e. let o = lone_on q w e in has_back vertices_put w o.1 (sound.lone_at_vertex q w o.0);
    }) (record {
      loops_of_faces = λ q t. let k = face_of_other q (not_l q t) in
          has_back faces_put.rows (face_of M q) (no_ring q t) (subst (Has N.faces) k (sound.loops_of_faces q (loop_on q t)));
      outers_there = λ q t. let outer_is = outer_other faces_put q in let back = has_back loops_put (outer N q) in
          grind (arith, outer_is, sound.outers_there q, face_on q t, not_f q t, face_of_new, back, face_of_other (outer N q));
      faces_of_solids = grind (arith, solid_other faces_put, not_f, has_back solids_put, no_face, sound.faces_of_solids, face_on);
      solid_has_face = λ n t. let back = has_back faces_put.rows in
          grind (arith, sound.solid_has_face n, solid_on n t, not_s n t, solid_of_new, back, solid_other faces_put);
      one_solid = λ x t. let o = half_new x t in solid_at_new x t ∙ sound.one_solid x o ∙ sym (solid_at_new (mate x) (mate_there M x t));
    }) ranges_off
