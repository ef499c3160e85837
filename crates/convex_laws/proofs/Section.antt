-- At the edges of the section the faces of the drawn solid bend away from the plane; so the caps look along it, and the section has no holes.
use Rattle.convex_laws.proofs.Prelude.{list_any, ◌≡◌, ◌≢◌, ℕ, ℤ, pos, neg_ℤ, Bool, true, false, not, refl, sym, ap, subst, ◌∙◌, arith, true≢false, inl, inr, ints, Plane, Point, IsIn, direction, dot, height, is_above, is_below, is_on, mate, origin, Model, after, face_at, faces_of, point_of, same_point, solid_of, Sound, Has, HasHalf, IsIn-from_listed, half_face, listed-from_in, corners, face_is_above, finish, plane_of, start, straddles, towards, with_drawings, split_begins, CanBegin, solid_facts, any_from, IsStrictlyConvex, IsVertexOf, stages}
use Rattle.split_laws.proofs.measures.Splittable.{level as between}
use Rattle.convex_laws.proofs.Beside as next
use Rattle.convex_laws.proofs.Drawn as drawn
use Rattle.convex_laws.proofs.Drawn.{corner_on, IsInside, next_face}
use Rattle.convex_laws.proofs.Levels.{IsLow}
use Rattle.convex_laws.proofs.Touched.{far_corner}
use Rattle.convex_laws.proofs.Planes.{IsBent, above_facing, below_facing, down_step, facing, high_step, level_step, low_step, on_facing}
use Rattle.convex_laws.proofs.Standing.{corner_stays}
use Rattle.convex_laws.proofs.Together.{whole_stays}
use Rattle.convex_laws.proofs.Turns.{IsHigh, bends_to, has_length, lies_left, never_flat, step_length, strictly_left, turn, up_length}

module _ (M : Model) (s : ℕ) (p : Plane) (t : ℕ) (sound : Sound M) (begun : CanBegin M s p t) (unstuck : (with_drawings M s p).stuck ≡ 0) (convex : IsStrictlyConvex M s) where
  open stages M s p t use {cut as C, drawn as D}

  D_sound : Sound D
  D_sound = drawn.D_sound M s p t sound begun unstuck convex

  -- ---- the solid has a vertex on each side

  pub record Beyond (b : Bool) : Type 0 where
    pub vertex : ℕ
    pub corner : IsVertexOf M s vertex
    pub above : is_above (facing b p) (point_of M vertex) ≡ true

  vertex_found : (test : ℕ → Bool) → list_any (λ f. list_any test (corners M f)) (faces_of M s) ≡ true → (v : ℕ) × IsVertexOf M s v × (test v ≡ true)
  vertex_found test e =
      let f = any_from (λ f. list_any test (corners M f)) (faces_of M s) e in
      let v = any_from test (corners M f.0) f.2 in
      let has = solid_facts M s f.0 f.1 in
      (v.0, record { face = f.0; there = has.0; solid = has.1; corner = listed-from_in v.0 (corners M f.0) v.1 }, v.2)

  pub reaches : (b : Bool) → Beyond b
  reaches false = let v = vertex_found (λ v. is_above p (point_of M v)) (split_begins M s p t begun).meets.0 in record { vertex = v.0; corner = v.1; above = v.2 }
  reaches true = let v = vertex_found (λ v. is_below p (point_of M v)) (split_begins M s p t begun).meets.1 in record { vertex = v.0; corner = v.1; above = above_facing true p (point_of M v.0) ∙ v.2 }

  below_other : (b : Bool) (q : Point) → is_above (facing (not b) p) q ≡ true → is_below (facing b p) q ≡ true
  below_other true q e = below_facing true p q ∙ e
  below_other false q e = sym (above_facing true p q) ∙ e

  way : (b : Bool) → IsHigh (dot (direction (facing b p)) (direction (facing b p)))
  way b = has_length (direction (facing b p)) (some b) where
    no_way : direction p ≢ origin
    no_way e = true≢false (sym (ap (λ v. same_point v origin) e) ∙ (split_begins M s p t begun).directed)

    back : (x : ℤ) → neg_ℤ x ≡ pos 0 → x ≡ pos 0
    back x e = omega (arith, ints)

    some : (b : Bool) → direction (facing b p) ≢ origin
    some false e = no_way e
    some true e = no_way (λ i. record { x = back p.a (ap (λ v. v.x) e) i; y = back p.b (ap (λ v. v.y) e) i; z = back p.c (ap (λ v. v.z) e) i })

  -- ---- a half-edge on the plane, of a face on one side

  module _ (b : Bool) (x : ℕ) (there : HasHalf D x) (of : solid_of D (face_at D x) ≡ s) (side : face_is_above D p (face_at D x) ≡ b) (starts : is_on p (start D x) ≡ true) (ends : is_on p (finish D x) ≡ true) where
    k_there : Has D.faces (face_at D x)
    k_there = half_face D D_sound x there

    -- it was there
    module _ (was : HasHalf C x) where
      abbrev f : ℕ
      f = face_at C x

      abbrev n : Plane
      n = plane_of M (face_at C x)

      abbrev far : Plane
      far = plane_of M (face_at C (mate x))

      abbrev here : Plane
      here = facing b p

      abbrev d : Point
      d = towards (start D x) (finish D x)

      bent : IsBent n far D x
      bent = drawn.old_bent M s p t sound begun unstuck convex x was of

      f_facts : Has M.faces (face_at C x) × (solid_of M (face_at C x) ≡ s)
      f_facts = drawn.came_face M s p t sound begun unstuck convex x was of

      far_low : (q : Point) → IsInside M s q → is_above far q ≡ false
      far_low q inside = let j = drawn.came_beyond M s p t sound begun unstuck convex x was of in inside (face_at C (mate x)) j.0 j.1

      on_here : is_on here (start D x) ≡ true
      on_here = on_facing b p (start D x) starts

      d_level : dot (direction n) d ≡ pos 0
      d_level = level_step n (start D x) (finish D x) bent.start_here bent.finish_here

      d_far : dot (direction far) d ≡ pos 0
      d_far = level_step far (start D x) (finish D x) bent.start_beyond bent.finish_beyond

      d_on : dot (direction here) d ≡ pos 0
      d_on = level_step here (start D x) (finish D x) on_here (on_facing b p (finish D x) ends)

      -- where some point of the face lies strictly on its side
      by_point : (q : Point) → IsInside M s q → is_on n q ≡ true → is_below here q ≡ true → IsHigh (turn (direction n) d (direction here))
      by_point q inside on low = let e = towards (start D x) q in let across = level_step n (start D x) q bent.start_here on in
          bends_to (direction n) d (direction here) e d_level d_on across (step_length (direction n) d (direction far) bent.bends) (up_length (direction n) d (direction far) bent.bends)
          (lies_left (direction n) d (direction far) e d_level d_far across bent.bends (low_step far (start D x) q bent.start_beyond (far_low q inside))) (down_step here (start D x) q on_here low)

      abbrev w : drawn.Strict M s p t sound begun unstuck convex x was of
      w = drawn.strict M s p t sound begun unstuck convex x was of

      abbrev q : Point
      q = point_of M w.vertex

      q_in : IsInside M s q
      q_in = drawn.vertex_inside M s p t sound begun unstuck convex w.vertex w.corner

      -- or the face stays as it was, and none of its corners lies beyond
      q_low : straddles M p (face_at C x) ≡ false → is_above here q ≡ false
      q_low whole =
          let same = corner_stays M s p t sound begun (face_at C x) f_facts.0 f_facts.1 whole w.vertex (IsIn-from_listed w.vertex (corners M (face_at C x)) w.listed) in
          let at : face_at D x ≡ face_at C x = whole_stays M s p t sound begun x was whole in
          ap (is_above here) (sym same.1) ∙ drawn.corner_low M s p t sound begun unstuck convex b (face_at D x) k_there of side w.vertex (subst (λ k. IsIn w.vertex (corners D k)) (sym at) same.0)

      low_from : (v : ℕ) → IsVertexOf M s v → IsLow (dot (direction n) (towards (start D x) (point_of M v)))
      low_from v corner = low_step n (start D x) (point_of M v) bent.start_here (drawn.vertex_inside M s p t sound begun unstuck convex v corner (face_at C x) f_facts.0 f_facts.1)

      not_on : is_on here q ≡ true → ⊥
      not_on on =
          let e = towards (start D x) q in let across = level_step n (start D x) q bent.start_here w.on in
          let up = reaches b in let down = reaches (not b) in
          never_flat (direction n) d (direction here) e (towards (start D x) (point_of M up.vertex)) (towards (start D x) (point_of M down.vertex)) d_level d_on across
          (strictly_left (direction n) d (direction far) e d_level d_far across bent.bends (down_step far (start D x) q bent.start_beyond w.below))
          (level_step here (start D x) q on_here on) (step_length (direction n) d (direction far) bent.bends) (up_length (direction n) d (direction far) bent.bends) (way b)
          (low_from up.vertex up.corner) (low_from down.vertex down.corner)
          (high_step here (start D x) (point_of M up.vertex) on_here up.above)
          (down_step here (start D x) (point_of M down.vertex) on_here (below_other b (point_of M down.vertex) down.above))

      old_turns : IsHigh (turn (direction (plane_of M (face_at C x))) (towards (start D x) (finish D x)) (direction (facing b p)))
      old_turns = by_face (straddles M p (face_at C x)) refl where
        not_above : straddles M p (face_at C x) ≡ false → (c : Bool) → is_below here q ≡ c → IsHigh (turn (direction n) d (direction here))
        not_above whole true e = by_point q q_in w.on e
        not_above whole false e = absurd (not_on (between (height here q) (q_low whole) e))

        by_face : (c : Bool) → straddles M p (face_at C x) ≡ c → IsHigh (turn (direction n) d (direction here))
        by_face false whole = not_above whole (is_below here q) refl
        by_face true straddling =
            let o = far_corner M p b (face_at C x) straddling in
            by_point (point_of M o.0) (drawn.vertex_inside M s p t sound begun unstuck convex o.0 (record { face = face_at C x; there = f_facts.0; solid = f_facts.1; corner = listed-from_in o.0 (corners M (face_at C x)) o.1 }))
            (corner_on M s sound convex (face_at C x) f_facts.0 f_facts.1 o.0 o.1) o.2

      old_edge : IsBent (plane_of M (face_at C x)) (facing b p) D x
      old_edge = record {
        start_here = bent.start_here;
        finish_here = bent.finish_here;
        start_beyond = on_here;
        finish_beyond = on_facing b p (finish D x) ends;
        bends = old_turns;
      }

    -- in each case it bends to the plane, from the plane of a face of the solid
    pub record IsSectionEdge : Type 0 where
      pub old : ℕ
      pub was : HasHalf C old
      pub now : face_at D old ≡ face_at D x
      pub bends_here : IsBent (plane_of M (face_at C old)) (facing b p) D x

    pub section_edge : IsSectionEdge
    section_edge = elim ((drawn.linked M s p t sound begun unstuck convex).news x there) [
      | inl was ↦ record { old = x; was = was; now = refl; bends_here = old_edge was }
      | inr l ↦ record {
        old = after D x;
        was = l.pair.d_there;
        now = next_face D D_sound x there;
        bends_here = next.drawn_bent M s p t sound begun unstuck convex b (face_at D x) k_there of side (after D x) l.pair.d_there (next_face D D_sound x there) x there refl l;
      }
    ]
