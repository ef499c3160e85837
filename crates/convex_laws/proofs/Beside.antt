-- Each half-edge of a face of the drawn solid bends away from a plane beyond: one of the solid's, or the plane of the split.
use Rattle.convex_laws.proofs.Prelude.{◌≡◌, ◌⊎◌, ℕ, Bool, true, false, not, ◌||◌, [], refl, sym, ap, subst, ◌∙◌, true≢false, inl, inr, Plane, Point, IsIn, are_opposite, direction, is_above, is_below, is_on, mate, Model, after, face_at, point_of, solid_of, tail, Sound, Has, HasHalf, mate_there, back_of, half_face, corners, face_is_above, finish, plane_of, start, straddling_faces, towards, with_drawings, CanBegin, side_of, crossings_sound, place_of_end, place_on, side_within, turn_at, on_both, IsStrictlyConvex, starts_in, ends_in, stages}
use Rattle.convex_laws.proofs.Drawn as drawn
use Rattle.convex_laws.proofs.Drawn.{IsInside, next_face, next_starts, Strict}
use Rattle.convex_laws.proofs.Links.{IsEnd, IsLink}
use Rattle.convex_laws.proofs.Planes.{IsBent, above_facing, below_facing, down_step, facing, high_step, level_step, low_step, on_facing}
use Rattle.convex_laws.proofs.Together.{drawn_shared}
use Rattle.convex_laws.proofs.Turns.{drawn_bends, never_one_point, same_end}
use Rattle.command_laws.proofs.splits_laws.Lower.{other_side}

pub same_or_not : (a b : Bool) → (a ≡ b) ⊎ (a ≡ not b)
same_or_not true true = inl refl
same_or_not true false = inr refl
same_or_not false true = inr refl
same_or_not false false = inl refl

-- what is below the plane seen from one side is above it seen from the other
across : (b : Bool) (p : Plane) (q : Point) → is_below (facing (not b) p) q ≡ true → is_above (facing b p) q ≡ true
across true p q e = above_facing true p q ∙ e
across false p q e = sym (below_facing true p q) ∙ e

module _ (M : Model) (s : ℕ) (p : Plane) (t : ℕ) (sound : Sound M) (begun : CanBegin M s p t) (unstuck : (with_drawings M s p).stuck ≡ 0) (convex : IsStrictlyConvex M s) where
  open stages M s p t use {cut as C, drawn as D}

  D_sound : Sound D
  D_sound = drawn.D_sound M s p t sound begun unstuck convex

  -- ---- a place of a face that straddles

  -- with its edges cut, its half-edge starts on the plane, and leads off to its side
  module _ (y : ℕ) (was : HasHalf C y) (end : IsEnd M C s p y) where
    inside : IsIn (face_at C y) (straddling_faces M p s)
    inside = subst (λ f. IsIn f (straddling_faces M p s)) (sym end.at) end.straddling

    starts_level : is_on p (start C y) ≡ true
    starts_level =
        let place = place_of_end M s p t sound begun end.face end.straddling y end.listed in
        ap (λ x. is_on p (start C x)) place.2 ∙ place_on M s p t sound begun end.face end.straddling place.0 place.1

    side_is : is_above p (finish C y) ≡ side_of M s p y
    side_is = sym (side_within M s p t sound begun y inside ∙ ap (λ b. b || is_above p (finish C y)) (on_both p (start C y) starts_level false))

    leads_below : side_of M s p y ≡ false → is_below p (finish C y) ≡ true
    leads_below down =
        let b = back_of C (crossings_sound M s p t sound begun) y was in
        let turn = turn_at M s p t sound begun b.0 b.1 (ap (λ x. is_on p (start C x)) b.2 ∙ starts_level) (subst (λ x. IsIn (face_at C x) (straddling_faces M p s)) (sym b.2) inside) in
        other_side (is_above p (start C b.0)) (is_below p (finish C y)) (is_below p (start C b.0)) (is_above p (finish C y)) (ap (λ x. are_opposite p (start C b.0) (finish C x)) (sym b.2) ∙ turn.across) (side_is ∙ down)

  module _ (y : ℕ) (was : HasHalf C y) (of : solid_of D (face_at D y) ≡ s) (end : IsEnd M C s p y) where
    place_level : is_on p (start D y) ≡ true
    place_level = ap (is_on p) (drawn.same_start M s p t sound begun unstuck convex y was of) ∙ starts_level y was end

    place_leads : (b : Bool) → side_of M s p y ≡ b → is_below (facing b p) (finish D y) ≡ true
    place_leads true e = below_facing true p (finish D y) ∙ ap (is_above p) (drawn.same_finish M s p t sound begun unstuck convex y was of) ∙ (side_is y was end ∙ e)
    place_leads false e = ap (is_below p) (drawn.same_finish M s p t sound begun unstuck convex y was of) ∙ leads_below y was end e

    -- in a face on one side it leads to that side
    pub place_side : (b : Bool) → face_is_above D p (face_at D y) ≡ b → side_of M s p y ≡ b
    place_side b side = elim (same_or_not (side_of M s p y) b) [
      | inl e ↦ e
      | inr e ↦
          let there = (drawn.stays M s p t sound begun unstuck convex).halves y was in
          absurd (true≢false (sym (across b p (finish D y) (place_leads (not b) e)) ∙ drawn.corner_low M s p t sound begun unstuck convex b (face_at D y) (half_face D D_sound y there) of side (tail D (mate y)) (ends_in D D_sound y there)))
    ]

  -- ---- a face, on one side of the plane, with a half-edge that was there

  module _ (b : Bool) (k : ℕ) (has : Has D.faces k) (of : solid_of D k ≡ s) (side : face_is_above D p k ≡ b) (y : ℕ) (y_was : HasHalf C y) (y_at : face_at D y ≡ k) where
    abbrev n : Plane
    n = plane_of M (face_at C y)

    same_origin : (x : ℕ) → HasHalf C x → face_at D x ≡ k → face_at C x ≡ face_at C y
    same_origin x was at = drawn_shared M s p t sound begun x y was y_was (at ∙ sym y_at)

    pub corner_level : (v : ℕ) → IsIn v (corners D k) → is_on (plane_of M (face_at C y)) (point_of D v) ≡ true
    corner_level v i = drawn.face_level M s p t sound begun unstuck convex y y_was (ap (solid_of D) y_at ∙ of) v (subst (λ f. IsIn v (corners D f)) (sym y_at) i)

    -- the plane beyond half-edge x
    pub record IsBeside (x : ℕ) : Type 0 where
      pub beyond : Plane
      pub bent : IsBent (plane_of M (face_at C y)) beyond D x
      pub kind : ((j : ℕ) × Has M.faces j × (solid_of M j ≡ s) × (beyond ≡ plane_of M j)) ⊎ (beyond ≡ facing b p)

    old_bent : (x : ℕ) → HasHalf C x → face_at D x ≡ k → IsBent (plane_of M (face_at C y)) (plane_of M (face_at C (mate x))) D x
    old_bent x was at = subst (λ f. IsBent (plane_of M f) (plane_of M (face_at C (mate x))) D x) (same_origin x was at) (drawn.old_bent M s p t sound begun unstuck convex x was (ap (solid_of D) at ∙ of))

    old_beside : (x : ℕ) → HasHalf C x → face_at D x ≡ k → IsBeside x
    old_beside x was at =
        let far = drawn.came_beyond M s p t sound begun unstuck convex x was (ap (solid_of D) at ∙ of) in
        record { beyond = plane_of M (face_at C (mate x)); bent = old_bent x was at; kind = inl (face_at C (mate x), far.0, far.1, refl) }

    -- ---- one that was drawn

    module _ (x : ℕ) (there : HasHalf D x) (at : face_at D x ≡ k) (l : IsLink C D (side_of M s p) (IsEnd M C s p) [] x) where
      abbrev z : ℕ
      z = after D x

      abbrev c : ℕ
      c = l.from

      x_of : solid_of D (face_at D x) ≡ s
      x_of = ap (solid_of D) at ∙ of

      z_at : face_at D z ≡ k
      z_at = next_face D D_sound x there ∙ at

      z_of : solid_of D (face_at D z) ≡ s
      z_of = ap (solid_of D) z_at ∙ of

      pub c_face : face_at D c ≡ face_at D (mate x)
      c_face = ap (face_at D) (sym l.back) ∙ next_face D D_sound (mate x) (mate_there D x there)

      pub c_of : solid_of D (face_at D c) ≡ s
      c_of = ap (solid_of D) c_face ∙ drawn.mate_of M s p t sound begun unstuck convex x there x_of

      z_side : side_of M s p z ≡ b
      z_side = place_side z l.pair.d_there z_of l.pair.d_place b (ap (face_is_above D p) z_at ∙ side)

      pub c_side : side_of M s p c ≡ not b
      c_side = l.pair.sides ∙ ap not z_side

      starts : start D x ≡ start D c
      starts = ap (point_of D) (l.starts ∙ sym ((drawn.stays M s p t sound begun unstuck convex).tails c l.pair.c_there))

      ends : finish D x ≡ start D z
      ends = sym (next_starts D D_sound x there)

      c_on : is_on (facing b p) (start D c) ≡ true
      c_on = on_facing b p (start D c) (place_level c l.pair.c_there c_of l.pair.c_place)

      z_on : is_on (facing b p) (start D z) ≡ true
      z_on = on_facing b p (start D z) (place_level z l.pair.d_there z_of l.pair.d_place)

      c_up : is_above (facing b p) (finish D c) ≡ true
      c_up = across b p (finish D c) (place_leads c l.pair.c_there c_of l.pair.c_place (not b) c_side)

      z_down : is_below (facing b p) (finish D z) ≡ true
      z_down = place_leads z l.pair.d_there z_of l.pair.d_place b z_side

      abbrev c_far : Plane
      c_far = plane_of M (face_at C (mate c))

      abbrev z_far : Plane
      z_far = plane_of M (face_at C (mate z))

      c_bent : IsBent n c_far D c
      c_bent = subst (λ f. IsBent (plane_of M f) c_far D c) (l.pair.face ∙ same_origin z l.pair.d_there z_at) (drawn.old_bent M s p t sound begun unstuck convex c l.pair.c_there c_of)

      z_bent : IsBent n z_far D z
      z_bent = old_bent z l.pair.d_there z_at

      under_c : (q : Point) → IsInside M s q → is_above c_far q ≡ false
      under_c q inside = let f = drawn.came_beyond M s p t sound begun unstuck convex c l.pair.c_there c_of in inside (face_at C (mate c)) f.0 f.1

      under_z : (q : Point) → IsInside M s q → is_above z_far q ≡ false
      under_z q inside = let f = drawn.came_beyond M s p t sound begun unstuck convex z l.pair.d_there z_of in inside (face_at C (mate z)) f.0 f.1

      z_there : HasHalf D z
      z_there = (drawn.stays M s p t sound begun unstuck convex).halves z l.pair.d_there

      c_there : HasHalf D c
      c_there = (drawn.stays M s p t sound begun unstuck convex).halves c l.pair.c_there

      never_met : start D z ≡ start D c → ⊥
      never_met same =
          let w = drawn.strict M s p t sound begun unstuck convex c l.pair.c_there c_of in
          let v = point_of M w.vertex in
          let v_on : is_on n v ≡ true = subst (λ f. is_on (plane_of M f) v ≡ true) (l.pair.face ∙ same_origin z l.pair.d_there z_at) w.on in
          never_one_point (direction n) (direction (facing b p)) (towards (start D c) (finish D c)) (towards (start D z) (finish D z)) (towards (start D c) v) (direction c_far) (direction z_far)
          (level_step n (start D c) (finish D c) c_bent.start_here c_bent.finish_here)
          (level_step n (start D z) (finish D z) z_bent.start_here z_bent.finish_here)
          (level_step n (start D c) v c_bent.start_here v_on)
          (level_step c_far (start D c) (finish D c) c_bent.start_beyond c_bent.finish_beyond)
          (level_step z_far (start D z) (finish D z) z_bent.start_beyond z_bent.finish_beyond)
          c_bent.bends z_bent.bends
          (low_step c_far (start D z) (finish D z) (ap (is_on c_far) same ∙ c_bent.start_beyond) (under_c (finish D z) (drawn.finish_inside M s p t sound begun unstuck convex z z_there z_of)))
          (low_step z_far (start D c) (finish D c) (ap (is_on z_far) (sym same) ∙ z_bent.start_beyond) (under_z (finish D c) (drawn.finish_inside M s p t sound begun unstuck convex c c_there c_of)))
          (down_step c_far (start D c) v c_bent.start_beyond w.below)
          (low_step z_far (start D c) v (ap (is_on z_far) (sym same) ∙ z_bent.start_beyond) (under_z v (drawn.vertex_inside M s p t sound begun unstuck convex w.vertex w.corner)))
          (high_step (facing b p) (start D c) (finish D c) c_on c_up)
          (down_step (facing b p) (start D z) (finish D z) z_on z_down)

      starts_here : is_on n (start D x) ≡ true
      starts_here = corner_level (tail D x) (subst (λ f. IsIn (tail D x) (corners D f)) at (starts_in D D_sound x there))

      ends_here : is_on n (finish D x) ≡ true
      ends_here = corner_level (tail D (mate x)) (subst (λ f. IsIn (tail D (mate x)) (corners D f)) at (ends_in D D_sound x there))

      starts_on : is_on (facing b p) (start D x) ≡ true
      starts_on = ap (is_on (facing b p)) starts ∙ c_on

      ends_on : is_on (facing b p) (finish D x) ≡ true
      ends_on = ap (is_on (facing b p)) ends ∙ z_on

      pub drawn_bent : IsBent (plane_of M (face_at C y)) (facing b p) D x
      drawn_bent = record {
        start_here = starts_here;
        finish_here = ends_here;
        start_beyond = starts_on;
        finish_beyond = ends_on;
        bends = drawn_bends (direction n) (direction (facing b p)) (start D x) (finish D x) (towards (start D z) (finish D z)) (direction z_far)
            (level_step n (start D x) (finish D x) starts_here ends_here)
            (level_step (facing b p) (start D x) (finish D x) starts_on ends_on)
            (level_step n (start D z) (finish D z) z_bent.start_here z_bent.finish_here)
            (level_step z_far (start D z) (finish D z) z_bent.start_beyond z_bent.finish_beyond)
            z_bent.bends
            (low_step z_far (finish D x) (start D x) (ap (is_on z_far) ends ∙ z_bent.start_beyond) (under_z (start D x) (drawn.start_inside M s p t sound begun unstuck convex x there x_of)))
            (down_step (facing b p) (start D z) (finish D z) z_on z_down)
            (λ e. never_met (sym ends ∙ same_end (start D x) (finish D x) e ∙ starts));
      }

    pub beside : (x : ℕ) → HasHalf D x → face_at D x ≡ k → IsBeside x
    beside x there at = elim ((drawn.linked M s p t sound begun unstuck convex).news x there) [
      | inl was ↦ old_beside x was at
      | inr l ↦ record { beyond = facing b p; bent = drawn_bent x there at l; kind = inr refl }
    ]
