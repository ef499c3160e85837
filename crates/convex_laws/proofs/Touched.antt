-- A face of a strictly convex solid that straddles the plane isn't touched by it: at each corner on the plane it goes through.
use Rattle.convex_laws.proofs.Prelude.{int_eq, ◌≡◌, ℕ, ℤ, pos, neg_ℤ, int_lt, Bool, true, false, not, ◌&&◌, ◌||◌, refl, sym, ap, subst, ◌∙◌, arith, true≢false, and_parts, false_from_ne_true, ints, Plane, Point, IsIn, are_opposite, cross, direction, dot, is_above, is_below, is_on, height, opposite, mate, Model, after, before, face_at, point_of, solid_of, tail, Sound, Has, HasHalf, mate_there, IsIn-from_listed, back_of, half_after, half_face, listed-from_in, boundary, corners, crosses, finish, is_place, is_touched, plane_of, reaches_above, reaches_below, start, straddles, towards, any_from, none_from, before_after, IsStrictlyConvex, IsVertexOf, starts_in}
use Rattle.convex_laws.proofs.Drawn.{bent_here, beyond_of, corner_on, next_face, next_starts, turned_sign}
use Rattle.convex_laws.proofs.Levels.{IsLow, twice_back}
use Rattle.convex_laws.proofs.Planar.{none_below}
use Rattle.convex_laws.proofs.Planes.{IsBent, above_facing, below_facing, down_step, facing, high_step, level_step, low_step, on_facing}
use Rattle.convex_laws.proofs.Rounds.{boundary_half}
use Rattle.convex_laws.proofs.Turns.{IsHigh, bends_to, dot_negated, left_under, lies_left, step_length, strictly_left, towards_back, turn, turn_back, up_length}
use Rattle.convex_laws.proofs.Volumes.{depth, height_is, under}

-- a corner of a face that straddles, strictly on one side
pub far_corner : (M : Model) (p : Plane) (b : Bool) (f : ℕ) → straddles M p f ≡ true → (v : ℕ) × IsIn v (corners M f) × (is_below (facing b p) (point_of M v) ≡ true)
unfolding straddles
far_corner M p false f e = any_from (λ v. is_below p (point_of M v)) (corners M f) (and_parts (reaches_above M p f) (reaches_below M p f) e).1
far_corner M p true f e = let r = any_from (λ v. is_above p (point_of M v)) (corners M f) (and_parts (reaches_above M p f) (reaches_below M p f) e).0 in (r.0, r.1, below_facing true p (point_of M r.0) ∙ r.2)

opposite_signs : (a b : ℤ) → int_eq a (pos 0) ≡ false → int_eq b (pos 0) ≡ false → (int_lt (pos 0) a && int_lt (pos 0) b) ≡ false → (int_lt a (pos 0) && int_lt b (pos 0)) ≡ false → opposite a b ≡ true
opposite_signs a b e f g h = grind (arith, ints)

second_part : (a b c : Bool) → b ≡ true → c ≡ true → (a || (b && c)) ≡ true
second_part a b c e f = grind (arith, e, f)

no_corner : (a b : Bool) → (a ≡ true → b ≡ true) → (a && not b) ≡ false
no_corner true b is = ap not (is refl)
no_corner false b is = refl

-- a step turned round
turned_step : (n u v e : Point) → turn n (towards u v) e ≡ turn n e (towards v u)
turned_step n u v e = ap (λ d. turn n d e) (towards_back v u) ∙ dot_negated (towards v u) (cross n e) ∙ ap neg_ℤ (turn_back n (towards v u) e) ∙ twice_back (turn n e (towards v u))

module _ (M : Model) (s : ℕ) (sound : Sound M) (convex : IsStrictlyConvex M s) (f : ℕ) (has : Has M.faces f) (of : solid_of M f ≡ s) where
  abbrev n : Point
  n = direction (plane_of M f)

  pub on_plane : (v : ℕ) → IsIn v (corners M f) → is_on (plane_of M f) (point_of M v) ≡ true
  on_plane v i = corner_on M s sound convex f has of v i

  -- ---- the corners of the face lie on the left of each of its half-edges, and one strictly

  module _ (h : ℕ) (half : HasHalf M h) (at : face_at M h ≡ f) where
    abbrev d : Point
    d = towards (start M h) (finish M h)

    abbrev far : Plane
    far = plane_of M (face_at M (mate h))

    pub starts_here : IsIn (tail M h) (corners M f)
    starts_here = subst (λ k. IsIn (tail M h) (corners M k)) at (starts_in M sound h half)

    bent : IsBent (plane_of M f) (plane_of M (face_at M (mate h))) M h
    bent = subst (λ k. IsBent (plane_of M k) (plane_of M (face_at M (mate h))) M h) at (bent_here M s sound convex h half (ap (solid_of M) at ∙ of))

    level : dot (direction (plane_of M f)) (towards (start M h) (finish M h)) ≡ pos 0
    level = level_step (plane_of M f) (start M h) (finish M h) bent.start_here bent.finish_here

    beside : dot (direction (plane_of M (face_at M (mate h)))) (towards (start M h) (finish M h)) ≡ pos 0
    beside = level_step (plane_of M (face_at M (mate h))) (start M h) (finish M h) bent.start_beyond bent.finish_beyond

    pub looks : IsHigh (dot (direction (plane_of M f)) (direction (plane_of M f)))
    looks = up_length (direction (plane_of M f)) d (direction far) bent.bends

    long : IsHigh (dot (towards (start M h) (finish M h)) (towards (start M h) (finish M h)))
    long = step_length (direction (plane_of M f)) d (direction far) bent.bends

    -- a step in the plane from a point on the line of the half-edge
    module _ (r : Point) (r_on : is_on (plane_of M f) r ≡ true) (r_beyond : is_on (plane_of M (face_at M (mate h))) r ≡ true) (v : ℕ) (i : IsIn v (corners M f)) where
      corner : IsVertexOf M s v
      corner = record { face = f; there = has; solid = of; corner = listed-from_in v (corners M f) i }

      left_from : IsLow (turn (direction (plane_of M f)) (towards (start M h) (finish M h)) (towards r (point_of M v)))
      left_from = lies_left (direction (plane_of M f)) d (direction far) (towards r (point_of M v)) level beside (level_step (plane_of M f) r (point_of M v) r_on (on_plane v i)) bent.bends
          (low_step far r (point_of M v) r_beyond (convex.convex.below (face_at M (mate h)) (half_face M sound (mate h) (mate_there M h half)) (beyond_of M s sound convex h half (ap (solid_of M) at ∙ of)) v corner))

    pub left : (v : ℕ) → IsIn v (corners M f) → IsLow (turn (direction (plane_of M f)) (towards (start M h) (finish M h)) (towards (start M h) (point_of M v)))
    left v i = left_from (start M h) bent.start_here bent.start_beyond v i

    left_of_end : (v : ℕ) → IsIn v (corners M f) → IsLow (turn (direction (plane_of M f)) (towards (start M h) (finish M h)) (towards (finish M h) (point_of M v)))
    left_of_end v i = left_from (finish M h) bent.finish_here bent.finish_beyond v i

    pub left_strictly : (y : ℕ) × IsIn y (corners M f) × IsHigh (neg_ℤ (turn (direction (plane_of M f)) (towards (start M h) (finish M h)) (towards (start M h) (point_of M y))))
    left_strictly =
        let u = under M s sound convex h half (ap (solid_of M) at ∙ of) in
        let q = point_of M u.vertex in
        let i : IsIn u.vertex (corners M f) = subst (λ k. IsIn u.vertex (corners M k)) at (IsIn-from_listed u.vertex (corners M (face_at M h)) u.corner) in (
          u.vertex,
          i,
          strictly_left (direction (plane_of M f)) d (direction far) (towards (start M h) q) level beside (level_step (plane_of M f) (start M h) q bent.start_here (on_plane u.vertex i)) bent.bends
              (down_step far (start M h) q bent.start_beyond (ap (λ z. int_lt z (pos 0)) (height_is M q (face_at M (mate h))) ∙ turned_sign (depth M q (face_at M (mate h))) u.depth)),
        )

  -- ---- a face that straddles the plane

  module _ (p : Plane) (straddling : straddles M p f ≡ true) where
    -- no half-edge lies on the plane
    module _ (h : ℕ) (half : HasHalf M h) (at : face_at M h ≡ f) (starts : is_on p (start M h) ≡ true) (ends : is_on p (finish M h) ≡ true) where
      never_along : ⊥
      never_along =
          let low = far_corner M p false f straddling in
          let high = far_corner M p true f straddling in
          let q = point_of M low.0 in let r = point_of M high.0 in
          let d = towards (start M h) (finish M h) in
          let flat = level h half at in
          let along = level_step p (start M h) (finish M h) starts ends in
          let on = (bent h half at).start_here in
          let turns : IsHigh (turn (direction (plane_of M f)) (towards (start M h) (finish M h)) (direction p)) =
          bends_to (direction (plane_of M f)) d (direction p) (towards (start M h) q) flat along (level_step (plane_of M f) (start M h) q on (on_plane low.0 low.1)) (long h half at) (looks h half at)
          (left h half at low.0 low.1) (down_step p (start M h) q starts low.2) in
          true≢false (sym (high_step p (start M h) r starts (sym (below_facing true p r) ∙ high.2))
          ∙ left_under (direction (plane_of M f)) d (direction p) (towards (start M h) r) flat along (level_step (plane_of M f) (start M h) r on (on_plane high.0 high.1)) turns (left h half at high.0 high.1))

    -- a corner on the plane, between two half-edges
    module _ (g : ℕ) (g_half : HasHalf M g) (g_at : face_at M g ≡ f) (on : is_on p (start M (after M g)) ≡ true) where
      abbrev x : ℕ
      x = after M g

      x_half : HasHalf M x
      x_half = half_after M sound g g_half

      x_at : face_at M x ≡ f
      x_at = next_face M sound g g_half ∙ g_at

      meet : finish M g ≡ start M (after M g)
      meet = sym (next_starts M sound g g_half)

      never_both : (b : Bool) → is_above (facing b p) (start M g) ≡ true → is_above (facing b p) (finish M (after M g)) ≡ true → ⊥
      never_both b back forth =
          let n = direction (plane_of M f) in
          let v = start M x in
          let here = facing b p in
          let o = far_corner M p b f straddling in
          let y = left_strictly x x_half x_at in
          let v_on = (bent x x_half x_at).start_here in
          let v_here = on_facing b p v on in
          let second : (w : ℕ) → IsIn w (corners M f) → IsLow (turn (direction (plane_of M f)) (towards (start M (after M g)) (point_of M w)) (towards (start M (after M g)) (start M g))) =
          λ w i. subst IsLow (turned_step (direction (plane_of M f)) (start M g) (start M (after M g)) (towards (start M (after M g)) (point_of M w)))
          (subst (λ m. IsLow (turn (direction (plane_of M f)) (towards (start M g) m) (towards m (point_of M w)))) meet (left_of_end g g_half g_at w i)) in
          none_below n (direction here) (towards v (finish M x)) (towards v (start M g)) (towards v (point_of M y.0)) (towards v (point_of M o.0))
          (level x x_half x_at)
          (level_step (plane_of M f) v (start M g) v_on (bent g g_half g_at).start_here)
          (level_step (plane_of M f) v (point_of M y.0) v_on (on_plane y.0 y.1))
          (level_step (plane_of M f) v (point_of M o.0) v_on (on_plane o.0 o.1))
          (looks x x_half x_at)
          (high_step here v (finish M x) v_here forth)
          (high_step here v (start M g) v_here back)
          (left x x_half x_at (tail M g) (starts_here g g_half g_at))
          y.2 (second y.0 y.1) (left x x_half x_at o.0 o.1) (second o.0 o.1)
          (down_step here v (point_of M o.0) v_here o.2)

      goes_through : are_opposite p (start M g) (finish M (after M g)) ≡ true
      goes_through = opposite_signs (height p (start M g)) (height p (finish M (after M g)))
          (false_from_ne_true (is_on p (start M g)) (λ e. never_along g g_half g_at e (ap (is_on p) meet ∙ on)))
          (false_from_ne_true (is_on p (finish M (after M g))) (λ e. never_along x x_half x_at on e))
          (false_from_ne_true (is_above p (start M g) && is_above p (finish M (after M g))) (λ e. let a = and_parts (is_above p (start M g)) (is_above p (finish M (after M g))) e in never_both false a.0 a.1))
          (false_from_ne_true (is_below p (start M g) && is_below p (finish M (after M g)))
          (λ e. let a = and_parts (is_below p (start M g)) (is_below p (finish M (after M g))) e in never_both true (above_facing true p (start M g) ∙ a.0) (above_facing true p (finish M (after M g)) ∙ a.1)))

    module _ (h : ℕ) (half : HasHalf M h) (at : face_at M h ≡ f) where
      turns_there : is_on p (start M h) ≡ true → are_opposite p (start M (before M h)) (finish M h) ≡ true
      turns_there on =
          let g = back_of M sound h half in
          let is : before M h ≡ g.0 = ap (before M) (sym g.2) ∙ before_after M sound g.0 g.1 in
          subst (λ k. are_opposite p (start M k) (finish M h) ≡ true) (sym is)
          (subst (λ k. are_opposite p (start M g.0) (finish M k) ≡ true) g.2 (goes_through g.0 g.1 (sym (next_face M sound g.0 g.1) ∙ ap (face_at M) g.2 ∙ at) (ap (λ k. is_on p (start M k)) g.2 ∙ on)))

      -- a corner on the plane is a cut place
      pub is_cut_there : is_on p (start M h) ≡ true → is_place M p h ≡ true
      unfolding is_place
      is_cut_there on = second_part (crosses M p h) (is_on p (start M h)) (are_opposite p (start M (before M h)) (finish M h)) on (turns_there on)

    pub never_touched : is_touched M p f ≡ false
    unfolding is_touched
    never_touched = none_from (λ h. is_on p (start M h) && not (is_place M p h)) (boundary M f) (λ h i. let b = boundary_half M sound f h has i in
        no_corner (is_on p (start M h)) (is_place M p h) (is_cut_there h b.0 b.1))
