-- The faces of a strictly convex solid once it is drawn look as those do from which they come.
use Rattle.convex_laws.proofs.Prelude.{◌≡◌, ℕ, zero, suc, ℤ, pos, negsuc, ◌+ℤ◌, ◌*ℤ◌, neg_ℤ, unsigned_abs, int_lt, Bool, true, false, not, refl, sym, ap, subst, ◌∙◌, arith, inl, inr, and_parts, ints, Plane, Point, IsIn, direction, dot, height, is_above, is_on, mate, origin, Model, face_at, point_of, same_point, solid_of, Sound, Has, HasHalf, listed-from_in, boundary, corners, face_is_above, finish, is_flat, normal, plane_of, start, straddles, towards, some_direction, IsStrictlyConvex, None, stages, split_refusal}
use Rattle.command_laws.proofs.splits_laws.Uncut.{uncut_turned}
use Rattle.convex_laws.proofs.Beside as next
use Rattle.convex_laws.proofs.Drawn as drawn
use Rattle.convex_laws.proofs.Drawn.{corner_on, IsInside, drawn_through}
use Rattle.convex_laws.proofs.Levels.{IsLow, low_times, product_back}
use Rattle.convex_laws.proofs.Planes.{IsBent, facing, level_step, step_from}
use Rattle.convex_laws.proofs.Rounds.{boundary_half, face_looks, in_boundary, weighed_low, weighed_none}
use Rattle.convex_laws.proofs.Together.{whole_stays}
use Rattle.convex_laws.proofs.Touched.{far_corner}
use Rattle.convex_laws.proofs.Turns.{Edge, IsHigh, exchanged_product, has_length, high_times, leads_on, never_back, swept_over, weighed}

-- ---- two heights that weigh each other up

pub one_weight : (x y : ℤ) → weighed 1 0 x y ≡ x
one_weight x y = omega (arith, ints)

even_part : (a c : ℤ) → c *ℤ a +ℤ a *ℤ neg_ℤ c ≡ pos 0
even_part a c = ap (λ x. c *ℤ a +ℤ x) (product_back a c ∙ ap neg_ℤ (exchanged_product a c)) ∙ gone (c *ℤ a) where
  gone : (x : ℤ) → x +ℤ neg_ℤ x ≡ pos 0
  gone x = omega (arith, ints)

pub balanced : (x y : ℤ) → IsHigh x → IsHigh (neg_ℤ y) → weighed (unsigned_abs y) (unsigned_abs x) x y ≡ pos 0
balanced (pos zero) y high low = absurd (grind (arith, ints))
balanced (pos (suc m)) (pos zero) high low = absurd (grind (arith, ints))
balanced (pos (suc m)) (pos (suc n)) high low = absurd (grind (arith, ints))
balanced (pos (suc m)) (negsuc n) high low = even_part (pos (suc m)) (pos (suc n))
balanced (negsuc m) y high low = absurd (grind (arith, ints))

pub turned_low : (h : ℤ) → int_lt h (pos 0) ≡ true → IsHigh (neg_ℤ h)
turned_low h e = grind (arith, ints)

pub not_less : (k : ℕ) → int_lt (pos k) (pos 0) ≡ false
not_less k = grind (arith, ints)

pub some_weight : (y : ℤ) → IsHigh (neg_ℤ y) → IsHigh (pos (unsigned_abs y))
some_weight y high = grind (arith, ints)

pub first_down : (a b x y : ℤ) → IsHigh a → int_lt b (pos 0) ≡ false → IsHigh (neg_ℤ x) → IsLow (b *ℤ y) → IsHigh (neg_ℤ (a *ℤ x +ℤ b *ℤ y))
first_down a b x y some none high low = sum_back (a *ℤ x) (b *ℤ y) (subst IsHigh (product_back a x) (high_times a (neg_ℤ x) some high)) low where
  sum_back : (u v : ℤ) → IsHigh (neg_ℤ u) → IsLow v → IsHigh (neg_ℤ (u +ℤ v))
  sum_back u v e f = grind (arith, ints)

module _ (M : Model) (s : ℕ) (p : Plane) (t : ℕ) (sound : Sound M) (accepted : split_refusal M s p t ≡ None) (convex : IsStrictlyConvex M s) where
  open stages M s p t use {cut as C, drawn as D}
  open drawn_through M s p t sound accepted use {begun, unstuck, D_sound}

  module _ (b : Bool) (k : ℕ) (has : Has D.faces k) (of : solid_of D k ≡ s) (side : face_is_above D p k ≡ b) (y : ℕ) (y_was : HasHalf C y) (y_at : face_at D y ≡ k) where
    abbrev f : ℕ
    f = face_at C y

    abbrev n : Plane
    n = plane_of M (face_at C y)

    abbrev far : Plane
    far = plane_of M (face_at C (mate y))

    y_of : solid_of D (face_at D y) ≡ s
    y_of = ap (solid_of D) y_at ∙ of

    abbrev Beside : ℕ → Type 0
    Beside x = next.IsBeside M s p t sound begun unstuck convex b k has of side y y_was y_at x

    y_bent : IsBent n far D y
    y_bent = drawn.old_bent M s p t sound begun unstuck convex y y_was y_of

    -- the face can be seen from between u and w
    record IsView (u w : Point) (a c : ℕ) : Type 0 where
      u_in : IsInside M s u
      w_in : IsInside M s w
      u_on : is_on (plane_of M (face_at C y)) u ≡ true
      w_on : is_on (plane_of M (face_at C y)) w ≡ true
      level : IsLow (weighed a c (height (facing b p) u) (height (facing b p) w))
      strict : IsHigh (neg_ℤ (weighed a c (height (plane_of M (face_at C (mate y))) u) (height (plane_of M (face_at C (mate y))) w)))

    module _ (u w : Point) (a c : ℕ) (view : IsView u w a c) where
      edge_of : (x : ℕ) (m : Plane) → IsBent n m D x → Edge (direction n) (direction m) u w (start D x) (finish D x) a c
      edge_of x m bent = record {
        level = level_step n (start D x) (finish D x) bent.start_here bent.finish_here;
        beside = level_step m (start D x) (finish D x) bent.start_beyond bent.finish_beyond;
        bends = bent.bends;
        on = (λ i. weighed a c (level_step n (start D x) u bent.start_here view.u_on i) (level_step n (start D x) w bent.start_here view.w_on i)) ∙ weighed_none (pos a) (pos c) (pos 0) refl;
      }

      heights : (m : Plane) (r : Point) → is_on m r ≡ true → weighed a c (dot (direction m) (towards r u)) (dot (direction m) (towards r w)) ≡ weighed a c (height m u) (height m w)
      heights m r on = λ i. weighed a c (step_from m r u on i) (step_from m r w on i)

      seen_low : (x : ℕ) (g : Beside x) → IsLow (weighed a c (height g.beyond u) (height g.beyond w))
      seen_low x g = elim g.kind [
        | inl j ↦ subst (λ m. IsLow (weighed a c (height m u) (height m w))) (sym j.3) (weighed_low a c (height (plane_of M j.0) u) (height (plane_of M j.0) w) (view.u_in j.0 j.1 j.2) (view.w_in j.0 j.1 j.2))
        | inr e ↦ subst (λ m. IsLow (weighed a c (height m u) (height m w))) (sym e) view.level
      ]

      not_back : (x : ℕ) → IsIn x (boundary D k) → int_lt (swept_over (direction n) u w (start D x) (finish D x) a c) (pos 0) ≡ false
      not_back x i =
          let h = boundary_half D D_sound k x has i in
          let g : Beside x = next.beside M s p t sound begun unstuck convex b k has of side y y_was y_at x h.0 h.1 in
          never_back (direction n) (direction g.beyond) u w (start D x) (finish D x) a c (edge_of x g.beyond g.bent) (ap (int_lt (pos 0)) (heights g.beyond (start D x) g.bent.start_beyond) ∙ seen_low x g)

      looks_from : IsHigh (dot (direction (plane_of M (face_at C y))) (normal D k))
      looks_from = face_looks D (direction n) u w a c D_sound k not_back y (subst (λ j. IsIn y (boundary D j)) y_at (in_boundary D D_sound y ((drawn.stays M s p t sound begun unstuck convex).halves y y_was)))
          (leads_on (direction n) (direction far) u w (start D y) (finish D y) a c (edge_of y far y_bent) (ap (λ x. int_lt (pos 0) (neg_ℤ x)) (heights far (start D y) y_bent.start_beyond) ∙ view.strict))

    abbrev w : drawn.Strict M s p t sound begun unstuck convex y y_was y_of
    w = drawn.strict M s p t sound begun unstuck convex y y_was y_of

    q_down : IsHigh (neg_ℤ (height far (point_of M w.vertex)))
    q_down = turned_low (height far (point_of M w.vertex)) w.below

    q_in : IsInside M s (point_of M w.vertex)
    q_in = drawn.vertex_inside M s p t sound begun unstuck convex w.vertex w.corner

    alone : is_above (facing b p) (point_of M w.vertex) ≡ false → IsHigh (dot (direction n) (normal D k))
    alone low = let q = point_of M w.vertex in looks_from q q 1 0 (record {
      u_in = q_in;
      w_in = q_in;
      u_on = w.on;
      w_on = w.on;
      level = ap (int_lt (pos 0)) (one_weight (height (facing b p) q) (height (facing b p) q)) ∙ low;
      strict = ap (λ x. int_lt (pos 0) (neg_ℤ x)) (one_weight (height far q) (height far q)) ∙ q_down;
    })

    face_facts : Has M.faces (face_at C y) × (solid_of M (face_at C y) ≡ s)
    face_facts = drawn.came_face M s p t sound begun unstuck convex y y_was y_of

    with_other : is_above (facing b p) (point_of M w.vertex) ≡ true → straddles M p (face_at C y) ≡ true → IsHigh (dot (direction n) (normal D k))
    with_other high straddling =
        let q = point_of M w.vertex in
        let o = far_corner M p b (face_at C y) straddling in
        let r = point_of M o.0 in
        let r_in : IsInside M s r = drawn.vertex_inside M s p t sound begun unstuck convex o.0 (record { face = face_at C y; there = face_facts.0; solid = face_facts.1; corner = listed-from_in o.0 (corners M (face_at C y)) o.1 }) in
        let hq = height (facing b p) q in let hr = height (facing b p) r in
        let r_down : IsHigh (neg_ℤ hr) = turned_low hr o.2 in
        looks_from q r (unsigned_abs hr) (unsigned_abs hq) (record {
          u_in = q_in;
          w_in = r_in;
          u_on = w.on;
          w_on = corner_on M s sound convex (face_at C y) face_facts.0 face_facts.1 o.0 o.1;
          level = ap (int_lt (pos 0)) (balanced hq hr high r_down);
          strict = first_down (pos (unsigned_abs hr)) (pos (unsigned_abs hq)) (height far q) (height far r) (some_weight hr r_down) (not_less (unsigned_abs hq)) q_down (far_low r r_in);
        }) where
          far_low : (r : Point) → IsInside M s r → IsLow (pos (unsigned_abs (height (facing b p) (point_of M w.vertex))) *ℤ height far r)
          far_low r inside = let j = drawn.came_beyond M s p t sound begun unstuck convex y y_was y_of in low_times (unsigned_abs (height (facing b p) (point_of M w.vertex))) (height far r) (inside (face_at C (mate y)) j.0 j.1)

    -- a face that the plane doesn't straddle stays as it is
    whole_looks : straddles M p (face_at C y) ≡ false → IsHigh (dot (direction (plane_of M (face_at C y))) (normal D k))
    unfolding is_flat plane_of
    whole_looks whole =
        let at : k ≡ face_at C y = sym y_at ∙ whole_stays M s p t sound begun y y_was whole in
        let same : normal D k ≡ normal M (face_at C y) = ap (normal D) at ∙ (uncut_turned M s p t sound accepted (face_at C y) face_facts.0 whole).normal in
        ap (λ v. int_lt (pos 0) (dot (normal M (face_at C y)) v)) same
        ∙ has_length (normal M (face_at C y)) (some_direction (plane_of M (face_at C y)) (and_parts (not (same_point (direction (plane_of M (face_at C y))) origin)) _ (convex.convex.flat (face_at C y) face_facts.0 face_facts.1)).0)

    pub piece_looks : IsHigh (dot (direction (plane_of M (face_at C y))) (normal D k))
    piece_looks = by_side (is_above (facing b p) (point_of M w.vertex)) refl (straddles M p (face_at C y)) refl where
      by_side : (h : Bool) → is_above (facing b p) (point_of M w.vertex) ≡ h → (c : Bool) → straddles M p (face_at C y) ≡ c → IsHigh (dot (direction (plane_of M (face_at C y))) (normal D k))
      by_side false low c e = alone low
      by_side true high true e = with_other high e
      by_side true high false e = whole_looks e
