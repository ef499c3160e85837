-- Steps that start on a plane: along it, up from it, down from it. And half-edges that lie on the planes of two faces that bend away from each other.
use Rattle.convex_laws.proofs.Prelude.{◌≡◌, ◌≢◌, ℕ, zero, suc, ℤ, pos, ◌+ℤ◌, ◌-ℤ◌, ◌*ℤ◌, neg_ℤ, int_lt, Bool, true, false, cond, refl, sym, ap, subst, ◌∙◌, arith, ints, Plane, Point, cross, direction, dot, height, is_above, is_below, is_on, Model, dif-parts, difs, neg-dif, same_dif, dot_turned, level_is, level_on, finish, scaled, start, towards, no_product}
use Rattle.convex_laws.proofs.Levels.{IsLow, dot_scaled, step_told}
use Rattle.convex_laws.proofs.Turns.{IsHigh, exchanged_product, high_at, high_factor, high_times, turn}

-- ---- a plane turned over

abbrev pub turned_over : Plane → Plane
turned_over p = record { a = neg_ℤ p.a; b = neg_ℤ p.b; c = neg_ℤ p.c; d = neg_ℤ p.d }

-- the plane seen from below, or from above
abbrev pub facing : Bool → Plane → Plane
facing b p = cond b (turned_over p) p

over_part : (a b c d x y z : ℤ) → (neg_ℤ a *ℤ x +ℤ neg_ℤ b *ℤ y +ℤ neg_ℤ c *ℤ z) +ℤ neg_ℤ d ≡ neg_ℤ ((a *ℤ x +ℤ b *ℤ y +ℤ c *ℤ z) +ℤ d)
over_part a b c d x y z = rw (dif-parts a, dif-parts b, dif-parts c, dif-parts d, dif-parts x, dif-parts y, dif-parts z) (simp (difs, neg-dif) (same_dif _ _ _ _ (omega arith)))

pub height_over : (p : Plane) (q : Point) → height (turned_over p) q ≡ neg_ℤ (height p q)
height_over p q = over_part p.a p.b p.c p.d q.x q.y q.z

over_above : (h : ℤ) → int_lt (pos 0) (neg_ℤ h) ≡ int_lt h (pos 0)
over_above h = grind (arith, ints)

over_below : (h : ℤ) → int_lt (neg_ℤ h) (pos 0) ≡ int_lt (pos 0) h
over_below h = grind (arith, ints)

pub above_facing : (b : Bool) (p : Plane) (q : Point) → is_above (facing b p) q ≡ cond b (is_below p q) (is_above p q)
above_facing true p q = ap (int_lt (pos 0)) (height_over p q) ∙ over_above (height p q)
above_facing false p q = refl

pub below_facing : (b : Bool) (p : Plane) (q : Point) → is_below (facing b p) q ≡ cond b (is_above p q) (is_below p q)
below_facing true p q = ap (λ h. int_lt h (pos 0)) (height_over p q) ∙ over_below (height p q)
below_facing false p q = refl

pub on_facing : (b : Bool) (p : Plane) (q : Point) → is_on p q ≡ true → is_on (facing b p) q ≡ true
on_facing true p q on = level_on (height (turned_over p) q) (height_over p q ∙ ap neg_ℤ (level_is (height p q) on))
on_facing false p q on = on

-- ---- steps

none_less : (x y : ℤ) → y ≡ pos 0 → x -ℤ y ≡ x
none_less x y e = omega (arith, ints, e)

pub step_from : (t : Plane) (r q : Point) → is_on t r ≡ true → dot (direction t) (towards r q) ≡ height t q
step_from t r q on = step_told t r q ∙ none_less (height t q) (height t r) (level_is (height t r) on)

pub level_step : (t : Plane) (r q : Point) → is_on t r ≡ true → is_on t q ≡ true → dot (direction t) (towards r q) ≡ pos 0
level_step t r q on on_too = step_from t r q on ∙ level_is (height t q) on_too

pub low_step : (t : Plane) (r q : Point) → is_on t r ≡ true → is_above t q ≡ false → IsLow (dot (direction t) (towards r q))
low_step t r q on low = ap (int_lt (pos 0)) (step_from t r q on) ∙ low

pub high_step : (t : Plane) (r q : Point) → is_on t r ≡ true → is_above t q ≡ true → IsHigh (dot (direction t) (towards r q))
high_step t r q on high = ap (int_lt (pos 0)) (step_from t r q on) ∙ high

pub down_step : (t : Plane) (r q : Point) → is_on t r ≡ true → is_below t q ≡ true → IsHigh (neg_ℤ (dot (direction t) (towards r q)))
down_step t r q on low = ap (λ h. int_lt (pos 0) (neg_ℤ h)) (step_from t r q on) ∙ over_above (height t q) ∙ low

-- ---- points and steps along a step

not_none : (w : ℕ) → w ≢ 0 → pos w ≢ pos 0
not_none w ne e = ne (grind (arith, ints))

pub on_line : (t : Plane) (w k : ℕ) (a b r q : Point) → w ≢ 0 → scaled (pos w) (towards r q) ≡ scaled (pos k) (towards a b) → is_on t a ≡ true → is_on t b ≡ true → is_on t r ≡ true → is_on t q ≡ true
on_line t w k a b r q some leads on_a on_b on_r = level_on (height t q) (no_product (pos w) (height t q)
    (exchanged_product (height t q) (pos w) ∙ ap (λ h. pos w *ℤ h) (sym (step_from t r q on_r)) ∙ sym (dot_scaled (pos w) (direction t) (towards r q)) ∙ ap (dot (direction t)) leads
    ∙ dot_scaled (pos k) (direction t) (towards a b) ∙ ap (λ h. pos k *ℤ h) (level_step t a b on_a on_b) ∙ times_none (pos k)) (not_none w some)) where
      times_none : (x : ℤ) → x *ℤ pos 0 ≡ pos 0
      times_none x = exchanged_product x (pos 0) ∙ omega (arith, ints)

-- a step that leads the same way as another turns where that does
pub turns_too : (n m d e : Point) (w k : ℕ) → w ≢ 0 → k ≢ 0 → scaled (pos w) e ≡ scaled (pos k) d → IsHigh (turn n d m) → IsHigh (turn n e m)
turns_too n m d e zero k some_w some_k leads high = absurd (some_w refl)
turns_too n m d e (suc w) zero some_w some_k leads high = absurd (some_k refl)
turns_too n m d e (suc w) (suc k) some_w some_k leads high =
    let c = cross n m in
    high_factor (pos (suc w)) (dot e c) (high_at w) (subst IsHigh (ap (λ x. pos (suc k) *ℤ x) (dot_turned d c) ∙ sym (dot_scaled (pos (suc k)) c d) ∙ ap (dot c) (sym leads) ∙ dot_scaled (pos (suc w)) c e ∙ ap (λ x. pos (suc w) *ℤ x) (dot_turned c e)) (high_times (pos (suc k)) (dot d c) (high_at k) high))

-- ---- half-edges

-- half-edge x of G lies on two planes, which bend away from each other along it
pub record IsBent (n m : Plane) (G : Model) (x : ℕ) : Type 0 where
  pub start_here : is_on n (start G x) ≡ true
  pub finish_here : is_on n (finish G x) ≡ true
  pub start_beyond : is_on m (start G x) ≡ true
  pub finish_beyond : is_on m (finish G x) ≡ true
  pub bends : IsHigh (turn (direction n) (towards (start G x) (finish G x)) (direction m))
