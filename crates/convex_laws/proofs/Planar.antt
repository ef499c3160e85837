-- Three steps in one plane: how far the first and the last turn from each other, told by the one between.
use Rattle.convex_laws.proofs.Prelude.{◌≡◌, ◌≢◌, ℤ, pos, ◌+ℤ◌, ◌-ℤ◌, ◌*ℤ◌, neg_ℤ, int_lt, refl, sym, ap, subst, ◌∙◌, arith, true≢false, inl, inr, ints, Point, dot, cross, dot_turned, negated, scaled, towards, cross_back, dot_back, cross_across}
use Rattle.convex_laws.proofs.Levels.{IsLow, dot_scaled, height_at, low_sum, twice_back}
use Rattle.convex_laws.proofs.Turns.{IsHigh, both_back, either_sign, exchanged_product, front_back, high_times, low_product, dot_negated, no_factor, no_times, nothing, swept_turn, turn, turn_back, turn_first, turn_second}

-- along a vector, a step is the difference of its ends
pub told_step : (g p q : Point) → dot g (towards p q) ≡ dot g q -ℤ dot g p
told_step g p q = sym (height_at g p q)

abbrev difference : ℤ → ℤ → ℤ → ℤ → ℤ
difference x y u v = x *ℤ y -ℤ u *ℤ v

told_scaled : (g p q : Point) (x y : ℤ) → dot g (towards (scaled x p) (scaled y q)) ≡ difference y (dot g q) x (dot g p)
told_scaled g p q x y = told_step g (scaled x p) (scaled y q) ∙ (λ i. dot_scaled y g q i -ℤ dot_scaled x g p i)

pub low_and_down : (x y : ℤ) → IsLow x → IsHigh (neg_ℤ y) → IsHigh (neg_ℤ (x +ℤ y))
low_and_down x y low down = grind (arith, ints)

pub down_and_low : (x y : ℤ) → IsHigh (neg_ℤ x) → IsLow y → IsHigh (neg_ℤ (x +ℤ y))
down_and_low x y down low = grind (arith, ints)

pub not_up : (z : ℤ) → IsHigh (neg_ℤ z) → IsLow z
not_up z e = grind (arith, ints)

module _ (n a b e : Point) (a_level : dot n a ≡ pos 0) (b_level : dot n b ≡ pos 0) (e_level : dot n e ≡ pos 0) (up : IsHigh (dot n n)) where
  -- (a x b) x (e x n), told in two ways
  abbrev N : Point
  N = cross a b

  abbrev K : Point
  K = cross e n

  both_ways : towards (scaled (dot N e) n) (scaled (dot N n) e) ≡ negated (towards (scaled (dot K a) b) (scaled (dot K b) a))
  both_ways = sym (cross_across N e n (dot N n) (dot N e) refl refl) ∙ cross_back K N ∙ ap negated (cross_across K a b (dot K b) (dot K a) refl refl)

  told_both : (g : Point) → difference (dot N n) (dot g e) (dot N e) (dot g n) ≡ neg_ℤ (difference (dot K b) (dot g a) (dot K a) (dot g b))
  told_both g = sym (told_scaled g n e (dot N e) (dot N n)) ∙ ap (dot g) both_ways ∙ dot_back g (towards (scaled (dot K a) b) (scaled (dot K b) a)) ∙ ap neg_ℤ (told_scaled g b a (dot K a) (dot K b))

  none_left : (x y u v w : ℤ) → difference x (pos 0) y w ≡ neg_ℤ (difference u (pos 0) v (pos 0)) → w *ℤ y ≡ pos 0
  none_left x y u v w e = let z : w *ℤ y ≡ y *ℤ w = exchanged_product w y in let f = exchanged_product x (pos 0) ∙ no_times x in let g = exchanged_product u (pos 0) ∙ no_times u in let h = exchanged_product v (pos 0) ∙ no_times v in
      z ∙ only (x *ℤ pos 0) (y *ℤ w) (u *ℤ pos 0) (v *ℤ pos 0) e f g h where
        only : (x y u v : ℤ) → x -ℤ y ≡ neg_ℤ (u -ℤ v) → x ≡ pos 0 → u ≡ pos 0 → v ≡ pos 0 → y ≡ pos 0
        only x y u v e f g h = omega (arith, ints)

  flat : dot N e ≡ pos 0
  flat = no_factor (dot n n) (dot N e) up (none_left (dot N n) (dot N e) (dot K b) (dot K a) (dot n n) (zeros (told_both n))) where
    zeros : difference (dot N n) (dot n e) (dot N e) (dot n n) ≡ neg_ℤ (difference (dot K b) (dot n a) (dot K a) (dot n b)) → difference (dot N n) (pos 0) (dot N e) (dot n n) ≡ neg_ℤ (difference (dot K b) (pos 0) (dot K a) (pos 0))
    zeros t = (λ i. difference (dot N n) (sym e_level i) (dot N e) (dot n n)) ∙ t ∙ (λ i. neg_ℤ (difference (dot K b) (a_level i) (dot K a) (b_level i)))

  across : dot N n ≡ neg_ℤ (turn n a b)
  across = ap (λ v. dot v n) (cross_back b a) ∙ dot_negated (cross b a) n ∙ ap neg_ℤ (sym (turn_first n a b))

  settled : (t u v : ℤ) → neg_ℤ t -ℤ pos 0 ≡ neg_ℤ (u -ℤ neg_ℤ v) → t ≡ u +ℤ v
  settled t u v e = omega (arith, ints, e)

  pub three_steps : (g : Point) → turn n a b *ℤ dot g e ≡ turn n e b *ℤ dot g a +ℤ turn n a e *ℤ dot g b
  three_steps g = settled (turn n a b *ℤ dot g e) (turn n e b *ℤ dot g a) (turn n a e *ℤ dot g b)
      ((λ i. sym (ap (λ x. x *ℤ dot g e) across ∙ front_back (turn n a b) (dot g e)) i -ℤ sym (ap (λ x. x *ℤ dot g n) flat ∙ no_times (dot g n)) i) ∙ told_both g
      ∙ (λ i. neg_ℤ (ap (λ x. x *ℤ dot g a) (sym (turn_second n e b)) i -ℤ (ap (λ x. x *ℤ dot g b) (sym (turn_second n e a) ∙ turn_back n e a) ∙ front_back (turn n a e) (dot g b)) i)))

  -- where a and b lead up, and e lies on the left of the one and b on the left of e
  module _ (g : Point) (a_up : IsHigh (dot g a)) (b_up : IsHigh (dot g b)) (first : IsLow (turn n a e)) (second : IsLow (turn n e b)) where
    low_at : (x y : ℤ) → IsLow x → IsHigh y → IsLow (x *ℤ y)
    low_at x y low high = subst IsLow (exchanged_product y x) (low_product y x high low)

    down_at : (x y : ℤ) → IsHigh (neg_ℤ x) → IsHigh y → IsHigh (neg_ℤ (x *ℤ y))
    down_at x y down high = subst IsHigh (front_back x y) (high_times (neg_ℤ x) y down high)

    pub stays_left : IsLow (turn n a b *ℤ dot g e)
    stays_left = subst IsLow (sym (three_steps g)) (low_sum (turn n e b *ℤ dot g a) (turn n a e *ℤ dot g b) (low_at (turn n e b) (dot g a) second a_up) (low_at (turn n a e) (dot g b) first b_up))

    pub first_strict : IsHigh (neg_ℤ (turn n a e)) → IsHigh (neg_ℤ (turn n a b *ℤ dot g e))
    first_strict more = subst (λ x. IsHigh (neg_ℤ x)) (sym (three_steps g)) (low_and_down (turn n e b *ℤ dot g a) (turn n a e *ℤ dot g b) (low_at (turn n e b) (dot g a) second a_up) (down_at (turn n a e) (dot g b) more b_up))

    pub second_strict : IsHigh (neg_ℤ (turn n e b)) → IsHigh (neg_ℤ (turn n a b *ℤ dot g e))
    second_strict more = subst (λ x. IsHigh (neg_ℤ x)) (sym (three_steps g)) (down_and_low (turn n e b *ℤ dot g a) (turn n a e *ℤ dot g b) (down_at (turn n e b) (dot g a) more a_up) (low_at (turn n a e) (dot g b) first b_up))

-- where both neighbours of a corner lie above it in direction g, no corner x lies below it: a leads on from it, b leads back, and y lies strictly on the left of a
module _ (n g a b y x : Point) (a_level : dot n a ≡ pos 0) (b_level : dot n b ≡ pos 0) (y_level : dot n y ≡ pos 0) (x_level : dot n x ≡ pos 0) (up : IsHigh (dot n n)) (a_up : IsHigh (dot g a)) (b_up : IsHigh (dot g b))
    (turns : IsLow (turn n a b)) (y_first : IsHigh (neg_ℤ (turn n a y))) (y_second : IsLow (turn n y b)) (x_first : IsLow (turn n a x)) (x_second : IsLow (turn n x b)) where
  down_or_none : (z : ℤ) → IsLow z → z ≢ pos 0 → IsHigh (neg_ℤ z)
  down_or_none z low ne = elim (either_sign (neg_ℤ z)) [
    | inr down ↦ down
    | inl none ↦ absurd (ne (nothing z low none))
  ]

  never_none : turn n a b ≢ pos 0
  never_none e = true≢false (sym (first_strict n a b y a_level b_level y_level up g a_up b_up (not_up (turn n a y) y_first) y_second y_first) ∙ ap (λ z. int_lt (pos 0) (neg_ℤ z)) (ap (λ z. z *ℤ dot g y) e ∙ no_times (dot g y)))

  pub none_below : IsHigh (neg_ℤ (dot g x)) → ⊥
  none_below down = true≢false (sym (subst IsHigh (sym (both_back (turn n a b) (dot g x))) (high_times (neg_ℤ (turn n a b)) (neg_ℤ (dot g x)) (down_or_none (turn n a b) turns never_none) down)) ∙ stays_left n a b x a_level b_level x_level up g a_up b_up x_first x_second)

-- the way from s to f, seen from q
pub seen_turn : (n q s f : Point) → turn n (towards q s) (towards q f) ≡ turn n (towards s f) (towards s q)
seen_turn n q s f = turn_first n (towards q s) (towards q f) ∙ dot_turned (cross (towards q f) (towards q s)) n ∙ ap (dot n) (cross_back (towards q s) (towards q f)) ∙ dot_back n (cross (towards q s) (towards q f)) ∙ ap neg_ℤ (swept_turn n q s f) ∙ twice_back (turn n (towards s f) (towards s q))
