-- The plane cuts each loop of a face of a strictly convex solid that straddles it.
use Rattle.convex_laws.proofs.Prelude.{list_all, list_any, int_eq, ◌≡◌, ◌≢◌, ℕ, ℤ, pos, ◌+ℤ◌, ◌-ℤ◌, ◌*ℤ◌, neg_ℤ, int_lt, Bool, true, false, not, ◌&&◌, ◌||◌, List, [], ◌∷◌, None, refl, sym, ap, subst, ◌∙◌, arith, true≢false, inl, inr, false_from_ne_true, eqb_tells, ints, Plane, Point, IsIn, are_opposite, cross, direction, dot, height, is_above, is_below, is_on, opposite, Model, content, face_at, face_of, faces_of, items_of, outer, point_of, rings_of, solid_of, tail, Sound, Has, IsIn_head, IsIn_rest, dot_turned, in-holds, tick_other, listed-from_in, corners, crosses, finish, is_cut_often, is_place, least_lone, loop_is_cut, loops_of, plane_of, start, straddles, towards, IsClosed, IsPathTo, begins, face_of_loop, loop_closed, none_passes, IsStrictlyConvex, or_parts}
use Rattle.convex_laws.proofs.Filled.{has_items}
use Rattle.convex_laws.proofs.Levels.{IsLow, low_sum, product_back, step_told}
use Rattle.convex_laws.proofs.Planar.{down_and_low, first_strict, low_and_down, not_up, second_strict, seen_turn, stays_left, told_step}
use Rattle.convex_laws.proofs.Planes.{above_facing, facing, level_step}
use Rattle.convex_laws.proofs.Rounded.{Order, closed_never_strict}
use Rattle.convex_laws.proofs.Touched.{far_corner, is_cut_there, left, left_strictly, looks, on_plane, starts_here}
use Rattle.convex_laws.proofs.Turns.{IsHigh, either_sign, exchanged_product, high_factor, low_factor, nothing, turn, turn_back, turn_second}
use Rattle.euler_operators.proofs.Common.{item_there}

-- ---- seen from a point below, the points above stand in an order: from the right to the left

no_turn : (n r : Point) → turn n r r ≡ pos 0
no_turn n r = none (turn n r r) (turn_back n r r) where
  none : (z : ℤ) → z ≡ neg_ℤ z → z ≡ pos 0
  none z e = omega (arith, ints, e)

low_first : (x y : ℤ) → IsHigh y → IsLow (x *ℤ y) → IsLow x
low_first x y high low = low_factor y x high (subst IsLow (exchanged_product x y) low)

down_first : (x y : ℤ) → IsHigh y → IsHigh (neg_ℤ (x *ℤ y)) → IsHigh (neg_ℤ x)
down_first x y high down = high_factor y (neg_ℤ x) high (subst IsHigh (ap neg_ℤ (exchanged_product x y) ∙ sym (product_back y x)) down)

gap : (x y : ℤ) → IsHigh x → int_lt y (pos 0) ≡ true → IsHigh (x -ℤ y)
gap x y a b = grind (arith, ints)

module _ (n here : Plane) (q : Point) (q_on : is_on n q ≡ true) (q_low : is_below here q ≡ true) (up : IsHigh (dot (direction n) (direction n))) where
  abbrev Above : Point → Type 0
  Above a = (is_on n a ≡ true) × (is_above here a ≡ true)

  abbrev Turns : Point → Point → ℤ
  Turns a b = turn (direction n) (towards q a) (towards q b)

  abbrev g : Point
  g = direction here

  flat : (a : Point) → Above a → dot (direction n) (towards q a) ≡ pos 0
  flat a w = level_step n q a q_on w.0

  rises : (a : Point) → Above a → IsHigh (dot (direction here) (towards q a))
  rises a w = ap (int_lt (pos 0)) (step_told here q a) ∙ gap (height here a) (height here q) w.1 q_low

  leftwards : Order Above (λ a b. IsLow (Turns a b)) (λ a b. IsHigh (neg_ℤ (Turns a b)))
  leftwards = record {
    same = λ a w. ap (int_lt (pos 0)) (no_turn (direction n) (towards q a));
    on = λ a b c u v w first second. low_first (Turns a c) (dot g (towards q b)) (rises b v)
        (stays_left (direction n) (towards q a) (towards q c) (towards q b) (flat a u) (flat c w) (flat b v) up g (rises a u) (rises c w) first second);
    sooner = λ a b c u v w first second. down_first (Turns a c) (dot g (towards q b)) (rises b v)
        (first_strict (direction n) (towards q a) (towards q c) (towards q b) (flat a u) (flat c w) (flat b v) up g (rises a u) (rises c w) (not_up (Turns a b) first) second first);
    later = λ a b c u v w first second. down_first (Turns a c) (dot g (towards q b)) (rises b v)
        (second_strict (direction n) (towards q a) (towards q c) (towards q b) (flat a u) (flat c w) (flat b v) up g (rises a u) (rises c w) first (not_up (Turns b c) second) second);
    never = λ a more. true≢false (sym more ∙ ap (λ z. int_lt (pos 0) (neg_ℤ z)) (no_turn (direction n) (towards q a)));
  }

-- ---- points in the order of their heights along a vector

module _ (k : Point) where
  abbrev drop : Point → Point → ℤ
  drop a b = dot k b -ℤ dot k a

  downwards : Order (λ a. Unit {0}) (λ a b. IsLow (drop a b)) (λ a b. IsHigh (neg_ℤ (drop a b)))
  downwards = record {
    same = λ a w. none (dot k a);
    on = λ a b c u v w first second. both (dot k a) (dot k b) (dot k c) first second;
    sooner = λ a b c u v w first second. sooner (dot k a) (dot k b) (dot k c) first second;
    later = λ a b c u v w first second. later (dot k a) (dot k b) (dot k c) first second;
    never = λ a more. never (dot k a) more;
  } where
    itself : (x : ℤ) → x -ℤ x ≡ pos 0
    itself x = omega (arith, ints)

    none : (x : ℤ) → IsLow (x -ℤ x)
    none x = ap (int_lt (pos 0)) (itself x)

    summed : (x y z : ℤ) → (y -ℤ x) +ℤ (z -ℤ y) ≡ z -ℤ x
    summed x y z = omega (arith, ints)

    both : (x y z : ℤ) → IsLow (y -ℤ x) → IsLow (z -ℤ y) → IsLow (z -ℤ x)
    both x y z e f = subst IsLow (summed x y z) (low_sum (y -ℤ x) (z -ℤ y) e f)

    sooner : (x y z : ℤ) → IsHigh (neg_ℤ (y -ℤ x)) → IsLow (z -ℤ y) → IsHigh (neg_ℤ (z -ℤ x))
    sooner x y z e f = subst (λ d. IsHigh (neg_ℤ d)) (summed x y z) (down_and_low (y -ℤ x) (z -ℤ y) e f)

    later : (x y z : ℤ) → IsLow (y -ℤ x) → IsHigh (neg_ℤ (z -ℤ y)) → IsHigh (neg_ℤ (z -ℤ x))
    later x y z e f = subst (λ d. IsHigh (neg_ℤ d)) (summed x y z) (low_and_down (y -ℤ x) (z -ℤ y) e f)

    never : (x : ℤ) → IsHigh (neg_ℤ (x -ℤ x)) → ⊥
    never x e = true≢false (sym e ∙ ap (λ d. int_lt (pos 0) (neg_ℤ d)) (itself x))

-- ---- a loop that stays on one side

same_side : (b : Bool) (p : Plane) (q r : Point) → is_above (facing b p) q ≡ true → are_opposite p q r ≡ false → is_on p r ≡ false → is_above (facing b p) r ≡ true
same_side true p q r above along off = above_facing true p r ∙ low (height p q) (height p r) (sym (above_facing true p q) ∙ above) along off where
  low : (x y : ℤ) → int_lt x (pos 0) ≡ true → opposite x y ≡ false → int_eq y (pos 0) ≡ false → int_lt y (pos 0) ≡ true
  low x y e f g = grind (arith, ints)
same_side false p q r above along off = high (height p q) (height p r) above along off where
  high : (x y : ℤ) → int_lt (pos 0) x ≡ true → opposite x y ≡ false → int_eq y (pos 0) ≡ false → int_lt (pos 0) y ≡ true
  high x y e f g = grind (arith, ints)

one_side : (p : Plane) (q : Point) → is_on p q ≡ false → (b : Bool) × (is_above (facing b p) q ≡ true)
one_side p q off = by_test (is_above p q) refl where
  below : (x : ℤ) → int_eq x (pos 0) ≡ false → int_lt (pos 0) x ≡ false → int_lt x (pos 0) ≡ true
  below x e f = grind (arith, ints)

  by_test : (c : Bool) → is_above p q ≡ c → (b : Bool) × (is_above (facing b p) q ≡ true)
  by_test true e = (false, e)
  by_test false e = (true, above_facing true p q ∙ below (height p q) off e)

module _ (M : Model) (p : Plane) where
  -- no half-edge starts on the plane, or crosses it
  abbrev Uncut : List ℕ → Type 0
  Uncut hs = (h : ℕ) → IsIn h hs → (is_on p (start M h) ≡ false) × (crosses M p h ≡ false)

  all_above : (b : Bool) (hs : List ℕ) (e : Point) → IsPathTo M hs e → Uncut hs → is_above (facing b p) (begins M hs e) ≡ true → (x : ℕ) → IsIn x hs → is_above (facing b p) (start M x) ≡ true
  all_above b [] e path uncut above x i = absurd (omega (arith, i))
  all_above b (h ∷ []) e path uncut above x i = elim (eqb_tells x h) [
    | inl is ↦ subst (λ y. is_above (facing b p) (start M y) ≡ true) (sym is.1) above
    | inr ne ↦ absurd (omega (arith, i, tick_other x h ne.1))
  ]
  all_above b (h ∷ k ∷ hs) e path uncut above x i = elim (eqb_tells x h) [
    | inl is ↦ subst (λ y. is_above (facing b p) (start M y) ≡ true) (sym is.1) above
    | inr ne ↦
        let rest : Uncut (k ∷ hs) = λ y j. uncut y (IsIn_rest y h (k ∷ hs) j) in
        let on : are_opposite p (start M h) (start M k) ≡ false = subst (λ r. are_opposite p (start M h) r ≡ false) path.0 (uncut h (IsIn_head h (k ∷ hs))).1 in
        all_above b (k ∷ hs) e path.1 rest (same_side b p (start M h) (start M k) above on (rest k (IsIn_head k hs)).0) x (omega (arith, i, tick_other x h ne.1))
  ]

  stays_above : (hs : List ℕ) → hs ≢ [] → IsClosed M hs → Uncut hs → (b : Bool) × ((x : ℕ) → IsIn x hs → is_above (facing b p) (start M x) ≡ true)
  stays_above [] some closed uncut = absurd (some refl)
  stays_above (h ∷ hs) some closed uncut = let b = one_side p (start M h) (uncut h (IsIn_head h hs)).0 in (b.0, all_above b.0 (h ∷ hs) (start M h) closed uncut b.1)

-- ---- a loop of a face that straddles

module _ (M : Model) (s : ℕ) (sound : Sound M) (convex : IsStrictlyConvex M s) (f : ℕ) (has : Has M.faces f) (of : solid_of M f ≡ s) (p : Plane) (straddling : straddles M p f ≡ true) (l : ℕ) (listed : IsIn l (loops_of M f)) where
  abbrev hs : List ℕ
  hs = items_of (content M l)

  abbrev n : Plane
  n = plane_of M f

  at : (h : ℕ) → IsIn h (items_of (content M l)) → face_at M h ≡ f
  at h i = ap (face_of M) (sound.one_loop h l (in-holds h (content M l) i)) ∙ (face_of_loop M sound f l has (listed-from_in l (loops_of M f) listed)).1

  -- it doesn't stay strictly on one side
  module _ (b : Bool) (above : (x : ℕ) → IsIn x (items_of (content M l)) → is_above (facing b p) (start M x) ≡ true) (h : ℕ) (i : IsIn h (items_of (content M l))) where
    low : (v : ℕ) × IsIn v (corners M f) × (is_below (facing b p) (point_of M v) ≡ true)
    low = far_corner M p b f straddling

    abbrev q : Point
    q = point_of M low.0

    q_on : is_on (plane_of M f) (point_of M low.0) ≡ true
    q_on = on_plane M s sound convex f has of low.0 low.1

    abbrev Seen : ℕ → ℤ
    Seen x = turn (direction n) (towards (start M x) (finish M x)) (towards (start M x) q)

    seen_left : (x : ℕ) → IsIn x hs → IsLow (Seen x)
    seen_left x j = left M s sound convex f has of x (item_there M sound l x j) (at x j) low.0 low.1

    seen : (x : ℕ) → Seen x ≡ turn (direction n) (towards q (start M x)) (towards q (finish M x))
    seen x = sym (seen_turn (direction n) q (start M x) (finish M x))

    never_strict : (x : ℕ) → IsIn x hs → IsHigh (neg_ℤ (Seen x)) → ⊥
    never_strict x j more = closed_never_strict M (λ a. (is_on n a ≡ true) × (is_above (facing b p) a ≡ true))
        (λ a c. IsLow (turn (direction n) (towards q a) (towards q c))) (λ a c. IsHigh (neg_ℤ (turn (direction n) (towards q a) (towards q c))))
        (leftwards n (facing b p) q q_on low.2 (looks M s sound convex f has of h (item_there M sound l h i) (at h i))) hs (loop_closed M sound l)
        (λ y k. ((on_plane M s sound convex f has of (tail M y) (starts_here M s sound convex f has of y (item_there M sound l y k) (at y k)), above y k), subst IsLow (seen y) (seen_left y k)))
        x j (subst (λ z. IsHigh (neg_ℤ z)) (seen x) more)

    -- so all its half-edges lie on lines through the corner on the other side
    in_line : (x : ℕ) → IsIn x hs → Seen x ≡ pos 0
    in_line x j = elim (either_sign (neg_ℤ (Seen x))) [
      | inr more ↦ absurd (never_strict x j more)
      | inl none ↦ nothing (Seen x) (seen_left x j) none
    ]

    -- and lead down along a vector, at one of them strictly
    y : (v : ℕ) × IsIn v (corners M f) × IsHigh (neg_ℤ (turn (direction (plane_of M f)) (towards (start M h) (finish M h)) (towards (start M h) (point_of M v))))
    y = left_strictly M s sound convex f has of h (item_there M sound l h i) (at h i)

    abbrev k : Point
    k = cross (direction n) (towards q (point_of M y.0))

    step : (x : ℕ) → IsIn x hs → dot k (finish M x) -ℤ dot k (start M x) ≡ turn (direction n) (towards (start M x) (finish M x)) (towards (start M x) (point_of M y.0))
    step x j =
        let d = towards (start M x) (finish M x) in let a = start M x in let r = point_of M y.0 in let c = cross d (direction n) in
        sym (told_step k a (finish M x)) ∙ dot_turned k d ∙ turn_second (direction n) d (towards q r) ∙ told_step c q r
        ∙ past (dot c a) (dot c q) (dot c r) (sym (told_step c a q) ∙ sym (turn_second (direction n) d (towards a q)) ∙ in_line x j) ∙ sym (told_step c a r) ∙ sym (turn_second (direction n) d (towards a r)) where
          past : (a q r : ℤ) → q -ℤ a ≡ pos 0 → r -ℤ q ≡ r -ℤ a
          past a q r e = omega (arith, ints, e)

    never_one_side : ⊥
    never_one_side = closed_never_strict M (λ a. Unit {0}) (λ a c. IsLow (dot k c -ℤ dot k a)) (λ a c. IsHigh (neg_ℤ (dot k c -ℤ dot k a))) (downwards k) hs (loop_closed M sound l)
        (λ x j. (tt, subst IsLow (sym (step x j)) (left M s sound convex f has of x (item_there M sound l x j) (at x j) y.0 y.1))) h i (subst (λ z. IsHigh (neg_ℤ z)) (sym (step h i)) y.2)

  -- so it has a cut place
  uncut : list_any (is_place M p) (items_of (content M l)) ≡ false → Uncut M p (items_of (content M l))
  unfolding is_place
  uncut none h i =
      let no : is_place M p h ≡ false = none_passes (is_place M p) h hs none i in (
        false_from_ne_true (is_on p (start M h)) (λ e. true≢false (sym (is_cut_there M s sound convex f has of p straddling h (item_there M sound l h i) (at h i) e) ∙ no)),
        (or_parts (crosses M p h) _ no).0,
      )

  pub loop_cut : items_of (content M l) ≢ [] → loop_is_cut M p l ≡ true
  loop_cut some = by_test (loop_is_cut M p l) refl where
    one : (xs : List ℕ) → xs ≢ [] → (x : ℕ) × IsIn x xs
    one [] ne = absurd (ne refl)
    one (x ∷ xs) ne = (x, IsIn_head x xs)

    by_test : (c : Bool) → loop_is_cut M p l ≡ c → c ≡ true
    by_test true e = refl
    by_test false e = let w = stays_above M p hs some (loop_closed M sound l) (uncut e) in let h = one hs some in absurd (never_one_side w.0 w.1 h.0 h.1)

-- ---- a whole face, of a solid without lone loops

all_pass : (t : ℕ → Bool) (xs : List ℕ) → ((x : ℕ) → IsIn x xs → t x ≡ true) → list_all t xs ≡ true
all_pass t [] each = refl
all_pass t (x ∷ xs) each = λ i. each x (IsIn_head x xs) i && all_pass t xs (λ y j. each y (IsIn_rest y x xs j)) i

both_cut : (a b c : Bool) → a ≡ true → b ≡ true → (not a || (not b && c)) ≡ false
both_cut a b c e f = grind (arith, e, f)

module _ (M : Model) (s : ℕ) (sound : Sound M) (convex : IsStrictlyConvex M s) (none_lone : least_lone M (faces_of M s) ≡ None) (f : ℕ) (has : Has M.faces f) (of : solid_of M f ≡ s) (p : Plane) (straddling : straddles M p f ≡ true) where
  each_cut : (l : ℕ) → IsIn l (loops_of M f) → loop_is_cut M p l ≡ true
  each_cut l i = loop_cut M s sound convex f has of p straddling l i (has_items M s sound none_lone f has of l i)

  pub never_often : is_cut_often M p f ≡ false
  unfolding is_cut_often loops_of
  never_often = both_cut (loop_is_cut M p (outer M f)) (list_all (loop_is_cut M p) (rings_of M f)) _ (each_cut (outer M f) (IsIn_head (outer M f) (rings_of M f)))
      (all_pass (loop_is_cut M p) (rings_of M f) (λ l i. each_cut l (IsIn_rest l (outer M f) (rings_of M f) i)))
