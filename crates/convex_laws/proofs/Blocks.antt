-- A new block is convex: its corners are those of a box, and no point of the box lies above one of its faces.
use Rattle.convex_laws.proofs.Prelude.{◌≡◌, ℕ, zero, suc, ◌+◌, ◌*◌, ◌≤◌, ◌<◌, inl, inr, ℤ, pos, negsuc, ◌+ℤ◌, ◌-ℤ◌, ◌*ℤ◌, neg_ℤ, int_lt, int_le, true, false, List, [], ◌∷◌, map, refl, sym, ap, subst, ◌∙◌, arith, true≢false, cases_lt, ints, Point, moved, cross, dot, is_above, Model, point_of, solid_of, Sound, Has, lists, same_vector, dif-parts, difs, neg-dif, number, same_dif, all_hold, listed_cases, block_conditions, corners, towards, next_place, vector, base_of, plane_of, scaled, at_most_greatest, Machine, held, IsBlock, IsFaceOf, all_moved, last_face, nth, plane_round, side_over, turned_back, up_by, IsConvex, block_has_top_and_bottom, block_has_four_sides, block_takes_six_faces, IsOneOf, blocks_lie_flat, no_older, one_of, add_none, dot_turned, base_corners}
use Rattle.command_laws.proofs.BlockFlat as flat
use Rattle.command_laws.proofs.LyingFlat as lying
use Rattle.convex_laws.proofs.Levels.{IsLow, height_at, is_low, low_times, twice_back, dot_scaled}

-- ---- a box

-- c lies from x on, and d further at most
record InSpan (x d c : ℤ) : Type 0 where
  from : ℕ
  left : ℕ
  is : c -ℤ x ≡ pos from
  rest : (x +ℤ d) -ℤ c ≡ pos left

record InBox (p : Point) (dx dy dz : ℤ) (q : Point) : Type 0 where
  along_x : InSpan p.x dx q.x
  along_y : InSpan p.y dy q.y
  along_z : InSpan p.z dz q.z

-- a size
record IsSize (d : ℤ) : Type 0 where
  size : ℕ
  is : d ≡ pos size

size_of : (d : ℤ) → int_le (pos 1) d ≡ true → IsSize d
size_of (pos n) e = record { size = n; is = refl }
size_of (negsuc n) e = absurd (grind (arith, ints))

at_start : (x d c : ℤ) → IsSize d → c ≡ x → InSpan x d c
at_start x d c w e = record { from = 0; left = w.size; is = omega (arith, ints, e); rest = omega (arith, ints, e, w.is) }

at_finish : (x d c : ℤ) → IsSize d → c ≡ x +ℤ d → InSpan x d c
at_finish x d c w e = record { from = w.size; left = 0; is = omega (arith, ints, e, w.is); rest = omega (arith, ints, e) }

-- ---- a box's corners

module _ (p : Point) (dx dy dz : ℤ) (x : IsSize dx) (y : IsSize dy) (z : IsSize dz) where
  abbrev In : Point → Type 0
  In q = InBox p dx dy dz q

  abbrev AllIn : List Point → Type 0
  AllIn [] = Unit {0}
  AllIn (q ∷ qs) = In q × AllIn qs

  abbrev up : Point
  up = up_by dz

  open base_corners p dx dy use {q, r, t}

  p_in : In p
  p_in = record { along_x = at_start p.x dx p.x x refl; along_y = at_start p.y dy p.y y refl; along_z = at_start p.z dz p.z z refl }

  q_in : In q
  q_in = record { along_x = at_finish p.x dx q.x x refl; along_y = at_start p.y dy q.y y (add_none p.y); along_z = at_start p.z dz q.z z (add_none p.z) }

  r_in : In r
  r_in = record { along_x = at_finish p.x dx r.x x refl; along_y = at_finish p.y dy r.y y refl; along_z = at_start p.z dz r.z z (add_none p.z) }

  t_in : In t
  t_in = record { along_x = at_start p.x dx t.x x (add_none p.x); along_y = at_finish p.y dy t.y y refl; along_z = at_start p.z dz t.z z (add_none p.z) }

  -- what lies at the foot of the box lies in it once it is lifted
  lifted : (a : Point) → In a → a.z ≡ p.z → In (moved a up)
  lifted a w foot = record { along_x = same a.x w.along_x; along_y = same a.y w.along_y; along_z = at_finish p.z dz (a.z +ℤ dz) z (ap (λ h. h +ℤ dz) foot) } where
    same : {l d : ℤ} (a : ℤ) → InSpan l d a → InSpan l d (a +ℤ pos 0)
    same {l} {d} a w = subst (InSpan l d) (sym (add_none a)) w

  p_up : In (moved p up)
  p_up = lifted p p_in refl

  q_up : In (moved q up)
  q_up = lifted q q_in (add_none p.z)

  r_up : In (moved r up)
  r_up = lifted r r_in (add_none p.z)

  t_up : In (moved t up)
  t_up = lifted t t_in (add_none p.z)

  top_in : AllIn (all_moved up (base_of p dx dy))
  top_in = (p_up, (q_up, (r_up, (t_up, tt))))

  bottom_in : AllIn (turned_back (base_of p dx dy))
  bottom_in = (q_in, (p_in, (t_in, (r_in, tt))))

  side_in : (i : ℕ) → i < 4 → AllIn (side_over up (nth (base_of p dx dy) i) (nth (base_of p dx dy) (next_place 4 i)))
  side_in zero l = (p_in, (q_in, (q_up, (p_up, tt))))
  side_in (suc zero) l = (q_in, (r_in, (r_up, (q_up, tt))))
  side_in (suc (suc zero)) l = (r_in, (t_in, (t_up, (r_up, tt))))
  side_in (suc (suc (suc zero))) l = (t_in, (p_in, (p_up, (t_up, tt))))
  side_in (suc (suc (suc (suc i)))) l = absurd (omega (arith, l))

  corner_in : (M : Model) (vs : List ℕ) (v : ℕ) → AllIn (map (point_of M) vs) → lists vs v ≡ true → In (point_of M v)
  corner_in M [] v all i = absurd (true≢false (sym i))
  corner_in M (w ∷ vs) v all i = elim (listed_cases w v vs i) [
    | inl e ↦ subst (λ k. In (point_of M k)) (sym e) all.0
    | inr j ↦ corner_in M vs v all.1 j
  ]

-- ---- its faces

-- what lies no higher than a, along the product of u and v, isn't above the parallelogram
over_round : (a u v q : Point) → IsLow (dot (cross u v) (towards a q)) → is_above (plane_round (lying.corners_round a u v)) q ≡ false
over_round a u v q low =
    let c = cross u v in let w = towards a q in
    ap (λ f. is_above f q) (lying.plane_is a u v) ∙ ap (int_lt (pos 0)) (height_at (scaled (pos 2) c) a q ∙ dot_turned (scaled (pos 2) c) w ∙ dot_scaled (pos 2) w c ∙ ap (λ h. pos 2 *ℤ h) (dot_turned w c)) ∙ low_times 2 (dot c w) low

x_y_none : (z d e a b c : ℤ) → z ≡ pos 0 → dot (cross (vector d z z) (vector z e z)) (vector a b c) ≡ (d *ℤ e) *ℤ c
x_y_none z d e a b c none = rw (dif-parts d, dif-parts e, dif-parts a, dif-parts b, dif-parts c, none ∙ number 0) (simp difs (same_dif _ _ _ _ (omega arith)))

x_z_none : (z d e a b c : ℤ) → z ≡ pos 0 → dot (cross (vector d z z) (vector z z e)) (vector a b c) ≡ (d *ℤ e) *ℤ neg_ℤ b
x_z_none z d e a b c none = rw (dif-parts d, dif-parts e, dif-parts a, dif-parts b, dif-parts c, none ∙ number 0) (simp (difs, neg-dif) (same_dif _ _ _ _ (omega arith)))

y_z_none : (z d e a b c : ℤ) → z ≡ pos 0 → dot (cross (vector z d z) (vector z z e)) (vector a b c) ≡ (d *ℤ e) *ℤ a
y_z_none z d e a b c none = rw (dif-parts d, dif-parts e, dif-parts a, dif-parts b, dif-parts c, none ∙ number 0) (simp difs (same_dif _ _ _ _ (omega arith)))

both_back : (d e c : ℤ) → (neg_ℤ d *ℤ e) *ℤ c ≡ (d *ℤ e) *ℤ neg_ℤ c
both_back d e c = rw (dif-parts d, dif-parts e, dif-parts c) (simp (difs, neg-dif) (same_dif _ _ _ _ (omega arith)))

sized : (d e w : ℤ) → IsSize d → IsSize e → (n : ℕ) → w ≡ neg_ℤ (pos n) → IsLow ((d *ℤ e) *ℤ w)
sized d e w x y n is = subst IsLow (λ i. (sym x.is i *ℤ sym y.is i) *ℤ sym is i) (low_times (x.size * y.size) (neg_ℤ (pos n)) (is_low n))

module _ (p : Point) (dx dy dz : ℤ) (x : IsSize dx) (y : IsSize dy) (z : IsSize dz) (o : Point) (w : InBox p dx dy dz o) where
  abbrev lift : Point
  lift = up_by dz

  open base_corners p dx dy use {q as base_x, r as base_xy, t as base_y}

  abbrev NotAbove : List Point → Type 0
  NotAbove ps = is_above (plane_round ps) o ≡ false

  to_far : (l d c : ℤ) (n : ℕ) → (l +ℤ d) -ℤ c ≡ pos n → c -ℤ (l +ℤ d) ≡ neg_ℤ (pos n)
  to_far l d c n e = omega (arith, ints, e)

  to_near : (l c : ℤ) (n : ℕ) → c -ℤ l ≡ pos n → neg_ℤ (c -ℤ l) ≡ neg_ℤ (pos n)
  to_near l c n e = ap neg_ℤ e

  to_near_still : (l c : ℤ) (n : ℕ) → c -ℤ l ≡ pos n → neg_ℤ (c -ℤ (l +ℤ pos 0)) ≡ neg_ℤ (pos n)
  to_near_still l c n e = omega (arith, ints, e)

  over_top : NotAbove (all_moved lift (base_of p dx dy))
  over_top =
      let a = moved p lift in let u = vector dx (pos 0) (pos 0) in let v = vector (pos 0) dy (pos 0) in let c = towards a o in
      subst NotAbove (λ i. a ∷ top_second i ∷ top_third i ∷ top_fourth i ∷ [])
      (over_round a u v o (subst IsLow (sym (x_y_none (pos 0) dx dy c.x c.y c.z refl)) (sized dx dy c.z x y w.along_z.left (to_far p.z dz o.z w.along_z.left w.along_z.rest)))) where
        top_second : moved (moved p lift) (vector dx (pos 0) (pos 0)) ≡ moved (moved p (vector dx (pos 0) (pos 0))) lift
        top_second = same_vector _ _ (flat.second p.x dx) refl (flat.at_end_turned p.z dz)

        top_third : moved (moved (moved p lift) (vector dx (pos 0) (pos 0))) (vector (pos 0) dy (pos 0)) ≡ moved (moved p (vector dx dy (pos 0))) lift
        top_third = same_vector _ _ (flat.third p.x dx) (flat.fourth p.y dy) (flat.at_ends_turned p.z dz)

        top_fourth : moved (moved p lift) (vector (pos 0) dy (pos 0)) ≡ moved (moved p (vector (pos 0) dy (pos 0))) lift
        top_fourth = same_vector _ _ refl (flat.second p.y dy) (flat.at_end_turned p.z dz)

  over_bottom : NotAbove (turned_back (base_of p dx dy))
  over_bottom =
      let a = moved p (vector dx (pos 0) (pos 0)) in let u = vector (neg_ℤ dx) (pos 0) (pos 0) in let v = vector (pos 0) dy (pos 0) in let c = towards a o in
      subst NotAbove (λ i. a ∷ bottom_second i ∷ bottom_third i ∷ bottom_fourth i ∷ [])
      (over_round a u v o (subst IsLow (sym (x_y_none (pos 0) (neg_ℤ dx) dy c.x c.y c.z refl ∙ both_back dx dy c.z)) (sized dx dy (neg_ℤ c.z) x y w.along_z.from (to_near_still p.z o.z w.along_z.from w.along_z.is)))) where
        bottom_second : moved (moved p (vector dx (pos 0) (pos 0))) (vector (neg_ℤ dx) (pos 0) (pos 0)) ≡ p
        bottom_second = same_vector _ p (flat.back p.x dx) (flat.none_more p.y) (flat.none_more p.z)

        bottom_third : moved (moved (moved p (vector dx (pos 0) (pos 0))) (vector (neg_ℤ dx) (pos 0) (pos 0))) (vector (pos 0) dy (pos 0)) ≡ moved p (vector (pos 0) dy (pos 0))
        bottom_third = same_vector _ _ (flat.back_still p.x dx) (flat.none_then p.y dy) (flat.still_all p.z)

        bottom_fourth : moved (moved p (vector dx (pos 0) (pos 0))) (vector (pos 0) dy (pos 0)) ≡ moved p (vector dx dy (pos 0))
        bottom_fourth = same_vector _ _ (flat.at_end p.x dx) (flat.none_before p.y dy) (flat.still p.z)

  over_side : (a c u : Point) → towards a c ≡ u → IsLow (dot (cross u lift) (towards a o)) → NotAbove (side_over lift a c)
  over_side a c u e low =
      let there : moved a (towards a c) ≡ c = same_vector _ _ (lying.reached a.x c.x) (lying.reached a.y c.y) (lying.reached a.z c.z) in
      subst (λ j. NotAbove (a ∷ j ∷ moved j lift ∷ moved a lift ∷ [])) there (over_round a (towards a c) lift o (subst (λ v. IsLow (dot (cross v lift) (towards a o))) (sym e) low))

  over_sides : (i : ℕ) → i < 4 → NotAbove (side_over lift (nth (base_of p dx dy) i) (nth (base_of p dx dy) (next_place 4 i)))
  over_sides zero l =
      let a = p in let c = towards a o in
      over_side a base_x (vector dx (pos 0) (pos 0)) (same_vector _ _ (flat.ahead p.x dx) (flat.nothing_more p.y) (flat.nothing_more p.z))
      (subst IsLow (sym (x_z_none (pos 0) dx dz c.x c.y c.z refl)) (sized dx dz (neg_ℤ c.y) x z w.along_y.from (to_near p.y o.y w.along_y.from w.along_y.is)))
  over_sides (suc zero) l =
      let a = base_x in let c = towards a o in
      over_side a base_xy (vector (pos 0) dy (pos 0)) (same_vector _ _ (flat.nothing (p.x +ℤ dx)) (flat.ahead_still p.y dy) (flat.nothing (p.z +ℤ pos 0)))
      (subst IsLow (sym (y_z_none (pos 0) dy dz c.x c.y c.z refl)) (sized dy dz c.x y z w.along_x.left (to_far p.x dx o.x w.along_x.left w.along_x.rest)))
  over_sides (suc (suc zero)) l =
      let a = base_xy in let c = towards a o in
      over_side a base_y (vector (neg_ℤ dx) (pos 0) (pos 0)) (same_vector _ _ (flat.behind p.x dx) (flat.nothing (p.y +ℤ dy)) (flat.nothing (p.z +ℤ pos 0)))
      (subst IsLow (sym (x_z_none (pos 0) (neg_ℤ dx) dz c.x c.y c.z refl ∙ both_back dx dz (neg_ℤ c.y) ∙ ap (λ h. (dx *ℤ dz) *ℤ h) (twice_back c.y))) (sized dx dz c.y x z w.along_y.left (to_far p.y dy o.y w.along_y.left w.along_y.rest)))
  over_sides (suc (suc (suc zero))) l =
      let a = base_y in let c = towards a o in
      over_side a p (vector (pos 0) (neg_ℤ dy) (pos 0)) (same_vector _ _ (flat.nothing_less p.x) (flat.behind_all p.y dy) (flat.nothing_less p.z))
      (subst IsLow (sym (y_z_none (pos 0) (neg_ℤ dy) dz c.x c.y c.z refl ∙ both_back dy dz c.x)) (sized dy dz (neg_ℤ c.x) y z w.along_x.from (to_near_still p.x o.x w.along_x.from w.along_x.is)))
  over_sides (suc (suc (suc (suc i)))) l = absurd (omega (arith, l))

-- ---- a whole block

module _ (before after : Machine) (s : ℕ) (p : Point) (dx dy dz : ℤ) (sound : Sound (held before)) (made : IsBlock before after s p dx dy dz) where
  sizes : IsSize dx × IsSize dy × IsSize dz
  unfolding block_conditions
  sizes = let hold = (all_hold (block_conditions (held before) s p dx dy dz) made.0).1.1 in (size_of dx hold.0, size_of dy hold.1.0, size_of dz hold.1.1.0)

  -- no point of the box lies above the face, and its corners are of the box
  record Fits (k : ℕ) : Type 0 where
    under : (o : Point) → InBox p dx dy dz o → is_above (plane_of (held after) k) o ≡ false
    inside : (v : ℕ) → lists (corners (held after) k) v ≡ true → InBox p dx dy dz (point_of (held after) v)

  fits : (k : ℕ) (ps : List Point) → IsFaceOf (held after) k s ps → ((o : Point) → InBox p dx dy dz o → is_above (plane_round ps) o ≡ false) → AllIn p dx dy dz sizes.0 sizes.1 sizes.2 ps → Fits k
  fits k ps face under all = record {
    under = λ o w. ap (λ f. is_above f o) face.plane ∙ under o w;
    inside = λ v i. corner_in p dx dy dz sizes.0 sizes.1 sizes.2 (held after) (corners (held after) k) v (subst (AllIn p dx dy dz sizes.0 sizes.1 sizes.2) (sym face.points) all) i;
  }

  one_fits : (k : ℕ) → IsOneOf (last_face before) k → Fits k
  one_fits k (inl e) = subst Fits (sym e) (fits (last_face before + 1) (all_moved (up_by dz) (base_of p dx dy)) (block_has_top_and_bottom before after s p dx dy dz sound made).0 (λ o w. over_top p dx dy dz sizes.0 sizes.1 sizes.2 o w) (top_in p dx dy dz sizes.0 sizes.1 sizes.2))
  one_fits k (inr (inl e)) = subst Fits (sym e) (fits (last_face before + 2) (turned_back (base_of p dx dy)) (block_has_top_and_bottom before after s p dx dy dz sound made).1 (λ o w. over_bottom p dx dy dz sizes.0 sizes.1 sizes.2 o w) (bottom_in p dx dy dz sizes.0 sizes.1 sizes.2))
  one_fits k (inr (inr (i, l, e))) = subst Fits (sym e)
      (fits (last_face before + 3 + i) (side_over (up_by dz) (nth (base_of p dx dy) i) (nth (base_of p dx dy) (next_place 4 i))) (block_has_four_sides before after s p dx dy dz i sound made l)
      (λ o w. over_sides p dx dy dz sizes.0 sizes.1 sizes.2 o w i l) (side_in p dx dy dz sizes.0 sizes.1 sizes.2 i l))

  all_fit : (k : ℕ) → Has (held after).faces k → solid_of (held after) k ≡ s → Fits k
  all_fit k there of = elim (cases_lt (last_face before) k) [
    | inr m ↦ absurd (no_older before after s p dx dy dz sound made k m there of)
    | inl m ↦ one_fits k (one_of (last_face before) k m (subst (λ n. k ≤ n) (block_takes_six_faces before after s p dx dy dz sound made) (at_most_greatest (held after).faces k there)))
  ]

  pub block_convex : IsConvex (held after) s
  block_convex = record {
    flat = λ k there of. (blocks_lie_flat before after s p dx dy dz sound made).flat k there of;
    below = λ k there of v w. (all_fit k there of).under (point_of (held after) v) ((all_fit w.face w.there w.solid).inside v w.corner);
  }
