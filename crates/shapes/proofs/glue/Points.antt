-- Lists of points: equal ones, none twice, one turned; and where a search finds the only such number.
use Rattle.shapes.proofs.Prelude.{◌≡◌, ℕ, zero, suc, ℤ, pos, ◌+ℤ◌, ◌-ℤ◌, ◌*ℤ◌, Bool, true, false, ◌||◌, List, [], ◌∷◌, ◌++◌, refl, sym, ap, ◌∙◌, arith, true≢false, Some, map, reverse, take, drop, length, append-nil, take-append-drop, list_any, eqb_tells, and_parts, or_parts, map-append, reverse-append, reverse-reverse, take-map, drop-map, Point, same_point, moved, cross, origin, IsIn, IsRotation, tick_same, tick_other, reverse-cons, dif-parts, difs, same_dif, number, same_vector, or_true, same_as, first_such, has_repeats, same_points, is_turned, is_rotation}

-- ---- equal points

pub same_is : (p q : Point) → same_point p q ≡ true → p ≡ q
same_is p q e = grind (arith, and_parts, p.x, q.x, p.y, q.y, p.z, q.z, same_vector)

pub same_lists : (ps qs : List Point) → same_points ps qs ≡ true → ps ≡ qs
same_lists [] [] e = refl
same_lists [] (q ∷ qs) e = absurd (true≢false (sym e))
same_lists (p ∷ ps) [] e = absurd (true≢false (sym e))
same_lists (p ∷ ps) (q ∷ qs) e = let a = and_parts (same_point p q) (same_points ps qs) e in λ i. same_is p q a.0 i ∷ same_lists ps qs a.1 i

pub no_points : {p : Point} {ps : List Point} → p ∷ ps ≡ [] → ⊥
no_points e = cc

pub both_points : {p q : Point} {ps qs : List Point} → p ∷ ps ≡ q ∷ qs → (p ≡ q) × (ps ≡ qs)
both_points e = (cc, cc)

-- a list turned by i places
pub turned_by : (n : ℕ) (ps qs : List Point) → is_turned n ps qs ≡ true → (i : ℕ) × (ps ≡ drop i qs ++ take i qs)
turned_by zero ps qs e = (0, same_lists ps qs e ∙ sym (append-nil qs))
turned_by (suc n) ps qs e = elim (same_points ps (drop (suc n) qs ++ take (suc n) qs)) as (λ b. same_points ps (drop (suc n) qs ++ take (suc n) qs) ≡ b → (b || is_turned n ps qs) ≡ true → (i : ℕ) × (ps ≡ drop i qs ++ take i qs)) [
  | true ↦ λ is e. (suc n, same_lists ps (drop (suc n) qs ++ take (suc n) qs) is)
  | false ↦ λ is e. turned_by n ps qs e
] refl e

-- ---- the points of numbers

module _ (a : ℕ → Point) where
  reverse_map : (xs : List ℕ) → reverse (map a xs) ≡ map a (reverse xs)
  reverse_map [] = refl
  reverse_map (x ∷ xs) = reverse-append (a x ∷ []) (map a xs) ∙ ap (λ t. t ++ a x ∷ []) (reverse_map xs) ∙ sym (map-append a (reverse xs) (x ∷ [])) ∙ ap (map a) (sym (reverse-cons x xs))

  -- where the points of gs backwards are a rotation of those of hs, gs backwards itself can be turned so
  pub turned_list : (hs gs : List ℕ) → is_rotation (map a hs) (reverse (map a gs)) ≡ true → (ts : List ℕ) × (map a hs ≡ map a ts) × IsRotation gs (reverse ts)
  turned_list hs gs e =
      let p = turned_by (length (reverse (map a gs))) (map a hs) (reverse (map a gs)) e in
      let bs : List ℕ = reverse gs in (
        drop p.0 bs ++ take p.0 bs,
        p.1 ∙ (λ j. drop p.0 (reverse_map gs j) ++ take p.0 (reverse_map gs j)) ∙ (λ j. drop-map a p.0 bs j ++ take-map a p.0 bs j) ∙ sym (map-append a (drop p.0 bs) (take p.0 bs)),
        record {
          front = reverse (drop p.0 bs);
          back = reverse (take p.0 bs);
          here = sym (reverse-reverse gs) ∙ ap reverse (sym (take-append-drop p.0 bs)) ∙ reverse-append (take p.0 bs) (drop p.0 bs);
          there = reverse-append (drop p.0 bs) (take p.0 bs);
        },
      )

  any_in : (p : Point) (k : ℕ) (ks : List ℕ) → IsIn k ks → p ≡ a k → list_any (same_point p) (map a ks) ≡ true
  any_in p k [] i e = absurd (omega (arith, i))
  any_in p k (j ∷ ks) i e = grind (arith, eqb_tells, same_as, tick_other, or_true, any_in p k ks)

  -- where no point stands twice, the point tells the number
  pub once : (ks : List ℕ) → has_repeats (map a ks) ≡ false → (h k : ℕ) → IsIn h ks → IsIn k ks → a h ≡ a k → h ≡ k
  once [] r h k i j e = absurd (omega (arith, i))
  once (n ∷ ks) r h k i j e =
      let b = or_parts (list_any (same_point (a n)) (map a ks)) (has_repeats (map a ks)) r in
      grind (arith, b, eqb_tells h n, eqb_tells k n, any_in (a n), true≢false, tick_other, once ks b.1 h k)

  -- of two lists with the same points each number has one in the other
  pub other_list : (xs ys : List ℕ) → map a xs ≡ map a ys → (x : ℕ) → IsIn x xs → (y : ℕ) × IsIn y ys × (a y ≡ a x)
  other_list [] ys e x i = absurd (omega (arith, i))
  other_list (z ∷ xs) [] e x i = absurd (no_points e)
  other_list (z ∷ xs) (y ∷ ys) e x i = grind (arith, eqb_tells, tick_same, both_points, tick_other, other_list xs ys)

-- a search finds the only number that passes
pub such_is : (test : ℕ → Bool) (ks : List ℕ) (k : ℕ) → IsIn k ks → test k ≡ true → ((j : ℕ) → IsIn j ks → test j ≡ true → j ≡ k) → first_such test ks ≡ Some k
such_is test [] k i t only = absurd (omega (arith, i))
such_is test (n ∷ ks) k i t only = grind (arith, tick_same, eqb_tells, true≢false, tick_other, such_is test ks k)

-- ---- there and back along one line

back_part : (a b c d z : ℤ) → z ≡ pos 0 → (a *ℤ b -ℤ c *ℤ d) +ℤ ((d *ℤ c -ℤ b *ℤ a) +ℤ z) ≡ z
back_part a b c d z e = rw (dif-parts a, dif-parts b, dif-parts c, dif-parts d, e ∙ number 0) (simp difs (same_dif _ _ _ _ (omega arith)))

pub there_and_back : (p q : Point) → moved (cross p q) (moved (cross q p) origin) ≡ origin
there_and_back p q = same_vector _ _ (back_part p.y q.z p.z q.y (pos 0) refl) (back_part p.z q.x p.x q.z (pos 0) refl) (back_part p.x q.y p.y q.x (pos 0) refl)
