-- The areas of lists of half-edges and the volumes of lists of faces: the order doesn't matter, and the other halves of edges have the opposite area.
use Rattle.shapes.proofs.Prelude.{◌≡◌, ℕ, ◌+◌, true, ℤ, pos, ◌+ℤ◌, ◌-ℤ◌, ◌*ℤ◌, neg_ℤ, List, [], ◌∷◌, ◌++◌, map, reverse, refl, sym, ap, ◌∙◌, arith, eqb_tells, ints, Point, origin, moved, dot, cross, count, tick, IsIn, SameItems, mate, Model, lists, before, tick_same, tick_other, split_at, SameItems-from_permutation, mate-mate, dif-parts, difs, neg-dif, same_dif, same_vector, none_add, add_assoc, add_exchanged, IsIn_rest, count_taken, IsIn_head, listed-from_in, no_items, start, finish, area, normal, anchor, volume_in, negated}
use Rattle.std.proofs.lemmas.List.Sorted.{IsPermutation-reverse}
use Rattle.euler_operators.specs.Items.{after}
use Rattle.shapes.proofs.Areas.{area-append}

-- ---- opposite vectors

back_part : (a b e f : ℤ) → e *ℤ b -ℤ f *ℤ a ≡ neg_ℤ (a *ℤ f -ℤ b *ℤ e)
back_part a b e f = rw (dif-parts a, dif-parts b, dif-parts e, dif-parts f) (simp (difs, neg-dif) (same_dif _ _ _ _ (omega arith)))

pub cross_back : (p q : Point) → cross q p ≡ negated (cross p q)
cross_back p q = same_vector _ _ (back_part p.y p.z q.y q.z) (back_part p.z p.x q.z q.x) (back_part p.x p.y q.x q.y)

sum_back : (a b : ℤ) → neg_ℤ a +ℤ neg_ℤ b ≡ neg_ℤ (a +ℤ b)
sum_back a b = omega (arith, ints)

pub moved_back : (p q : Point) → moved (negated p) (negated q) ≡ negated (moved p q)
moved_back p q = same_vector _ _ (sum_back p.x q.x) (sum_back p.y q.y) (sum_back p.z q.z)

along_part : (a b c e f g : ℤ) → e *ℤ neg_ℤ a +ℤ f *ℤ neg_ℤ b +ℤ g *ℤ neg_ℤ c ≡ neg_ℤ (e *ℤ a +ℤ f *ℤ b +ℤ g *ℤ c)
along_part a b c e f g = rw (dif-parts a, dif-parts b, dif-parts c, dif-parts e, dif-parts f, dif-parts g) (simp (difs, neg-dif) (same_dif _ _ _ _ (omega arith)))

pub dot_back : (r p : Point) → dot r (negated p) ≡ neg_ℤ (dot r p)
dot_back r p = along_part p.x p.y p.z r.x r.y r.z

-- a vector and its opposite
pub none_left : (p : Point) → moved p (negated p) ≡ origin
none_left p = same_vector _ origin (none p.x) (none p.y) (none p.z) where
  none : (a : ℤ) → a +ℤ neg_ℤ a ≡ pos 0
  none a = omega (arith, ints)

-- a vector that is its own opposite
pub own_opposite : (p : Point) → p ≡ negated p → p ≡ origin
own_opposite p e = grind (arith, same_vector, p.x, p.y, p.z, ints)

exchanged : (p q r : Point) → moved p (moved q r) ≡ moved q (moved p r)
exchanged p q r = same_vector _ _ (add_exchanged p.x q.x r.x) (add_exchanged p.y q.y r.y) (add_exchanged p.z q.z r.z)

module _ (M : Model) where
  -- ---- the same half-edges in any order

  abbrev part : ℕ → Point
  part h = cross (start M h) (finish M h)

  pub area_same : (xs ys : List ℕ) → SameItems xs ys → area M xs ≡ area M ys
  area_same [] ys s = ap (area M) (sym (no_items ys (λ x. sym (s x))))
  area_same (x ∷ xs) ys s =
      let i : IsIn x ys = omega (arith, s x, tick_same x) in
      let e = split_at x ys i in
      ap (moved (part x)) (area_same xs (before x ys ++ after x ys) (λ y. count_taken x y xs ys s e) ∙ area-append M (before x ys) (after x ys))
      ∙ exchanged (part x) (area M (before x ys)) (area M (after x ys))
      ∙ sym (ap (area M) e ∙ area-append M (before x ys) (x ∷ after x ys))

  -- ---- half-edges run the other way

  -- what goes where the half-edges came from has the opposite area
  pub area_opposed : (g : ℕ → ℕ) (hs : List ℕ) → ((h : ℕ) → IsIn h hs → (start M (g h) ≡ finish M h) × (finish M (g h) ≡ start M h)) → area M (map g hs) ≡ negated (area M hs)
  area_opposed g [] e = refl
  area_opposed g (h ∷ hs) e =
      let p = e h (IsIn_head h hs) in
      (λ i. moved (cross (p.0 i) (p.1 i)) (area_opposed g hs (λ x j. e x (IsIn_rest x h hs j)) i))
      ∙ ap (λ v. moved v (negated (area M hs))) (cross_back (start M h) (finish M h)) ∙ moved_back (part h) (area M hs)

  pub area_mates : (hs : List ℕ) → area M (map mate hs) ≡ negated (area M hs)
  area_mates hs = area_opposed mate hs (λ h i. (refl, ap (start M) (mate-mate h)))

  pub area_reverse : (hs : List ℕ) → area M (reverse hs) ≡ area M hs
  area_reverse hs = sym (area_same hs (reverse hs) (SameItems-from_permutation hs (reverse hs) (IsPermutation-reverse hs)))

  -- a path run the other way
  pub area_back : (hs : List ℕ) → area M (reverse (map mate hs)) ≡ negated (area M hs)
  area_back hs = area_reverse (map mate hs) ∙ area_mates hs

  -- the two halves of an edge have no area together
  pub halves_cancel : (h : ℕ) → moved (part h) (part (mate h)) ≡ origin
  halves_cancel h = ap (moved (part h)) ((λ i. cross (finish M h) (start M (mate-mate h i))) ∙ cross_back (start M h) (finish M h)) ∙ none_left (part h)

-- half-edges renamed, where they start and end as they did
pub area_renamed : (M N : Model) (g : ℕ → ℕ) (hs : List ℕ) → ((h : ℕ) → IsIn h hs → (start N (g h) ≡ start M h) × (finish N (g h) ≡ finish M h)) → area N (map g hs) ≡ area M hs
area_renamed M N g [] e = refl
area_renamed M N g (h ∷ hs) e = let p = e h (IsIn_head h hs) in λ i. moved (cross (p.0 i) (p.1 i)) (area_renamed M N g hs (λ x j. e x (IsIn_rest x h hs j)) i)

-- ---- volumes of lists of faces

abbrev pub total : (ℕ → ℤ) → List ℕ → ℤ
total w [] = pos 0
total w (f ∷ fs) = w f +ℤ total w fs

-- what a face adds to the six volumes
abbrev pub volume_of : Model → ℕ → ℤ
volume_of M f = dot (anchor M f) (normal M f)

pub volume_is : (M : Model) (fs : List ℕ) → volume_in M fs ≡ total (volume_of M) fs
volume_is M [] = refl
volume_is M (f ∷ fs) = ap (λ v. volume_of M f +ℤ v) (volume_is M fs)

pub unchanged : (w z : ℕ → ℤ) (fs : List ℕ) → ((f : ℕ) → IsIn f fs → w f ≡ z f) → total w fs ≡ total z fs
unchanged w z [] each = refl
unchanged w z (f ∷ fs) each = λ i. each f (IsIn_head f fs) i +ℤ unchanged w z fs (λ g j. each g (IsIn_rest g f fs j)) i

-- the order doesn't matter
total_append : (w : ℕ → ℤ) (xs ys : List ℕ) → total w (xs ++ ys) ≡ total w xs +ℤ total w ys
total_append w [] ys = sym (none_add (total w ys))
total_append w (x ∷ xs) ys = ap (λ v. w x +ℤ v) (total_append w xs ys) ∙ sym (add_assoc (w x) (total w xs) (total w ys))

pub total_same : (w : ℕ → ℤ) (xs ys : List ℕ) → SameItems xs ys → total w xs ≡ total w ys
total_same w [] ys s = ap (total w) (sym (no_items ys (λ x. sym (s x))))
total_same w (x ∷ xs) ys s =
    let i : IsIn x ys = omega (arith, s x, tick_same x) in
    let e = split_at x ys i in
    ap (λ v. w x +ℤ v) (total_same w xs (before x ys ++ after x ys) (λ y. count_taken x y xs ys s e) ∙ total_append w (before x ys) (after x ys))
    ∙ add_exchanged (w x) (total w (before x ys)) (total w (after x ys))
    ∙ sym (ap (total w) e ∙ total_append w (before x ys) (x ∷ after x ys))

module _ (M : Model) where
  pub volume_append : (xs ys : List ℕ) → volume_in M (xs ++ ys) ≡ volume_in M xs +ℤ volume_in M ys
  volume_append xs ys = volume_is M (xs ++ ys) ∙ total_append (volume_of M) xs ys ∙ sym (λ i. volume_is M xs i +ℤ volume_is M ys i)

  pub volume_same : (xs ys : List ℕ) → SameItems xs ys → volume_in M xs ≡ volume_in M ys
  volume_same xs ys s = volume_is M xs ∙ total_same (volume_of M) xs ys s ∙ sym (volume_is M ys)

-- faces that each have the volume that they had
pub same_volumes : (M N : Model) (ks : List ℕ) → ((k : ℕ) → lists ks k ≡ true → volume_of N k ≡ volume_of M k) → volume_in N ks ≡ volume_in M ks
same_volumes M N ks e = volume_is N ks ∙ unchanged (volume_of N) (volume_of M) ks (λ k i. e k (listed-from_in k ks i)) ∙ sym (volume_is M ks)

-- ---- counting

-- an item stands among the other halves as often as its own other half stands in the list
tick-mate : (x h : ℕ) → tick x (mate h) ≡ tick (mate x) h
tick-mate x h = grind (arith, eqb_tells, tick_same, mate-mate, tick_other)

pub count-mates : (x : ℕ) (hs : List ℕ) → count x (map mate hs) ≡ count (mate x) hs
count-mates x [] = refl
count-mates x (h ∷ hs) = λ i. tick-mate x h i + count-mates x hs i
