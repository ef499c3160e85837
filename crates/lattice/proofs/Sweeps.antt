-- What a closed path sweeps. Step i of the path leads from p i to q i; d is the vector of the sweep.
use Rattle.lattice.proofs.Prelude.{refl, arith, ◌∙◌, sym, ap, ◌≡◌, ℕ, zero, suc, ◌<◌, ℤ, pos, ◌+ℤ◌, ◌-ℤ◌, ◌*ℤ◌, Point, origin, moved, dot, cross}
use Rattle.lattice.proofs.Integers.{dif, dif-parts, difs, same_dif, number}
use Rattle.lattice.proofs.Vectors.{same_vector, vec, from_to, moved_none, none_moved, moved_twice, dot_moved, dot_origin, twice_sum}

-- the sum of the first n vectors, and of the first n numbers
abbrev pub sum_to : (ℕ → Point) → ℕ → Point
sum_to a zero = origin
sum_to a (suc n) = moved (sum_to a n) (a n)

abbrev pub total_to : (ℕ → ℤ) → ℕ → ℤ
total_to v zero = pos 0
total_to v (suc n) = total_to v n +ℤ v n

-- the first vector, and then the others
pub sum_first : (a : ℕ → Point) (n : ℕ) → moved (a 0) (sum_to (λ i. a (suc i)) n) ≡ sum_to a (suc n)
sum_first a zero = moved_none (a 0) ∙ sym (none_moved (a 0))
sum_first a (suc n) = sym (moved_twice (a 0) (sum_to (λ i. a (suc i)) n) (a (suc n))) ∙ ap (λ s. moved s (a (suc n))) (sum_first a n)

pub same_sum : (a b : ℕ → Point) (n : ℕ) → ((i : ℕ) → i < n → a i ≡ b i) → sum_to a n ≡ sum_to b n
same_sum a b zero e = refl
same_sum a b (suc n) e = grind (arith, same_sum a b n)

pub same_total : (v w : ℕ → ℤ) (n : ℕ) → ((i : ℕ) → i < n → v i ≡ w i) → total_to v n ≡ total_to w n
same_total v w zero e = refl
same_total v w (suc n) e = grind (arith, same_total v w n)

-- ---- a closed path keeps its area where it is moved

step_dif : (a b e f h k g l m a' b' e' f' h' k' g' l' m' : ℕ) →
    (dif g g' +ℤ (dif h h' *ℤ (dif b b' -ℤ dif m m') -ℤ dif k k' *ℤ (dif a a' -ℤ dif l l'))) +ℤ ((dif a a' +ℤ dif h h') *ℤ (dif f f' +ℤ dif k k') -ℤ (dif b b' +ℤ dif k k') *ℤ (dif e e' +ℤ dif h h'))
    ≡ (dif g g' +ℤ (dif a a' *ℤ dif f f' -ℤ dif b b' *ℤ dif e e')) +ℤ (dif h h' *ℤ (dif f f' -ℤ dif m m') -ℤ dif k k' *ℤ (dif e e' -ℤ dif l l'))
step_dif a b e f h k g l m a' b' e' f' h' k' g' l' m' = simp difs (same_dif _ _ _ _ (omega arith))

-- (a, b) to (e, f), moved by (h, k), after a path from (l, m) with the sum g
step_part : (a b e f h k g l m : ℤ) →
    (g +ℤ (h *ℤ (b -ℤ m) -ℤ k *ℤ (a -ℤ l))) +ℤ ((a +ℤ h) *ℤ (f +ℤ k) -ℤ (b +ℤ k) *ℤ (e +ℤ h))
    ≡ (g +ℤ (a *ℤ f -ℤ b *ℤ e)) +ℤ (h *ℤ (f -ℤ m) -ℤ k *ℤ (e -ℤ l))
step_part a b e f h k g l m = rw (dif-parts a, dif-parts b, dif-parts e, dif-parts f, dif-parts h, dif-parts k, dif-parts g, dif-parts l, dif-parts m) (step_dif _ _ _ _ _ _ _ _ _ _ _ _ _ _ _ _ _ _)

step_at : (p q s d g : Point) → moved (moved g (cross d (from_to s p))) (cross (moved p d) (moved q d)) ≡ moved (moved g (cross p q)) (cross d (from_to s q))
step_at p q s d g = same_vector _ _ (step_part p.y p.z q.y q.z d.y d.z g.x s.y s.z) (step_part p.z p.x q.z q.x d.z d.x g.y s.z s.x) (step_part p.x p.y q.x q.y d.x d.y g.z s.x s.y)

none_dif : (g h k m l g' h' k' m' l' : ℕ) → dif g g' +ℤ (dif h h' *ℤ (dif m m' -ℤ dif m m') -ℤ dif k k' *ℤ (dif l l' -ℤ dif l l')) ≡ dif g g'
none_dif g h k m l g' h' k' m' l' = simp difs (same_dif _ _ _ _ (omega arith))

none_part : (g h k m l : ℤ) → g +ℤ (h *ℤ (m -ℤ m) -ℤ k *ℤ (l -ℤ l)) ≡ g
none_part g h k m l = rw (dif-parts g, dif-parts h, dif-parts k, dif-parts m, dif-parts l) (none_dif _ _ _ _ _ _ _ _ _ _)

nothing_moved : (a d e : Point) → moved a (cross d (from_to e e)) ≡ a
nothing_moved a d e = same_vector _ _ (none_part a.x d.y d.z e.z e.y) (none_part a.y d.z d.x e.x e.z) (none_part a.z d.x d.y e.y e.x)

module _ (p q : ℕ → Point) (d : Point) where
  -- the area of step i, and of the same moved by d
  abbrev pub area_at : ℕ → Point
  area_at i = cross (p i) (q i)

  abbrev pub moved_at : ℕ → Point
  moved_at i = cross (moved (p i) d) (moved (q i) d)

  -- each step but the last ends where the next starts
  abbrev pub Linked : ℕ → Type 0
  Linked n = (i : ℕ) → suc i < n → q i ≡ p (suc i)

  moved_path : (n : ℕ) → Linked (suc n) → sum_to moved_at (suc n) ≡ moved (sum_to area_at (suc n)) (cross d (from_to (p 0) (q n)))
  moved_path zero e = ap (λ s. moved s (moved_at 0)) (sym (nothing_moved origin d (p 0))) ∙ step_at (p 0) (q 0) (p 0) d origin
  moved_path (suc n) e = grind (arith, moved_path n, from_to (p 0), step_at (p (suc n)) (q (suc n)) (p 0) d (sum_to area_at (suc n)))

  pub moved_ring : (n : ℕ) → Linked (suc n) → q n ≡ p 0 → sum_to moved_at (suc n) ≡ sum_to area_at (suc n)
  moved_ring n e c = moved_path n e ∙ ap (λ r. moved (sum_to area_at (suc n)) (cross d (from_to (p 0) r))) c ∙ nothing_moved (sum_to area_at (suc n)) d (p 0)

-- ---- the sides

-- the side over the step from p to q, swept by d: around it from p to q, up, back and down
abbrev pub side_area : Point → Point → Point → Point
side_area p q d = moved (cross p q) (moved (cross q (moved q d)) (moved (cross (moved q d) (moved p d)) (moved (cross (moved p d) p) origin)))

side_dif : (a b c e f g h k l a' b' c' e' f' g' h' k' l' : ℕ) →
    let p = vec (dif a a') (dif b b') (dif c c') in let q = vec (dif e e') (dif f f') (dif g g') in let d = vec (dif h h') (dif k k') (dif l l') in
    dot p (side_area p q d) ≡ dif 2 0 *ℤ dot (cross p q) d
side_dif a b c e f g h k l a' b' c' e' f' g' h' k' l' = rw number (simp difs (same_dif _ _ _ _ (omega arith)))

-- six volumes of the side, told from p: twice (p x q) . d
pub side_volume : (p q d : Point) → dot p (side_area p q d) ≡ pos 2 *ℤ dot (cross p q) d
side_volume p q d = rw (dif-parts p.x, dif-parts p.y, dif-parts p.z, dif-parts q.x, dif-parts q.y, dif-parts q.z, dif-parts d.x, dif-parts d.y, dif-parts d.z, number 2) (side_dif _ _ _ _ _ _ _ _ _ _ _ _ _ _ _ _ _ _)

nothing_twice : (d : Point) → pos 0 ≡ pos 2 *ℤ dot origin d
nothing_twice d = sym (ap (λ z. pos 2 *ℤ z) (dot_origin d))

-- all sides together
pub sides_volume : (a : ℕ → Point) (d : Point) (n : ℕ) → total_to (λ i. pos 2 *ℤ dot (a i) d) n ≡ pos 2 *ℤ dot (sum_to a n) d
sides_volume a d zero = nothing_twice d
sides_volume a d (suc n) = ap (λ v. v +ℤ pos 2 *ℤ dot (a n) d) (sides_volume a d n) ∙ sym (twice_sum (dot (sum_to a n) d) (dot (a n) d)) ∙ ap (λ v. pos 2 *ℤ v) (sym (dot_moved (sum_to a n) (a n) d))
