-- The items above and below a number, where one more item comes, or one goes.
use Rattle.arena_rows.proofs.Prelude.{◌≡◌, ◌≢◌, ℕ, ◌≤◌, ◌<◌, Bool, true, false, sym, ap, ◌∙◌, arith, true≢false, inl, inr, eqb_tells, leb_tells, IsAbove, IsBelow}

-- the same items
pub above_same : (item item' : ℕ → Bool) → ((k : ℕ) → item' k ≡ item k) → (n m : ℕ) → IsAbove item n m → IsAbove item' n m
above_same item item' same n m a = record {
  found = λ h. ((a.found h).0, same m ∙ (a.found h).1);
  least = λ k l h. a.least k l (sym (same k) ∙ h);
}

pub below_same : (item item' : ℕ → Bool) → ((k : ℕ) → item' k ≡ item k) → (n m : ℕ) → IsBelow item n m → IsBelow item' n m
below_same item item' same n m a = record {
  found = λ h. ((a.found h).0, same m ∙ (a.found h).1);
  greatest = λ k l h. a.greatest k l (sym (same k) ∙ h);
}

apart_by : (item : ℕ → Bool) (n k : ℕ) → item n ≡ false → item k ≡ true → k ≢ n
apart_by item n k free is e = true≢false (sym is ∙ ap item e ∙ free)

-- a number that isn't below another one is at least that
pub at_least : (a b : ℕ) → (b < a → ⊥) → a ≤ b
at_least a b never = elim (leb_tells a b) [ inl e ↦ e.1 | inr e ↦ absurd (never e.1) ]

-- p is the item below n and q the one above p
pub record IsPlace (item : ℕ → Bool) (n p q : ℕ) : Type 0 where
  pub some : n ≢ 0
  pub zero : item 0 ≡ false
  pub free : item n ≡ false
  pub below : IsBelow item n p
  pub above : IsAbove item n q
  pub next : IsAbove item p q

pub below_less : (item : ℕ → Bool) (n p : ℕ) → n ≢ 0 → IsBelow item n p → p < n
below_less item n p some below = elim (eqb_tells p 0) [ inl e ↦ omega (arith, e.1, some) | inr e ↦ (below.found e.1).0 ]

-- the item above the one below n is above n
pub between : (item : ℕ → Bool) (n p q : ℕ) → n ≢ 0 → item n ≡ false → IsBelow item n p → IsAbove item p q → IsAbove item n q
between item n p q some free below next = record {
  found = λ h.
      let f = next.found h in
      let up = f.0 in
      let apart = apart_by item n q free f.1 in
      let most : n ≤ q = at_least n q (λ l. omega (arith, below.greatest q l f.1, up)) in
      (omega (arith, most, apart), f.1);
  least = λ k l h. let low = below_less item n p some below in next.least k (omega arith) h;
}

-- ---- item n comes

module _ (item item' : ℕ → Bool) (n p q : ℕ) (place : IsPlace item n p q) (here : item' n ≡ true) (same : (k : ℕ) → k ≢ n → item' k ≡ item k) where
  was : (k : ℕ) → k ≢ n → item' k ≡ true → item k ≡ true
  was k ne h = sym (same k ne) ∙ h

  still_item : (k : ℕ) → item k ≡ true → item' k ≡ true
  still_item k h = same k (apart_by item n k place.free h) ∙ h

  pub above_new : IsAbove item' n q
  above_new = record {
    found = λ h. ((place.above.found h).0, still_item q (place.above.found h).1);
    least = λ k l h. let ne : k ≢ n = omega arith in place.above.least k l (was k ne h);
  }

  pub above_previous : IsAbove item' p n
  above_previous = record {
    found = λ h. (below_less item n p place.some place.below, here);
    least = λ k l h. (
      place.some,
      elim (eqb_tells k n) [
        | inl e ↦ omega (arith, e.1)
        | inr e ↦ at_least n k (λ s. omega (arith, place.below.greatest k s (was k e.1 h), l))
      ],
    );
  }

  -- the item above any other one, or above 0
  pub above_other : (k m : ℕ) → k ≢ n → k ≢ p → (k ≢ 0 → item k ≡ true) → IsAbove item k m → IsAbove item' k m
  above_other k m ne np there a = record {
    found = λ h. ((a.found h).0, still_item m (a.found h).1);
    least = λ j l h. elim (eqb_tells j n) [
      | inl e ↦
          let up : p ≢ 0 = lower j e.1 l in
          let low : k ≤ p = lowest j e.1 l in
          let b = place.below.found up in
          let r = a.least p (omega (arith, low, np)) b.1 in
          (r.0, omega (arith, e.1, r.1, b.0))
      | inr e ↦ a.least j l (was j e.1 h)
    ];
  } where
    lowest : (j : ℕ) → j ≡ n → k < j → k ≤ p
    lowest j e l = elim (eqb_tells k 0) [ inl z ↦ omega (arith, z.1) | inr z ↦ place.below.greatest k (omega (arith, e, l)) (there z.1) ]

    lower : (j : ℕ) → j ≡ n → k < j → p ≢ 0
    lower j e l z = omega (arith, z, lowest j e l, np)

  pub below_new : IsBelow item' n p
  below_new = record {
    found = λ h. ((place.below.found h).0, still_item p (place.below.found h).1);
    greatest = λ k l h. let ne : k ≢ n = omega arith in place.below.greatest k l (was k ne h);
  }

  pub below_next : q ≢ 0 → IsBelow item' q n
  below_next there = record {
    found = λ h. ((place.above.found there).0, here);
    greatest = λ k l h. elim (eqb_tells k n) [
      | inl e ↦ omega (arith, e.1)
      | inr e ↦ at_least k n (λ s. omega (arith, (place.above.least k s (was k e.1 h)).1, l))
    ];
  }

  -- the item below any other one
  pub below_other : (k m : ℕ) → k ≢ n → k ≢ q → item k ≡ true → IsBelow item k m → IsBelow item' k m
  below_other k m ne nq there a = record {
    found = λ h. ((a.found h).0, still_item m (a.found h).1);
    greatest = λ j l h. elim (eqb_tells j n) [
      | inl e ↦
          let up = place.above.least k (omega (arith, e.1, l)) there in
          let b = place.above.found up.0 in
          let r = a.greatest q (omega (arith, up.1, nq)) b.1 in
          omega (arith, e.1, r, b.0)
      | inr e ↦ a.greatest j l (was j e.1 h)
    ];
  }

-- ---- item n goes, p before and q after it

module _ (item item' : ℕ → Bool) (n p q : ℕ) (some : n ≢ 0) (below : IsBelow item n p) (above : IsAbove item n q) (there : item n ≡ true) (gone : item' n ≡ false) (same : (k : ℕ) → k ≢ n → item' k ≡ item k) where
  still : (k : ℕ) → item' k ≡ true → item k ≡ true
  still k h = sym (same k (apart_by item' n k gone h)) ∙ h

  kept : (k : ℕ) → k ≢ n → item k ≡ true → item' k ≡ true
  kept k ne h = same k ne ∙ h

  pub above_joined : IsAbove item' p q
  above_joined = record {
    found = λ h.
        let a = above.found h in
        let low = below_less item n p some below in
        (omega (arith, low, a.0), kept q (omega (arith, a.0)) a.1);
    least = λ k l h.
        let ne = apart_by item' n k gone h in
        let most : n ≤ k = at_least n k (λ s. omega (arith, below.greatest k s (still k h), l)) in
        above.least k (omega (arith, most, ne)) (still k h);
  }

  pub above_left : (k m : ℕ) → k ≢ p → (k ≢ 0 → item k ≡ true) → IsAbove item k m → IsAbove item' k m
  above_left k m np item_k a = record {
    found = λ h. let f = a.found h in (f.0, kept m (λ e. not_n f.0 e) f.1);
    least = λ j l h. a.least j l (still j h);
  } where
    low : k < n → k ≤ p
    low l = elim (eqb_tells k 0) [ inl z ↦ omega (arith, z.1) | inr z ↦ below.greatest k l (item_k z.1) ]

    not_n : k < m → m ≡ n → ⊥
    not_n l e =
        let less : k < n = omega (arith, l, e) in
        let at_most = low less in
        let up : p ≢ 0 = omega (arith, at_most, np) in
        let b = below.found up in
        let r = a.least p (omega (arith, at_most, np)) b.1 in
        omega (arith, e, r.1, b.0)

  pub below_joined : q ≢ 0 → IsBelow item' q p
  below_joined up = record {
    found = λ h.
        let b = below.found h in
        (omega (arith, b.0, (above.found up).0), kept p (omega (arith, b.0)) b.1);
    greatest = λ k l h.
        let ne = apart_by item' n k gone h in
        let most : k ≤ n = at_least k n (λ s. omega (arith, (above.least k s (still k h)).1, l)) in
        below.greatest k (omega (arith, most, ne)) (still k h);
  }

  pub below_left : (k m : ℕ) → k ≢ q → item k ≡ true → IsBelow item k m → IsBelow item' k m
  below_left k m nq item_k a = record {
    found = λ h. let f = a.found h in (f.0, kept m (λ e. not_n f.0 e) f.1);
    greatest = λ j l h. a.greatest j l (still j h);
  } where
    not_n : m < k → m ≡ n → ⊥
    not_n l e =
        let up = above.least k (omega (arith, l, e)) item_k in
        let f = above.found up.0 in
        let r = a.greatest q (omega (arith, up.1, nq)) f.1 in
        omega (arith, e, r, f.0)
