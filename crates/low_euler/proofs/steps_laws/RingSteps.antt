-- An item that goes into a ring or leaves it, by a join or a cut after the item before.
use Rattle.low_euler.proofs.Prelude.{◌≡◌, ◌≢◌, ℕ, ◌+◌, List, [], ◌∷◌, ◌++◌, refl, sym, ap, ◌∙◌, subst, arith, count, tick, IsIn, IsApart, last_or, canonical, rotate_to, rest, predecessor, between, beyond, cut_left, cut_right, joined, put_ring, take_ring, mef_old, mef_new, count-append, tick_same, before_at, after_at, split_at, front_of, IsIn_predecessor, count_at, ring_split, upto_other, onward_other, rest_canonical, IsApart-exchanged, apart_split, apart_joined, canonical-rotates, count-canonical, count-rotate_to, rotate_to-rotates, IsApart-rotate_to, rotate_to_is, rest_at, rest_head, rest_parts, rest_same, canonical_same, canonical_one, apart_front, apart_braced, rotate_to_whole, between_canonical, beyond_canonical, both_empty}
use Rattle.euler_operators.specs.Items.{before, after}

-- a list whose last item, or x, isn't x, up to that item
last_split : (x : ℕ) (us : List ℕ) → last_or x us ≢ x → (qs : List ℕ) × (us ≡ qs ++ last_or x us ∷ [])
last_split x [] ne = absurd (ne refl)
last_split x (u ∷ us) ne = front_of u us

pub count_put : (x h g : ℕ) (xs : List ℕ) → count x (put_ring h g xs) ≡ tick x h + count x xs
count_put x h g xs = count-canonical x (h ∷ rotate_to g xs) ∙ omega (arith, count-rotate_to x g xs)

-- h alone, joined after p, which nothing but ps follows
joined_last : (p h : ℕ) (ps ys : List ℕ) → rest p ys ≡ ps → IsApart (h ∷ (ps ++ p ∷ [])) → joined p h ys (h ∷ []) ≡ canonical (h ∷ (ps ++ p ∷ []))
joined_last p h ps ys e a =
    ap (λ q. canonical ((p ∷ q) ++ h ∷ rest p ys)) (rest_head h [])
    ∙ ap (λ q. canonical (p ∷ h ∷ q)) e
    ∙ sym (canonical_same (h ∷ (ps ++ p ∷ [])) (p ∷ h ∷ ps) (record { front = h ∷ ps; back = p ∷ []; here = refl; there = refl }) a)

-- h put before g, and then m before k, which stands between us and os from g on
module _ (h m g k : ℕ) (xs us os : List ℕ) (d : IsApart xs) (split : rotate_to g xs ≡ us ++ k ∷ os) (hm : h ≡ m → ⊥) (n : count h xs ≡ 0) (o : count m xs ≡ 0) where
  counted : (x : ℕ) → count x (us ++ k ∷ os) ≡ count x xs
  counted x = ap (count x) (sym split) ∙ count-rotate_to x g xs

  split_apart : IsApart (us ++ k ∷ os)
  split_apart x = omega (arith, counted x, d x)

  one_apart : IsApart ((h ∷ us) ++ k ∷ os)
  one_apart = apart_front h (us ++ k ∷ os) (counted h ∙ n) split_apart

  apart_two : IsApart ((h ∷ us) ++ m ∷ k ∷ os)
  apart_two = apart_braced h m us (k ∷ os) hm (counted h ∙ n) (counted m ∙ o) split_apart

  whole_ring : put_ring m k (put_ring h g xs) ≡ canonical ((h ∷ us) ++ m ∷ k ∷ os)
  whole_ring =
      ap (λ q. put_ring m k (canonical (h ∷ q))) split
      ∙ ap (λ q. canonical (m ∷ q)) (rotate_to_whole k ((h ∷ us) ++ k ∷ os) (os ++ (h ∷ us)) one_apart (record { front = h ∷ us; back = k ∷ os; here = refl; there = refl }))
      ∙ sym (canonical_same ((h ∷ us) ++ m ∷ k ∷ os) (m ∷ k ∷ (os ++ (h ∷ us))) (record { front = h ∷ us; back = m ∷ k ∷ os; here = refl; there = refl }) apart_two)

module _ (xs : List ℕ) (d : IsApart xs) (g : ℕ) (i : IsIn g xs) where
  -- the item before g
  abbrev p : ℕ
  p = predecessor xs g

  p_in : IsIn p xs
  p_in = IsIn_predecessor g xs i

  -- the ring from g on, up to p
  upto_p : (ps : List ℕ) × (rotate_to g xs ≡ ps ++ p ∷ [])
  upto_p = let f = front_of g (rest g xs) in (f.0, rotate_to_is g xs i ∙ f.1)

  -- what follows p is the ring from g on without p
  rest_p : (ps : List ℕ) → rotate_to g xs ≡ ps ++ p ∷ [] → rest p xs ≡ ps
  rest_p ps e =
      let n : count p ps ≡ 0 = omega (arith, IsApart-rotate_to g xs d p, ap (count p) e, count-append p ps (p ∷ []), tick_same p) in
      rest_same p xs (rotate_to g xs) (rotate_to-rotates g xs) d p_in ∙ ap (rest p) e ∙ rest_at p ps [] n

  pub upto_before : rotate_to g xs ≡ rest p xs ++ p ∷ []
  upto_before = upto_p.1 ∙ ap (λ q. q ++ p ∷ []) (sym (rest_p upto_p.0 upto_p.1))

  -- the ring from g on holds each item once
  onward_apart : IsApart (upto_p.0 ++ p ∷ [])
  onward_apart = subst IsApart upto_p.1 (IsApart-rotate_to g xs d)

  onward_none : (h : ℕ) → count h xs ≡ 0 → count h (upto_p.0 ++ p ∷ []) ≡ 0
  onward_none h n = ap (count h) (sym upto_p.1) ∙ count-rotate_to h g xs ∙ n

  -- h alone, joined after the item before g
  pub joined_before : (h : ℕ) → count h xs ≡ 0 → joined p h xs (h ∷ []) ≡ put_ring h g xs
  joined_before h n = joined_last p h upto_p.0 xs (rest_p upto_p.0 upto_p.1) (apart_front h (upto_p.0 ++ p ∷ []) (onward_none h n) onward_apart) ∙ ap (λ q. canonical (h ∷ q)) (sym upto_p.1)

  -- h alone, joined there once m is put before g: the ring that has m put before g once h is
  pub joined_twice : (h m : ℕ) → (h ≡ m → ⊥) → count h xs ≡ 0 → count m xs ≡ 0 → joined p h (put_ring m g xs) (h ∷ []) ≡ put_ring m g (put_ring h g xs)
  joined_twice h m hm n o =
      let w : List ℕ = m ∷ (upto_p.0 ++ p ∷ []) in
      let a : IsApart (h ∷ w) = apart_braced h m [] (upto_p.0 ++ p ∷ []) hm (onward_none h n) (onward_none m o) onward_apart in
      let b : IsApart w = λ x. omega (arith, a x) in
      let j : IsIn p w = omega (arith, count-append p (m ∷ upto_p.0) (p ∷ []), tick_same p) in
      let none : count p (m ∷ upto_p.0) ≡ 0 = omega (arith, b p, count-append p (m ∷ upto_p.0) (p ∷ []), tick_same p) in
      ap (λ q. joined p h (canonical (m ∷ q)) (h ∷ [])) upto_p.1
      ∙ joined_last p h (m ∷ upto_p.0) (canonical w) (sym (rest_same p w (canonical w) (canonical-rotates w) b j) ∙ rest_at p (m ∷ upto_p.0) [] none) a
      ∙ ap (λ q. canonical (h ∷ m ∷ q)) (sym upto_p.1 ∙ rotate_to_is g xs i)
      ∙ sym (whole_ring h m g g xs [] (rest g xs) d (rotate_to_is g xs i) hm n o)

  -- where g isn't alone, a cut after the item before it takes it out
  module _ (ne : p ≢ g) where
    front : (qs : List ℕ) × (rest g xs ≡ qs ++ p ∷ [])
    front = last_split g (rest g xs) ne

    onward_p : rest p xs ≡ g ∷ front.0
    onward_p = rest_p (g ∷ front.0) (rotate_to_is g xs i ∙ ap (λ q. g ∷ q) front.1)

    pub cut_keeps : cut_left p g xs ≡ take_ring g xs
    cut_keeps =
        let qs = front.0 in
        let a : IsApart (qs ++ p ∷ []) = λ x. omega (arith, ap (count x) front.1, count_at x g xs i, d x) in
        ap (λ q. canonical (p ∷ after g q)) onward_p
        ∙ ap (λ q. canonical (p ∷ q)) (after_at g [] qs refl)
        ∙ sym (canonical_same (qs ++ p ∷ []) (p ∷ qs) (record { front = qs; back = p ∷ []; here = refl; there = refl }) a)
        ∙ ap canonical (sym front.1)

    pub cut_takes : cut_right p g xs ≡ g ∷ []
    cut_takes = ap (λ q. canonical (g ∷ before g q)) onward_p ∙ ap (λ q. canonical (g ∷ q)) (before_at g [] front.0 refl) ∙ canonical_one g

  -- something follows it
  pub follows : p ≢ g → rest g xs ≢ []
  follows ne e = ne (ap (last_or g) e)

  -- where it is alone, nothing follows it
  pub nothing_follows : p ≡ g → rest g xs ≡ []
  nothing_follows e = empty_by_last (rest g xs) (omega (arith, count_at g g xs i, d g, tick_same g)) e where
    empty_by_last : (us : List ℕ) → count g us ≡ 0 → last_or g us ≡ g → us ≡ []
    empty_by_last [] n q = refl
    empty_by_last (u ∷ us) n q =
        let f = front_of u us in
        absurd (omega (arith, n, ap (count g) f.1, count-append g f.0 (last_or u us ∷ []), ap (λ z. count g (z ∷ [])) q, tick_same g))

  pub alone_list : rest g xs ≡ [] → xs ≡ g ∷ []
  alone_list e =
      let z = both_empty (after g xs) (before g xs) (sym (rest_parts g xs) ∙ e) in
      split_at g xs i ∙ ap (λ q. q ++ g ∷ after g xs) z.1 ∙ ap (λ q. g ∷ q) z.0

-- the two rings that a cut at h and m then gives are those of mef
module _ (h m g k : ℕ) (xs : List ℕ) (d : IsApart xs) (i : IsIn g xs) (j : IsIn k xs) (ne : g ≡ k → ⊥) (hm : h ≡ m → ⊥) (n : count h xs ≡ 0) (o : count m xs ≡ 0) where
  abbrev us : List ℕ
  us = between g k xs

  abbrev os : List ℕ
  os = beyond g k xs

  apart : IsApart ((h ∷ g ∷ us) ++ m ∷ k ∷ os)
  apart = apart_two h m g k xs (g ∷ us) os d (ring_split g k xs i j ne) hm n o

  whole : put_ring m k (put_ring h g xs) ≡ canonical ((h ∷ g ∷ us) ++ m ∷ k ∷ os)
  whole = whole_ring h m g k xs (g ∷ us) os d (ring_split g k xs i j ne) hm n o

  pub cut_old : cut_left h m (put_ring m k (put_ring h g xs)) ≡ mef_old h g k xs
  cut_old = ap (cut_left h m) whole ∙ ap (λ q. canonical (h ∷ q)) (beyond_canonical h m (g ∷ us) (k ∷ os) apart)
      ∙ ap (λ q. canonical (h ∷ q)) (sym (onward_other g k xs i j ne))

  pub cut_new : cut_right h m (put_ring m k (put_ring h g xs)) ≡ mef_new m g k xs
  cut_new = ap (cut_right h m) whole ∙ ap (λ q. canonical (m ∷ q)) (between_canonical h m (g ∷ us) (k ∷ os) apart)
      ∙ sym (canonical_same ((g ∷ us) ++ m ∷ []) (m ∷ g ∷ us) (record { front = g ∷ us; back = m ∷ []; here = refl; there = refl }) apart_new)
      ∙ ap (λ q. canonical (q ++ m ∷ [])) (sym (upto_other g k xs i ne)) where
        apart_new : IsApart ((g ∷ us) ++ m ∷ [])
        apart_new x = omega (arith, apart x, count-append x (h ∷ g ∷ us) (m ∷ k ∷ os), count-append x (g ∷ us) (m ∷ []))

-- kemr: what is left of the two rings of a cut at h and m, once h and m are taken out
module _ (h m : ℕ) (xs : List ℕ) (d : IsApart xs) (i : IsIn h xs) (j : IsIn m xs) (hm : h ≡ m → ⊥) where
  pub rest_left : rest h (cut_left h m xs) ≡ beyond h m xs
  rest_left = rest_canonical h (beyond h m xs) (IsApart-exchanged h m (between h m xs) (beyond h m xs) (apart_split h m xs d i j hm)).0

  pub rest_right : rest m (cut_right h m xs) ≡ between h m xs
  rest_right = rest_canonical m (between h m xs) (IsApart-exchanged h m (between h m xs) (beyond h m xs) (apart_split h m xs d i j hm)).1

-- kef: what is left of the ring `h A m B` of a join, once m and then h are taken out
module _ (h m : ℕ) (xs ys : List ℕ) (d : IsApart (xs ++ ys)) (i : IsIn h xs) (j : IsIn m ys) where
  abbrev fs : List ℕ
  fs = rest m ys

  abbrev bs : List ℕ
  bs = rest h xs

  pub rest_joined : rest m (joined h m xs ys) ≡ bs ++ h ∷ fs
  rest_joined =
      let w = (h ∷ fs) ++ m ∷ bs in
      let a : IsApart w = apart_joined h m xs ys d i j in
      let n : count m (h ∷ fs) ≡ 0 = omega (arith, a m, count-append m (h ∷ fs) (m ∷ bs), tick_same m) in
      sym (rest_same m w (canonical w) (canonical-rotates w) a (omega (arith, count-append m (h ∷ fs) (m ∷ bs), tick_same m)))
      ∙ rest_at m (h ∷ fs) bs n

  apart_one : IsApart (bs ++ h ∷ fs)
  apart_one x = omega (arith, apart_joined h m xs ys d i j x, count-append x (h ∷ fs) (m ∷ bs), count-append x bs (h ∷ fs))

  pub rest_both : rest h (canonical (bs ++ h ∷ fs)) ≡ fs ++ bs
  rest_both =
      let w = bs ++ h ∷ fs in
      let n : count h bs ≡ 0 = omega (arith, apart_one h, count-append h bs (h ∷ fs), tick_same h) in
      sym (rest_same h w (canonical w) (canonical-rotates w) apart_one (omega (arith, count-append h bs (h ∷ fs), tick_same h)))
      ∙ rest_at h bs fs n
