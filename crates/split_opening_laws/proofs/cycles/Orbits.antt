-- The orbits of a function that permutes the items of a list.
use Rattle.split_opening_laws.proofs.Prelude.{◌≡◌, ℕ, zero, suc, ◌+◌, ◌≤◌, List, [], ◌∷◌, ◌++◌, length, map, refl, sym, ap, subst, ◌∙◌, arith, inl, inr, Bool, true, nat_eq, filter, flat_map, length-append, eq-eqb, eqb-true, eqb_tells, tick, count, IsIn, IsApart, SameItems, last_or, least, IsPath, IsRing, orbit, rotate_to, tick_same, tick_other, count-append, least_in, least_same, IsIn_or_not, count-rotate_to, apart_back, IsApart-map, IsPath-append, orbit_ring, orbit_from, IsIn_last, IsPath_last, apart_within, count-filter, filter_passes, tick_le, IsIn_one, Permutes}
use Rattle.split_opening_laws.proofs.cycles.Meets.{total, total_same, total_ticks, count_filter, count_flat}

-- a path leads over its items but the first to its end
path_maps : (next : ℕ → ℕ) (x : ℕ) (xs : List ℕ) (d : ℕ) → IsPath next (x ∷ xs) d → map next (x ∷ xs) ≡ xs ++ d ∷ []
path_maps next x [] d p = ap (λ y. y ∷ []) p.0
path_maps next x (y ∷ ys) d p = λ i. p.0 i ∷ path_maps next y ys d p.1 i

-- the orbit of h within xs: a ring that begins with h, without repeats
pub record Closed (next : ℕ → ℕ) (xs : List ℕ) (h : ℕ) : Type 0 where
  pub others : List ℕ
  pub ring : IsRing next (h ∷ others)
  pub apart : IsApart (h ∷ others)
  pub within : (x : ℕ) → IsIn x (h ∷ others) → IsIn x xs

module _ (next : ℕ → ℕ) (xs : List ℕ) (w : Permutes next xs) where
  -- a path from h without repeats doesn't lead back into itself but to h
  fresh : (h : ℕ) (ps : List ℕ) (q : ℕ) → IsApart (h ∷ ps) → IsPath next (h ∷ ps) q → ((x : ℕ) → IsIn x (h ∷ ps) → IsIn x xs) → (q ≡ h → ⊥) → count q (h ∷ ps) ≡ 0
  fresh h ps q d p i ne =
      let a : IsApart (map next (h ∷ ps)) = IsApart-map next (h ∷ ps) (λ x j y k e. w.one_way x y (i x j) (i y k) e) d in
      omega (arith, a q, ap (count q) (path_maps next h ps q p), count-append q ps (q ∷ []), tick_same q, tick_other q h ne)

  module _ (h : ℕ) (ps : List ℕ) (q : ℕ) (d : IsApart (h ∷ ps)) (p : IsPath next (h ∷ ps) q) (i : (x : ℕ) → IsIn x (h ∷ ps) → IsIn x xs) where
    more_in : (x : ℕ) → IsIn x (h ∷ (ps ++ q ∷ [])) → IsIn x xs
    more_in x j =
        grind (arith, subst (λ y. IsIn y xs) (IsPath_last next h ps q p) (w.stays (last_or h ps) (i (last_or h ps) (IsIn_last h ps))), count-append)

    more_apart : (q ≡ h → ⊥) → IsApart (h ∷ (ps ++ q ∷ []))
    more_apart ne = apart_back q (h ∷ ps) (fresh h ps q d p i ne) d

    more_path : IsPath next (h ∷ (ps ++ q ∷ [])) (next q)
    more_path = IsPath-append next (h ∷ ps) (q ∷ []) (next q) p (refl, tt)

    more_short : (q ≡ h → ⊥) → length (h ∷ ps) + 1 ≤ length xs
    more_short ne = omega (arith, apart_within (h ∷ (ps ++ q ∷ [])) xs (more_apart ne) more_in, length-append ps (q ∷ []))

    closed_here : q ≡ h → Closed next xs h
    closed_here e = record { others = ps; ring = subst (IsPath next (h ∷ ps)) e p; apart = d; within = i }

  closes : (n : ℕ) (h : ℕ) (ps : List ℕ) (q : ℕ) → length xs ≤ length (h ∷ ps) + n → IsApart (h ∷ ps) → IsPath next (h ∷ ps) q → ((x : ℕ) → IsIn x (h ∷ ps) → IsIn x xs) → Closed next xs h
  closes zero h ps q l d p i = elim (eqb_tells q h) [
    | inl e ↦ closed_here h ps q d p i e.1
    | inr e ↦ absurd (omega (arith, l, more_short h ps q d p i e.1))
  ]
  closes (suc n) h ps q l d p i = elim (eqb_tells q h) [
    | inl e ↦ closed_here h ps q d p i e.1
    | inr e ↦ closes n h (ps ++ q ∷ []) (next q) (omega (arith, l, length-append ps (q ∷ []))) (more_apart h ps q d p i e.1) (more_path h ps q d p i) (more_in h ps q d p i)
  ]

  pub closed : (h : ℕ) → IsIn h xs → Closed next xs h
  closed h i = closes (length xs) h [] (next h) (omega arith) (λ x. omega (arith, tick_le x h)) (refl, tt) (λ x j. subst (λ y. IsIn y xs) (sym (IsIn_one h x j)) i)

  -- the length of the list is fuel enough
  abbrev pub around : ℕ → List ℕ
  around h = orbit next h (length xs)

  module _ (h : ℕ) (i : IsIn h xs) where
    pub around_is : around h ≡ h ∷ (closed h i).others
    around_is = let c = closed h i in orbit_ring next h c.others (length xs) c.ring c.apart (apart_within (h ∷ c.others) xs c.apart c.within)

    pub around_ring : IsRing next (around h)
    around_ring = subst (IsRing next) (sym around_is) (closed h i).ring

    pub around_apart : IsApart (around h)
    around_apart = subst IsApart (sym around_is) (closed h i).apart

    pub around_within : (x : ℕ) → IsIn x (around h) → IsIn x xs
    around_within x j = (closed h i).within x (omega (arith, j, ap (count x) around_is))

    pub around_here : IsIn h (around h)
    around_here = omega (arith, ap (count h) around_is, tick_same h)

    -- round from any of its items, it is the same ring
    pub around_turned : (z : ℕ) → IsIn z (around h) → around z ≡ rotate_to z (around h)
    around_turned z j = orbit_from next z (around h) (length xs) around_ring around_apart j (apart_within (around h) xs around_apart around_within)

    pub around_same : (z : ℕ) → IsIn z (around h) → SameItems (around z) (around h)
    around_same z j x = ap (count x) (around_turned z j) ∙ count-rotate_to x z (around h)

  -- two rings with an item in common have the same items
  pub around_shared : (x y z : ℕ) → IsIn x xs → IsIn y xs → IsIn z (around x) → IsIn z (around y) → SameItems (around x) (around y)
  around_shared x y z i j k l v = omega (arith, around_same x i z k v, around_same y j z l v)

-- ---- the orbits of a function that permutes the items of a list, each from its least item on: each item stands in one of them

module _ (next : ℕ → ℕ) (xs : List ℕ) (w : Permutes next xs) where
  abbrev pub leads : ℕ → Bool
  leads b = nat_eq (least (around next xs w b)) b

  abbrev pub leaders : List ℕ
  leaders = filter leads xs

  pub leader_in : (b : ℕ) → IsIn b leaders → IsIn b xs
  leader_in b i = omega (arith, i, count-filter leads b xs)

  pub leader_least : (b : ℕ) → IsIn b leaders → least (around next xs w b) ≡ b
  leader_least b i = eqb-true (least (around next xs w b)) b (filter_passes leads b xs i)

  module _ (x : ℕ) (i : IsIn x xs) where
    -- the least item of the ring of x
    abbrev first : ℕ
    first = least (around next xs w x)

    first_there : IsIn first (around next xs w x)
    first_there = least_in (around next xs w x) x (around_here next xs w x i)

    first_leads : leads first ≡ true
    first_leads = eq-eqb (least (around next xs w first)) first (least_same (around next xs w first) (around next xs w x) (around_same next xs w x i first first_there))

    in_one : (l : ℕ) → IsIn l leaders → count x (around next xs w l) ≡ tick l first
    in_one l j = elim (IsIn_or_not x (around next xs w l)) [
      | inl k ↦
          let same : SameItems (around next xs w l) (around next xs w x) = around_shared next xs w l x x (leader_in l j) i k (around_here next xs w x i) in
          let e : l ≡ first = sym (leader_least l j) ∙ least_same (around next xs w l) (around next xs w x) same in
          omega (arith, k, around_apart next xs w l (leader_in l j) x, ap (λ y. tick y first) e, tick_same first)
      | inr z ↦ grind (arith, around_same, first_there, around_here, tick_other)
    ]

    once : count x (flat_map (around next xs w) leaders) ≡ 1
    once = omega (arith, count_flat (around next xs w) x leaders, total_same (λ l. count x (around next xs w l)) (λ l. tick l first) leaders in_one, total_ticks first leaders, count_filter leads first xs first_leads, w.apart first, around_within next xs w x i first first_there)

  out : (x : ℕ) → count x xs ≡ 0 → (ls : List ℕ) → ((l : ℕ) → IsIn l ls → IsIn l xs) → count x (flat_map (around next xs w) ls) ≡ 0
  out x z ls i = count_flat (around next xs w) x ls ∙ none ls i where
    none : (ks : List ℕ) → ((l : ℕ) → IsIn l ks → IsIn l xs) → total (λ l. count x (around next xs w l)) ks ≡ 0
    none [] i = refl
    none (k ∷ ks) i = grind (arith, tick_same, around_within, none ks (λ l j. i l (omega (arith, j))))

  -- the rings of the leaders, one after the other, have each item once
  pub covers : SameItems (flat_map (around next xs w) leaders) xs
  covers x = grind (arith, once, out, leader_in)
