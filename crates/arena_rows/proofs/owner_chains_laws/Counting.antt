-- How many items an owner has, where an item comes or goes.
--     few      numbers below a bound are no more than the bound
--     owned-put, owned-remove      how many items an owner has, where one more item has an owner, or one less
use Rattle.arena_rows.proofs.Prelude.{◌≡◌, ◌≢◌, ℕ, suc, ◌+◌, ◌-◌, ◌≤◌, ◌<◌, Bool, true, false, cond, nat_eq, T, List, [], ◌∷◌, length, Some, None, is_some, refl, sym, ap, ◌∙◌, arith, eq-eqb, ne_eqb, inl, inr, nat_cmp, eqb_tells, count, tick, same_length, tick_same, tick_other, Table, get, put, remove, all_where, all_in, get-put, get-remove, passes, count-all_where, and_left, and_right, put-remove, less_means, find_here, find_later, owned}
use Rattle.std.specs.FinMap.Entries.{find, is_sorted, below_all}

-- ---- the numbers whose rows pass a test

module _ {X : Type 0} where
  -- numbers below a bound: there are no more than the bound
  pub few : (p : ℕ → X → Bool) (t : Table X) (end : ℕ) → ((q : ℕ) → is_some (get t q) ≡ true → q < end) → length (all_where p t) ≤ end
  unfolding all_where get
  few p t end below = all t.rows t.rising below where
    length-cond : (b : Bool) (n : ℕ) (ns : List ℕ) → length (cond b (n ∷ ns) ns) ≤ 1 + length ns
    length-cond true n ns = omega arith
    length-cond false n ns = omega arith

    later : (e : ℕ × X) (es : List (ℕ × X)) → T (below_all nat_cmp e.0 es) → (q : ℕ) → is_some (find nat_cmp q es) ≡ true → is_some (find nat_cmp q (e ∷ es)) ≡ true
    later e es low q h = elim (eqb_tells q e.0) [
      | inl a ↦ ap is_some (ap (λ k. find nat_cmp k (e ∷ es)) a.1 ∙ find_here e es)
      | inr a ↦ ap is_some (find_later q e es a.1) ∙ h
    ]

    from : (k : ℕ) (es : List (ℕ × X)) → T (is_sorted nat_cmp es) → T (below_all nat_cmp k es) → ((q : ℕ) → is_some (find nat_cmp q es) ≡ true → q < end) → length (all_in p es) ≤ end - suc k
    from k [] s low below = omega arith
    from k (e ∷ es) s low below =
        let l = less_means k e.0 (and_left _ _ low) in
        let m = below e.0 (ap is_some (find_here e es)) in
        let r = from e.0 es (and_right _ _ s) (and_left _ _ s) (λ q h. below q (later e es (and_left _ _ s) q h)) in
        omega (arith, length-cond (p e.0 e.1) e.0 (all_in p es), l, m, r)

    all : (es : List (ℕ × X)) → T (is_sorted nat_cmp es) → ((q : ℕ) → is_some (find nat_cmp q es) ≡ true → q < end) → length (all_in p es) ≤ end
    all [] s below = omega arith
    all (e ∷ es) s below =
        let m = below e.0 (ap is_some (find_here e es)) in
        let r = from e.0 es (and_right _ _ s) (and_left _ _ s) (λ q h. below q (later e es (and_left _ _ s) q h)) in
        omega (arith, length-cond (p e.0 e.1) e.0 (all_in p es), m, r)

-- ---- the items of an owner

-- with item n, where it has that owner
abbrev pub more : Bool → ℕ → List ℕ → List ℕ
more b n xs = cond b (n ∷ xs) xs

module _ (t : Table ℕ) (n w : ℕ) where
  count-owned : (u : Table ℕ) (o q : ℕ) → count q (owned o u) ≡ passes (λ _ x. nat_eq x o) q (get u q)
  count-owned u o q = count-all_where (λ _ x. nat_eq x o) u q

  more_owned : get t n ≡ None → (o : ℕ) → length (owned o (put t n w)) ≡ length (more (nat_eq w o) n (owned o t))
  more_owned free o = same_length _ _ (λ q.
      count-owned (put t n w) o q ∙ ap (passes (λ _ x. nat_eq x o) q) (get-put t n w q) ∙ elim (eqb_tells q n) [
        | inl p ↦
            let none : count q (owned o t) ≡ 0 = count-owned t o q ∙ ap (passes (λ _ x. nat_eq x o) q) (ap (get t) p.1 ∙ free) in
            ap (λ b. passes (λ _ x. nat_eq x o) q (cond b (Some w) (get t q))) p.0 ∙ one (nat_eq w o) q p.1 none
        | inr p ↦ ap (λ b. passes (λ _ x. nat_eq x o) q (cond b (Some w) (get t q))) p.0 ∙ sym (count-owned t o q) ∙ sym (other (nat_eq w o) q p.1)
      ])
    where
      one : (b : Bool) (q : ℕ) → q ≡ n → count q (owned o t) ≡ 0 → cond b 1 0 ≡ count q (more b n (owned o t))
      one true q e z = omega (arith, z, ap (tick q) (sym e), tick_same q)
      one false q e z = sym z

      other : (b : Bool) (q : ℕ) → q ≢ n → count q (more b n (owned o t)) ≡ count q (owned o t)
      other true q ne = omega (arith, tick_other q n ne)
      other false q ne = refl

  pub owned-put : get t n ≡ None → length (owned w (put t n w)) ≡ length (owned w t) + 1
  owned-put free = more_owned free w ∙ ap (λ b. length (more b n (owned w t))) (eq-eqb w w refl) ∙ omega arith

  pub owned-put_other : get t n ≡ None → (o : ℕ) → o ≢ w → length (owned o (put t n w)) ≡ length (owned o t)
  owned-put_other free o ne = more_owned free o ∙ ap (λ b. length (more b n (owned o t))) (ne_eqb w o (λ e. ne (sym e)))

remove-free : (t : Table ℕ) (n : ℕ) → get (remove t n) n ≡ None
remove-free t n = get-remove t n n ∙ ap (λ b. cond b None (get t n)) (eq-eqb n n refl)

pub owned-remove : (t : Table ℕ) (n w : ℕ) → get t n ≡ Some w → length (owned w t) ≡ length (owned w (remove t n)) + 1
owned-remove t n w there = ap (λ u. length (owned w u)) (sym (put-remove t n w there)) ∙ owned-put (remove t n) n w (remove-free t n)

pub owned-remove_other : (t : Table ℕ) (n w : ℕ) → get t n ≡ Some w → (o : ℕ) → o ≢ w → length (owned o t) ≡ length (owned o (remove t n))
owned-remove_other t n w there o ne = ap (λ u. length (owned o u)) (sym (put-remove t n w there)) ∙ owned-put_other (remove t n) n w (remove-free t n) o ne
