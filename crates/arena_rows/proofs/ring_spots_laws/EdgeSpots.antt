-- The nodes where a half-edge starts elsewhere, where an edge wakes and where one goes to sleep.
use Rattle.arena_rows.proofs.Prelude.{◌≡◌, ◌≢◌, ℕ, ◌≤◌, ◌<◌, Bool, true, false, cond, nat_lt, nat_le, ◌&&◌, List, [], ◌∷◌, Option, Some, None, is_some, unwrap_or, refl, sym, ap, subst, ◌∙◌, arith, true≢false, eq-eqb, ne_eqb, ◌⊎◌, inl, inr, nat_tests, eqb_tells, false_from_ne_true, RingMap, Spot, spot, next_of, or_zero, of_spot, ring_of_one, IsIn, head_or, tick_le, IsIn_head, canonical_one, plus, minus, edge_of, is_first, mate, Table, get, put, remove, tabulate, get-put, get-remove, same_table, EdgeRow, no_edge, plus_row, minus_row, mate-mate, mate_plus, mate_minus, and_first, and_second, IsIn_one, Spots, codes, edges_end, live, next, label, tail_at, ring, map_spot, woken, asleep, IsRingOf, AreRings, edge_row, both_tails, loose_row, edge_room, set_tail}
use Rattle.arena_rows.proofs.ring_spots_laws.RingMaps.{next_some}
use Rattle.arena_rows.proofs.ring_spots_laws.SpotLaws.{AreRings-set_tail, live-set_tail, ring_kept, ring_of, ring_same, next_in_ring}
use Rattle.arena_rows.proofs.ring_spots_laws.SpotTables.{half_is, row_live, edges_at, loose_row_is, loose_at, loose_row_means, loose_dead, loose_kept, codes_are, edge_has, edge_has_room}

module _ (sp : Spots) (R : AreRings sp) where
  module _ (h v : ℕ) (a : live sp h ≡ true) where
    abbrev moved : Spots
    moved = set_tail sp h v

    -- the rings are rings where h starts at v
    m_rings : AreRings moved
    m_rings = AreRings-set_tail sp R h v

    -- h starts at v
    tail_here : (x : ℕ) → live sp x ≡ true → x ≡ h → tail_at moved x ≡ v
    tail_here x b e = ap (λ t. or_zero (of_spot (λ s. s.tail) (cond t (map_spot (λ s. record s { tail = v }) (sp x)) (sp x)))) (eq-eqb x h e) ∙ tail_written (sp x) b where
      -- a tail that is written is read back
      tail_written : (o : Option Spot) → is_some o ≡ true → or_zero (of_spot (λ s. s.tail) (map_spot (λ s. record s { tail = v }) o)) ≡ v
      tail_written None n = absurd (true≢false (sym n))
      tail_written (Some s) n = refl

    -- nothing changes at another code
    spot_there : (x : ℕ) → x ≢ h → moved x ≡ sp x
    spot_there x n = ap (λ t. cond t (map_spot (λ s. record s { tail = v }) (sp x)) (sp x)) (ne_eqb x h n)

    abbrev old : EdgeRow
    old = record { plus_tail = tail_at sp (plus (edge_of h)); minus_tail = tail_at sp (minus (edge_of h)) }

    abbrev changed : EdgeRow → EdgeRow
    changed row = cond (is_first h) (record row { plus_tail = v }) (record row { minus_tail = v })

    -- the row of h's edge has the new tail
    row_new : edge_row moved (edge_of h) ≡ Some (changed old)
    row_new = row_live moved m_rings h (live-set_tail sp h v h ∙ a) ∙ elim (half_is h) [
      | inl p ↦
          let other : minus (edge_of h) ≢ h = λ e. omega arith in
          (λ i. Some (record { plus_tail = tail_here (plus (edge_of h)) (ap (live sp) (sym p.0) ∙ a) (sym p.0) i; minus_tail = or_zero (of_spot (λ s. s.tail) (spot_there (minus (edge_of h)) other i)) }))
          ∙ sym (ap (λ b. Some (cond b (record old { plus_tail = v }) (record old { minus_tail = v }))) p.1)
      | inr p ↦
          let other : plus (edge_of h) ≢ h = λ e. omega arith in
          (λ i. Some (record { plus_tail = or_zero (of_spot (λ s. s.tail) (spot_there (plus (edge_of h)) other i)); minus_tail = tail_here (minus (edge_of h)) (ap (live sp) (sym p.0) ∙ a) (sym p.0) i }))
          ∙ sym (ap (λ b. Some (cond b (record old { plus_tail = v }) (record old { minus_tail = v }))) p.1)
    ]

    -- the rows of other edges stay
    row_other : (e : ℕ) → e ≢ edge_of h → edge_row moved e ≡ edge_row sp e
    row_other e n =
        let p : plus e ≢ h = λ q. n (sym (plus_row e).0 ∙ ap edge_of q) in
        let m : minus e ≢ h = λ q. n (sym (minus_row e).0 ∙ ap edge_of q) in
        λ i. both_tails (spot_there (plus e) p i) (spot_there (minus e) m i)

    -- one row is written to the table of edges
    pub edges_tail : tabulate (edge_row moved) codes ≡ put (tabulate (edge_row sp) codes) (edge_of h) (changed (unwrap_or (get (tabulate (edge_row sp) codes) (edge_of h)) no_edge))
    edges_tail = same_table (tabulate (edge_row moved) codes) (put (tabulate (edge_row sp) codes) (edge_of h) (changed (unwrap_or (get (tabulate (edge_row sp) codes) (edge_of h)) no_edge))) (λ e. edges_at moved m_rings e ∙ elim (eqb_tells e (edge_of h)) [
      | inl p ↦ ap (edge_row moved) p.1 ∙ row_new ∙ ap (λ o. Some (changed (unwrap_or o no_edge))) (sym (edges_at sp R (edge_of h) ∙ row_live sp R h a))
          ∙ sym (get-put (tabulate (edge_row sp) codes) (edge_of h) _ e ∙ ap (λ b. cond b (Some (changed (unwrap_or (get (tabulate (edge_row sp) codes) (edge_of h)) no_edge))) (get (tabulate (edge_row sp) codes) e)) p.0)
      | inr p ↦ row_other e p.1 ∙ sym (edges_at sp R e)
          ∙ sym (get-put (tabulate (edge_row sp) codes) (edge_of h) _ e ∙ ap (λ b. cond b (Some (changed (unwrap_or (get (tabulate (edge_row sp) codes) (edge_of h)) no_edge))) (get (tabulate (edge_row sp) codes) e)) p.0)
    ])

  module _ (e u v : ℕ) (limit : e ≤ 1000000) (dead_plus : live sp (plus e) ≡ false) (dead_minus : live sp (minus e) ≡ false) where
    abbrev wide : Spots
    wide = woken (woken sp (plus e) u) (minus e) v

    -- a ring of one stands at the edge's second code, and one at its first
    pub w_minus : wide (minus e) ≡ Some (ring_of_one (minus e) v)
    w_minus = ap (λ b. cond b (Some (ring_of_one (minus e) v)) (woken sp (plus e) u (minus e))) (eq-eqb (minus e) (minus e) refl)

    pub w_plus : wide (plus e) ≡ Some (ring_of_one (plus e) u)
    w_plus = ap (λ b. cond b (Some (ring_of_one (minus e) v)) (woken sp (plus e) u (plus e))) (ne_eqb (plus e) (minus e) (λ q. omega arith)) ∙ ap (λ b. cond b (Some (ring_of_one (plus e) u)) (sp (plus e))) (eq-eqb (plus e) (plus e) refl)

    -- at each other code stands what stood there
    pub w_other : (x : ℕ) → x ≢ plus e → x ≢ minus e → wide x ≡ sp x
    w_other x n m = ap (λ b. cond b (Some (ring_of_one (minus e) v)) (woken sp (plus e) u x)) (ne_eqb x (minus e) m) ∙ ap (λ b. cond b (Some (ring_of_one (plus e) u)) (sp x)) (ne_eqb x (plus e) n)

    -- so it does at each live one, which is none of the two
    pub w_old : (x : ℕ) → live sp x ≡ true → wide x ≡ sp x
    w_old x a = w_other x (λ q. true≢false (sym (ap (live sp) (sym q) ∙ a) ∙ dead_plus)) (λ q. true≢false (sym (ap (live sp) (sym q) ∙ a) ∙ dead_minus))

    -- a live code is new or old
    pub w_cases : (x : ℕ) → live wide x ≡ true → (x ≡ plus e) ⊎ ((x ≡ minus e) ⊎ (live sp x ≡ true))
    w_cases x a = elim (eqb_tells x (plus e)) [
      | inl p ↦ inl p.1
      | inr p ↦ elim (eqb_tells x (minus e)) [ inl q ↦ inr (inl q.1) | inr q ↦ inr (inr (sym (ap is_some (w_other x p.1 q.1)) ∙ a)) ]
    ]

    -- each live code is below the limit
    w_bound : (x : ℕ) → live wide x ≡ true → x < codes
    w_bound x a = elim (w_cases x a) [ inl p ↦ omega (arith, codes_are) | inr (inl q) ↦ omega (arith, codes_are) | inr (inr b) ↦ R.bound x b ]

    -- a live code that leads to itself is a ring of one
    one_ring : (x : ℕ) → next wide x ≡ x → live wide x ≡ true → (ring wide x ≡ x ∷ []) × IsRingOf wide x (ring wide x)
    one_ring x n a = ring_of wide w_bound x (x ∷ []) (record {
      leads = (n, tt);
      apart = λ y. omega (arith, tick_le y x);
      item = IsIn_head x [];
      awake = λ y i. ap (live wide) (IsIn_one x y i) ∙ a;
      one_label = λ y i. ap (label wide) (IsIn_one x y i);
    }) (canonical_one x)

    -- a code that was live keeps its ring
    pub old_ring : (c : ℕ) → live sp c ≡ true → (ring wide c ≡ ring sp c) × IsRingOf wide c (ring wide c)
    old_ring c a = ring_kept sp wide R c a (λ x _ b. ap is_some (w_old x b) ∙ b) w_bound
        (λ x i. ap (λ o. or_zero (of_spot (λ s. s.next) o)) (w_old x ((R.rings c a).awake x i)))
        (λ x i. ap (λ o. or_zero (of_spot (λ s. s.label) o)) (w_old x ((R.rings c a).awake x i)) ∙ (R.rings c a).one_label x i ∙ sym (ap (λ o. or_zero (of_spot (λ s. s.label) o)) (w_old c a)))

    -- the two codes are live
    l_plus : live wide (plus e) ≡ true
    l_plus = ap is_some w_plus

    l_minus : live wide (minus e) ≡ true
    l_minus = ap is_some w_minus

    -- each of the two is a ring of one
    pub r_plus : (ring wide (plus e) ≡ plus e ∷ []) × IsRingOf wide (plus e) (ring wide (plus e))
    r_plus = one_ring (plus e) (ap (λ o. or_zero (of_spot (λ s. s.next) o)) w_plus) l_plus

    pub r_minus : (ring wide (minus e) ≡ minus e ∷ []) × IsRingOf wide (minus e) (ring wide (minus e))
    r_minus = one_ring (minus e) (ap (λ o. or_zero (of_spot (λ s. s.next) o)) w_minus) l_minus

    -- the rings are rings once the edge wakes
    pub w_rings : AreRings wide
    w_rings = record {
      bound = w_bound;
      rings = λ c a. elim (w_cases c a) [
        | inl p ↦ subst (λ x. IsRingOf wide x (ring wide x)) (sym p) r_plus.1
        | inr (inl p) ↦ subst (λ x. IsRingOf wide x (ring wide x)) (sym p) r_minus.1
        | inr (inr b) ↦ (old_ring c b).1
      ];
      mates = λ c a. elim (w_cases c a) [
        | inl p ↦ ap (λ x. live wide (mate x)) p ∙ ap (live wide) (mate_plus e) ∙ l_minus
        | inr (inl p) ↦ ap (λ x. live wide (mate x)) p ∙ ap (live wide) (mate_minus e) ∙ l_plus
        | inr (inr b) ↦ let m = R.mates c b in ap is_some (w_old (mate c) m) ∙ m
      ];
    }

    -- a code that was live keeps its label
    pub w_label : (x : ℕ) → live sp x ≡ true → label wide x ≡ label sp x
    w_label x a = ap (λ o. or_zero (of_spot (λ s. s.label) o)) (w_old x a)

    -- each other code leads the loose ring that it led
    w_loose_old : (k : ℕ) → k ≢ plus e → k ≢ minus e → loose_row wide k ≡ loose_row sp k
    w_loose_old k n m = loose_kept sp wide k (ap is_some (w_other k n m)) (λ h. (w_label k h, (old_ring k h).0))

    -- each of the two leads a loose ring of one
    w_loose_plus : loose_row wide (plus e) ≡ Some (plus e ∷ [])
    w_loose_plus = loose_row_is wide w_rings (plus e) l_plus (ap (λ o. or_zero (of_spot (λ s. s.label) o)) w_plus) (ap (head_or 0) r_plus.0) ∙ ap Some r_plus.0

    w_loose_minus : loose_row wide (minus e) ≡ Some (minus e ∷ [])
    w_loose_minus = loose_row_is wide w_rings (minus e) l_minus (ap (λ o. or_zero (of_spot (λ s. s.label) o)) w_minus) (ap (head_or 0) r_minus.0) ∙ ap Some r_minus.0

    abbrev loose1 : Table (List ℕ)
    loose1 = put (tabulate (loose_row sp) codes) (plus e) (plus e ∷ [])

    -- two rings are put to the table of loose rings
    pub w_loose : tabulate (loose_row wide) codes ≡ put loose1 (minus e) (minus e ∷ [])
    w_loose = same_table (tabulate (loose_row wide) codes) (put loose1 (minus e) (minus e ∷ [])) (λ k. loose_at wide w_rings k ∙ elim (eqb_tells k (minus e)) [
      | inl p ↦ ap (loose_row wide) p.1 ∙ w_loose_minus ∙ sym (get-put loose1 (minus e) (minus e ∷ []) k ∙ ap (λ b. cond b (Some (minus e ∷ [])) (get loose1 k)) p.0)
      | inr p ↦ elim (eqb_tells k (plus e)) [
        | inl r ↦ ap (loose_row wide) r.1 ∙ w_loose_plus ∙ sym (get-put loose1 (minus e) (minus e ∷ []) k ∙ ap (λ b. cond b (Some (minus e ∷ [])) (get loose1 k)) p.0 ∙ get-put (tabulate (loose_row sp) codes) (plus e) (plus e ∷ []) k ∙ ap (λ b. cond b (Some (plus e ∷ [])) (get (tabulate (loose_row sp) codes) k)) r.0)
        | inr r ↦ w_loose_old k r.1 p.1 ∙ sym (loose_at sp R k) ∙ sym (get-put loose1 (minus e) (minus e ∷ []) k ∙ ap (λ b. cond b (Some (minus e ∷ [])) (get loose1 k)) p.0 ∙ get-put (tabulate (loose_row sp) codes) (plus e) (plus e ∷ []) k ∙ ap (λ b. cond b (Some (plus e ∷ [])) (get (tabulate (loose_row sp) codes) k)) r.0)
      ]
    ])

    abbrev new_row : EdgeRow
    new_row = record { plus_tail = u; minus_tail = v }

    -- one row is put to the table of edges
    pub w_edges : tabulate (edge_row wide) codes ≡ put (tabulate (edge_row sp) codes) e new_row
    w_edges = same_table (tabulate (edge_row wide) codes) (put (tabulate (edge_row sp) codes) e new_row) (λ k. edges_at wide w_rings k ∙ elim (eqb_tells k e) [
      | inl p ↦ ap (edge_row wide) p.1 ∙ (λ i. both_tails (w_plus i) (w_minus i)) ∙ sym (get-put (tabulate (edge_row sp) codes) e new_row k ∙ ap (λ b. cond b (Some new_row) (get (tabulate (edge_row sp) codes) k)) p.0)
      | inr p ↦
          (λ i. both_tails (w_other (plus k) (λ q. p.1 (omega arith)) (λ q. omega arith) i) (w_other (minus k) (λ q. omega arith) (λ q. p.1 (omega arith)) i))
          ∙ sym (edges_at sp R k) ∙ sym (get-put (tabulate (edge_row sp) codes) e new_row k ∙ ap (λ b. cond b (Some new_row) (get (tabulate (edge_row sp) codes) k)) p.0)
    ])

  -- an edge whose two half-edges are rings of one
  module _ (e : ℕ) (one_plus : ring sp (plus e) ≡ plus e ∷ []) (one_minus : ring sp (minus e) ≡ minus e ∷ []) where
    abbrev gone : Spots
    gone = asleep (asleep sp (plus e)) (minus e)

    -- nothing stands at the two codes once they sleep
    s_minus : gone (minus e) ≡ None
    s_minus = ap (λ b. cond b None (asleep sp (plus e) (minus e))) (eq-eqb (minus e) (minus e) refl)

    s_plus : gone (plus e) ≡ None
    s_plus = ap (λ b. cond b None (asleep sp (plus e) (plus e))) (ne_eqb (plus e) (minus e) (λ q. omega arith)) ∙ ap (λ b. cond b None (sp (plus e))) (eq-eqb (plus e) (plus e) refl)

    -- at each other code stands what stood there
    pub s_other : (x : ℕ) → x ≢ plus e → x ≢ minus e → gone x ≡ sp x
    s_other x n m = ap (λ b. cond b None (asleep sp (plus e) x)) (ne_eqb x (minus e) m) ∙ ap (λ b. cond b None (sp x)) (ne_eqb x (plus e) n)

    -- what is live still
    pub s_left : (x : ℕ) → live gone x ≡ true → (x ≢ plus e) × (x ≢ minus e) × (live sp x ≡ true)
    s_left x a =
        let n : x ≢ plus e = λ q. true≢false (sym a ∙ ap (live gone) q ∙ ap is_some s_plus) in
        let m : x ≢ minus e = λ q. true≢false (sym a ∙ ap (live gone) q ∙ ap is_some s_minus) in
        (n, m, sym (ap is_some (s_other x n m)) ∙ a)

    -- each live code is below the limit
    s_bound : (x : ℕ) → live gone x ≡ true → x < codes
    s_bound x a = R.bound x (s_left x a).2

    -- the items of another ring are other codes
    s_item : (c x : ℕ) → live sp c ≡ true → c ≢ plus e → c ≢ minus e → IsIn x (ring sp c) → gone x ≡ sp x
    s_item c x a n m i = s_other x
        (λ q. n (IsIn_one (plus e) c (subst (IsIn c) (sym (ring_same sp R c x a i) ∙ ap (ring sp) q ∙ one_plus) (R.rings c a).item)))
        (λ q. m (IsIn_one (minus e) c (subst (IsIn c) (sym (ring_same sp R c x a i) ∙ ap (ring sp) q ∙ one_minus) (R.rings c a).item)))

    -- each other live code keeps its ring
    pub s_ring : (c : ℕ) → live sp c ≡ true → c ≢ plus e → c ≢ minus e → (ring gone c ≡ ring sp c) × IsRingOf gone c (ring gone c)
    s_ring c a n m = ring_kept sp gone R c a (λ x i b. ap is_some (s_item c x a n m i) ∙ b) s_bound
        (λ x i. ap (λ o. or_zero (of_spot (λ s. s.next) o)) (s_item c x a n m i))
        (λ x i. ap (λ o. or_zero (of_spot (λ s. s.label) o)) (s_item c x a n m i) ∙ (R.rings c a).one_label x i ∙ sym (ap (λ o. or_zero (of_spot (λ s. s.label) o)) (s_other c n m)))

    -- the rings are rings once the edge sleeps
    pub s_rings : AreRings gone
    s_rings = record {
      bound = s_bound;
      rings = λ c a. let l = s_left c a in (s_ring c l.2 l.0 l.1).1;
      mates = λ c a. let l = s_left c a in
          let n : mate c ≢ plus e = λ q. l.1 (sym (mate-mate c) ∙ ap mate q ∙ mate_plus e) in
          let m : mate c ≢ minus e = λ q. l.0 (sym (mate-mate c) ∙ ap mate q ∙ mate_minus e) in
          ap is_some (s_other (mate c) n m) ∙ R.mates c l.2;
    }

  -- a loose code that is alone in its ring
  module _ (k : ℕ) (at : get (tabulate (loose_row sp) codes) k ≡ Some (k ∷ [])) where
    -- a ring of the table is loose, and led by its first item
    alone_code : (live sp k ≡ true) × (label sp k ≡ 0) × (head_or 0 (ring sp k) ≡ k) × (ring sp k ≡ k ∷ [])
    alone_code = loose_row_means sp R k (k ∷ []) (sym (loose_at sp R k) ∙ at)

    -- the ring of such a code has no other item
    pub alone_ring : ring sp k ≡ k ∷ []
    alone_ring = alone_code.3

    -- such a code leads to itself
    alone_next : next sp k ≡ k
    alone_next = IsIn_one k (next sp k) (subst (IsIn (next sp k)) alone_ring (next_in_ring sp R k alone_code.0))

  -- an edge whose two half-edges are loose, each alone
  module _ (e : ℕ) (at_plus : get (tabulate (loose_row sp) codes) (plus e) ≡ Some (plus e ∷ [])) (at_minus : get (tabulate (loose_row sp) codes) (minus e) ≡ Some (minus e ∷ [])) where
    abbrev less : Spots
    less = asleep (asleep sp (plus e)) (minus e)

    -- each of the two half-edges is a ring of one
    one_plus : ring sp (plus e) ≡ plus e ∷ []
    one_plus = alone_ring (plus e) at_plus

    one_minus : ring sp (minus e) ≡ minus e ∷ []
    one_minus = alone_ring (minus e) at_minus

    -- each other code keeps its label
    pub s_label : (x : ℕ) → x ≢ plus e → x ≢ minus e → label less x ≡ label sp x
    s_label x n m = ap (λ o. or_zero (of_spot (λ s. s.label) o)) (s_other e one_plus one_minus x n m)

    -- a labelled code is neither
    pub s_named : (x : ℕ) → label sp x ≢ 0 → (x ≢ plus e) × (x ≢ minus e)
    s_named x n = (λ q. n (ap (label sp) q ∙ (alone_code (plus e) at_plus).1), λ q. n (ap (label sp) q ∙ (alone_code (minus e) at_minus).1))

    -- each other code leads the loose ring that it led
    s_loose_old : (k : ℕ) → k ≢ plus e → k ≢ minus e → loose_row less k ≡ loose_row sp k
    s_loose_old k n m = loose_kept sp less k (ap is_some (s_other e one_plus one_minus k n m)) (λ h. (s_label k n m, (s_ring e one_plus one_minus k h n m).0))

    abbrev loose2 : Table (List ℕ)
    loose2 = remove (tabulate (loose_row sp) codes) (plus e)

    -- two rings go from the table of loose rings
    pub s_loose : tabulate (loose_row less) codes ≡ remove loose2 (minus e)
    s_loose = same_table (tabulate (loose_row less) codes) (remove loose2 (minus e)) (λ k. loose_at less (s_rings e one_plus one_minus) k ∙ elim (eqb_tells k (minus e)) [
      | inl p ↦ ap (loose_row less) p.1 ∙ loose_dead less (minus e) (ap is_some (s_minus e one_plus one_minus)) ∙ sym (get-remove loose2 (minus e) k ∙ ap (λ b. cond b None (get loose2 k)) p.0)
      | inr p ↦ elim (eqb_tells k (plus e)) [
        | inl r ↦ ap (loose_row less) r.1 ∙ loose_dead less (plus e) (ap is_some (s_plus e one_plus one_minus)) ∙ sym (get-remove loose2 (minus e) k ∙ ap (λ b. cond b None (get loose2 k)) p.0 ∙ get-remove (tabulate (loose_row sp) codes) (plus e) k ∙ ap (λ b. cond b None (get (tabulate (loose_row sp) codes) k)) r.0)
        | inr r ↦ s_loose_old k r.1 p.1 ∙ sym (loose_at sp R k) ∙ sym (get-remove loose2 (minus e) k ∙ ap (λ b. cond b None (get loose2 k)) p.0 ∙ get-remove (tabulate (loose_row sp) codes) (plus e) k ∙ ap (λ b. cond b None (get (tabulate (loose_row sp) codes) k)) r.0)
      ]
    ])

    -- one row goes from the table of edges
    pub s_edges : tabulate (edge_row less) codes ≡ remove (tabulate (edge_row sp) codes) e
    s_edges = same_table (tabulate (edge_row less) codes) (remove (tabulate (edge_row sp) codes) e) (λ k. edges_at less (s_rings e one_plus one_minus) k ∙ elim (eqb_tells k e) [
      | inl p ↦ ap (edge_row less) p.1 ∙ (λ i. both_tails (s_plus e one_plus one_minus i) (less (minus e))) ∙ sym (get-remove (tabulate (edge_row sp) codes) e k ∙ ap (λ b. cond b None (get (tabulate (edge_row sp) codes) k)) p.0)
      | inr p ↦
          (λ i. both_tails (s_other e one_plus one_minus (plus k) (λ q. p.1 (omega arith)) (λ q. omega arith) i) (s_other e one_plus one_minus (minus k) (λ q. omega arith) (λ q. p.1 (omega arith)) i))
          ∙ sym (edges_at sp R k) ∙ sym (get-remove (tabulate (edge_row sp) codes) e k ∙ ap (λ b. cond b None (get (tabulate (edge_row sp) codes) k)) p.0)
    ])

-- such an edge can be taken
pub edge_alone : (m : RingMap) (R : AreRings (spot m)) (e : ℕ) → (get (tabulate (loose_row (spot m)) codes) (plus e) ≡ Some (plus e ∷ [])) → (get (tabulate (loose_row (spot m)) codes) (minus e) ≡ Some (minus e ∷ [])) →
    record { limit : e ≤ 1000000; first : next_of m (plus e) ≡ Some (plus e); second : next_of m (minus e) ≡ Some (minus e) }
edge_alone m R e at_plus at_minus =
    let below = R.bound (plus e) (alone_code (spot m) R (plus e) at_plus).0 in
    record { limit = omega (arith, codes_are); first = next_alone (plus e) at_plus; second = next_alone (minus e) at_minus }
  where
    next_alone : (k : ℕ) → get (tabulate (loose_row (spot m)) codes) k ≡ Some (k ∷ []) → next_of m k ≡ Some k
    next_alone k at = next_some m k (alone_code (spot m) R k at).0 ∙ ap Some (alone_next (spot m) R k at)

-- what the room of a free edge says
pub record IsFree (sp : Spots) (known : ℕ → Bool) (e : ℕ) : Type 0 where
  pub limit : e ≤ 1000000
  pub some : e ≢ 0
  pub known_plus : known (plus e) ≡ true
  pub known_minus : known (minus e) ≡ true
  pub dead_plus : live sp (plus e) ≡ false
  pub dead_minus : live sp (minus e) ≡ false

-- a number that has its room and no edge is free
pub free_edge : (sp : Spots) (known : ℕ → Bool) → AreRings sp → (e : ℕ) → is_some (get (tabulate (edge_room known) edges_end) e) ≡ true → is_some (get (tabulate (edge_row sp) codes) e) ≡ false → IsFree sp known e
free_edge sp known R e room free =
    let r = sym (edge_has_room known e) ∙ room in
    let f = sym (edge_has sp R e) ∙ free in
    let within = and_first (nat_le e 1000000) _ r in
    let rest = and_second (nat_le e 1000000) _ r in
    let keys = and_second (nat_lt 0 e) _ rest in
    let positive = and_first (nat_lt 0 e) _ rest in
    let dead : live sp (plus e) ≡ false = sym (ap (λ b. b && live sp (plus e)) within) ∙ f in
    record {
      limit = grind (arith, nat_tests);
      some = grind (arith, nat_tests);
      known_plus = and_first (known (plus e)) _ keys;
      known_minus = and_second (known (plus e)) _ keys;
      dead_plus = dead;
      dead_minus = false_from_ne_true (live sp (minus e)) (λ h. true≢false (sym (sym (ap (live sp) (mate_minus e)) ∙ R.mates (minus e) h) ∙ dead));
    }
