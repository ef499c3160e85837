-- The tables of edges and of loose rings, and what becomes of them where the nodes change.
use Rattle.arena_rows.proofs.Prelude.{◌≡◌, ◌≢◌, ℕ, ◌+◌, ◌*◌, ◌≤◌, ◌<◌, Bool, true, false, cond, nat_eq, nat_lt, nat_le, ◌&&◌, List, [], Option, Some, None, is_some, unwrap_or, refl, sym, ap, subst, ◌∙◌, arith, true≢false, eq-eqb, ne_eqb, ◌⊎◌, inl, inr, eqb-true, nat_tests, eqb_tells, same_Some, Spot, or_zero, of_spot, count, IsIn, head_or, least, least_in, IsIn_or_not, head_canonical, plus, minus, edge_of, is_first, mate, code, HalfEdge, get, put, remove, empty, tabulate, first_where, get-tabulate, get-empty, get-put, get-remove, same_table, cycle, EdgeRow, holds, mate_cases, mate_plus, first_where_is, holds_in, in-holds, and_first, and_second, and_false, Spots, codes, edges_end, live, label, tail_at, ring, map_spot, is_in, spliced, labelled, AreRings, edge_row, both_tails, loose_row, edge_room}
use Rattle.arena_rows.proofs.ring_spots_laws.SpotLaws.{either, ring_same, canonical_ring}

-- a half-edge is the first or the second one of its edge, and its mate is the other
pub half_is : (h : ℕ) → ((h ≡ plus (edge_of h)) × (is_first h ≡ true) × (mate h ≡ minus (edge_of h))) ⊎ ((h ≡ minus (edge_of h)) × (is_first h ≡ false) × (mate h ≡ plus (edge_of h)))
unfolding edge_of
half_is h = elim (mate_cases h) [ inl p ↦ inl (omega arith, p.2, omega arith) | inr p ↦ inr (omega arith, p.2, omega arith) ]

-- an edge that has a row has both its codes live
both_some : (o p : Option Spot) → is_some (both_tails o p) ≡ true → (is_some o ≡ true) × (is_some p ≡ true)
both_some (Some s) (Some t) h = (refl, refl)
both_some (Some s) None h = absurd (true≢false (sym h))
both_some None o h = absurd (true≢false (sym h))

-- an edge of which both codes are live has a row, with their tails
some_both : (o p : Option Spot) → is_some o ≡ true → is_some p ≡ true → both_tails o p ≡ Some (record { plus_tail = or_zero (of_spot (λ s. s.tail) o); minus_tail = or_zero (of_spot (λ s. s.tail) p) })
some_both (Some s) (Some t) h k = refl
some_both (Some s) None h k = absurd (true≢false (sym k))
some_both None o h k = absurd (true≢false (sym h))

module _ (sp : Spots) (R : AreRings sp) where
  -- past the limit no edge has a row
  none_far : (e : ℕ) → codes ≤ e → edge_row sp e ≡ None
  none_far e h = no_far_edge (sp (plus e)) refl where
    no_far_edge : (o : Option Spot) → sp (plus e) ≡ o → both_tails o (sp (minus e)) ≡ None
    no_far_edge None q = refl
    no_far_edge (Some s) q = let b = R.bound (plus e) (ap is_some q) in absurd (omega arith)

  -- the table of edges has the row of each edge
  pub edges_at : (e : ℕ) → get (tabulate (edge_row sp) codes) e ≡ edge_row sp e
  edges_at e = get-tabulate (edge_row sp) codes e ∙ edge_row_bounded (nat_lt e codes) refl where
    edge_row_bounded : (b : Bool) → nat_lt e codes ≡ b → cond b (edge_row sp e) None ≡ edge_row sp e
    edge_row_bounded true q = refl
    edge_row_bounded false q = let p : codes ≤ e = grind (arith, nat_tests) in sym (none_far e p)

  -- both codes of an edge of the table are live
  pub edge_live : (e : ℕ) → is_some (get (tabulate (edge_row sp) codes) e) ≡ true → (live sp (plus e) ≡ true) × (live sp (minus e) ≡ true)
  edge_live e h = both_some (sp (plus e)) (sp (minus e)) (sym (ap is_some (edges_at e)) ∙ h)

  -- a half-edge is live where its edge is in the table
  pub half_live : (h : ℕ) → is_some (get (tabulate (edge_row sp) codes) (edge_of h)) ≡ true → live sp h ≡ true
  half_live h e = let both = edge_live (edge_of h) e in elim (half_is h) [ inl p ↦ ap (live sp) p.0 ∙ both.0 | inr p ↦ ap (live sp) p.0 ∙ both.1 ]

  -- both codes of a live code's edge are live
  pub both_live : (h : ℕ) → live sp h ≡ true → (live sp (plus (edge_of h)) ≡ true) × (live sp (minus (edge_of h)) ≡ true)
  both_live h a = elim (half_is h) [
    | inl p ↦ (sym (ap (live sp) p.0) ∙ a, sym (ap (live sp) p.2) ∙ R.mates h a)
    | inr p ↦ (sym (ap (live sp) p.2) ∙ R.mates h a, sym (ap (live sp) p.0) ∙ a)
  ]

  -- a live code's edge has its row
  pub row_live : (h : ℕ) → live sp h ≡ true → edge_row sp (edge_of h) ≡ Some (record { plus_tail = tail_at sp (plus (edge_of h)); minus_tail = tail_at sp (minus (edge_of h)) })
  row_live h a = let both = both_live h a in some_both (sp (plus (edge_of h))) (sp (minus (edge_of h))) both.0 both.1

  -- past the limit no code leads a loose ring
  loose_far : (k : ℕ) → codes ≤ k → loose_row sp k ≡ None
  loose_far k h = no_far_ring (live sp k) refl where
    no_far_ring : (b : Bool) → live sp k ≡ b → cond (b && (nat_eq (label sp k) 0 && nat_eq (head_or 0 (ring sp k)) k)) (Some (ring sp k)) None ≡ None
    no_far_ring true q = let b = R.bound k q in absurd (omega arith)
    no_far_ring false q = refl

  -- the table of loose rings has the ring of each code that leads one
  pub loose_at : (k : ℕ) → get (tabulate (loose_row sp) codes) k ≡ loose_row sp k
  loose_at k = get-tabulate (loose_row sp) codes k ∙ loose_row_bounded (nat_lt k codes) refl where
    loose_row_bounded : (b : Bool) → nat_lt k codes ≡ b → cond b (loose_row sp k) None ≡ loose_row sp k
    loose_row_bounded true q = refl
    loose_row_bounded false q = let p : codes ≤ k = grind (arith, nat_tests) in sym (loose_far k p)

  -- a ring's first item stands in it
  pub head_in : (h : ℕ) → live sp h ≡ true → IsIn (head_or 0 (ring sp h)) (ring sp h)
  head_in h a =
      let e : head_or 0 (ring sp h) ≡ least (ring sp h) = ap (head_or 0) (sym (canonical_ring sp R h a)) ∙ head_canonical (ring sp h) in
      subst (λ z. IsIn z (ring sp h)) (sym e) (least_in (ring sp h) h (R.rings h a).item)

  -- a live code leads its ring as a loose one where it is in no loop and the first item
  pub loose_row_is : (k : ℕ) → live sp k ≡ true → label sp k ≡ 0 → head_or 0 (ring sp k) ≡ k → loose_row sp k ≡ Some (ring sp k)
  loose_row_is k a z e = ap (λ b. cond b (Some (ring sp k)) None)
      (ap (λ b. b && (nat_eq (label sp k) 0 && nat_eq (head_or 0 (ring sp k)) k)) a ∙ ap (λ b. b && nat_eq (head_or 0 (ring sp k)) k) (eq-eqb (label sp k) 0 z) ∙ eq-eqb (head_or 0 (ring sp k)) k e)

  -- a code that leads a loose ring is live, in no loop and the first item of it
  pub loose_row_means : (k : ℕ) (hs : List ℕ) → loose_row sp k ≡ Some hs → (live sp k ≡ true) × (label sp k ≡ 0) × (head_or 0 (ring sp k) ≡ k) × (ring sp k ≡ hs)
  loose_row_means k hs is = test_means (live sp k && (nat_eq (label sp k) 0 && nat_eq (head_or 0 (ring sp k)) k)) refl is where
    test_means : (b : Bool) → live sp k && (nat_eq (label sp k) 0 && nat_eq (head_or 0 (ring sp k)) k) ≡ b → cond b (Some (ring sp k)) None ≡ Some hs → (live sp k ≡ true) × (label sp k ≡ 0) × (head_or 0 (ring sp k) ≡ k) × (ring sp k ≡ hs)
    test_means true e s = let r = and_second (live sp k) _ e in
        (and_first (live sp k) _ e, eqb-true _ _ (and_first (nat_eq (label sp k) 0) _ r), eqb-true _ _ (and_second (nat_eq (label sp k) 0) _ r), same_Some _ _ s)
    test_means false e s = cc

  -- the loose ring of a live code that is in no loop
  module _ (h : ℕ) (a : live sp h ≡ true) (z : label sp h ≡ 0) where
    abbrev front : ℕ
    front = head_or 0 (ring sp h)

    -- the ring stands under its first item
    pub front_row : loose_row sp front ≡ Some (ring sp h)
    front_row =
        let i = head_in h a in let e = ring_same sp R h front a i in
        loose_row_is front ((R.rings h a).awake front i) ((R.rings h a).one_label front i ∙ z) (ap (head_or 0) e) ∙ ap Some e

    -- the search for a ring that holds the code finds this first item
    pub key_is : first_where (λ _ hs. holds h (cycle hs)) (tabulate (loose_row sp) codes) ≡ front
    key_is = first_where_is (λ _ hs. holds h (cycle hs)) (tabulate (loose_row sp) codes) front (ring sp h) (loose_at front ∙ front_row) (in-holds h (cycle (ring sp h)) (R.rings h a).item)
        (λ q hs at held. let p = loose_row_means q hs (sym (loose_at q) ∙ at) in
        let i : IsIn h (ring sp q) = subst (IsIn h) (sym p.3) (holds_in h (cycle hs) held) in
        sym p.2 ∙ ap (head_or 0) (sym (ring_same sp R q h p.0 i)))

    -- so the ring that is found is the code's
    pub got_loose : unwrap_or (get (tabulate (loose_row sp) codes) (first_where (λ _ hs. holds h (cycle hs)) (tabulate (loose_row sp) codes))) [] ≡ ring sp h
    got_loose = ap (λ k. unwrap_or (get (tabulate (loose_row sp) codes) k) []) key_is ∙ ap (λ o. unwrap_or o []) (loose_at front ∙ front_row)

abbrev tails : Option Spot → Option ℕ
tails o = of_spot (λ s. s.tail) o

abbrev both : Option ℕ → Option ℕ → Option EdgeRow
both (Some t) (Some u) = Some (record { plus_tail = t; minus_tail = u })
both (Some t) None = None
both None u = None

-- an edge's row has the two tails and no more
both_is : (o p : Option Spot) → both_tails o p ≡ both (tails o) (tails p)
both_is (Some s) (Some t) = refl
both_is (Some s) None = refl
both_is None p = refl

-- the table of edges stays where the tails do
pub edges_same : (sp new : Spots) → ((q : ℕ) → of_spot (λ s. s.tail) (new q) ≡ of_spot (λ s. s.tail) (sp q)) → tabulate (edge_row new) codes ≡ tabulate (edge_row sp) codes
edges_same sp new e = ap (λ (f : ℕ → Option EdgeRow). tabulate f codes) (λ i k. (both_is (new (plus k)) (new (minus k)) ∙ ap (λ t. both t (tails (new (minus k)))) (e (plus k)) ∙ ap (both (tails (sp (plus k)))) (e (minus k)) ∙ sym (both_is (sp (plus k)) (sp (minus k)))) i)

-- a label changes no tail
tails-label : (l : ℕ) (o : Option Spot) → tails (map_spot (λ s. record s { label = l }) o) ≡ tails o
tails-label l None = refl
tails-label l (Some s) = refl

-- a successor changes no tail
tails-next : (n : ℕ) (o : Option Spot) → tails (map_spot (λ s. record s { next = n }) o) ≡ tails o
tails-next n None = refl
tails-next n (Some s) = refl

-- labels change no tail
pub tails-labelled : (sp : Spots) (l : ℕ) (hs : List ℕ) (q : ℕ) → of_spot (λ s. s.tail) (labelled sp l hs q) ≡ of_spot (λ s. s.tail) (sp q)
tails-labelled sp l hs q = either tails (is_in q hs) _ _ _ (tails-label l (sp q)) refl

-- a splice changes no tail
pub tails-spliced : (sp : Spots) (a b q : ℕ) → of_spot (λ s. s.tail) (spliced sp a b q) ≡ of_spot (λ s. s.tail) (sp q)
tails-spliced sp a b q = tails-next _ (sp q)

-- ---- loose rings

-- a code that is in a loop leads no loose ring
pub loose_none : (sp : Spots) (k : ℕ) → label sp k ≢ 0 → loose_row sp k ≡ None
loose_none sp k n = ap (λ b. cond (live sp k && (b && nat_eq (head_or 0 (ring sp k)) k)) (Some (ring sp k)) None) (ne_eqb (label sp k) 0 n) ∙ none_unless_loose (live sp k) where
  none_unless_loose : (b : Bool) → cond (b && false) (Some (ring sp k)) None ≡ None
  none_unless_loose true = refl
  none_unless_loose false = refl

-- a code that sleeps leads no loose ring
pub loose_dead : (sp : Spots) (k : ℕ) → live sp k ≡ false → loose_row sp k ≡ None
loose_dead sp k n = ap (λ b. cond (b && (nat_eq (label sp k) 0 && nat_eq (head_or 0 (ring sp k)) k)) (Some (ring sp k)) None) n

-- a code that is not the first item of its ring leads no loose ring
pub loose_later : (sp : Spots) (k : ℕ) → head_or 0 (ring sp k) ≢ k → loose_row sp k ≡ None
loose_later sp k n = ap (λ b. cond (live sp k && (nat_eq (label sp k) 0 && b)) (Some (ring sp k)) None) (ne_eqb (head_or 0 (ring sp k)) k n) ∙ none_unless_first (live sp k) (nat_eq (label sp k) 0) where
  none_unless_first : (b d : Bool) → cond (b && (d && false)) (Some (ring sp k)) None ≡ None
  none_unless_first true true = refl
  none_unless_first true false = refl
  none_unless_first false d = refl

-- a code leads the same loose ring where its label and its ring stay
pub loose_alike : (sp new : Spots) (k : ℕ) → live new k ≡ live sp k → label new k ≡ label sp k → ring new k ≡ ring sp k → loose_row new k ≡ loose_row sp k
loose_alike sp new k a l r = λ i. cond (a i && (nat_eq (l i) 0 && nat_eq (head_or 0 (r i)) k)) (Some (r i)) None

-- or the code is dead still
pub loose_kept : (sp new : Spots) (k : ℕ) → live new k ≡ live sp k → (live sp k ≡ true → (label new k ≡ label sp k) × (ring new k ≡ ring sp k)) → loose_row new k ≡ loose_row sp k
loose_kept sp new k a same = row_kept (live sp k) refl where
  row_kept : (b : Bool) → live sp k ≡ b → loose_row new k ≡ loose_row sp k
  row_kept true h = let e = same h in loose_alike sp new k a e.0 e.1
  row_kept false h = loose_dead new k (a ∙ h) ∙ sym (loose_dead sp k h)

-- the table of loose rings stays where each code leads what it led
pub loose_same : (sp new : Spots) → ((k : ℕ) → loose_row new k ≡ loose_row sp k) → tabulate (loose_row new) codes ≡ tabulate (loose_row sp) codes
loose_same sp new e = ap (λ (f : ℕ → Option (List ℕ)). tabulate f codes) (λ i k. e k i)

-- the ring of c is loose now, and its items were not
pub loose_put : (sp new : Spots) → AreRings sp → (N : AreRings new) → (c : ℕ) (hs : List ℕ) → (a : live new c ≡ true) → (z : label new c ≡ 0) → ring new c ≡ hs → ((k : ℕ) → IsIn k hs → loose_row sp k ≡ None) → ((k : ℕ) → count k hs ≡ 0 → loose_row new k ≡ loose_row sp k) →
    tabulate (loose_row new) codes ≡ put (tabulate (loose_row sp) codes) (head_or 0 hs) hs
loose_put sp new R N c hs a z e inside outside =
    same_table (tabulate (loose_row new) codes) (put (tabulate (loose_row sp) codes) (head_or 0 hs) hs) (λ k. loose_at new N k ∙ row_put k ∙ sym (get-put (tabulate (loose_row sp) codes) (head_or 0 hs) hs k ∙ ap (cond (nat_eq k (head_or 0 hs)) (Some hs)) (loose_at sp R k)))
  where
    front : loose_row new (head_or 0 hs) ≡ Some hs
    front = subst (λ w. loose_row new (head_or 0 w) ≡ Some w) e (front_row new N c a z)

    row_put : (k : ℕ) → loose_row new k ≡ cond (nat_eq k (head_or 0 hs)) (Some hs) (loose_row sp k)
    row_put k = elim (eqb_tells k (head_or 0 hs)) [
      | inl p ↦ ap (loose_row new) p.1 ∙ front ∙ sym (ap (λ b. cond b (Some hs) (loose_row sp k)) p.0)
      | inr p ↦ elim (IsIn_or_not k hs) [
        | inl i ↦
            let r : ring new k ≡ hs = ring_same new N c k a (subst (IsIn k) (sym e) i) ∙ e in
            loose_later new k (λ q. p.1 (sym q ∙ ap (head_or 0) r)) ∙ sym (ap (λ b. cond b (Some hs) (loose_row sp k)) p.0 ∙ inside k i)
        | inr n ↦ outside k n ∙ sym (ap (λ b. cond b (Some hs) (loose_row sp k)) p.0)
      ]
    ]

-- the ring of c was loose, and its items are in none now
pub loose_removed : (sp new : Spots) → (R : AreRings sp) → AreRings new → (c : ℕ) → (a : live sp c ≡ true) → ((k : ℕ) → IsIn k (ring sp c) → loose_row new k ≡ None) → ((k : ℕ) → count k (ring sp c) ≡ 0 → loose_row new k ≡ loose_row sp k) →
    tabulate (loose_row new) codes ≡ remove (tabulate (loose_row sp) codes) (head_or 0 (ring sp c))
loose_removed sp new R N c a inside outside = same_table (tabulate (loose_row new) codes) (remove (tabulate (loose_row sp) codes) (head_or 0 (ring sp c))) (λ k. loose_at new N k ∙ row_removed k ∙ sym (get-remove (tabulate (loose_row sp) codes) (head_or 0 (ring sp c)) k ∙ ap (cond (nat_eq k (head_or 0 (ring sp c))) None) (loose_at sp R k))) where
  row_removed : (k : ℕ) → loose_row new k ≡ cond (nat_eq k (head_or 0 (ring sp c))) None (loose_row sp k)
  row_removed k = elim (eqb_tells k (head_or 0 (ring sp c))) [
    | inl p ↦ inside k (subst (λ z. IsIn z (ring sp c)) (sym p.1) (head_in sp R c a)) ∙ sym (ap (λ b. cond b None (loose_row sp k)) p.0)
    | inr p ↦ elim (IsIn_or_not k (ring sp c)) [
      | inl i ↦ inside k i ∙ sym (ap (λ b. cond b None (loose_row sp k)) p.0 ∙ loose_later sp k (λ q. p.1 (sym q ∙ ap (head_or 0) (ring_same sp R c k a i))))
      | inr n ↦ outside k n ∙ sym (ap (λ b. cond b None (loose_row sp k)) p.0)
    ]
  ]

-- the limit of codes as a number
pub codes_are : codes ≡ 2000002
unfolding codes
codes_are = refl

-- the limit of edges as a number
pub edges_end_is : edges_end ≡ 1000001
unfolding edges_end
edges_end_is = refl

-- a half-edge below the limit of codes is of an edge up to 1,000,000
pub edge_below : (h : HalfEdge) → code h < codes → h.edge ≤ 1000000
unfolding code
edge_below h below = code_bounds_edge h.first below where
  code_bounds_edge : (b : Bool) → cond b (2 * h.edge) (2 * h.edge + 1) < codes → h.edge ≤ 1000000
  code_bounds_edge true l = omega (arith, codes_are)
  code_bounds_edge false l = omega (arith, codes_are)

-- where the second code is live the edge has a row just where the first one is
some_some : (o p : Option Spot) → is_some p ≡ true → is_some (both_tails o p) ≡ is_some o
some_some (Some s) (Some t) h = refl
some_some (Some s) None h = absurd (true≢false (sym h))
some_some None p h = refl

-- the table has an edge up to 1,000,000 just where its first code is live
pub edge_has : (sp : Spots) → AreRings sp → (e : ℕ) → is_some (get (tabulate (edge_row sp) codes) e) ≡ nat_le e 1000000 && live sp (plus e)
edge_has sp R e = ap is_some (edges_at sp R e) ∙ row_where_live (live sp (plus e)) refl where
  none_there : (o p : Option Spot) → is_some o ≡ false → is_some (both_tails o p) ≡ false
  none_there (Some s) p h = absurd (true≢false h)
  none_there None p h = refl

  row_where_live : (b : Bool) → live sp (plus e) ≡ b → is_some (edge_row sp e) ≡ nat_le e 1000000 && b
  row_where_live true h =
      let m : live sp (minus e) ≡ true = sym (ap (live sp) (mate_plus e)) ∙ R.mates (plus e) h in
      let below = R.bound (plus e) h in
      let l : e ≤ 1000000 = omega (arith, codes_are, below) in
      let t : nat_le e 1000000 ≡ true = grind (arith, nat_tests) in
      some_some (sp (plus e)) (sp (minus e)) m ∙ h ∙ sym (ap (λ b. b && true) t)
  row_where_live false h = none_there (sp (plus e)) (sp (minus e)) h ∙ sym (and_false (nat_le e 1000000))

-- to be below the limit of edges is to be up to 1,000,000
within_both : (e : ℕ) → nat_lt e edges_end ≡ nat_le e 1000000
within_both e = ap (nat_lt e) edges_end_is ∙ grind (arith, nat_tests)

abbrev no_unit : Option (Unit {0})
no_unit = None

-- what is there under two tests is there where both are true
tt_some : (a b : Bool) → is_some (cond a (cond b (Some tt) no_unit) no_unit) ≡ a && b
tt_some true true = refl
tt_some true false = refl
tt_some false b = refl

-- an edge up to 1,000,000 has its room just where both its codes are known
pub edge_has_room : (known : ℕ → Bool) (e : ℕ) → is_some (get (tabulate (edge_room known) edges_end) e) ≡ nat_le e 1000000 && (nat_lt 0 e && (known (plus e) && known (minus e)))
edge_has_room known e = ap is_some (get-tabulate (edge_room known) edges_end e) ∙ ap (λ b. is_some (cond b (edge_room known e) None)) (within_both e) ∙ tt_some (nat_le e 1000000) (nat_lt 0 e && (known (plus e) && known (minus e)))

-- a table of which no row is there is empty
pub nothing : {X : Type 0} (f : ℕ → Option X) (n : ℕ) → ((q : ℕ) → f q ≡ None) → tabulate f n ≡ empty
nothing f n none = same_table (tabulate f n) empty (λ q. get-tabulate f n q ∙ none_in_bounds (nat_lt q n) q ∙ sym (get-empty q)) where
  none_in_bounds : (b : Bool) (q : ℕ) → cond b (f q) None ≡ None
  none_in_bounds true q = none q
  none_in_bounds false q = refl
