-- What is loose while an edge is made between two corners, and once it is killed.
use Rattle.low_euler.proofs.Prelude.{◌≡◌, ◌≢◌, ℕ, true, List, [], ◌∷◌, Some, is_some, refl, sym, ap, ◌∙◌, subst, arith, nat_tests, count, put_ring, Corner, At, Lone, code, mate, edge_of, plus, minus, Table, tables, Model, cycle, items_of, content, has_half, loop_of, cycle_of, edge_row, tick_other, mate_other, edge_of-mate, get-put_here, Store, with_loop, loose_key, loose_ring, fill, IsLoose, IsUnused, with_edge, put_before, take_out, put_at}
use Rattle.euler_operators.specs.Table as table
use Rattle.low_euler.proofs.steps_laws.RingSteps.{count_put}
use Rattle.low_euler.proofs.steps_laws.LooseRings.{AreSingles, pair, pair_singles, get_first, left_second, pair_gone, singles_remove, key_is, ring_is, halves_of}

-- a loop that gets another ring, without m, doesn't come to hold m
none_with : (M : Model) (l m : ℕ) (ring : List ℕ) → count m ring ≡ 0 → ((q : ℕ) → count m (items_of (content M q)) ≡ 0) →
    (q : ℕ) → count m (items_of (content (with_loop M l (cycle ring)) q)) ≡ 0
unfolding content
none_with M l m ring n none q = grind (arith, nat_tests, tables, n, none q)

module _ (s : Store) (h a b : ℕ) (unused : IsUnused s h) where
  abbrev E : Store
  E = with_edge s h a b

  abbrev m : ℕ
  m = mate h

  h_m : h ≢ m
  h_m = mate_other h

  loose_is : E.loose ≡ pair h m h_m
  unfolding with_edge
  loose_is = ap (λ z. table.put (table.put z h (h ∷ [])) m (m ∷ [])) unused.bare

  singles : AreSingles E.loose
  singles = subst AreSingles (sym loose_is) (pair_singles h m h_m)

  first_alone : table.get E.loose h ≡ Some (h ∷ [])
  first_alone = ap (λ z. table.get z h) loose_is ∙ get_first h m h_m

  first_there : has_half E.model h ≡ true
  unfolding with_edge
  first_there = ap is_some (get-put_here s.model.edges (edge_of h) (edge_row h a b))

  second_there : has_half E.model m ≡ true
  second_there = ap (table.has E.model.edges) (edge_of-mate h) ∙ first_there

  content_E : (q : ℕ) → content E.model q ≡ content s.model q
  unfolding with_edge content
  content_E q = refl

  none_first : (q : ℕ) → count h (items_of (content E.model q)) ≡ 0
  none_first q = ap (λ c. count h (items_of c)) (content_E q) ∙ unused.first q

  pub none_second : (q : ℕ) → count m (items_of (content E.model q)) ≡ 0
  none_second q = ap (λ c. count m (items_of c)) (content_E q) ∙ unused.second q

  -- both half-edges are loose: the one from the start on, under its own number, and the other once that is put at a corner
  pub first_key : loose_key E h ≡ h
  first_key = key_is E h singles first_alone

  pub first_ring : loose_ring E h ≡ h ∷ []
  first_ring = ring_is E h singles first_alone

  pub first_loose : IsLoose E h
  first_loose = record { there = first_there; nowhere = none_first; alone = first_ring }

  -- h stands in a ring of loop l
  abbrev put_in : ℕ → List ℕ → Store
  put_in l ring = record E { model = with_loop E.model l (cycle ring); loose = table.remove E.loose (loose_key E h) }

  module _ (l : ℕ) (ring : List ℕ) where
    left_alone : table.get (put_in l ring).loose m ≡ Some (m ∷ [])
    left_alone = ap (λ k. table.get (table.remove E.loose k) m) first_key ∙ ap (λ z. table.get (table.remove z h) m) loose_is ∙ left_second h m h_m

    left_singles : AreSingles (put_in l ring).loose
    left_singles = singles_remove E.loose (loose_key E h) singles

    left_key : loose_key (put_in l ring) m ≡ m
    left_key = key_is (put_in l ring) m left_singles left_alone

    left_loose : count m ring ≡ 0 → IsLoose (put_in l ring) m
    left_loose n = record { there = second_there; nowhere = none_with E.model l m ring n none_second; alone = ring_is (put_in l ring) m left_singles left_alone }

  none_put : (g : ℕ) → count m (put_ring h g (cycle_of E.model g)) ≡ 0
  none_put g =
      let n : count m (cycle_of E.model g) ≡ 0 = none_second (loop_of E.model g) in
      count_put m h g (cycle_of E.model g) ∙ omega (arith, tick_other m h (λ e. h_m (sym e)), n)

  none_filled : count m (loose_ring E h) ≡ 0
  none_filled = ap (count m) first_ring ∙ omega (arith, tick_other m h (λ e. h_m (sym e)))

  pub second_key : (c : Corner) → loose_key (put_at E c h) m ≡ m
  unfolding put_before fill
  second_key (At g) = left_key (loop_of E.model (code g)) (put_ring h (code g) (cycle_of E.model (code g)))
  second_key (Lone l) = left_key l (loose_ring E h)

  pub second_loose : (c : Corner) → IsLoose (put_at E c h) m
  unfolding put_before fill
  second_loose (At g) = left_loose (loop_of E.model (code g)) (put_ring h (code g) (cycle_of E.model (code g))) (none_put (code g))
  second_loose (Lone l) = left_loose l (loose_ring E h) none_filled

  -- once both are put, nothing is loose
  pub none_loose : table.remove (table.remove E.loose h) m ≡ s.loose
  none_loose = ap (λ z. table.remove (table.remove z h) m) loose_is ∙ pair_gone h m h_m ∙ sym unused.bare

  left_is : (c : Corner) → (put_at E c h).loose ≡ table.remove E.loose h
  unfolding put_before fill
  left_is (At g) = ap (table.remove E.loose) first_key
  left_is (Lone l) = ap (table.remove E.loose) first_key

  pub loose_made : (c : Corner) → table.remove (put_at E c h).loose (loose_key (put_at E c h) m) ≡ s.loose
  loose_made c = ap (table.remove (put_at E c h).loose) (second_key c) ∙ ap (λ z. table.remove z m) (left_is c) ∙ none_loose

-- ---- an edge that is killed

abbrev left_loose_by : Store → ℕ → Table (List ℕ)
left_loose_by s h = (take_out (take_out s (mate h)) h).loose

-- its half-edges are loose, each alone
pub both_out : (s : Store) (h e : ℕ) → e ≡ edge_of h → (table.get (left_loose_by s h) (plus e) ≡ Some (plus e ∷ [])) × (table.get (left_loose_by s h) (minus e) ≡ Some (minus e ∷ []))
unfolding take_out
both_out s h e is = (grind (arith, nat_tests, tables, halves_of h, mate_other h), grind (arith, nat_tests, tables, halves_of h, mate_other h))
