-- The store after a cut and after a join.
use Rattle.arena_rows.proofs.Prelude.{◌≡◌, ◌≢◌, ℕ, true, cond, List, [], ◌∷◌, length, Option, Some, is_some, refl, sym, ap, subst, ◌∙◌, eq-eqb, ne_eqb, inl, inr, eqb_tells, same_Some, LoopCell, Empty, At, Table, get, put, remove, tabulate, row_at, ArenaRows, table_of, Store, loosened, Spots, live, next, label, ring, spliced, labelled, store_of, RowsAreTied, stored_content, loop_row, StandsAt, cut, cut_loose, cut_to, join, join_loops, join_loose, loose_ring, loose_row, codes, held_row, Fits, LoopRow, cycle, IsIn, cut_left, cut_right, joined, successor, predecessor, successor-predecessor, IsIn_one, has_half, loop_of, items_of, content, cycle_of, before}
use Rattle.arena_rows.proofs.ring_spots_laws.SpotLaws.{ring_same, next_in_ring}
use Rattle.arena_rows.proofs.Views.{row_not_zero, table_of-put}
use Rattle.arena_rows.proofs.Writes.{IsRefilled, refilled_here, refilled_elsewhere, refilled_some, refilled_fits}
use Rattle.arena_rows.proofs.Stands.{half_there, loop_of_is, cycle_of_is, face_row_of, loose_key_is, loose_ring_is, next_successor}
use Rattle.arena_rows.proofs.Tellings.{Makes, store_is, tied_as, content_alike, same_loop, loops_table_rows}
use Rattle.arena_rows.proofs.Cutting.{CutFacts, JoinFacts, rings_labelled, live_cut, AreLoops-cut, loose-cut_to, loose-cut_loose, edges-cut, ring_elsewhere, ring_of_left, ring_of_right, apart_rows, rings_joined, live_joined, edges-join, ring_beside_joint, ring_of_joint, loose-join_loops, loose-join_loose, AreLoops-join}
use Rattle.arena_rows.proofs.Filling.{loops_refilled, bare_row}

-- loop l, if it is one, is empty, and the others are as they were
record IsEmptied (loops rows : List (Option LoopCell)) (l : ℕ) : Type 0 where
  len : length rows ≡ length loops
  fits : Fits rows
  empty : l ≢ 0 → (f : ℕ) × (row_at rows l ≡ Some (record { face = f; stored = Empty }))
  same : (q : ℕ) → q ≢ l → row_at rows q ≡ row_at loops q

module _ (arena : ArenaRows) (tied : RowsAreTied arena) where
  open arena use {spots}
  open tied use {rings, loops_tied as are}

  abbrev store : Store
  store = store_of arena

  open store use {model}

  -- what a cut asks of the model holds of the nodes and rows
  pub cut_facts : (a b l : ℕ) → record { a_there : has_half model a ≡ true; b_there : has_half model b ≡ true; looped : loop_of model a ≢ 0; together : loop_of model b ≡ loop_of model a; apart : a ≢ b; free : l ≢ 0 → (is_some (get model.loops l) ≡ true) × (items_of (content model l) ≡ []) } →
      CutFacts spots arena.loops a b l
  cut_facts a b l is =
      let at = half_there arena tied a is.a_there in
      let bt = half_there arena tied b is.b_there in
      let ea = loop_of_is arena tied a at in
      let eb = loop_of_is arena tied b bt in
      record {
        a_there = at;
        b_there = bt;
        looped = λ z. is.looped (ea ∙ z);
        one = sym eb ∙ is.together ∙ ea;
        apart = is.apart;
        free = λ n. bare_row arena tied l (is.free n).0 (is.free n).1;
      }

  -- what a join asks of the model holds of the nodes and rows
  pub join_facts : (a b : ℕ) → record { a_there : has_half model a ≡ true; b_there : has_half model b ≡ true; looped : loop_of model a ≢ 0; apart : loop_of model b ≢ loop_of model a } → JoinFacts spots a b
  join_facts a b is =
      let at = half_there arena tied a is.a_there in
      let bt = half_there arena tied b is.b_there in
      let ea = loop_of_is arena tied a at in
      let eb = loop_of_is arena tied b bt in
      record { a_there = at; b_there = bt; looped = λ z. is.looped (ea ∙ z); other = λ z. is.apart (eb ∙ z ∙ sym ea) }

  -- the row of the loop of a labelled code is there
  pub row_of : (h l : ℕ) → live spots h ≡ true → label spots h ≢ 0 → label spots h ≡ l → is_some (row_at arena.loops l) ≡ true
  row_of h l a n e = ap (λ q. is_some (row_at arena.loops q)) (sym e) ∙ ap is_some (are.stands h a n).here

  module _ (a b l : ℕ) (g : CutFacts spots arena.loops a b l) where
    abbrev cutted : Spots
    cutted = labelled (spliced spots a b) l (ring (spliced spots a b) b)

    abbrev here : ℕ
    here = label spots a

    -- the model's loop of a, and what is cut off
    whole_is : ring spots a ≡ cycle_of model a
    whole_is = sym (cycle_of_is arena tied a g.a_there g.looped)

    module _ (rows_left : List (Option LoopCell)) (w : IsRefilled arena.loops rows_left here (At a)) where
      -- the row of a's loop is written, with the part that stays
      loops_left : table_of (loop_row cutted) rows_left ≡ put model.loops (loop_of model a) (held_row model (loop_of model a) (cycle (cut_left a b (cycle_of model a))))
      loops_left =
          loops_refilled arena tied cutted rows_left here (At a) w (ring_elsewhere arena tied a b l g)
          ∙ ap (λ hs. put model.loops here (held_row model here (cycle hs))) (ring_of_left arena tied a b l g ∙ ap (cut_left a b) whole_is)
          ∙ ap (λ n. put model.loops n (held_row model n (cycle (cut_left a b (cycle_of model a))))) (sym (loop_of_is arena tied a g.a_there))

      -- what is cut off is loose
      pub cut_loose_as : l ≡ 0 → Makes arena cutted rows_left (cut store a b l)
      unfolding cut_loose
      cut_loose_as z = tied_as arena tied cutted rows_left (cut store a b l) (rings_labelled arena tied a b l g) (λ t. sym (live_cut arena tied a b l g 0) ∙ t)
          (AreLoops-cut arena tied a b l g rows_left w.cell.face (refilled_here w) (λ n. absurd (n z)) (λ q n m. refilled_elsewhere w q n) (refilled_fits w tied.loops_fit).no_zero) (refilled_fits w tied.loops_fit)
          (store_is arena cutted rows_left _ _ _ w.len (edges-cut arena tied a b l g) loops_left (loose-cut_loose arena tied a b l g z ∙ ap (λ hs. loosened (cut_right a b hs) store.loose) whole_is)
          ∙ sym (ap (λ t. cond t (cut_loose store a b) (cut_to store a b l)) (eq-eqb l 0 z)))

      -- the row of loop l is there still
      pub kept_bare : l ≢ 0 → is_some (row_at rows_left l) ≡ true
      kept_bare n = ap is_some (refilled_elsewhere w l (apart_rows arena tied a b l g n) ∙ (g.free n).here)

      -- or comes to loop l
      module _ (n : l ≢ 0) (rows_right : List (Option LoopCell)) (v : IsRefilled rows_left rows_right l (At b)) where
        -- loop l is another than a's
        not_here : l ≢ here
        not_here = apart_rows arena tied a b l g n

        -- the rows fit once that of loop l is written
        fits_right : Fits rows_right
        fits_right = refilled_fits v (refilled_fits w tied.loops_fit)

        -- the row of loop l is written, with the part that is cut off
        loops_right : table_of (loop_row cutted) rows_right ≡ put (table_of (loop_row cutted) rows_left) l (held_row model l (cycle (cut_right a b (cycle_of model a))))
        loops_right = table_of-put (loop_row cutted) rows_left rows_right l _ v.is
            ∙ ap (λ hs. put (table_of (loop_row cutted) rows_left) l (record { face = v.cell.face; content = cycle hs })) (ring_of_right arena tied a b l g ∙ ap (cut_right a b) whole_is)
            ∙ ap (λ f. put (table_of (loop_row cutted) rows_left) l (record { face = f; content = cycle (cut_right a b (cycle_of model a)) })) (sym (face_row_of arena tied l v.cell (sym (refilled_elsewhere w l not_here) ∙ v.found)))

        -- nodes and rows make the cut
        pub cut_to_as : Makes arena cutted rows_right (cut store a b l)
        unfolding cut_to
        cut_to_as = tied_as arena tied cutted rows_right (cut store a b l) (rings_labelled arena tied a b l g) (λ t. sym (live_cut arena tied a b l g 0) ∙ t)
            (AreLoops-cut arena tied a b l g rows_right w.cell.face (refilled_elsewhere v here (λ q. not_here (sym q)) ∙ refilled_here w) (λ _. (v.cell.face, refilled_here v))
            (λ q u m. refilled_elsewhere v q m ∙ refilled_elsewhere w q u) fits_right.no_zero) fits_right
            (store_is arena cutted rows_right _ _ _ (v.len ∙ w.len) (edges-cut arena tied a b l g)
            (loops_right ∙ ap (λ t. put t l (held_row model l (cycle (cut_right a b (cycle_of model a))))) loops_left) (loose-cut_to arena tied a b l g n)
            ∙ sym (ap (λ t. cond t (cut_loose store a b) (cut_to store a b l)) (ne_eqb l 0 n)))

  module _ (a b : ℕ) (g : JoinFacts spots a b) where
    abbrev joined_spots : Spots
    joined_spots = spliced (labelled spots (label spots a) (ring spots b)) a b

    abbrev here_a : ℕ
    here_a = label spots a

    abbrev here_b : ℕ
    here_b = label spots b

    -- b's loop is empty, if b stands in one, and a's loop has the entry d
    module _ (rows_emptied rows : List (Option LoopCell)) (o : IsEmptied arena.loops rows_emptied here_b) (d : ℕ) (d_in : IsIn d (ring spots a)) (w : IsRefilled rows_emptied rows here_a (At d)) where
      -- the row of another loop says the same of the joined rings
      alike : (q : ℕ) (c : LoopCell) → q ≢ here_a → row_at rows_emptied q ≡ Some c → stored_content joined_spots c.stored ≡ stored_content spots c.stored
      alike q c n at = elim (eqb_tells q here_b) [
        | inl p ↦
            let e = o.empty (λ z. row_not_zero rows_emptied q o.fits (ap is_some at) (p.1 ∙ z)) in
            let stored : c.stored ≡ Empty = ap (λ (k : LoopCell). k.stored) (same_Some _ _ (sym at ∙ ap (row_at rows_emptied) p.1 ∙ e.1)) in
            ap (stored_content joined_spots) stored ∙ sym (ap (stored_content spots) stored)
        | inr p ↦ content_alike spots joined_spots q c.stored (are.entries q c (sym (o.same q p.1) ∙ at)) (λ e h t. ring_beside_joint arena tied a b g q e n p.1 h t)
      ]

      -- the row of a's loop is written, with the joint ring
      loops_join : (ys : List ℕ) → ring spots b ≡ ys → table_of (loop_row joined_spots) rows ≡ put (table_of (loop_row spots) rows_emptied) (loop_of model a) (held_row model (loop_of model a) (cycle (joined a b (cycle_of model a) ys)))
      loops_join ys e =
          loops_table_rows spots joined_spots rows_emptied rows here_a _ w.is alike
          ∙ ap (λ hs. put (table_of (loop_row spots) rows_emptied) here_a (record { face = w.cell.face; content = cycle hs })) (ring_of_joint arena tied a b g d d_in ∙ ap (λ hs. joined a b hs (ring spots b)) (sym (cycle_of_is arena tied a g.a_there g.looped)) ∙ ap (joined a b (cycle_of model a)) e)
          ∙ ap (λ f. put (table_of (loop_row spots) rows_emptied) here_a (record { face = f; content = cycle (joined a b (cycle_of model a) ys) })) (sym (face_row_of arena tied here_a w.cell (sym (o.same here_a (λ q. g.other (sym q))) ∙ w.found)))
          ∙ ap (λ n. put (table_of (loop_row spots) rows_emptied) n (held_row model n (cycle (joined a b (cycle_of model a) ys)))) (sym (loop_of_is arena tied a g.a_there))

      -- nodes and rows make a store that has these loops and loose rings
      joins_as : (t : Table LoopRow) (u : Table (List ℕ)) (s : Store) → table_of (loop_row joined_spots) rows ≡ t → tabulate (loose_row joined_spots) codes ≡ u → record store { model = record model { loops = t }; loose = u } ≡ s → Makes arena joined_spots rows s
      joins_as t u s loops loose makes = tied_as arena tied joined_spots rows s (rings_joined arena tied a b g) (λ h. sym (live_joined arena tied a b g 0) ∙ h)
          (AreLoops-join arena tied a b g d d_in rows w.cell.face (refilled_here w) (λ n. let e = o.empty n in (e.0, refilled_elsewhere w here_b g.other ∙ e.1)) (λ q n m. refilled_elsewhere w q n ∙ o.same q m) (refilled_fits w o.fits).no_zero)
          (refilled_fits w o.fits) (store_is arena joined_spots rows _ _ _ (w.len ∙ o.len) (edges-join arena tied a b g) loops loose ∙ makes)

    -- a loose ring comes to a's loop
    module _ (z : here_b ≡ 0) where
      -- no row is emptied before
      none_emptied : IsEmptied arena.loops arena.loops here_b
      none_emptied = record { len = refl; fits = tied.loops_fit; empty = λ n. absurd (n z); same = λ q m. refl }

      -- nodes and rows make the join
      pub join_loose_as : (rows : List (Option LoopCell)) (d : ℕ) → IsIn d (ring spots a) → IsRefilled arena.loops rows here_a (At d) → Makes arena joined_spots rows (join store a b)
      unfolding join_loose
      join_loose_as rows d i w = joins_as arena.loops rows none_emptied d i w _ _ (join store a b)
          (loops_join arena.loops rows none_emptied d i w (loose_ring store b) (sym (loose_ring_is arena tied b g.b_there z)))
          (loose-join_loose arena tied a b g ∙ ap (remove store.loose) (sym (loose_key_is arena tied b g.b_there z)))
          (sym (ap (λ t. cond t (join_loose store a b) (join_loops store a b)) (eq-eqb (loop_of model b) 0 (loop_of_is arena tied b g.b_there ∙ z))))

      -- of which the row can stay as it was
      row_a : StandsAt spots arena.loops a here_a
      row_a = are.stands a g.a_there g.looped

      -- the row's entry stands in the ring of a
      entry_in : IsIn row_a.entry (ring spots a)
      entry_in =
          let there = (are.entries here_a (record { face = row_a.face; stored = At row_a.entry }) row_a.here).0 in
          subst (IsIn row_a.entry) (sym (ring_same spots rings row_a.entry a there row_a.item)) (rings.rings row_a.entry there).item

      -- a row that is written as it was leaves the rows as they were
      as_it_was : IsRefilled arena.loops arena.loops here_a (At row_a.entry)
      as_it_was = record {
        cell = record { face = row_a.face; stored = At row_a.entry };
        found = row_a.here;
        len = refl;
        is = λ q. elim (eqb_tells q here_a) [
          | inl p ↦ ap (row_at arena.loops) p.1 ∙ row_a.here ∙ sym (ap (λ t. cond t (Some (record { face = row_a.face; stored = At row_a.entry })) (row_at arena.loops q)) p.0)
          | inr p ↦ sym (ap (λ t. cond t (Some (record { face = row_a.face; stored = At row_a.entry })) (row_at arena.loops q)) p.0)
        ];
      }

      -- so they make the join with no row written
      pub join_kept_as : Makes arena joined_spots arena.loops (join store a b)
      join_kept_as = join_loose_as arena.loops row_a.entry entry_in as_it_was

    -- b's loop becomes empty, and its ring comes to a's
    pub join_loops_as : (rows_emptied rows : List (Option LoopCell)) → IsRefilled arena.loops rows_emptied here_b Empty → IsRefilled rows_emptied rows here_a (At a) → Makes arena joined_spots rows (join store a b)
    unfolding join_loops
    join_loops_as rows_emptied rows v w =
        let n : here_b ≢ 0 = refilled_some v tied.loops_fit in
        let o : IsEmptied arena.loops rows_emptied here_b = record { len = v.len; fits = refilled_fits v tied.loops_fit; empty = λ _. (v.cell.face, refilled_here v); same = refilled_elsewhere v } in
        joins_as rows_emptied rows o a (rings.rings a g.a_there).item w _ _ (join store a b)
        (loops_join rows_emptied rows o a (rings.rings a g.a_there).item w (cycle_of model b) (sym (cycle_of_is arena tied b g.b_there n))
        ∙ ap (λ t. put t (loop_of model a) (held_row model (loop_of model a) (cycle (joined a b (cycle_of model a) (cycle_of model b)))))
        (loops_refilled arena tied spots rows_emptied here_b Empty v (λ q c _ _ _. refl) ∙ ap (λ m. put model.loops m (held_row model m (cycle []))) (sym (loop_of_is arena tied b g.b_there))))
        (loose-join_loops arena tied a b g n)
        (sym (ap (λ t. cond t (join_loose store a b) (join_loops store a b)) (ne_eqb (loop_of model b) 0 (λ y. n (sym (loop_of_is arena tied b g.b_there) ∙ y)))))

    -- the code that is alone leads to itself
    pub next_alone : here_b ≡ 0 → loose_ring store b ≡ b ∷ [] → next spots b ≡ b
    next_alone z alone = IsIn_one b (next spots b) (subst (IsIn (next spots b)) (sym (loose_ring_is arena tied b g.b_there z) ∙ alone) (next_in_ring spots rings b g.b_there))

  -- the code before b leads to it
  pub next_before : (a b l : ℕ) → CutFacts spots arena.loops a b l → a ≡ before model b → next spots a ≡ b
  unfolding before
  next_before a b l g is =
      let n : label spots b ≢ 0 = λ z. g.looped (sym g.one ∙ z) in
      let i : IsIn a (ring spots b) = same_loop spots arena.loops rings are b a g.b_there g.a_there n (sym g.one) in
      let o = rings.rings b g.b_there in
      next_successor arena tied a g.a_there
      ∙ (λ j. successor (ring_same spots rings b a g.b_there i j) a)
      ∙ ap (successor (ring spots b)) (is ∙ ap (λ hs. predecessor hs b) (cycle_of_is arena tied b g.b_there n))
      ∙ successor-predecessor b (ring spots b) o.apart o.item
