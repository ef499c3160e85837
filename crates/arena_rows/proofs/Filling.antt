-- A loop is cleared, takes a loose ring, or gets other content without a half-edge.
use Rattle.arena_rows.proofs.Prelude.{eqb_tells, count, IsIn, IsIn_or_not, get-put_here, row_some, LoopCell, StoredContent, Empty, Lone, At, get, put, remove, tabulate, row_at, cycle, ArenaRows, Store, loosened, Spots, live, label, ring, labelled, AreRings, store_of, RowsAreTied, stored_content, loop_row, HasEntry, AreLoops, StandsAt, clear, fill, held_row, table_of, codes, edge_row, loose_row, unwrap_or, ◌≡◌, ◌≢◌, ℕ, true, List, [], Option, is_some, refl, sym, ap, subst, ◌∙◌, arith, inl, inr, no_loop, items_of, content, face_of}
use Rattle.arena_rows.specs.Store.{with_loop}
use Rattle.arena_rows.proofs.Views.{has-row}
use Rattle.arena_rows.proofs.Writes.{IsRefilled, refilled_here, refilled_elsewhere, refilled_some, refilled_fits, IsBare, none_in_bare, tied_loops, store_loops, IsKept, IsTold, told_at, loops_told}
use Rattle.arena_rows.proofs.Stands.{content_row, face_row_of, loose_key_is, loose_ring_is}
use Rattle.arena_rows.proofs.ring_spots_laws.SpotTables.{loose_none, loose_alike, loose_removed, edges_same, tails-labelled}
use Rattle.arena_rows.proofs.Tellings.{loose_added, loops_table, same_loop, TiedAs, Makes, store_is, tied_as}
use Rattle.arena_rows.proofs.ring_spots_laws.SpotLaws.{live-labelled, label-labelled_in, label-labelled_out, ring-labelled, AreRings-labelled}

module _ (arena : ArenaRows) (tied : RowsAreTied arena) where
  open arena use {spots}

  abbrev store : Store
  store = store_of arena

  open store use {model}

  -- the table where loop l gets other content, and the rings of the other loops stay
  pub loops_refilled : (new : Spots) (rows : List (Option LoopCell)) (l : ℕ) (x : StoredContent) (w : IsRefilled arena.loops rows l x) → ((q c : ℕ) → q ≢ l → live spots c ≡ true → label spots c ≡ q → ring new c ≡ ring spots c) →
      table_of (loop_row new) rows ≡ put model.loops l (held_row model l (stored_content new x))
  loops_refilled new rows l x w kept = loops_table spots new arena.loops rows tied.loops_tied l _ w.is kept
      ∙ ap (λ f. put model.loops l (record { face = f; content = stored_content new x })) (sym (face_row_of arena tied l w.cell w.found))

  -- a loop that holds no half-edge
  pub bare_row : (l : ℕ) → is_some (get model.loops l) ≡ true → items_of (content model l) ≡ [] → IsBare spots arena.loops l
  bare_row l there bare =
      let row = row_some (row_at arena.loops l) (has-row (loop_row spots) arena.loops l there) in
      record { cell = row.0; here = row.1; bare = sym (ap items_of (content_row arena tied l row.0 row.1)) ∙ bare }

  -- the ring of d gets label n
  module _ (d n : ℕ) (there : live spots d ≡ true) where
    abbrev relabelled : Spots
    relabelled = labelled spots n (ring spots d)

    -- the live codes stay
    live_same : (x : ℕ) → live relabelled x ≡ live spots x
    live_same x = live-labelled spots n (ring spots d) x

    -- each code keeps its ring
    ring_same : (x : ℕ) → ring relabelled x ≡ ring spots x
    ring_same x = ring-labelled spots tied.rings d n there x

    -- the items of the ring have the label n
    label_in : (x : ℕ) → IsIn x (ring spots d) → label relabelled x ≡ n
    label_in x i = label-labelled_in spots n (ring spots d) x i ((tied.rings.rings d there).awake x i)

    -- each other code keeps its label
    label_out : (x : ℕ) → count x (ring spots d) ≡ 0 → label relabelled x ≡ label spots x
    label_out x m = label-labelled_out spots n (ring spots d) x m

    -- what has another label than d is no item of its ring
    away : (x : ℕ) → label spots x ≢ label spots d → count x (ring spots d) ≡ 0
    away x other = elim (IsIn_or_not x (ring spots d)) [ inl i ↦ absurd (other ((tied.rings.rings d there).one_label x i)) | inr m ↦ m ]

    -- the rings are rings
    rings_after : AreRings relabelled
    rings_after = AreRings-labelled spots tied.rings d n there

    -- the table of edges stays
    edges_after : tabulate (edge_row relabelled) codes ≡ tabulate (edge_row spots) codes
    edges_after = edges_same spots relabelled (λ q. tails-labelled spots n (ring spots d) q)

    -- a code of another ring leads the loose ring that it led
    alike : (x : ℕ) → count x (ring spots d) ≡ 0 → loose_row relabelled x ≡ loose_row spots x
    alike x m = loose_alike spots relabelled x (live_same x) (label_out x m) (ring_same x)

    -- a loop that the ring neither leaves nor comes to
    kept : (rows : List (Option LoopCell)) (q : ℕ) → q ≢ label spots d → q ≢ n → row_at rows q ≡ row_at arena.loops q → IsKept spots relabelled arena.loops rows q
    kept rows q other else e = record {
      row = e;
      stays = λ x a s. (live_same x ∙ a, label_out x (away x (λ z. other (sym s ∙ z))) ∙ s, ring_same x);
      stood = λ x a s. elim (IsIn_or_not x (ring spots d)) [ inl i ↦ absurd (else (sym s ∙ label_in x i)) | inr m ↦ (sym (live_same x) ∙ a, sym (label_out x m) ∙ s) ];
    }

  -- the ring of d goes out of loop l
  module _ (l : ℕ) (rows : List (Option LoopCell)) (w : IsRefilled arena.loops rows l Empty) (d : ℕ) (stored : w.cell.stored ≡ At d) where
    -- d stands in loop l
    entry : HasEntry spots l (At d)
    entry = subst (HasEntry spots l) stored (tied.loops_tied.entries l w.cell w.found)

    -- l is not 0
    l_some : l ≢ 0
    l_some = refilled_some w tied.loops_fit

    abbrev cleared : Spots
    cleared = labelled spots 0 (ring spots d)

    -- nothing has the label l any more
    none_left : (x : ℕ) → live cleared x ≡ true → label cleared x ≡ l → ⊥
    none_left x a e = elim (IsIn_or_not x (ring spots d)) [
      | inl i ↦ l_some (sym e ∙ label_in d 0 entry.0 x i)
      | inr m ↦
          let i : IsIn x (ring spots d) = same_loop spots arena.loops tied.rings tied.loops_tied d x entry.0 (sym (live_same d 0 entry.0 x) ∙ a) (λ z. l_some (sym entry.1 ∙ z)) (sym (label_out d 0 entry.0 x m) ∙ e ∙ sym entry.1) in
          absurd (omega arith)
    ]

    -- the rows say what the loops hold
    loops_after : AreLoops cleared rows
    loops_after = loops_told spots cleared arena.loops rows tied.loops_tied (refilled_fits w tied.loops_fit).no_zero (λ q some. elim (eqb_tells q l) [
      | inl p ↦ inr (subst (IsTold cleared rows) (sym p.1) (told_at cleared rows l w.cell.face Empty (refilled_here w) tt (λ x a e. absurd (none_left x a e))))
      | inr p ↦ inl (kept d 0 entry.0 rows q (λ z. p.1 (z ∙ entry.1)) some (refilled_elsewhere w q p.1))
    ])

    -- nodes and rows make the loop empty, and its ring loose
    pub clear_as : Makes arena cleared rows (clear store l)
    unfolding clear
    clear_as = tied_as arena tied cleared rows (clear store l) (rings_after d 0 entry.0) (λ t. sym (live_same d 0 entry.0 0) ∙ t) loops_after (refilled_fits w tied.loops_fit)
        (store_is arena cleared rows _ _ _ w.len (edges_after d 0 entry.0) (loops_refilled cleared rows l Empty w (λ q c _ _ _. ring_same d 0 entry.0 c))
        (loose_added spots cleared tied.rings (rings_after d 0 entry.0) d (ring spots d) (live_same d 0 entry.0 d ∙ entry.0) (label_in d 0 entry.0 d (tied.rings.rings d entry.0).item) (ring_same d 0 entry.0 d)
        (λ x i. loose_none spots x (λ z. l_some (sym ((tied.rings.rings d entry.0).one_label x i ∙ entry.1) ∙ z))) (alike d 0 entry.0)
        ∙ ap (λ c. loosened (items_of c) store.loose) (sym (content_row arena tied l w.cell w.found ∙ ap (stored_content spots) stored))))

  -- loop l, which holds no half-edge, gets other content without one
  module _ (l : ℕ) (rows : List (Option LoopCell)) (x : StoredContent) (w : IsRefilled arena.loops rows l x) (bare : items_of (content model l) ≡ []) where
    -- loop l holds no half-edge
    empty : IsBare spots arena.loops l
    empty = record { cell = w.cell; here = w.found; bare = sym (ap items_of (content_row arena tied l w.cell w.found)) ∙ bare }

    -- nodes and rows give it that content
    pub bare_as : HasEntry spots l x → TiedAs (record arena { loops = rows }) (record store { model = with_loop model l (stored_content spots x) })
    bare_as free = record {
      tied = tied_loops arena tied rows (refilled_fits w tied.loops_fit) (loops_told spots spots arena.loops rows tied.loops_tied (refilled_fits w tied.loops_fit).no_zero (λ q some. elim (eqb_tells q l) [
        | inl p ↦ inr (subst (IsTold spots rows) (sym p.1) (told_at spots rows l w.cell.face x (refilled_here w) free
            (λ h a e. absurd (none_in_bare spots arena.loops h l empty (subst (StandsAt spots arena.loops h) e (tied.loops_tied.stands h a (λ z. refilled_some w tied.loops_fit (sym e ∙ z))))))))
        | inr p ↦ inl (record { row = refilled_elsewhere w q p.1; stays = λ h a e. (a, e, refl); stood = λ h a e. (a, e) })
      ]));
      is = store_loops arena tied rows _ w.len (loops_refilled spots rows l x w (λ q c _ _ _. refl));
    }

  -- where its row stands at none, it is cleared so
  pub clear_bare_as : (l : ℕ) (rows : List (Option LoopCell)) (w : IsRefilled arena.loops rows l Empty) → ((c : ℕ) → w.cell.stored ≡ At c → ⊥) → TiedAs (record arena { loops = rows }) (clear store l)
  unfolding clear
  clear_bare_as l rows w none =
      let bare = ap items_of (content_row arena tied l w.cell w.found) ∙ stands_at_none w.cell.stored none in
      let b = bare_as l rows Empty w bare tt in
      record { tied = b.tied; is = b.is ∙ ap (λ hs. record store { model = with_loop model l (cycle []); loose = loosened hs store.loose }) (sym bare) }
    where
      stands_at_none : (stored : StoredContent) → ((c : ℕ) → stored ≡ At c → ⊥) → items_of (stored_content spots stored) ≡ []
      stands_at_none Empty n = refl
      stands_at_none (Lone v) n = refl
      stands_at_none (At c) n = absurd (n c refl)

  -- loop l takes the loose ring of h
  module _ (l : ℕ) (rows : List (Option LoopCell)) (h : ℕ) (w : IsRefilled arena.loops rows l (At h)) (bare : items_of (content model l) ≡ []) (there : live spots h ≡ true) (loose : label spots h ≡ 0) where
    -- l is not 0
    l_real : l ≢ 0
    l_real = refilled_some w tied.loops_fit

    abbrev filled : Spots
    filled = labelled spots l (ring spots h)

    -- what has the label l stands in the ring of h
    all_in : (x : ℕ) → live filled x ≡ true → label filled x ≡ l → IsIn x (ring spots h)
    all_in x a e = elim (IsIn_or_not x (ring spots h)) [
      | inl i ↦ i
      | inr m ↦
          let o = sym (label_out h l there x m) ∙ e in
          let s = tied.loops_tied.stands x (sym (live_same h l there x) ∙ a) (λ z. l_real (sym o ∙ z)) in
          absurd (none_in_bare spots arena.loops x l (empty l rows (At h) w bare) (subst (StandsAt spots arena.loops x) o s))
    ]

    -- the rows say what the loops hold
    loops_filled : AreLoops filled rows
    loops_filled = loops_told spots filled arena.loops rows tied.loops_tied (refilled_fits w tied.loops_fit).no_zero (λ q some. elim (eqb_tells q l) [
      | inl p ↦ inr (subst (IsTold filled rows) (sym p.1) (told_at filled rows l w.cell.face (At h) (refilled_here w) (live_same h l there h ∙ there, label_in h l there h (tied.rings.rings h there).item)
          (λ x a e. subst (IsIn x) (sym (ring_same h l there h)) (all_in x a e))))
      | inr p ↦ inl (kept h l there rows q (λ z. some (z ∙ loose)) p.1 (refilled_elsewhere w q p.1))
    ])

    -- nodes and rows make the loop take the ring
    pub fill_as : Makes arena filled rows (fill store l h)
    unfolding fill
    fill_as = tied_as arena tied filled rows (fill store l h) (rings_after h l there) (λ t. sym (live_same h l there 0) ∙ t) loops_filled (refilled_fits w tied.loops_fit)
        (store_is arena filled rows _ _ _ w.len (edges_after h l there)
        (loops_refilled filled rows l (At h) w (λ q c _ _ _. ring_same h l there c) ∙ ap (λ hs. put model.loops l (held_row model l (cycle hs))) (ring_same h l there h ∙ sym (loose_ring_is arena tied h there loose)))
        (loose_removed spots filled tied.rings (rings_after h l there) h there (λ x i. loose_none filled x (λ y. l_real (sym (label_in h l there x i) ∙ y))) (alike h l there)
        ∙ ap (remove store.loose) (sym (loose_key_is arena tied h there loose))))

-- a loop that is cleared is there
pub has-clear : (s : Store) (l : ℕ) → is_some (get (clear s l).model.loops l) ≡ true
unfolding clear
has-clear s l = ap is_some (get-put_here s.model.loops l (record { face = face_of s.model l; content = cycle [] }))

-- and holds no half-edge
pub content-clear : (s : Store) (l : ℕ) → items_of (content (clear s l).model l) ≡ []
unfolding clear content
content-clear s l = ap (λ o. items_of (unwrap_or o no_loop).content) (get-put_here s.model.loops l (record { face = face_of s.model l; content = cycle [] }))
