-- What the model says, by the nodes.
use Rattle.arena_rows.proofs.ring_spots_laws.SpotTables.{edge_below, half_is, half_live, row_live, edges_at, key_is, got_loose}
use Rattle.arena_rows.proofs.Prelude.{◌≡◌, ◌≢◌, ◌≤◌, ℕ, true, false, cond, [], Option, Some, None, unwrap_or, refl, sym, ap, subst, ◌∙◌, arith, inl, inr, eqb_tells, same_Some, IsIn, head_or, successor, predecessor, next_is_successor, predecessor-successor, FaceCell, LoopCell, StoredContent, Empty, Lone, At, code, plus, minus, edge_of, is_first, HalfEdge, get, row_at, ArenaRows, map_row, Store, loose_key, loose_ring, live, next, label, tail_at, ring, store_of, RowsAreTied, stored_content, face_row, loop_row, HasEntry, lone, cycle, LoopRow, holds, items_of, has_half, tail, tail_in, loop_of, content, solid_of, outer, face_of, cycle_of, after, before, no_face, no_loop, no_edge, first_where_is, first_where_zero, holds_in, in-holds}
use Rattle.arena_rows.proofs.Views.{get-table_of, read_row}
use Rattle.arena_rows.proofs.ring_spots_laws.SpotLaws.{ring_same, next_in_ring}

module _ (arena : ArenaRows) (tied : RowsAreTied arena) where
  open arena use {spots}
  open tied use {rings}

  abbrev store : Store
  store = store_of arena

  open store use {model}

  pub half_there : (h : ℕ) → has_half model h ≡ true → live spots h ≡ true
  half_there h e = half_live spots rings h e

  pub edge_fits : (h : HalfEdge) → has_half model (code h) ≡ true → h.edge ≤ 1000000
  edge_fits h there = edge_below h (rings.bound (code h) (half_there (code h) there))

  pub tail_is : (h : ℕ) → live spots h ≡ true → tail model h ≡ tail_at spots h
  unfolding tail
  tail_is h a = ap (λ o. tail_in (unwrap_or o no_edge) (is_first h)) (edges_at spots rings (edge_of h) ∙ row_live spots rings h a)
      ∙ elim (half_is h) [
        | inl p ↦ ap (λ b. cond b (tail_at spots (plus (edge_of h))) (tail_at spots (minus (edge_of h)))) p.1 ∙ ap (tail_at spots) (sym p.0)
        | inr p ↦ ap (λ b. cond b (tail_at spots (plus (edge_of h))) (tail_at spots (minus (edge_of h)))) p.1 ∙ ap (tail_at spots) (sym p.0)
      ]

  -- a loop's row that holds h
  stored_by : (h q : ℕ) (stored : StoredContent) → HasEntry spots q stored → holds h (stored_content spots stored) ≡ true → (label spots h ≡ q) × (live spots h ≡ true) × (stored_content spots stored ≡ cycle (ring spots h))
  stored_by h q Empty e k = absurd (omega (arith, holds_in h (cycle []) k))
  stored_by h q (Lone v) e k = absurd (omega (arith, holds_in h (lone v) k))
  stored_by h q (At c) e k =
      let i : IsIn h (ring spots c) = holds_in h (cycle (ring spots c)) k in let o = rings.rings c e.0 in
      (o.one_label h i ∙ e.1, o.awake h i, ap cycle (sym (ring_same spots rings c h e.0 i)))

  pub row_holds : (h q : ℕ) (row : LoopRow) → get model.loops q ≡ Some row → holds h row.content ≡ true → (label spots h ≡ q) × (live spots h ≡ true) × (row.content ≡ cycle (ring spots h))
  row_holds h q row at k = cell_holds (row_at arena.loops q) refl (sym (get-table_of (loop_row spots) arena.loops q) ∙ at) where
    cell_holds : (o : Option LoopCell) → row_at arena.loops q ≡ o → map_row (loop_row spots) o ≡ Some row → (label spots h ≡ q) × (live spots h ≡ true) × (row.content ≡ cycle (ring spots h))
    cell_holds None e s = cc
    cell_holds (Some cell) e s =
        let r : row ≡ loop_row spots cell = sym (same_Some _ _ s) in
        let got = stored_by h q cell.stored (tied.loops_tied.entries q cell e) (ap (λ w. holds h w.content) (sym r) ∙ k) in
        (got.0, got.1, ap (λ w. w.content) r ∙ got.2)

  -- the row of the loop of a labelled code
  pub row_of_label : (h : ℕ) → (a : live spots h ≡ true) → (n : label spots h ≢ 0) → get model.loops (label spots h) ≡ Some (record { face = (tied.loops_tied.stands h a n).face; content = cycle (ring spots h) })
  row_of_label h a n =
      let s = tied.loops_tied.stands h a n in
      let e = tied.loops_tied.entries (label spots h) (record { face = s.face; stored = At s.entry }) s.here in
      get-table_of (loop_row spots) arena.loops (label spots h) ∙ ap (map_row (loop_row spots)) s.here ∙ ap (λ hs. Some (record { face = s.face; content = cycle hs })) (sym (ring_same spots rings s.entry h e.0 s.item))

  in_loop : (h : ℕ) → live spots h ≡ true → label spots h ≢ 0 → loop_of model h ≡ label spots h
  unfolding loop_of
  in_loop h a n = first_where_is (λ _ row. holds h row.content) model.loops (label spots h) _ (row_of_label h a n) (in-holds h (cycle (ring spots h)) (rings.rings h a).item) (λ q row at k. sym (row_holds h q row at k).0)

  no_row_zero : (row : LoopRow) → get model.loops 0 ≢ Some row
  no_row_zero row at = let e = sym (get-table_of (loop_row spots) arena.loops 0 ∙ ap (map_row (loop_row spots)) tied.loops_fit.no_zero) ∙ at in cc

  in_none : (h : ℕ) → label spots h ≡ 0 → loop_of model h ≡ 0
  unfolding loop_of
  in_none h z = first_where_zero (λ _ row. holds h row.content) model.loops (λ q row at. elim (holds h row.content) as (λ b. holds h row.content ≡ b → holds h row.content ≡ false) [
    | true ↦ λ k. let e : q ≡ 0 = sym (row_holds h q row at k).0 ∙ z in absurd (no_row_zero row (sym (ap (get model.loops) e) ∙ at))
    | false ↦ λ k. k
  ] refl)

  pub loop_of_is : (h : ℕ) → live spots h ≡ true → loop_of model h ≡ label spots h
  loop_of_is h a = elim (eqb_tells (label spots h) 0) [ inl p ↦ in_none h p.1 ∙ sym p.1 | inr p ↦ in_loop h a p.1 ]

  pub content_of_label : (h : ℕ) → live spots h ≡ true → label spots h ≢ 0 → content model (label spots h) ≡ cycle (ring spots h)
  unfolding content
  content_of_label h a n = ap (λ o. (unwrap_or o no_loop).content) (row_of_label h a n)

  pub cycle_of_is : (h : ℕ) → live spots h ≡ true → label spots h ≢ 0 → cycle_of model h ≡ ring spots h
  cycle_of_is h a n = ap (λ l. items_of (content model l)) (loop_of_is h a) ∙ ap items_of (content_of_label h a n)

  pub content_row : (l : ℕ) (cell : LoopCell) → row_at arena.loops l ≡ Some cell → content model l ≡ stored_content spots cell.stored
  unfolding content
  content_row l cell at = ap (λ o. (unwrap_or o no_loop).content) (read_row (loop_row spots) arena.loops l cell at)

  pub face_row_of : (l : ℕ) (cell : LoopCell) → row_at arena.loops l ≡ Some cell → face_of model l ≡ cell.face
  unfolding face_of
  face_row_of l cell at = ap (λ o. (unwrap_or o no_loop).face) (read_row (loop_row spots) arena.loops l cell at)

  pub solid_row_of : (f : ℕ) (cell : FaceCell) → row_at arena.faces f ≡ Some cell → solid_of model f ≡ cell.solid
  unfolding solid_of
  solid_row_of f cell at = ap (λ o. (unwrap_or o no_face).solid) (read_row face_row arena.faces f cell at)

  pub outer_row_of : (f : ℕ) (cell : FaceCell) → row_at arena.faces f ≡ Some cell → outer model f ≡ cell.outer
  unfolding outer
  outer_row_of f cell at = ap (λ o. (unwrap_or o no_face).outer) (read_row face_row arena.faces f cell at)

  pub loose_key_is : (h : ℕ) → live spots h ≡ true → label spots h ≡ 0 → loose_key store h ≡ head_or 0 (ring spots h)
  unfolding loose_key
  loose_key_is h a z = key_is spots rings h a z

  pub loose_ring_is : (h : ℕ) → live spots h ≡ true → label spots h ≡ 0 → loose_ring store h ≡ ring spots h
  unfolding loose_key
  loose_ring_is h a z = got_loose spots rings h a z

  pub next_successor : (h : ℕ) → live spots h ≡ true → next spots h ≡ successor (ring spots h) h
  next_successor h a = next_is_successor (next spots) (ring spots h) h (rings.rings h a).leads (rings.rings h a).item

  prev_predecessor : (h r : ℕ) → live spots r ≡ true → next spots r ≡ h → r ≡ predecessor (ring spots h) h
  prev_predecessor h r a e =
      let o = rings.rings r a in
      let i : IsIn h (ring spots r) = subst (λ z. IsIn z (ring spots r)) e (next_in_ring spots rings r a) in
      sym (predecessor-successor r (ring spots r) o.apart o.item) ∙ ap (predecessor (ring spots r)) (sym (next_successor r a) ∙ e) ∙ ap (λ hs. predecessor hs h) (sym (ring_same spots rings r h a i))

  pub after_is : (h : ℕ) → has_half model h ≡ true → loop_of model h ≢ 0 → next spots h ≡ after model h
  unfolding after
  after_is h there n = let a = half_there h there in next_successor h a ∙ ap (λ hs. successor hs h) (sym (cycle_of_is h a (λ z. n (loop_of_is h a ∙ z))))

  pub loose_after : (h : ℕ) → has_half model h ≡ true → loop_of model h ≡ 0 → next spots h ≡ successor (loose_ring store h) h
  loose_after h there z = let a = half_there h there in next_successor h a ∙ ap (λ hs. successor hs h) (sym (loose_ring_is h a (sym (loop_of_is h a) ∙ z)))

  pub before_is : (h r : ℕ) → has_half model h ≡ true → live spots r ≡ true → next spots r ≡ h → loop_of model h ≢ 0 → r ≡ before model h
  unfolding before
  before_is h r there b e n = let a = half_there h there in prev_predecessor h r b e ∙ ap (λ hs. predecessor hs h) (sym (cycle_of_is h a (λ z. n (loop_of_is h a ∙ z))))

  pub loose_before : (h r : ℕ) → has_half model h ≡ true → live spots r ≡ true → next spots r ≡ h → loop_of model h ≡ 0 → r ≡ predecessor (loose_ring store h) h
  loose_before h r there b e z = let a = half_there h there in prev_predecessor h r b e ∙ ap (λ hs. predecessor hs h) (sym (loose_ring_is h a (sym (loop_of_is h a) ∙ z)))

  pub entry_in : (l c : ℕ) (cell : LoopCell) → row_at arena.loops l ≡ Some cell → cell.stored ≡ At c → IsIn c (ring spots c)
  entry_in l c cell at e = (rings.rings c (subst (HasEntry spots l) e (tied.loops_tied.entries l cell at)).0).item
