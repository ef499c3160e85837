-- Once the copies are raised there are strips along the mates.
use Rattle.split_opening_laws.proofs.Prelude.{◌≡◌, ℕ, suc, ◌+◌, ◌<◌, List, ◌++◌, length, Option, Some, None, is_some, refl, sym, ap, ◌∙◌, subst, arith, inl, inr, true≢false, zero, ◌≤◌, ◌-◌, map, reverse, option_map, lt-ltb, cases_lt, length-map, get_or-map, canonical, mate, minus, get-map_rows, Table, same_table, Model, LoopRow, cycle, face_of, EdgeRow, FaceRow, Has, Sound, face_row, get-put_here, get-put_other, put-put, Leads, leads_on, leads_sound, effects, AreAccepted, Taken, numbers_after, next_place, rewritten_row, renamed, without_rows, with_rim, opened_row, opened_along, fits, with_rows, put_out, strip_face, raised_items, raised_loop, copies_raised, copied, raised_edge, riser_edge, strips_cut, CanBeOpened, HasStrips, strip_loop, capped, strip_ops, copy_ops, cap_ops}
use Rattle.euler_operators.specs.Table as table
use Rattle.split_opening_laws.specs.opening.OpeningOps.{opening_ops}
use Rattle.split_opening_laws.proofs.sections.Numbered.{rows_at, rows_high, rows_split, rows_low, rim_row}
use Rattle.split_opening_laws.proofs.strips.Cycle.{next_within, next_copy}
use Rattle.split_opening_laws.proofs.caps.Joined.{gone_below, gone_within, gone_above}
use Rattle.split_opening_laws.proofs.strips.Copied.{copy_at}
use Rattle.split_opening_laws.proofs.strips.Whole.{strips_lead}
use Rattle.split_opening_laws.proofs.copies.Raising.{raised_sound, copies_lead}
use Rattle.split_opening_laws.proofs.caps.Whole.{caps_lead}

-- ---- rows that are put at fresh numbers and go again

module _ {X : Type 0} (t : Table X) (k : ℕ) (row : ℕ → X) (free : (q : ℕ) → k < q → table.get t q ≡ None) where
  -- all of them
  pub gone_all : (n : ℕ) → without_rows (with_rows t k row n) (numbers_after k n) ≡ t
  gone_all n = grind (arith, cases_lt, gone_above, rows_high, gone_within, gone_below, rows_low, same_table, with_rows)

  -- all but the first
  pub gone_later : (n : ℕ) → without_rows (with_rows t k row (suc n)) (numbers_after (k + 1) n) ≡ table.put t (k + 1) (row 0)
  gone_later n =
      grind (arith, gone_below, rows_at, get-put_here, get-put_other, cases_lt, gone_above, rows_high, gone_within, rows_low, same_table, without_rows, with_rows, numbers_after)

-- ---- a solid opened along one cycle, from its first operator to its caps

module _ (M : Model) (above : List ℕ) (s : ℕ) (c : Taken) (bs : List ℕ) (w : CanBeOpened M above s c bs) where
  abbrev m : ℕ
  m = length bs

  abbrev hs : List ℕ
  hs = map mate bs

  abbrev N : Model
  N = copies_raised M above s c bs m

  abbrev rewrite : ℕ → LoopRow → LoopRow
  rewrite = rewritten_row (map (renamed (put_out c bs m)))

  pub size : length hs ≡ m
  size = length-map bs mate

  pub raised_faces : N.faces ≡ with_rows M.faces c.face (strip_face s c) m
  unfolding copies_raised
  raised_faces = refl

  pub raised_loops : N.loops ≡ with_rows (table.map_rows rewrite M.loops) c.loop (raised_loop c bs m) m
  unfolding copies_raised
  raised_loops = refl

  -- no loop was there above those taken
  pub loops_free : (q : ℕ) → c.loop < q → table.get (table.map_rows rewrite M.loops) q ≡ None
  loops_free q l = get-map_rows rewrite M.loops q ∙ ap (option_map (rewrite q)) (w.free.loops q l)

  items_are : (j : ℕ) → j < m → raised_items c bs m j ≡ strip_loop c hs j
  items_are j lt = grind (arith, lt-ltb, next_within, get_or-map, size)

  row_at : (j : ℕ) → j < m → table.get N.loops (c.loop + suc j) ≡ Some (raised_loop c bs m j)
  row_at j lt = ap (λ t. table.get t (c.loop + suc j)) raised_loops ∙ rows_at (table.map_rows rewrite M.loops) c.loop (raised_loop c bs m) m j lt

  -- a loop that was there keeps its face
  old_face : (q f : ℕ) → table.get N.loops q ≡ table.get (table.map_rows rewrite M.loops) q → Has N.loops q → face_of N q ≡ f → Has M.faces f
  old_face q f is there e =
      let at : table.get N.loops q ≡ option_map (rewrite q) (table.get M.loops q) = is ∙ get-map_rows rewrite M.loops q in
      from (table.get M.loops q) refl at where
        from : (o : Option LoopRow) → table.get M.loops q ≡ o → table.get N.loops q ≡ option_map (rewrite q) o → Has M.faces f
        from None at new = absurd (true≢false (sym there ∙ ap is_some new))
        from (Some row) at new = subst (Has M.faces) (face_row M q row at ∙ sym (face_row N q (rewrite q row) new) ∙ e) (w.sound.loops_of_faces q (ap is_some at))

  alone : (j q : ℕ) → j < m → Has N.loops q → face_of N q ≡ c.face + suc j → c.loop + suc j ≡ q
  alone j q lt there is = elim (rows_split (table.map_rows rewrite M.loops) c.loop (raised_loop c bs m) m q) [
    | inl p ↦
        let face : face_of N q ≡ c.face + suc p.0 = ap (face_of N) p.2 ∙ face_row N (c.loop + suc p.0) (raised_loop c bs m p.0) (row_at p.0 p.1) in
        omega (arith, sym face ∙ is, p.2)
    | inr p ↦ absurd (true≢false (sym (old_face q (c.face + suc j) (ap (λ t. table.get t q) raised_loops ∙ p) there is) ∙ ap is_some (w.free.faces (c.face + suc j) (omega arith))))
  ]

  pub raised_strips : HasStrips N s c hs
  raised_strips = record {
    some = omega (arith, size, w.cycle.two_halves);
    loops = λ j lt. row_at j (within j lt) ∙ ap (λ xs. Some (record { face = c.face + suc j; content = cycle (canonical xs) })) (items_are j (within j lt));
    faces = λ j lt. ap (λ t. table.get t (c.face + suc j)) raised_faces ∙ rows_at M.faces c.face (strip_face s c) m j (within j lt);
    alone = λ j q lt. alone j q (within j lt);
    face_free = ap (λ t. table.get t (c.face + length hs + 1)) raised_faces ∙ rows_high M.faces c.face (strip_face s c) m (c.face + length hs + 1) (omega (arith, size)) ∙ w.free.faces (c.face + length hs + 1) (omega arith);
    loop_free = ap (λ t. table.get t (c.loop + length hs + 1)) raised_loops ∙ rows_high (table.map_rows rewrite M.loops) c.loop (raised_loop c bs m) m (c.loop + length hs + 1) (omega (arith, size)) ∙ loops_free (c.loop + length hs + 1) (omega arith);
    face_fits = fits (c.face + length hs + 1) (omega arith) (omega (arith, size, w.left.faces));
    loop_fits = fits (c.loop + length hs + 1) (omega arith) (omega (arith, size, w.left.loops));
  } where
    within : (j : ℕ) → j < length hs → j < m
    within j lt = omega (arith, lt, size)

  -- ---- the edges round the cap above lead from copy to copy

  row_is : (j : ℕ) → j < m → raised_edge M bs (copied M c bs m) j ≡ rim_row c.vertex m j
  row_is j lt = λ i. record {
    plus_tail = (ap (renamed (copied M c bs m)) (sym (w.cycle.meet j lt)) ∙ copy_at M above s c bs w m (next_place m j) (next_within m j lt) (next_within m j lt) ∙ sym (next_copy c.vertex m j)) i;
    minus_tail = copy_at M above s c bs w m j lt lt i;
  }

  pub rim_is : (t : Table EdgeRow) (j : ℕ) → j ≤ m → with_rows t c.edge (raised_edge M bs (copied M c bs m)) j ≡ with_rim t c.edge c.vertex m j
  rim_is t zero l = refl
  rim_is t (suc j) l = λ i. table.put (rim_is t j (omega (arith, l)) i) (c.edge + suc j) (row_is j (omega (arith, l)) i)

  -- ---- the caps made of the strips: the solid is open

  abbrev C : Model
  C = capped N s c hs

  abbrev X : Model
  X = opened_along M above s c bs

  one_and_rest : m ≡ suc (m - 1)
  one_and_rest = omega (arith, w.cycle.two_halves)

  abbrev face_at_end : ℕ → FaceRow
  face_at_end k = record { solid = s; outer = c.loop + k + 1 }

  abbrev lower : LoopRow
  lower = record { face = c.face + 1; content = cycle (canonical (reverse hs)) }

  abbrev upper : ℕ → LoopRow
  upper k = record { face = c.face + k + 1; content = cycle (map minus (numbers_after c.edge k)) }

  -- ---- faces

  faces_open : C.faces ≡ X.faces
  unfolding capped opened_along
  faces_open = refl
      ∙ (λ i. table.put (without_rows (raised_faces i) (numbers_after (c.face + 1) (size i - 1))) (c.face + size i + 1) (face_at_end (size i)))
      ∙ ap (λ k. table.put (without_rows (with_rows M.faces c.face (strip_face s c) k) (numbers_after (c.face + 1) (m - 1))) (c.face + m + 1) (face_at_end m)) one_and_rest
      ∙ ap (λ t. table.put t (c.face + m + 1) (face_at_end m)) (gone_later M.faces c.face (strip_face s c) w.free.faces (m - 1))
      ∙ refl

  -- ---- loops

  abbrev rewritten : Table LoopRow
  rewritten = table.map_rows (rewritten_row (map (renamed (put_out c bs m)))) M.loops

  loops_open : C.loops ≡ X.loops
  unfolding capped opened_along
  loops_open = refl
      ∙ (λ i. table.put (table.put (without_rows (raised_loops i) (numbers_after (c.loop + 1) (size i - 1))) (c.loop + 1) lower) (c.loop + size i + 1) (upper (size i)))
      ∙ ap (λ k. table.put (table.put (without_rows (with_rows rewritten c.loop (raised_loop c bs m) k) (numbers_after (c.loop + 1) (m - 1))) (c.loop + 1) lower) (c.loop + m + 1) (upper m)) one_and_rest
      ∙ ap (λ t. table.put (table.put t (c.loop + 1) lower) (c.loop + m + 1) (upper m)) (gone_later rewritten c.loop (raised_loop c bs m) loops_free (m - 1))
      ∙ ap (λ t. table.put t (c.loop + m + 1) (upper m)) (put-put rewritten (c.loop + 1) (raised_loop c bs m 0) lower)
      ∙ refl

  -- ---- edges

  abbrev opened : Table EdgeRow
  opened = table.map_rows (opened_row M above hs (copied M c bs m)) M.edges

  abbrev rimmed : Table EdgeRow
  rimmed = with_rows opened c.edge (raised_edge M bs (copied M c bs m)) m

  C_edges : C.edges ≡ without_rows N.edges (numbers_after (c.edge + length hs) (length hs))
  unfolding capped
  C_edges = refl

  N_edges : N.edges ≡ with_rows rimmed (c.edge + m) (riser_edge M c bs) m
  unfolding copies_raised
  N_edges = refl

  X_edges : with_rim opened c.edge c.vertex m m ≡ X.edges
  unfolding opened_along
  X_edges = refl

  edges_free : (q : ℕ) → c.edge + m < q → table.get rimmed q ≡ None
  edges_free q l = rows_high opened c.edge (raised_edge M bs (copied M c bs m)) m q l
      ∙ get-map_rows (opened_row M above hs (copied M c bs m)) M.edges q
      ∙ ap (option_map (opened_row M above hs (copied M c bs m) q)) (w.free.edges q (omega (arith, l)))

  edges_open : C.edges ≡ X.edges
  edges_open = grind (arith, C_edges, N_edges, size, gone_all, edges_free, rim_is, X_edges)

  kept : (C.solids ≡ X.solids) × (C.vertices ≡ X.vertices)
  unfolding capped copies_raised opened_along
  kept = (refl, refl)

  pub capped_is_open : C ≡ X
  capped_is_open = λ i. record { solids = kept.0 i; faces = faces_open i; loops = loops_open i; edges = edges_open i; vertices = kept.1 i }

  -- no operator is refused, and they open the solid
  pub opening_leads : Leads M X (opening_ops M s c bs)
  unfolding opening_ops
  opening_leads = leads_on M N X (strip_ops M s c bs m ++ copy_ops M c bs m) (cap_ops c m)
      (leads_on M (strips_cut M s c bs m) N (strip_ops M s c bs m) (copy_ops M c bs m) (strips_lead M above s c bs w m (omega arith)) (copies_lead M above s c bs w m (omega arith)))
      (subst (λ Y. Leads N Y (cap_ops c m)) capped_is_open (subst (λ n. Leads N C (cap_ops c n)) size (caps_lead N s c hs (raised_sound M above s c bs w) raised_strips)))

  pub opening_accepted : AreAccepted M (opening_ops M s c bs)
  opening_accepted = opening_leads.accepted

  pub opening_made : effects M (opening_ops M s c bs) ≡ X
  opening_made = opening_leads.made

  pub opened_sound : Sound X
  opened_sound = leads_sound M X (opening_ops M s c bs) w.sound opening_leads
