-- What the loops hold, and where half-edges start, once one copy more is raised.
use Rattle.split_opening_laws.proofs.Prelude.{◌≡◌, ◌≢◌, ℕ, suc, ◌+◌, ◌≤◌, ◌<◌, cond, List, [], ◌∷◌, ◌++◌, length, Some, None, is_some, refl, sym, ap, ◌∙◌, subst, arith, inl, inr, Bool, true, false, nat_eq, ◌⊎◌, map, get_or, nat_lt, not, ◌&&◌, option_map, lt-ltb, append_assoc, ne_eqb, nat_tests, eqb_tells, and_parts, not-true, cases_Bool, le-ltb, count, IsIn, IsApart, canonical, insert_before, mate, edge_of, plus, minus, Table, get-map_rows, Model, LoopRow, cycle, loop_of, EdgeRow, tail, arc, point_of, is_number, Sound, Has, HasHalf, with_before, with_tails, edge_row, effect, mev_at, face_at, lists, first_false, tick_other, count-append, tick_same, canonical-rotates, count-canonical, canonical_same, insert_before_at, insert_before_same, plus_row, minus_row, mate_plus, code-half, map_same, in_use_within, map_alike, in-holds, holds-none, none-holds, other_loop, not_held, plus_tail_row, minus_tail_row, map_twice, mapped_some, put_apart, loop_is, apart_xs, where_held_none, where_held_there, edge_row_plus, point_row, MevGoes, mev_accepted, edge_plus, Taken, next_place, rewritten_row, renamed, opened_row, opened_tail, with_rows, put_out, copy_riser, riser_edge, copied, raised_items, raised_loop, raised_edge, copies_raised, place_before, raise_copy, CanBeOpened, fits}
use Rattle.euler_operators.specs.Table as table
use Rattle.split_opening_laws.proofs.sections.Numbered.{rows_low, rows_high, rows_same, rows_map}
use Rattle.split_opening_laws.proofs.strips.Cycle as on
use Rattle.split_opening_laws.proofs.strips.Cycle.{before_below, before_apart, next-before, next_once}
use Rattle.split_opening_laws.proofs.copies.Raised as raised
use Rattle.split_opening_laws.proofs.copies.Raised.{arc_first, arc_up, arc_down, arc_else}
use Rattle.split_opening_laws.proofs.strips.Copied as copy

less_next : (a i : ℕ) → a ≢ i → nat_lt a (suc i) ≡ nat_lt a i
less_next a i ne = grind (arith, nat_tests)

-- an item put in before another, in a ring written from its least item on
put_into : (h y : ℕ) (xs : List ℕ) → IsApart xs → IsIn h xs → count y xs ≡ 0 → canonical (insert_before h y (canonical xs)) ≡ canonical (insert_before h y xs)
put_into h y xs d at none = sym (canonical_same (insert_before h y xs) (insert_before h y (canonical xs)) (insert_before_same h y xs (canonical xs) (canonical-rotates xs) d at none) (put_apart xs d h y at none))

-- ---- where half-edges start once one copy more is raised

module _ (M : Model) (above : List ℕ) (s : ℕ) (c : Taken) (bs : List ℕ) (w : CanBeOpened M above s c bs) (i : ℕ) (lt : i < length bs) (sound : Sound (copies_raised M above s c bs i)) where
  abbrev N : Model
  N = copies_raised M above s c bs i

  abbrev m : ℕ
  m = length bs

  abbrev mates : List ℕ
  mates = map mate bs

  abbrev copies : List (ℕ × ℕ)
  copies = copied M c bs i

  abbrev p : ℕ
  p = place_before (length bs) i

  abbrev g : ℕ
  g = minus (c.edge + suc i)

  abbrev k : ℕ
  k = mate (get_or bs (place_before (length bs) i) 0)

  abbrev u : ℕ
  u = copy_riser c bs i

  p_below : p < m
  p_below = before_below m i lt

  p_apart : p ≢ i
  p_apart = before_apart m i w.cycle.two_halves lt

  -- the edge is free
  pub edge_free : table.get N.edges u ≡ None
  edge_free =
      grind (arith, raised.raised_edges, rows_high, u, with_rows, opened_row, mates, copies, raised_edge, m, riser_edge, get-map_rows, option_map)

  abbrev up_before : ℕ → LoopRow → LoopRow
  up_before = with_before (minus (c.edge + suc i)) (plus (copy_riser c bs i))

  abbrev down_before : ℕ → LoopRow → LoopRow
  down_before = with_before (mate (get_or bs (place_before (length bs) i) 0)) (minus (copy_riser c bs i))

  abbrev both_before : ℕ → LoopRow → LoopRow
  both_before q row = down_before q (up_before q row)

  abbrev items : ℕ → List ℕ
  items j = raised_items c bs i j

  items_apart : (j : ℕ) → j < m → IsApart (items j)
  items_apart j below = apart_xs N (c.loop + suc j) (c.face + suc j) (items j) (raised.around M above s c bs w i sound j below)

  g_in : IsIn g (items i)
  g_in = raised.back_in M above s c bs w i sound i

  k_in : IsIn k (items p)
  k_in = raised.mate_in M above s c bs w i sound p

  g_loop : loop_of N g ≡ c.loop + suc i
  g_loop = loop_is N (c.loop + suc i) (c.face + suc i) (items i) (raised.around M above s c bs w i sound i lt) g g_in

  k_loop : loop_of N k ≡ c.loop + suc p
  k_loop = loop_is N (c.loop + suc p) (c.face + suc p) (items p) (raised.around M above s c bs w i sound p p_below) k k_in

  -- a loop in which neither half-edge stands
  neither : (q : ℕ) (row : LoopRow) → table.get N.loops q ≡ Some row → q ≢ c.loop + suc i → q ≢ c.loop + suc p → both_before q row ≡ row
  neither q row at ng nk = grind (arith, other_loop, g_loop, k_loop)

  old_loop : (q : ℕ) (row : LoopRow) → table.get (table.map_rows (rewritten_row (map (renamed (put_out c bs m)))) M.loops) q ≡ Some row → both_before q row ≡ row
  old_loop q row at =
      let there : Has M.loops q = sym (ap is_some (get-map_rows (rewritten_row (map (renamed (put_out c bs m)))) M.loops q) ∙ mapped_some (rewritten_row (map (renamed (put_out c bs m))) q) (table.get M.loops q)) ∙ ap is_some at in
      let low : q ≤ c.loop = in_use_within M.loops c.loop w.free.loops q there in
      neither q row (ap (λ t. table.get t q) (raised.raised_loops M above s c bs w i sound) ∙ rows_low (table.map_rows (rewritten_row (map (renamed (put_out c bs m)))) M.loops) c.loop (raised_loop c bs i) m q low ∙ at)
      (λ e. omega (arith, e, low)) (λ e. omega (arith, e, low))

  strip_there : (j : ℕ) → j < m → table.get N.loops (c.loop + suc j) ≡ Some (raised_loop c bs i j)
  strip_there j below = (raised.around M above s c bs w i sound j below).at

  none_new : (h j : ℕ) → j < m → edge_of h ≡ u → count h (items j) ≡ 0
  none_new h j below is = sym (count-canonical h (items j)) ∙ not_held N sound h (ap (table.get N.edges) is ∙ edge_free) (c.loop + suc j) (raised_loop c bs i j) (strip_there j below)

  k_new : k ≢ plus u
  k_new e = omega (arith, on.low_edge M above s c bs w k (on.mate_there M above s c bs w p p_below), ap edge_of e, (plus_row u).0)

  k_else : count k (items i) ≡ 0
  k_else = sym (count-canonical k (items i))
      ∙ none-holds k (cycle (canonical (items i))) (other_loop N sound k (c.loop + suc i) (raised_loop c bs i i) (λ e. p_apart (omega (arith, e, k_loop))) (strip_there i lt))

  g_else : count g (items p) ≡ 0
  g_else = sym (count-canonical g (items p))
      ∙ none-holds g (cycle (canonical (items p))) (other_loop N sound g (c.loop + suc p) (raised_loop c bs i p) (λ e. p_apart (omega (arith, e, g_loop))) (strip_there p p_below))

  -- the strip of -ci gets the copy_riser
  abbrev risen : List ℕ
  risen = mate (get_or bs i 0) ∷ plus (copy_riser c bs i) ∷ minus (c.edge + suc i) ∷ raised.fall_part M above s c bs w i sound i

  flat : items i ≡ (mate (get_or bs i 0) ∷ []) ++ g ∷ raised.fall_part M above s c bs w i sound i
  flat = ap (λ b. mate (get_or bs i 0) ∷ cond b (plus u ∷ []) [] ++ g ∷ raised.fall_part M above s c bs w i sound i) (le-ltb i i (omega arith))

  risen_is : canonical (insert_before g (plus u) (canonical (items i))) ≡ canonical risen
  risen_is =
      grind (arith, nat_tests, items_apart, raised.fall_part, put_into, g_in, none_new, edge_plus, flat, insert_before_at, count-append, tick_same)

  risen_k : count k (canonical risen) ≡ 0
  risen_k = count-canonical k risen ∙ omega (arith, k_else, ap (count k) flat, tick_other k (plus u) k_new)

  rise_row : both_before (c.loop + suc i) (raised_loop c bs i i) ≡ raised_loop c bs (suc i) i
  rise_row = grind (arith, nat_tests, where_held_there, in-holds, g_in, count-canonical, risen_is, where_held_none, holds-none, risen_k)

  -- and the strip before it the way down
  abbrev rises : List ℕ
  rises = raised.rise_part M above s c bs w i sound p

  fallen_is : canonical (insert_before k (minus u) (canonical (items p))) ≡ canonical (raised_items c bs (suc i) p)
  fallen_is =
      let d : IsApart (items p) = items_apart p p_below in
      let b : ℕ = minus (c.edge + suc p) in
      let last : items p ≡ (k ∷ rises) ++ b ∷ [] = raised.last_items M above s c bs w i sound lt in
      let none : count (minus u) (items p) ≡ 0 = none_new (minus u) p p_below (minus_row u).0 in
      let in_front : insert_before k (minus u) ((k ∷ rises) ++ b ∷ []) ≡ minus u ∷ ((k ∷ rises) ++ b ∷ []) = insert_before_at k (minus u) [] (rises ++ b ∷ []) refl in
      let here : insert_before k (minus u) (items p) ≡ minus u ∷ ((k ∷ rises) ++ b ∷ []) = ap (insert_before k (minus u)) last ∙ in_front in
      let new : ((k ∷ rises) ++ b ∷ []) ++ minus u ∷ [] ≡ raised_items c bs (suc i) p =
      append_assoc (k ∷ rises) (b ∷ []) (minus u ∷ [])
      ∙ (λ n. k ∷ cond (sym (less_next p i p_apart) n) (plus (copy_riser c bs p) ∷ []) [] ++ b ∷ cond (sym (lt-ltb i (suc i) (omega arith)) n) (minus u ∷ []) [])
      ∙ ap (λ q. k ∷ cond (nat_lt p (suc i)) (plus (copy_riser c bs p) ∷ []) [] ++ b ∷ cond (nat_lt q (suc i)) (minus (copy_riser c bs q) ∷ []) []) (sym (next-before m i lt)) in
      put_into k (minus u) (items p) d k_in none
      ∙ ap canonical here
      ∙ canonical_same (minus u ∷ ((k ∷ rises) ++ b ∷ [])) (((k ∷ rises) ++ b ∷ []) ++ minus u ∷ []) (record { front = minus u ∷ []; back = (k ∷ rises) ++ b ∷ []; here = refl; there = refl })
      (subst IsApart here (put_apart (items p) d k (minus u) k_in none))
      ∙ ap canonical new

  fall_row : both_before (c.loop + suc p) (raised_loop c bs i p) ≡ raised_loop c bs (suc i) p
  fall_row = grind (arith, nat_tests, where_held_none, holds-none, count-canonical, g_else, where_held_there, in-holds, k_in, fallen_is)

  -- the others stay
  strip_row : (j : ℕ) → j < m → both_before (c.loop + suc j) (raised_loop c bs i j) ≡ raised_loop c bs (suc i) j
  strip_row j below = elim (eqb_tells j i) [
    | inl e ↦ subst (λ q. both_before (c.loop + suc q) (raised_loop c bs i q) ≡ raised_loop c bs (suc i) q) (sym e.1) rise_row
    | inr e ↦ elim (eqb_tells j p) [
      | inl f ↦ subst (λ q. both_before (c.loop + suc q) (raised_loop c bs i q) ≡ raised_loop c bs (suc i) q) (sym f.1) fall_row
      | inr f ↦
          let ne : next_place m j ≢ i = λ q. f.1 (next_once m i j lt below q) in
          neither (c.loop + suc j) (raised_loop c bs i j) (strip_there j below) (λ q. e.1 (omega arith)) (λ q. f.1 (omega arith))
          ∙ (λ n. record {
            face = c.face + suc j;
            content = cycle (canonical (mate (get_or bs j 0) ∷ cond (sym (less_next j i e.1) n) (plus (copy_riser c bs j) ∷ []) [] ++ minus (c.edge + suc j) ∷
                cond (sym (less_next (next_place m j) i ne) n) (minus (copy_riser c bs (next_place m j)) ∷ []) []));
          })
    ]
  ]

  pub loops_next : table.map_rows (with_before k (mate (plus u))) (table.map_rows (with_before g (plus u)) N.loops) ≡ (copies_raised M above s c bs (suc i)).loops
  unfolding copies_raised
  loops_next =
      let base : Table LoopRow = table.map_rows (rewritten_row (map (renamed (put_out c bs m)))) M.loops in
      (λ n. table.map_rows (with_before k (mate_plus u n)) (table.map_rows up_before (raised.raised_loops M above s c bs w i sound n)))
      ∙ map_twice down_before up_before (with_rows base c.loop (raised_loop c bs i) m)
      ∙ rows_map both_before base c.loop (raised_loop c bs i) m
      ∙ rows_same (table.map_rows both_before base) c.loop (λ j. both_before (c.loop + suc j) (raised_loop c bs i j)) (raised_loop c bs (suc i)) m strip_row
      ∙ ap (λ t. with_rows t c.loop (raised_loop c bs (suc i)) m) (map_same both_before base old_loop)

  abbrev copies' : List (ℕ × ℕ)
  copies' = copied M c bs (suc i)

  abbrev side : ℕ → Bool
  side h = lists above (face_at (copies_raised M above s c bs i) h)

  abbrev x : ℕ
  x = tail M (get_or bs i 0)

  abbrev y : ℕ
  y = c.vertex + suc i

  abbrev moved : List ℕ
  moved = arc (copies_raised M above s c bs i) (minus (c.edge + suc i)) (mate (get_or bs (place_before (length bs) i) 0))

  some_less : (h : ℕ) → IsIn h moved → nat_lt 0 (count h moved) ≡ true
  some_less h at = lt-ltb 0 (count h moved) (omega (arith, at))

  none_less : (h : ℕ) → count h moved ≡ 0 → nat_lt 0 (count h moved) ≡ false
  none_less h none = le-ltb 0 (count h moved) (omega (arith, none))

  -- what is above, and g, moves where it starts at the vertex
  moves : (h : ℕ) → HasHalf N h → (side h ≡ true) ⊎ (h ≡ g) → nat_lt 0 (count h moved) ≡ nat_eq (tail N h) x
  moves h there above_or = elim (eqb_tells (tail N h) x) [
    | inl e ↦ elim above_or [
      | inl t ↦ some_less h (arc_up N sound side g k (raised.splits M above s c bs w i sound lt) h there (e.1 ∙ sym (raised.g_tail M above s c bs w i sound lt)) t) ∙ sym e.0
      | inr q ↦ some_less h (subst (λ z. IsIn z moved) (sym q) (arc_first N sound side g k (raised.splits M above s c bs w i sound lt))) ∙ sym e.0
    ]
    | inr e ↦ none_less h (arc_else N sound side g k (raised.splits M above s c bs w i sound lt) h (λ q. e.1 (q ∙ raised.g_tail M above s c bs w i sound lt))) ∙ sym e.0
  ]

  -- nothing else does
  stays : (h : ℕ) → side h ≡ false → h ≢ g → nat_lt 0 (count h moved) ≡ false
  stays h d ne = none_less h (arc_down N sound side g k (raised.splits M above s c bs w i sound lt) h d ne)

  other_edge : (h e : ℕ) → edge_of h ≡ e → e ≢ c.edge + suc i → h ≢ g
  other_edge h e is ne q = ne (sym is ∙ ap edge_of q ∙ (minus_row (c.edge + suc i)).0)

  turned : (v : ℕ) → cond (nat_eq (renamed copies v) x) y (renamed copies v) ≡ renamed copies' v
  turned v = sym (copy.copy_next M above s c bs w i v lt)

  -- a half-edge that was there
  old_moves : (h : ℕ) → HasHalf M h → cond (nat_lt 0 (count h moved)) y (opened_tail M above mates copies h (tail M h)) ≡ opened_tail M above mates copies' h (tail M h)
  old_moves h there = elim (cases_Bool (lists above (face_at M h) && not (lists mates h))) [
    | inl t ↦ grind (arith, and_parts, not-true, raised.old_tail, raised.old_side, moves, raised.old_half, turned)
    | inr f ↦
        let is : opened_tail M above mates copies h (tail M h) ≡ tail M h = ap (λ b. cond b (renamed copies (tail M h)) (tail M h)) f in
        let down : side h ≡ false = elim (cases_Bool (lists mates h)) [
          | inl l ↦ (raised.listed_side M above s c bs w i sound lt h l).0
          | inr l ↦ raised.old_side M above s c bs w i sound h there l ∙ grind arith
        ] in
        (λ n. cond (stays h down (other_edge h (edge_of h) refl (λ e. omega (arith, e, on.low_edge M above s c bs w h there))) n) y (is n))
        ∙ sym (ap (λ b. cond b (renamed copies' (tail M h)) (tail M h)) f)
  ]

  old_row : (e : ℕ) (row : EdgeRow) → table.get M.edges e ≡ Some row → with_tails moved y e (opened_row M above mates copies e row) ≡ opened_row M above mates copies' e row
  old_row e row at =
      let a : tail M (plus e) ≡ row.plus_tail = plus_tail_row M e row at in
      let b : tail M (minus e) ≡ row.minus_tail = minus_tail_row M e row at in
      let pt : HasHalf M (plus e) = ap (λ q. is_some (table.get M.edges q)) (plus_row e).0 ∙ ap is_some at in
      let mt : HasHalf M (minus e) = ap (λ q. is_some (table.get M.edges q)) (minus_row e).0 ∙ ap is_some at in
      λ n. record {
        plus_tail = subst (λ v. cond (nat_lt 0 (count (plus e) moved)) y (opened_tail M above mates copies (plus e) v) ≡ opened_tail M above mates copies' (plus e) v) a (old_moves (plus e) pt) n;
        minus_tail = subst (λ v. cond (nat_lt 0 (count (minus e) moved)) y (opened_tail M above mates copies (minus e) v) ≡ opened_tail M above mates copies' (minus e) v) b (old_moves (minus e) mt) n;
      }

  -- +cj and -cj
  out_half : (j : ℕ) → j < m → HasHalf N (plus (c.edge + suc j))
  out_half j below = ap (λ q. is_some (table.get N.edges q)) (plus_row (c.edge + suc j)).0 ∙ ap is_some (raised.out_edge M above s c bs w i sound j below)

  out_row : (j : ℕ) → j < m → with_tails moved y (c.edge + suc j) (raised_edge M bs copies j) ≡ raised_edge M bs copies' j
  out_row j below = λ n. record { plus_tail = first n; minus_tail = second n } where
    v : ℕ
    v = tail M (get_or bs j 0)

    first : cond (nat_lt 0 (count (plus (c.edge + suc j)) moved)) y (renamed copies (tail M (mate (get_or bs j 0)))) ≡ renamed copies' (tail M (mate (get_or bs j 0)))
    first = grind (arith, moves, out_half, raised.out_side, raised.out_tail, turned)

    second : cond (nat_lt 0 (count (minus (c.edge + suc j)) moved)) y (renamed copies (tail M (get_or bs j 0))) ≡ renamed copies' (tail M (get_or bs j 0))
    second =
        ap (λ b. cond b y (renamed copies (tail M (get_or bs j 0)))) (elim (eqb_tells j i) [
          | inl e ↦ grind (arith, moves, raised.g_there, raised.back_tail)
          | inr e ↦
              stays (minus (c.edge + suc j)) (raised.strip_side M above s c bs w i sound j (minus (c.edge + suc j)) below (raised.back_in M above s c bs w i sound j))
              (other_edge (minus (c.edge + suc j)) (c.edge + suc j) (minus_row (c.edge + suc j)).0 (λ q. e.1 (omega arith)))
              ∙ sym (ne_eqb (renamed copies (tail M (get_or bs j 0))) x (λ q. e.1 (raised.back_start M above s c bs w i sound lt j below (raised.back_tail M above s c bs w i sound j below ∙ q))))
        ])
        ∙ turned (tail M (get_or bs j 0))

  -- the risers that stand
  riser_row : (j : ℕ) → j < i → with_tails moved y (c.edge + m + suc j) (riser_edge M c bs j) ≡ riser_edge M c bs j
  riser_row j less = λ n. record { plus_tail = ap (λ b. cond b y (tail M (get_or bs j 0))) rise_stays n; minus_tail = ap (λ b. cond b y (c.vertex + suc j)) fall_stays n } where
    other : (h : ℕ) → edge_of h ≡ copy_riser c bs j → h ≢ g
    other h is = other_edge h (copy_riser c bs j) is (λ e. omega arith)

    rise_stays : nat_lt 0 (count (plus (copy_riser c bs j)) moved) ≡ false
    rise_stays = stays (plus (copy_riser c bs j)) (raised.strip_side M above s c bs w i sound j (plus (copy_riser c bs j)) (omega arith) (raised.rise_in M above s c bs w i sound j less)) (other (plus (copy_riser c bs j)) (plus_row (copy_riser c bs j)).0)

    place_next : next_place m (place_before m j) ≡ j
    place_next = next-before m j (omega arith)

    fall_stays : nat_lt 0 (count (minus (copy_riser c bs j)) moved) ≡ false
    fall_stays = stays (minus (copy_riser c bs j))
        (raised.strip_side M above s c bs w i sound (place_before m j) (minus (copy_riser c bs j)) (before_below m j (omega arith))
        (subst (λ q. IsIn (minus (copy_riser c bs q)) (raised_items c bs i (place_before m j))) place_next (raised.fall_in M above s c bs w i sound (place_before m j) (subst (λ q. q < i) (sym place_next) less))))
        (other (minus (copy_riser c bs j)) (minus_row (copy_riser c bs j)).0)

  pub edges_next : table.put (table.map_rows (with_tails moved y) N.edges) (edge_of (plus u)) (edge_row (plus u) (tail N g) y) ≡ (copies_raised M above s c bs (suc i)).edges
  unfolding copies_raised
  edges_next =
      let turn : ℕ → EdgeRow → EdgeRow = with_tails moved y in
      let base : Table EdgeRow = table.map_rows (opened_row M above mates copies) M.edges in
      let base' : Table EdgeRow = table.map_rows (opened_row M above mates copies') M.edges in
      let inner : Table EdgeRow = with_rows base c.edge (raised_edge M bs copies) m in
      (λ n. table.put (table.map_rows turn (raised.raised_edges M above s c bs w i sound n)) (edge_plus u n) ((edge_row_plus u (tail N g) y ∙ ap (λ v. record { plus_tail = v; minus_tail = y }) (raised.g_tail M above s c bs w i sound lt)) n))
      ∙ ap (λ t. table.put t u (riser_edge M c bs i)) (
      rows_map turn inner (c.edge + m) (riser_edge M c bs) i
      ∙ rows_same (table.map_rows turn inner) (c.edge + m) (λ j. turn (c.edge + m + suc j) (riser_edge M c bs j)) (riser_edge M c bs) i riser_row
      ∙ ap (λ t. with_rows t (c.edge + m) (riser_edge M c bs) i) (
      rows_map turn base c.edge (raised_edge M bs copies) m
      ∙ rows_same (table.map_rows turn base) c.edge (λ j. turn (c.edge + suc j) (raised_edge M bs copies j)) (raised_edge M bs copies') m out_row
      ∙ ap (λ t. with_rows t c.edge (raised_edge M bs copies') m)
      (map_twice turn (opened_row M above mates copies) M.edges ∙ map_alike (λ e row. turn e (opened_row M above mates copies e row)) (opened_row M above mates copies') M.edges old_row)
      )
      )

  -- ---- one copy more is raised

  -- ---- the operator is accepted

  goes : MevGoes N g k (plus u) y (point_of M x)
  goes = record {
    g_there = raised.g_there M above s c bs w i sound lt;
    k_there = raised.k_there M above s c bs w i sound lt;
    edge_free = ap (table.get N.edges) (edge_plus u) ∙ edge_free;
    vertex_free = ap (λ t. table.get t y) (raised.raised_vertices M above s c bs w i sound) ∙ copy.points_free M above s c bs w i y (omega arith) (omega arith);
    one_tail = raised.k_tail M above s c bs w i sound lt ∙ sym (raised.g_tail M above s c bs w i sound lt);
    edge_fits = ap is_number (edge_plus u) ∙ fits u (omega arith) (omega (arith, w.left.edges, lt));
    vertex_fits = fits y (omega arith) (omega (arith, w.left.vertices, lt));
    point_fits = w.sound.points_fit x (point_of M x) (point_row M x (w.sound.tails_there (get_or bs i 0) (on.half_there M above s c bs w i lt)));
  }

  pub copy_accepted : first_false N (raise_copy M c bs i) ≡ None
  copy_accepted = grind (arith, mev_accepted, code-half, goes)

  -- ---- and it raises the copy

  vertices_next : table.put N.vertices y (point_of M x) ≡ (copies_raised M above s c bs (suc i)).vertices
  unfolding copies_raised
  vertices_next = ap (λ t. table.put t y (point_of M x)) (raised.raised_vertices M above s c bs w i sound) ∙ sym (copy.points_next M above s c bs w i lt)

  faces_stay : N.faces ≡ (copies_raised M above s c bs (suc i)).faces
  unfolding copies_raised
  faces_stay = refl

  solids_stay : N.solids ≡ (copies_raised M above s c bs (suc i)).solids
  unfolding copies_raised
  solids_stay = refl

  pub copy_is : effect N (raise_copy M c bs i) ≡ copies_raised M above s c bs (suc i)
  unfolding effect mev_at
  copy_is = (λ n. mev_at N (code-half g n) (code-half k n) (code-half (plus u) n) y (point_of M x))
      ∙ (λ n. record { solids = solids_stay n; faces = faces_stay n; loops = loops_next n; edges = edges_next n; vertices = vertices_next n })
