-- The arc round a vertex whose half-edges lie on two sides, and where it lies once the strips are cut off and some copies raised.
use Rattle.split_opening_laws.proofs.Prelude.{◌≡◌, ◌≢◌, ℕ, ◌+◌, Bool, true, false, List, [], ◌∷◌, ◌++◌, refl, sym, ap, ◌∙◌, subst, arith, ◌⊎◌, inl, inr, true≢false, suc, ◌≤◌, ◌<◌, cond, length, Some, is_some, map, get_or, nat_lt, not, ◌&&◌, option_map, lt-ltb, eqb_tells, nat_tests, le-ltb, cases_Bool, and_right, count, IsIn, IsApart, rotate_to, IsPath, IsRing, between, beyond, canonical, successor, Model, tail, after, arc, round, EdgeRow, tail_in, face_of, Sound, HasHalf, mate, edge_of, plus, minus, get-map_rows, face_at, lists, count-append, tick_same, tick_other, IsIn_or_not, rotate_to-rotates, count-rotate_to, canonical-rotates, IsPath-left, IsPath-right, IsRing-same, successor_same, successor_last, ring_split, upto_other, tail_row, plus_tail_row, minus_tail_row, mate_there, row_some, mate-mate, minus_row, mate_plus, mate_minus, arc_is, halves_of_edge, Fan, fan_of, loop_after, mapped_some, Around, loop_is, face_is, half_is, cycle_is, apart_xs, Taken, next_place, rewritten_row, renamed, opened_tail, opened_row, with_copies, with_rows, put_out, copy_riser, riser_edge, copied, raised_items, raised_loop, raised_edge, copies_raised, CanBeOpened, place_before, none_in}
use Rattle.euler_operators.specs.Table as table
use Rattle.split_opening_laws.proofs.sections.Numbered.{rows_at, rows_low, rows_split}
use Rattle.split_opening_laws.proofs.strips.Cycle as on
use Rattle.split_opening_laws.proofs.strips.Cycle.{next_within, before_below, next-before, next_once}
use Rattle.split_opening_laws.proofs.strips.Copied as copy

-- round the start of g come, after g, the half-edges on one side, then k, and then the others
pub record Splits (N : Model) (up : ℕ → Bool) (g k : ℕ) : Type 0 where
  pub g_there : HasHalf N g
  pub k_there : HasHalf N k
  pub one_tail : tail N k ≡ tail N g
  pub apart : g ≢ k
  pub k_down : up k ≡ false
  pub first_up : up (round N g) ≡ true
  pub stays_up : (h : ℕ) → HasHalf N h → tail N h ≡ tail N g → up h ≡ true → (round N h ≡ k) ⊎ (up (round N h) ≡ true)
  pub stays_down : (h : ℕ) → HasHalf N h → tail N h ≡ tail N g → up h ≡ false → h ≢ g → up (round N h) ≡ false

module _ (N : Model) (sound : Sound N) (up : ℕ → Bool) (g k : ℕ) (w : Splits N up g k) where
  fan : Fan (after N) N (tail N g)
  fan = fan_of N sound g w.g_there

  abbrev ws : List ℕ
  ws = fan.items

  abbrev Here : List ℕ → Type 0
  Here xs = (y : ℕ) → IsIn y xs → HasHalf N y × (tail N y ≡ tail N g)

  all_up : (x : ℕ) (xs : List ℕ) → Here (x ∷ xs) → count k xs ≡ 0 → IsPath (round N) (x ∷ xs) k → up (round N x) ≡ true → (y : ℕ) → IsIn y xs → up y ≡ true
  all_up x [] here none p u y i = absurd (omega (arith, i))
  all_up x (z ∷ []) here none p u y i = grind (arith, tick_other)
  all_up x (z ∷ q ∷ qs) here none p u y i =
      let z_up : up z ≡ true = ap up (sym p.0) ∙ u in
      let t = here z (omega (arith, tick_same z)) in
      elim (eqb_tells y z) [
        | inl e ↦ ap up e.1 ∙ z_up
        | inr e ↦ elim (w.stays_up z t.0 t.1 z_up) [
          | inl f ↦ let same : q ≡ k = sym p.1.0 ∙ f in absurd (omega (arith, none, tick_same k, subst (λ b. count k (z ∷ b ∷ qs) ≡ 0) same none))
          | inr f ↦ all_up z (q ∷ qs) (λ b j. here b (omega (arith, j))) (omega (arith, none)) p.1 f y (omega (arith, i, tick_other y z e.1))
        ]
      ]

  all_down : (x : ℕ) (xs : List ℕ) → Here (x ∷ xs) → count g (x ∷ xs) ≡ 0 → IsPath (round N) (x ∷ xs) g → up x ≡ false → (y : ℕ) → IsIn y (x ∷ xs) → up y ≡ false
  all_down x [] here none p u y i = elim (eqb_tells y x) [ inl e ↦ ap up e.1 ∙ u | inr e ↦ absurd (omega (arith, i, tick_other y x e.1)) ]
  all_down x (q ∷ qs) here none p u y i =
      let t = here x (omega (arith, tick_same x)) in
      let d : up (round N x) ≡ false = w.stays_down x t.0 t.1 u (λ e. omega (arith, none, tick_same g, subst (λ b. count g (b ∷ q ∷ qs) ≡ 0) e none)) in
      elim (eqb_tells y x) [
        | inl e ↦ ap up e.1 ∙ u
        | inr e ↦ all_down q qs (λ b j. here b (omega (arith, j))) (omega (arith, none)) p.1 (ap up (sym p.0) ∙ d) y (omega (arith, i, tick_other y x e.1))
      ]

  parts : rotate_to g ws ≡ (g ∷ between g k ws) ++ k ∷ beyond g k ws
  parts = ring_split g k ws (fan.all g w.g_there refl) (fan.all k w.k_there w.one_tail) w.apart

  counts : (y : ℕ) → count y ws ≡ count y (g ∷ between g k ws) + count y (k ∷ beyond g k ws)
  counts y = sym (count-rotate_to y g ws) ∙ ap (count y) parts ∙ count-append y (g ∷ between g k ws) (k ∷ beyond g k ws)

  arc_parts : arc N g k ≡ g ∷ between g k ws
  arc_parts = arc_is N ws g k fan.apart fan.ring (λ x i. (fan.of_it x i).0) (fan.all g w.g_there refl) (fan.all k w.k_there w.one_tail)
      ∙ upto_other g k ws (fan.all g w.g_there refl) w.apart

  path : IsPath (round N) ((g ∷ between g k ws) ++ k ∷ beyond g k ws) g
  path = subst (IsRing (round N)) parts (IsRing-same (round N) ws (rotate_to g ws) (rotate_to-rotates g ws) fan.ring)

  between_up : (y : ℕ) → IsIn y (between g k ws) → up y ≡ true
  between_up = all_up g (between g k ws) (λ y i. fan.of_it y (omega (arith, i, counts y))) (omega (arith, counts k, fan.apart k, tick_same k))
      (IsPath-left (round N) (g ∷ between g k ws) (k ∷ beyond g k ws) g path) w.first_up

  beyond_down : (y : ℕ) → IsIn y (k ∷ beyond g k ws) → up y ≡ false
  beyond_down = all_down k (beyond g k ws) (λ y i. fan.of_it y (omega (arith, i, counts y))) (omega (arith, counts g, fan.apart g, tick_same g))
      (IsPath-right (round N) (g ∷ between g k ws) (k ∷ beyond g k ws) g path) w.k_down

  -- the arc holds g
  pub arc_first : IsIn g (arc N g k)
  arc_first = subst (IsIn g) (sym arc_parts) (omega (arith, tick_same g))

  -- and what is on the one side
  pub arc_up : (h : ℕ) → HasHalf N h → tail N h ≡ tail N g → up h ≡ true → IsIn h (arc N g k)
  arc_up h there at u = subst (IsIn h) (sym arc_parts) (elim (IsIn_or_not h (k ∷ beyond g k ws)) [
    | inl i ↦ absurd (true≢false (sym u ∙ beyond_down h i))
    | inr n ↦ omega (arith, n, counts h, fan.all h there at)
  ])

  -- and nothing else
  pub arc_down : (h : ℕ) → up h ≡ false → h ≢ g → count h (arc N g k) ≡ 0
  arc_down h d ne = grind (arith, nat_tests, arc_parts, IsIn_or_not, true≢false, between_up, tick_other)

  pub arc_else : (h : ℕ) → tail N h ≢ tail N g → count h (arc N g k) ≡ 0
  arc_else h ne = none_in h (arc N g k) (λ i. ne (fan.of_it h (omega (arith, i, ap (count h) arc_parts, counts h))).1)

-- ---- the model with its strips cut off and some copies raised: where half-edges stand, where they start, and on which side they lie

module _ (M : Model) (above : List ℕ) (s : ℕ) (c : Taken) (bs : List ℕ) (w : CanBeOpened M above s c bs) (i : ℕ) (sound : Sound (copies_raised M above s c bs i)) where
  abbrev pub N : Model
  N = copies_raised M above s c bs i

  abbrev m : ℕ
  m = length bs

  abbrev mates : List ℕ
  mates = map mate bs

  abbrev copies : List (ℕ × ℕ)
  copies = copied M c bs i

  pub raised_loops : N.loops ≡ with_rows (table.map_rows (rewritten_row (map (renamed (put_out c bs m)))) M.loops) c.loop (raised_loop c bs i) m
  unfolding copies_raised
  raised_loops = refl

  pub raised_edges : N.edges ≡ with_rows (with_rows (table.map_rows (opened_row M above mates copies) M.edges) c.edge (raised_edge M bs copies) m) (c.edge + m) (riser_edge M c bs) i
  unfolding copies_raised
  raised_edges = refl

  pub raised_vertices : N.vertices ≡ with_copies M copies
  unfolding copies_raised
  raised_vertices = refl

  -- ---- strips

  pub around : (j : ℕ) → j < m → Around N (c.loop + suc j) (c.face + suc j) (raised_items c bs i j)
  around j lt = record { sound = sound; at = on.new_loop M above s c bs w N sound m m (raised_loop c bs i) raised_loops j lt }

  -- the copy_riser at a place, and the copy_riser at the next one, where they stand
  abbrev pub rise_part : ℕ → List ℕ
  rise_part j = cond (nat_lt j i) (plus (copy_riser c bs j) ∷ []) []

  abbrev pub fall_part : ℕ → List ℕ
  fall_part j = cond (nat_lt (next_place (length bs) j) i) (minus (copy_riser c bs (next_place (length bs) j)) ∷ []) []

  pub mate_in : (j : ℕ) → IsIn (mate (get_or bs j 0)) (raised_items c bs i j)
  mate_in j = omega (arith, tick_same (mate (get_or bs j 0)))

  pub back_in : (j : ℕ) → IsIn (minus (c.edge + suc j)) (raised_items c bs i j)
  back_in j = omega (arith, count-append (minus (c.edge + suc j)) (rise_part j) (minus (c.edge + suc j) ∷ fall_part j), tick_same (minus (c.edge + suc j)))

  pub rise_in : (j : ℕ) → j < i → IsIn (plus (copy_riser c bs j)) (raised_items c bs i j)
  rise_in j lt = grind (arith, nat_tests, lt-ltb, count-append, tick_same)

  pub fall_in : (j : ℕ) → next_place m j < i → IsIn (minus (copy_riser c bs (next_place m j))) (raised_items c bs i j)
  fall_in j lt = grind (arith, nat_tests, lt-ltb, count-append, tick_same)

  -- ---- sides

  abbrev pub side : ℕ → Bool
  side h = lists above (face_at (copies_raised M above s c bs i) h)

  -- what stands in a strip isn't above
  pub strip_side : (j h : ℕ) → j < m → IsIn h (raised_items c bs i j) → side h ≡ false
  strip_side j h lt at =
      let a = around j lt in
      ap (λ q. lists above (face_of N q)) (loop_is N (c.loop + suc j) (c.face + suc j) (raised_items c bs i j) a h at)
      ∙ ap (lists above) (face_is N (c.loop + suc j) (c.face + suc j) (raised_items c bs i j) a)
      ∙ on.fresh_face M above s c bs w (c.face + suc j) (omega arith)

  -- a half-edge that was there and is no mate stays on its side
  pub old_side : (h : ℕ) → HasHalf M h → lists mates h ≡ false → side h ≡ lists above (face_at M h)
  old_side h there un =
      ap (lists above) (subst (λ x. face_at N x ≡ face_at M h)
      (on.out_other M above s c bs w m h (λ j less lt e. true≢false (sym (on.mate_listed M above s c bs w j lt) ∙ ap (lists mates) e ∙ un)))
      (on.old_place M above s c bs w N sound m m (raised_loop c bs i) raised_loops h there).1)

  -- +ci is above
  pub out_side : (j : ℕ) → j < m → side (plus (c.edge + suc j)) ≡ true
  out_side j lt =
      ap (lists above) (subst (λ x. face_at N x ≡ face_at M (mate (get_or bs j 0))) (on.out_mate M above s c bs w m j (omega arith) lt)
      (on.old_place M above s c bs w N sound m m (raised_loop c bs i) raised_loops (mate (get_or bs j 0)) (on.mate_there M above s c bs w j lt)).1)
      ∙ (w.cycle.halves (get_or bs j 0) (on.half_in M above s c bs w j lt)).mate_above

  -- ---- starts

  old_edge : (e : ℕ) (row : EdgeRow) → table.get M.edges e ≡ Some row → e ≤ c.edge → table.get N.edges e ≡ Some (opened_row M above mates copies e row)
  old_edge e row at low =
      grind (arith, raised_edges, rows_low, with_rows, opened_row, mates, copies, raised_edge, m, riser_edge, get-map_rows, option_map)

  pub old_half : (h : ℕ) → HasHalf M h → HasHalf N h
  old_half h there = let r = row_some (table.get M.edges (edge_of h)) there in ap is_some (old_edge (edge_of h) r.0 r.1 (on.low_edge M above s c bs w h there))

  pub old_tail : (h : ℕ) → HasHalf M h → tail N h ≡ opened_tail M above mates copies h (tail M h)
  old_tail h there =
      let r = row_some (table.get M.edges (edge_of h)) there in
      let new = tail_row N h (opened_row M above mates copies (edge_of h) r.0) (old_edge (edge_of h) r.0 r.1 (on.low_edge M above s c bs w h there)) in
      let was = tail_row M h r.0 r.1 in
      elim (halves_of_edge h) [
        | inl p ↦ new ∙ ap (tail_in (opened_row M above mates copies (edge_of h) r.0)) p.1 ∙ (λ n. opened_tail M above mates copies (sym p.0 n) (sym (was ∙ ap (tail_in r.0) p.1) n))
        | inr p ↦ new ∙ ap (tail_in (opened_row M above mates copies (edge_of h) r.0)) p.1 ∙ (λ n. opened_tail M above mates copies (sym p.0 n) (sym (was ∙ ap (tail_in r.0) p.1) n))
      ]

  pub out_edge : (j : ℕ) → j < m → table.get N.edges (c.edge + suc j) ≡ Some (raised_edge M bs copies j)
  out_edge j lt = grind (arith, raised_edges, rows_low, rows_at)

  pub out_tail : (j : ℕ) → j < m → tail N (plus (c.edge + suc j)) ≡ renamed copies (tail M (mate (get_or bs j 0)))
  out_tail j lt = plus_tail_row N (c.edge + suc j) (raised_edge M bs copies j) (out_edge j lt)

  pub back_tail : (j : ℕ) → j < m → tail N (minus (c.edge + suc j)) ≡ renamed copies (tail M (get_or bs j 0))
  back_tail j lt = minus_tail_row N (c.edge + suc j) (raised_edge M bs copies j) (out_edge j lt)

  pub rise_tail : (j : ℕ) → j < i → tail N (plus (copy_riser c bs j)) ≡ tail M (get_or bs j 0)
  rise_tail j lt = plus_tail_row N (copy_riser c bs j) (riser_edge M c bs j) (grind (arith, raised_edges, rows_at))

  -- ---- the half-edges that are there

  -- one of edge e
  abbrev pub OfEdge : ℕ → ℕ → Type 0
  OfEdge h e = (h ≡ plus e) ⊎ (h ≡ minus e)

  of_edge : (h e : ℕ) → edge_of h ≡ e → OfEdge h e
  of_edge h e is = elim (halves_of_edge h) [ inl p ↦ inl (p.0 ∙ ap plus is) | inr p ↦ inr (p.0 ∙ ap minus is) ]

  -- it was there, or is of an edge ci, or of a copy_riser
  pub kinds : (h : ℕ) → HasHalf N h → HasHalf M h ⊎ (((j : ℕ) × (j < m) × OfEdge h (c.edge + suc j)) ⊎ ((j : ℕ) × (j < i) × OfEdge h (copy_riser c bs j)))
  kinds h there = elim (rows_split (with_rows (table.map_rows (opened_row M above mates copies) M.edges) c.edge (raised_edge M bs copies) m) (c.edge + m) (riser_edge M c bs) i (edge_of h)) [
    | inl p ↦ inr (inr (p.0, p.1, of_edge h (copy_riser c bs p.0) p.2))
    | inr p ↦ elim (rows_split (table.map_rows (opened_row M above mates copies) M.edges) c.edge (raised_edge M bs copies) m (edge_of h)) [
      | inl q ↦ inr (inl (q.0, q.1, of_edge h (c.edge + suc q.0) q.2))
      | inr q ↦ inl (sym (ap is_some (ap (λ t. table.get t (edge_of h)) raised_edges ∙ p ∙ q ∙ get-map_rows (opened_row M above mates copies) M.edges (edge_of h))
          ∙ mapped_some (opened_row M above mates copies (edge_of h)) (table.get M.edges (edge_of h))) ∙ there)
    ]
  ]

  -- ---- round a vertex of the cycle that has no copy yet, the half-edges above lie between -ci and the mate before

  module _ (lt : i < length bs) where
    -- the vertex
    abbrev x : ℕ
    x = tail M (get_or bs i 0)

    abbrev p : ℕ
    p = place_before (length bs) i

    abbrev g : ℕ
    g = minus (c.edge + suc i)

    abbrev k : ℕ
    k = mate (get_or bs (place_before (length bs) i) 0)

    p_below : p < m
    p_below = before_below m i lt

    x_low : x ≤ c.vertex
    x_low = on.low_vertex M above s c bs w (get_or bs i 0) (on.half_there M above s c bs w i lt)

    pub g_tail : tail N g ≡ x
    g_tail = back_tail i lt
        ∙ copy.copy_other M above s c bs w i x (λ j less below e. let q = on.starts_differ M above s c bs w j i below lt e in omega (arith, q, less))

    pub k_tail : tail N k ≡ x
    k_tail = old_tail k (on.mate_there M above s c bs w p p_below)
        ∙ ap (λ b. cond (lists above (face_at M k) && not b) (renamed (copied M c bs i) (tail M k)) (tail M k)) (on.mate_listed M above s c bs w p p_below)
        ∙ ap (λ b. cond b (renamed (copied M c bs i) (tail M k)) (tail M k)) (and_right (lists above (face_at M k)) false refl)
        ∙ on.mate_start M above s c bs w p p_below ∙ ap (λ n. tail M (get_or bs n 0)) (next-before m i lt)

    pub g_there : HasHalf N g
    g_there = half_is N (c.loop + suc i) (c.face + suc i) (raised_items c bs i i) (around i lt) g (back_in i)

    pub k_there : HasHalf N k
    k_there = old_half k (on.mate_there M above s c bs w p p_below)

    mate_side : (j : ℕ) → j < m → side (mate (get_or bs j 0)) ≡ false
    mate_side j below = strip_side j (mate (get_or bs j 0)) below (mate_in j)

    pub apart : g ≢ k
    apart e = omega (arith, on.low_edge M above s c bs w k (on.mate_there M above s c bs w p p_below), ap edge_of e, (minus_row (c.edge + suc i)).0)

    -- the next half-edge round the vertex lies on the side of the mate
    round_side : (h : ℕ) → HasHalf N h → side (round N h) ≡ side (mate h)
    round_side h there = ap (λ q. lists above (face_of N q)) (loop_after N sound (mate h) (mate_there N h there))

    -- ---- the last one above

    pub last_items : raised_items c bs i p ≡ (k ∷ rise_part p) ++ minus (c.edge + suc p) ∷ []
    last_items = grind (arith, rise_part, le-ltb, next-before)

    after_last : after N (minus (c.edge + suc p)) ≡ k
    unfolding after
    after_last =
        let strip = around p p_below in
        let d : IsApart (raised_items c bs i p) = apart_xs N (c.loop + suc p) (c.face + suc p) (raised_items c bs i p) strip in
        let at = back_in p in
        let b : ℕ = minus (c.edge + suc p) in
        let us : List ℕ = k ∷ rise_part p in
        ap (λ q. successor q b) (cycle_is N (c.loop + suc p) (c.face + suc p) (raised_items c bs i p) strip b at)
        ∙ sym (successor_same b (raised_items c bs i p) (canonical (raised_items c bs i p)) (canonical-rotates (raised_items c bs i p)) d at)
        ∙ ap (λ q. successor q b) last_items
        ∙ successor_last k b (rise_part p) (omega (arith, d b, ap (count b) last_items, count-append b us (b ∷ []), tick_same b))

    -- ---- the sides round the vertex

    -- a half-edge of M that is listed as a mate is of a strip, and its own mate is a below half
    pub listed_side : (h : ℕ) → lists mates h ≡ true → (side h ≡ false) × (side (mate h) ≡ false)
    listed_side h l =
        let q = on.mate_place M above s c bs w h l in
        let j : ℕ = q.0 in
        let b : ℕ = get_or bs j 0 in (
          ap side q.2 ∙ mate_side j q.1,
          ap side (ap mate q.2 ∙ mate-mate b) ∙ old_side b (on.half_there M above s c bs w j q.1) (on.half_no_mate M above s c bs w j q.1)
              ∙ (w.cycle.halves b (on.half_in M above s c bs w j q.1)).below,
        )

    listed_mate : (h : ℕ) → IsIn h bs → lists mates (mate h) ≡ true
    listed_mate h at = let q = on.place_of M above s c bs w h at in ap (λ y. lists mates (mate y)) q.2 ∙ on.mate_listed M above s c bs w q.0 q.1

    -- where a half-edge of M starts at the vertex now, it did
    started : (h : ℕ) → HasHalf M h → tail N h ≡ x → tail M h ≡ x
    started h there at = elim (cases_Bool (lists above (face_at M h) && not (lists mates h))) [
      | inl t ↦ copy.copy_back M above s c bs w i (tail M h) x x_low (sym (old_tail h there ∙ ap (λ b. cond b (renamed (copied M c bs i) (tail M h)) (tail M h)) t) ∙ at)
      | inr f ↦ sym (old_tail h there ∙ ap (λ b. cond b (renamed (copied M c bs i) (tail M h)) (tail M h)) f) ∙ at
    ]

    -- of a half-edge of M at the vertex that is no mate, and whose own mate is none, the two lie on one side
    one_side : (h : ℕ) → HasHalf M h → tail M h ≡ x → lists mates h ≡ false → lists mates (mate h) ≡ false → lists above (face_at M h) ≡ lists above (face_at M (mate h))
    one_side h there at un none = decide (lists above (face_at M h)) (lists above (face_at M (mate h))) (λ ne.
        elim (w.cycle.no_branch h (get_or bs i 0) there (on.half_in M above s c bs w i lt) at ne) [
          | inl j ↦ true≢false (sym (listed_mate h j) ∙ none)
          | inr j ↦ true≢false (sym (listed_mate (mate h) j) ∙ ap (lists mates) (mate-mate h) ∙ un)
        ]) where
          decide : (a b : Bool) → (a ≢ b → ⊥) → a ≡ b
          decide a b n = grind arith

    -- so the mate of such a half-edge, which is no mate, lies on its side
    old_sides : (h : ℕ) → HasHalf M h → tail N h ≡ x → lists mates h ≡ false → lists mates (mate h) ≡ false → side (mate h) ≡ side h
    old_sides h there at un none = grind (arith, old_side, mate_there, one_side, started)

    out_start : (j : ℕ) → j < m → tail N (plus (c.edge + suc j)) ≡ x → j ≡ p
    out_start j below at =
        let from : tail M (mate (get_or bs j 0)) ≡ x = copy.copy_back M above s c bs w i (tail M (mate (get_or bs j 0))) x x_low (sym (out_tail j below) ∙ at) in
        next_once m i j lt below (on.starts_differ M above s c bs w (next_place m j) i (next_within m j below) lt (sym (on.mate_start M above s c bs w j below) ∙ from))

    pub back_start : (j : ℕ) → j < m → tail N (minus (c.edge + suc j)) ≡ x → j ≡ i
    back_start j below at = on.starts_differ M above s c bs w j i below lt (copy.copy_back M above s c bs w i (tail M (get_or bs j 0)) x x_low (sym (back_tail j below) ∙ at))

    rise_start : (j : ℕ) → j < i → tail N (plus (copy_riser c bs j)) ≡ x → ⊥
    rise_start j less at = let q = on.starts_differ M above s c bs w j i (omega (arith, less, lt)) lt (sym (rise_tail j less) ∙ at) in omega (arith, q, less)

    fall_start : (j : ℕ) → j < i → tail N (minus (copy_riser c bs j)) ≡ x → ⊥
    fall_start j less at = omega (arith, minus_tail_row N (copy_riser c bs j) (riser_edge M c bs j) (grind (arith, raised_edges, rows_at)), at, x_low)

    stays_up : (h : ℕ) → HasHalf N h → tail N h ≡ x → side h ≡ true → (round N h ≡ k) ⊎ (side (round N h) ≡ true)
    stays_up h there at u = elim (kinds h there) [
      | inl old ↦ elim (cases_Bool (lists mates h)) [
        | inl l ↦ absurd (true≢false (sym u ∙ (listed_side h l).0))
        | inr un ↦ elim (cases_Bool (lists mates (mate h))) [
          | inl l ↦ absurd (true≢false (sym u ∙ ap side (sym (mate-mate h)) ∙ (listed_side (mate h) l).1))
          | inr none ↦ inr (round_side h there ∙ old_sides h old at un none ∙ u)
        ]
      ]
      | inr new ↦ elim new [
        | inl q ↦ elim q.2 [
          | inl e ↦
              let same : q.0 ≡ p = out_start q.0 q.1 (ap (tail N) (sym e) ∙ at) in
              inl (ap (after N) (ap mate (e ∙ ap (λ n. plus (c.edge + suc n)) same) ∙ mate_plus (c.edge + suc p)) ∙ after_last)
          | inr e ↦ absurd (true≢false (sym u ∙ ap side e ∙ strip_side q.0 (minus (c.edge + suc q.0)) q.1 (back_in q.0)))
        ]
        | inr q ↦ elim q.2 [
          | inl e ↦ absurd (rise_start q.0 q.1 (ap (tail N) (sym e) ∙ at))
          | inr e ↦ absurd (fall_start q.0 q.1 (ap (tail N) (sym e) ∙ at))
        ]
      ]
    ]

    pub splits : Splits N side g k
    splits =
        grind (arith, g_there, k_there, k_tail, g_tail, apart, mate_side, stays_up, round_side, mate_minus, out_side, kinds, cases_Bool, listed_side, old_sides, back_start, rise_start, fall_start)
