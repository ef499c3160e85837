-- Which half-edges the below halves of a section are.
use Rattle.split_opening_laws.proofs.Prelude.{◌≡◌, ◌≢◌, ℕ, ◌<◌, Bool, true, false, cond, not, nat_eq, ◌&&◌, List, [], ◌∷◌, ◌++◌, is_some, refl, sym, ap, subst, ◌∙◌, arith, inl, inr, map, flat_map, eq-eqb, eqb-true, map-map, tick, count, IsIn, IsApart, mate, edge_of, plus, minus, Model, solid_of, tail, face_of, round, after, Sound, HasHalf, face_at, lists, strictly_rises, tick_same, tick_other, count-append, IsIn_or_not, plus_row, minus_row, mate_plus, mate_minus, plus_other, mate-mate, row_some, count-map, from_map, mate_there, halves_of_edge, listed_passes, passes_listed, all_where-rises, IsIn-from_listed, listed-from_in, rises_over, rises_on, counted_once, Fan, fan_of, loop_after, edges_of, below_half, below_halves, IsBelowHalf, AreOf}
use Rattle.euler_operators.specs.Table as table
use Rattle.split_opening_laws.proofs.cycles.Meets.{total_same, total_ticks, count_flat, bit, total, meet_turned, count_map, changes_round_ring}
use Rattle.split_opening_laws.proofs.cycles.RisingLists.{rises_cons}

-- ---- one of two numbers, or neither

abbrev pick : Bool → Bool → ℕ → ℕ → List ℕ
pick a b p m = cond a (cond b [] (m ∷ [])) (cond b (p ∷ []) [])

pick_none : (a b : Bool) (p m x : ℕ) → x ≢ p → x ≢ m → count x (pick a b p m) ≡ 0
pick_none a b p m x e f = grind (arith, tick_other)

pick_plus : (a b : Bool) (p m : ℕ) → p ≢ m → count p (pick a b p m) ≡ bit (not a && b)
pick_plus a b p m e = grind (arith, tick_other, tick_same)

pick_minus : (a b : Bool) (p m : ℕ) → p ≢ m → count m (pick a b p m) ≡ bit (not b && a)
pick_minus a b p m e = grind (arith, tick_same, tick_other)

pick_rises : (a b : Bool) (p m : ℕ) (ns : List ℕ) → ((k : ℕ) → IsIn k ns → (p < k) × (m < k)) → strictly_rises ns ≡ true → strictly_rises (pick a b p m ++ ns) ≡ true
pick_rises a b p m ns l r = grind (arith, rises_cons)

above_halves : (k e : ℕ) → e < edge_of k → (plus e < k) × (minus e < k)
unfolding edge_of
above_halves k e l = (omega (arith, l), omega (arith, l))

module _ (M : Model) (above : List ℕ) where
  -- h lies in a face that isn't above, and its mate in one that is
  abbrev pub is_below : ℕ → Bool
  is_below h = not (lists above (face_at M h)) && lists above (face_at M (mate h))

  -- ---- the below half of one edge

  other_edge : (x e : ℕ) → edge_of x ≢ e → count x (below_half M above e) ≡ 0
  other_edge x e ne = grind (arith, pick_none, plus_row, minus_row)

  own_plus : (e : ℕ) → count (plus e) (below_half M above e) ≡ bit (is_below (plus e))
  own_plus e = grind (arith, pick_plus, plus_other, bit, mate_plus)

  own_minus : (e : ℕ) → count (minus e) (below_half M above e) ≡ bit (is_below (minus e))
  own_minus e = grind (arith, pick_minus, plus_other, bit, mate_minus)

  own_edge : (x : ℕ) → count x (below_half M above (edge_of x)) ≡ bit (is_below x)
  own_edge x = grind (arith, halves_of_edge, own_plus, own_minus)

  -- ---- those of some edges

  flat_passes : (x : ℕ) (es : List ℕ) → is_below x ≡ true → count x (flat_map (below_half M above) es) ≡ count (edge_of x) es
  flat_passes x es t = count_flat (below_half M above) x es ∙ total_same (λ e. count x (below_half M above e)) (λ e. tick e (edge_of x)) es (λ e i. half_counted e) ∙ total_ticks (edge_of x) es where
    half_counted : (e : ℕ) → count x (below_half M above e) ≡ tick e (edge_of x)
    half_counted e = grind (arith, own_edge, bit, tick_same, other_edge, tick_other)

  flat_fails : (x : ℕ) (es : List ℕ) → is_below x ≡ false → count x (flat_map (below_half M above) es) ≡ 0
  flat_fails x [] f = refl
  flat_fails x (e ∷ es) f = grind (arith, count-append, own_edge, bit, other_edge, flat_fails x es f)

  in_flat : (x : ℕ) (es : List ℕ) → IsIn x (flat_map (below_half M above) es) → (is_below x ≡ true) × IsIn (edge_of x) es
  in_flat x es i = grind (arith, flat_passes, flat_fails)

  flat_rises : (es : List ℕ) → strictly_rises es ≡ true → strictly_rises (flat_map (below_half M above) es) ≡ true
  flat_rises [] r = refl
  flat_rises (e ∷ es) r = pick_rises (lists above (face_at M (plus e))) (lists above (face_at M (minus e))) (plus e) (minus e) (flat_map (below_half M above) es)
      (λ k i. above_halves k e (rises_over e (edge_of k) es r (in_flat k es i).1)) (flat_rises es (rises_on e es r))

  -- ---- those of a solid

  module _ (s : ℕ) (sound : Sound M) where
    plus_solid : (x : ℕ) → HasHalf M x → solid_of M (face_at M (plus (edge_of x))) ≡ solid_of M (face_at M x)
    plus_solid x t = elim (halves_of_edge x) [
      | inl p ↦ ap (λ y. solid_of M (face_at M y)) (sym p.0)
      | inr p ↦ ap (λ y. solid_of M (face_at M y)) (sym (mate_minus (edge_of x)) ∙ ap mate (sym p.0)) ∙ sym (sound.one_solid x t)
    ]

    edge_in : (x : ℕ) → HasHalf M x → solid_of M (face_at M x) ≡ s → IsIn (edge_of x) (edges_of M s)
    edge_in x t e = let r = row_some (table.get M.edges (edge_of x)) t in
        IsIn-from_listed (edge_of x) (edges_of M s) (passes_listed (λ e _. nat_eq (solid_of M (face_at M (plus e))) s) M.edges (edge_of x) r.0 r.1 (eq-eqb (solid_of M (face_at M (plus (edge_of x)))) s (plus_solid x t ∙ e)))

    edge_out : (x : ℕ) → IsIn (edge_of x) (edges_of M s) → HasHalf M x × (solid_of M (face_at M x) ≡ s)
    edge_out x i =
        let r = listed_passes (λ e _. nat_eq (solid_of M (face_at M (plus e))) s) M.edges (edge_of x) (listed-from_in (edge_of x) (edges_of M s) i) in
        let t : HasHalf M x = ap is_some r.1 in
        (t, sym (plus_solid x t) ∙ eqb-true (solid_of M (face_at M (plus (edge_of x)))) s r.2)

    pub halves_rise : strictly_rises (below_halves M above s) ≡ true
    unfolding below_halves
    halves_rise = flat_rises (edges_of M s) (all_where-rises (λ e _. nat_eq (solid_of M (face_at M (plus e))) s) M.edges)

    pub halves_apart : IsApart (below_halves M above s)
    halves_apart x = counted_once x (below_halves M above s) halves_rise

    pub halves_are : (b : ℕ) → IsIn b (below_halves M above s) → IsBelowHalf M above s b
    unfolding below_halves
    halves_are b i = grind (arith, in_flat, edge_out)

    pub are_halves : (b : ℕ) → IsBelowHalf M above s b → IsIn b (below_halves M above s)
    unfolding below_halves
    are_halves b w = grind (arith, edge_in, flat_passes)

-- ---- as many below halves start at a vertex as end there

-- of half-edges that are there those at v stand in the fan of v
module _ (M : Model) (v : ℕ) (fan : Fan (after M) M v) where
  starts_counted : (cs : List ℕ) → ((c : ℕ) → IsIn c cs → HasHalf M c) → count v (map (tail M) cs) ≡ total (λ x. count x cs) fan.items
  starts_counted cs t = count_map (tail M) v cs
      ∙ total_same (λ c. tick v (tail M c)) (λ c. count c fan.items) cs (λ c i. sym (grind (arith, tick_same))) ∙ sym (meet_turned fan.items cs)

turned_and : (a b c : Bool) → a ≡ c → bit (not b && a) ≡ bit (c && not b)
turned_and a b c e = grind (arith, bit)

module _ (M : Model) (above : List ℕ) (s : ℕ) (sound : Sound M) (faces : AreOf M above s) where
  abbrev halves : List ℕ
  halves = below_halves M above s

  abbrev on : ℕ → Bool
  on h = lists above (face_at M h)

  pub half_there : (b : ℕ) → IsIn b (below_halves M above s) → HasHalf M b
  half_there b i = (halves_are M above s sound b i).there

  -- round a vertex the face of the next half-edge is that of the mate
  on_round : (x : ℕ) → HasHalf M x → on (round M x) ≡ on (mate x)
  on_round x t = ap (λ l. lists above (face_of M l)) (loop_after M sound (mate x) (mate_there M x t))

  pub is_half : (x : ℕ) → HasHalf M x → on x ≡ false → on (mate x) ≡ true → IsIn x (below_halves M above s)
  is_half x t f u = are_halves M above s sound x (record { there = t; of_solid = sound.one_solid x t ∙ faces (face_at M (mate x)) u; below = f; mate_above = u })

  counted : (x : ℕ) → HasHalf M x → count x halves ≡ bit (not (on x) && on (mate x))
  counted x t = grind (arith, halves_are, is_half, halves_apart)

  mates_counted : (x : ℕ) → count x (map mate halves) ≡ count (mate x) halves
  mates_counted x = ap (λ y. count y (map mate halves)) (sym (mate-mate x)) ∙ count-map mate (mate x) halves (λ y i e. sym (mate-mate (mate x)) ∙ ap mate e ∙ mate-mate y)

  -- round a vertex at which g starts
  module _ (g : ℕ) (there : HasHalf M g) where
    abbrev fan : Fan (after M) M (tail M g)
    fan = fan_of M sound g there

    at_start : (x : ℕ) → IsIn x fan.items → count x halves ≡ bit (not (on x) && on (round M x))
    at_start x i = let t = (fan.of_it x i).0 in counted x t ∙ ap (λ c. bit (not (on x) && c)) (sym (on_round x t))

    at_end : (x : ℕ) → IsIn x fan.items → count x (map mate halves) ≡ bit (on x && not (on (round M x)))
    at_end x i = let t = (fan.of_it x i).0 in
        mates_counted x ∙ counted (mate x) (mate_there M x t) ∙ turned_and (on (mate (mate x))) (on (mate x)) (on x) (ap on (mate-mate x)) ∙ ap (λ c. bit (on x && not c)) (sym (on_round x t))

    mate_in : (c : ℕ) → IsIn c (map mate halves) → HasHalf M c
    mate_in c i = let r = from_map mate c halves i in subst (HasHalf M) (sym r.2) (mate_there M r.0 (half_there r.0 r.1))

    round_vertex : count (tail M g) (map (tail M) halves) ≡ count (tail M g) (map (λ b. tail M (mate b)) halves)
    round_vertex = starts_counted M (tail M g) fan halves half_there
        ∙ total_same (λ x. count x halves) (λ x. bit (not (on x) && on (round M x))) fan.items at_start
        ∙ changes_round_ring (round M) on fan.items fan.ring
        ∙ sym (total_same (λ x. count x (map mate halves)) (λ x. bit (on x && not (on (round M x)))) fan.items at_end)
        ∙ sym (starts_counted M (tail M g) fan (map mate halves) mate_in)
        ∙ ap (count (tail M g)) (map-map (tail M) mate halves)

  pub starts_are_ends : (v : ℕ) → count v (map (tail M) (below_halves M above s)) ≡ count v (map (λ b. tail M (mate b)) (below_halves M above s))
  starts_are_ends v = elim (IsIn_or_not v (map (tail M) halves)) [
    | inl i ↦ let r = from_map (tail M) v halves i in subst (λ u. count u (map (tail M) halves) ≡ count u (map (λ b. tail M (mate b)) halves)) (sym r.2) (round_vertex r.0 (half_there r.0 r.1))
    | inr z ↦ elim (IsIn_or_not v (map (λ b. tail M (mate b)) halves)) [
      | inl i ↦ let r = from_map (λ b. tail M (mate b)) v halves i in
          subst (λ u. count u (map (tail M) halves) ≡ count u (map (λ b. tail M (mate b)) halves)) (sym r.2) (round_vertex (mate r.0) (mate_there M r.0 (half_there r.0 r.1)))
      | inr y ↦ z ∙ sym y
    ]
  ]
