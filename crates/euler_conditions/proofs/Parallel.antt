-- The walk round one end of an edge meets every edge beside it.
use Rattle.euler_conditions.proofs.Prelude.{◌≡◌, ◌≢◌, ℕ, ◌+◌, ◌-◌, ◌≤◌, Bool, true, false, cond, not, nat_eq, ◌&&◌, ◌||◌, List, [], ◌∷◌, ◌++◌, length, Some, is_some, refl, sym, ap, subst, ◌∙◌, arith, ◌⊎◌, inl, inr, eq-eqb, eqb-true, nat_tests, eqb_tells, and_parts, and_from, or_left, or_right, or_cases, not-true, count, IsIn, rotate_to, walk_to, orbit, mate, edge_of, plus, minus, first_where, Model, EdgeRow, tail, after, round, Sound, HasHalf, parallel, count-append, tick_same, orbit_from, steps_are, count-rotate_to, walk_done, walk_on, walk_over, plus_row, minus_row, mate_plus, mate_minus, mate-mate, edge_of-mate, plus_tail_row, minus_tail_row, first_where_zero, row_some, IsIn_push, length_below, Fan, fan_of, halves_of_edge, steps, half_below, first_where_least, leads_to, lesser}
use Rattle.euler_operators.specs.Table as table

-- ---- what the walk has found

-- the least edge beside h among those that were met, or 0
pub record Seen (M : Model) (h far least : ℕ) (met : List ℕ) : Type 0 where
  pub one : least ≢ 0 → (x : ℕ) × IsIn x met × (edge_of x ≡ least) × (leads_to M h far x ≡ true)
  pub all : (x : ℕ) → IsIn x met → leads_to M h far x ≡ true → (least ≢ 0) × (least ≤ edge_of x)

-- the walk from h on has come to g, and n steps may follow
pub record HalfSeen (M : Model) (h far least g n : ℕ) : Type 0 where
  pub met : List ℕ
  pub walked : orbit (round M) h steps ≡ met ++ walk_to (round M) h g n
  pub seen : Seen M h far least met
  pub there : HasHalf M g

module _ (M : Model) (h far : ℕ) where
  seen_none : Seen M h far 0 []
  seen_none = record { one = λ ne. absurd (ne refl); all = λ x i. absurd (omega arith) }

  more : (x g : ℕ) (met : List ℕ) → IsIn x met → IsIn x (met ++ g ∷ [])
  more x g met i = omega (arith, count-append x met (g ∷ []))

  last_in : (g : ℕ) (met : List ℕ) → IsIn g (met ++ g ∷ [])
  last_in g met = omega (arith, count-append g met (g ∷ []), tick_same g)

  seen_other : (least g : ℕ) (met : List ℕ) → leads_to M h far g ≡ false → Seen M h far least met → Seen M h far least (met ++ g ∷ [])
  seen_other least g met other s = grind (arith, s.one, more, IsIn_push, s.all)

  lesser_cases : (least e : ℕ) → ((least ≡ 0) × (lesser least e ≡ e)) ⊎ ((least ≢ 0) × (least ≤ e) × (lesser least e ≡ least)) ⊎ ((least ≢ 0) × (e ≤ least) × (lesser least e ≡ e))
  lesser_cases least e = grind (arith, nat_tests)

  seen_beside : (least g : ℕ) (met : List ℕ) → leads_to M h far g ≡ true → edge_of g ≢ 0 → Seen M h far least met → Seen M h far (lesser least (edge_of g)) (met ++ g ∷ [])
  seen_beside least g met beside fits s = grind (arith, lesser_cases least (edge_of g), last_in g met, IsIn_push, s.all, s.one, more)

-- ---- what the whole walk finds

module _ (M : Model) (sound : Sound M) (h : ℕ) (there : HasHalf M h) where
  fan : Fan (after M) M (tail M h)
  fan = fan_of M sound h there

  h_in : IsIn h fan.items
  h_in = fan.all h there refl

  fan_short : length fan.items ≤ steps
  fan_short = length_below steps fan.items fan.apart (λ x i. half_below M sound x (fan.of_it x i).0)

  pub whole : List ℕ
  whole = orbit (round M) h steps

  whole_is : whole ≡ rotate_to h fan.items
  unfolding whole
  whole_is = orbit_from (round M) h fan.items steps fan.ring fan.apart h_in fan_short

  in_whole : (x : ℕ) → HasHalf M x → tail M x ≡ tail M h → IsIn x whole
  in_whole x t e = omega (arith, ap (count x) whole_is, count-rotate_to x h fan.items, fan.all x t e)

  of_whole : (x : ℕ) → IsIn x whole → HasHalf M x × (tail M x ≡ tail M h)
  of_whole x i = fan.of_it x (omega (arith, ap (count x) whole_is, count-rotate_to x h fan.items))

  abbrev pub far : ℕ
  far = tail M (mate h)

  -- the row of an edge beside h
  abbrev Beside : ℕ → EdgeRow → Bool
  Beside e row = not (nat_eq e (edge_of h)) && ((nat_eq row.plus_tail (tail M h) && nat_eq row.minus_tail far) || (nat_eq row.plus_tail far && nat_eq row.minus_tail (tail M h)))

  leads : (x : ℕ) → nat_eq (edge_of x) (edge_of h) ≡ false → tail M (mate x) ≡ far → leads_to M h far x ≡ true
  leads x other e = and_from (not (nat_eq (edge_of x) (edge_of h))) (nat_eq (tail M (mate x)) far) (ap not other) (eq-eqb (tail M (mate x)) far e)

  -- an edge beside h was met, by its half-edge x that starts where h does
  met_by : (x e near other : ℕ) → HasHalf M x → edge_of x ≡ e → nat_eq e (edge_of h) ≡ false → tail M x ≡ near → tail M (mate x) ≡ other → nat_eq near (tail M h) && nat_eq other far ≡ true →
      (x : ℕ) × IsIn x whole × (edge_of x ≡ e) × (leads_to M h far x ≡ true)
  met_by x e near other t edge apart start end b =
      let q = and_parts _ _ b in
      (x, in_whole x t (start ∙ eqb-true near (tail M h) q.0), edge, leads x (ap (λ k. nat_eq k (edge_of h)) edge ∙ apart) (end ∙ eqb-true other far q.1))

  beside_met : (e : ℕ) (row : EdgeRow) → table.get M.edges e ≡ Some row → Beside e row ≡ true → (x : ℕ) × IsIn x whole × (edge_of x ≡ e) × (leads_to M h far x ≡ true)
  beside_met e row at b =
      let parts = and_parts _ _ b in
      let apart : nat_eq e (edge_of h) ≡ false = not-true (nat_eq e (edge_of h)) parts.0 in
      let has : table.has M.edges e ≡ true = ap is_some at in
      elim (or_cases _ _ parts.1) [
        | inl p ↦ met_by (plus e) e _ _ (ap (table.has M.edges) (plus_row e).0 ∙ has) (plus_row e).0 apart (plus_tail_row M e row at) (ap (tail M) (mate_plus e) ∙ minus_tail_row M e row at) p
        | inr p ↦ met_by (minus e) e _ _ (ap (table.has M.edges) (minus_row e).0 ∙ has) (minus_row e).0 apart (minus_tail_row M e row at) (ap (tail M) (mate_minus e) ∙ plus_tail_row M e row at)
            (and_from (nat_eq row.minus_tail (tail M h)) (nat_eq row.plus_tail far) (and_parts _ _ p).1 (and_parts _ _ p).0)
      ]

  -- what was met and leads to the far end is of an edge beside h
  met_beside : (x : ℕ) → IsIn x whole → leads_to M h far x ≡ true → (row : EdgeRow) × (table.get M.edges (edge_of x) ≡ Some row) × (Beside (edge_of x) row ≡ true)
  met_beside x i l =
      let o = of_whole x i in let r = row_some (table.get M.edges (edge_of x)) o.0 in let parts = and_parts _ _ l in
      let ends : tail M (mate x) ≡ far = eqb-true (tail M (mate x)) far parts.1 in
      let one = and_from (not (nat_eq (edge_of x) (edge_of h))) in let two = minus_tail_row M (edge_of x) r.0 r.1 in
      let three = plus_tail_row M (edge_of x) r.0 r.1 in let four = eq-eqb r.0.minus_tail (tail M h) in let five = eq-eqb r.0.plus_tail (tail M h) in
      let six = eq-eqb r.0.minus_tail far in let seven = eq-eqb r.0.plus_tail far in let eight = mate_minus (edge_of x) in
      grind (arith, one, halves_of_edge x, or_left, and_from, five, r.0.plus_tail, three, six, r.0.minus_tail, two, mate_plus (edge_of x), or_right, seven, eight, four)

  none_beside : Seen M h far 0 whole → (e : ℕ) (row : EdgeRow) → table.get M.edges e ≡ Some row → Beside e row ≡ false
  none_beside s e row at = elim (Beside e row) as (λ b. Beside e row ≡ b → b ≡ false) [
    | true ↦ λ b. let x = beside_met e row at b in absurd ((s.all x.0 x.1 x.3).0 refl)
    | false ↦ λ b. refl
  ] refl

  pub all_walked : (least : ℕ) → Seen M h far least whole → least ≡ parallel M h
  all_walked least s = elim (eqb_tells least 0) [
    | inl z ↦ z.1 ∙ sym (first_where_zero Beside M.edges (none_beside (subst (λ k. Seen M h far k whole) z.1 s)))
    | inr ne ↦
        let y = s.one ne.1 in let r = met_beside y.0 y.1 y.3 in
        sym (first_where_least Beside M.edges least r.0 (ap (table.get M.edges) (sym y.2) ∙ r.1) (ap (λ e. Beside e r.0) (sym y.2) ∙ r.2)
        (λ e row at b. let x = beside_met e row at b in omega (arith, (s.all x.0 x.1 x.3).1, x.2)))
  ]

  -- ---- the walk

  pub walk_start : HalfSeen M h far 0 h steps
  unfolding whole
  walk_start = record { met = []; walked = refl; seen = seen_none M h far; there = there }

  edge_fits : (x : ℕ) → HasHalf M x → edge_of x ≢ 0
  edge_fits x t z = grind (arith, sound.edges_fit (edge_of x) t, nat_tests)

  module _ (old least g n k : ℕ) (w : HalfSeen M h far old g n) (steps : n ≡ k + 1) (found : (least ≡ cond (leads_to M h far g) (lesser old (edge_of g)) old)) where
    seen_more : Seen M h far least (w.met ++ g ∷ [])
    seen_more = subst (λ b. Seen M h far b (w.met ++ g ∷ [])) (sym found) (seen_either (leads_to M h far g) refl) where
      seen_either : (b : Bool) → leads_to M h far g ≡ b → Seen M h far (cond b (lesser old (edge_of g)) old) (w.met ++ g ∷ [])
      seen_either true e = seen_beside M h far old g w.met e (edge_fits g w.there) w.seen
      seen_either false e = seen_other M h far old g w.met e w.seen

    pub walk_closed : round M g ≡ h → least ≡ parallel M h
    unfolding whole
    walk_closed e = all_walked least (subst (Seen M h far least) (sym (walk_done (round M) h g n k whole w.met w.walked steps e)) seen_more)

    pub walk_more : round M g ≢ h → HasHalf M (round M g) → HalfSeen M h far least (round M g) k
    unfolding whole
    walk_more ne t = record { met = w.met ++ g ∷ []; walked = walk_on (round M) h g n k whole w.met w.walked steps ne; seen = seen_more; there = t }

  pub walk_ended : (least g n : ℕ) → HalfSeen M h far least g n → n ≡ 0 → least ≡ parallel M h
  unfolding whole
  walk_ended least g n w z = all_walked least (subst (Seen M h far least) (sym (walk_over (round M) h g n whole w.met w.walked z)) w.seen)

-- ---- a step of a walk that has counted its steps

module _ (M : Model) (sound : Sound M) (h : ℕ) (there : HasHalf M h) (f : ℕ) (ends : f ≡ tail M (mate h)) (old least g x n k : ℕ) (w : HalfSeen M h f old g n)
    (counts : n ≡ k + 1) (found : least ≡ cond (leads_to M h f g) (lesser old (edge_of g)) old) (goes : x ≡ round M g) where
  pub step_closed : x ≡ h → least ≡ parallel M h
  step_closed e = grind (arith, walk_closed M sound h there old least g n k)

  pub step_more : x ≢ h → HasHalf M x → HalfSeen M h f least x k
  step_more ne t = grind (arith, walk_more M sound h there old least g n k)

-- ---- the first step of a walk: an edge isn't beside itself

module _ (M : Model) (sound : Sound M) (h : ℕ) (there : HasHalf M h) (f : ℕ) (ends : f ≡ tail M (mate h)) (x : ℕ) (goes : x ≡ round M h) where
  begun : HalfSeen M h f 0 h steps
  begun = subst (λ k. HalfSeen M h k 0 h steps) (sym ends) (walk_start M sound h there)

  itself : 0 ≡ cond (leads_to M h f h) (lesser 0 (edge_of h)) 0
  itself = ap (λ b. cond (not b && nat_eq (tail M (mate h)) f) (lesser 0 (edge_of h)) 0) (sym (eq-eqb (edge_of h) (edge_of h) refl))

  counted : steps ≡ (steps - 1) + 1
  counted = omega (arith, steps_are)

  pub alone : x ≡ h → 0 ≡ parallel M h
  alone = step_closed M sound h there f ends 0 0 h x steps (steps - 1) begun counted itself goes

  pub first_step : x ≢ h → HasHalf M x → HalfSeen M h f 0 x (steps - 1)
  first_step = step_more M sound h there f ends 0 0 h x steps (steps - 1) begun counted itself goes

-- ---- the other end

or_turned : (a b : Bool) → (a || b) ≡ (b || a)
or_turned true true = refl
or_turned true false = refl
or_turned false true = refl
or_turned false false = refl

-- the edges beside a half-edge are those beside its mate
pub parallel_turned : (M : Model) (h : ℕ) → parallel M (mate h) ≡ parallel M h
parallel_turned M h = grind (arith, first_where, edge_of-mate h, mate-mate h, or_turned)

pub mate_there : (M : Model) (h m : ℕ) → HasHalf M h → m ≡ mate h → HasHalf M m
mate_there M h m t e = ap (λ x. table.has M.edges (edge_of x)) e ∙ ap (table.has M.edges) (edge_of-mate h) ∙ t
