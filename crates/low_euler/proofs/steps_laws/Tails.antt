-- A walk round a vertex from one half-edge up to before another, which lets each that it meets start elsewhere.
use Rattle.low_euler.proofs.Prelude.{◌≡◌, ◌≢◌, ℕ, ◌+◌, ◌<◌, Bool, true, false, cond, nat_lt, List, [], ◌∷◌, ◌++◌, length, Option, Some, None, is_some, unwrap_or, refl, sym, ap, ◌∙◌, subst, arith, inl, inr, true≢false, ne_eqb, option_map, nat_tests, eqb_tells, count, tick, IsIn, IsApart, head_or, rest, successor, rotate_to, upto, IsRing, mate, edge_of, is_first, plus, minus, Table, tables, same_table, Model, EdgeRow, no_edge, tail_in, tail, loop_of, round, arc, content, items_of, Sound, HasHalf, with_tails, tick_same, tick_other, next_is_successor, IsIn_successor, rotation_at, count_at, apart_at, rotate_to_is, rotate_to_same, rotate_at, upto_itself, plus_row, minus_row, map_same, row_some, get-put_here, get-put_other, number_real, loop_there, mate_there as half_mate, Fan, fan_of, mapped_some, tails_of_row, halves_of_edge, arc_is, Store, set_tail, with_tails_at}
use Rattle.euler_operators.specs.Common.{after}
use Rattle.euler_operators.specs.Items.{before as before_item}
use Rattle.euler_operators.specs.Table as table
use Rattle.low_euler.proofs.steps_laws.LoopsApart.{loop_of-same, content-same}

-- ---- the arc from one half-edge, and from the next one round

module _ (next : ℕ → ℕ) (ws : List ℕ) (d : IsApart ws) (r : IsRing next ws) (x k : ℕ) (i : IsIn x ws) (j : IsIn k ws) (ne : x ≢ k) where
  rest_from : (y : ℕ) (rs : List ℕ) → rest x ws ≡ y ∷ rs → upto x k ws ≡ x ∷ upto y k ws
  unfolding rotate_to
  rest_from y rs e =
      let kx : IsIn k (y ∷ rs) = omega (arith, count_at k x ws i, tick_other k x (λ q. ne (sym q)), ap (count k) e) in
      let y_in : IsIn y ws = omega (arith, count_at y x ws i, ap (count y) e, tick_same y) in
      let apart : count y (x ∷ []) ≡ 0 = omega (arith, apart_at x ws d i y, ap (count y) e, tick_same y) in
      let turned : rotate_to y ws ≡ (y ∷ rs) ++ x ∷ [] = rotate_to_same y ws (x ∷ rest x ws) (rotation_at x ws i) d y_in ∙ ap (λ q. rotate_to y (x ∷ q)) e ∙ rotate_at y (x ∷ []) rs apart in
      ap (before_item k) (rotate_to_is x ws i ∙ ap (λ q. x ∷ q) e) ∙ ap (λ b. cond b [] (x ∷ before_item k (y ∷ rs))) (ne_eqb k x (λ q. ne (sym q)))
      ∙ ap (λ q. x ∷ q) (sym (ap (before_item k) turned ∙ before_front (y ∷ rs) kx)) where
        before_front : (q : List ℕ) → IsIn k q → before_item k (q ++ x ∷ []) ≡ before_item k q
        before_front [] t = absurd (omega arith)
        before_front (z ∷ q) t = grind (arith, eqb_tells k z, tick_other k z, before_front q)

  rest_cases : (q : List ℕ) → rest x ws ≡ q → upto x k ws ≡ x ∷ upto (head_or x q) k ws
  rest_cases [] e = absurd (omega (arith, count_at k x ws i, tick_other k x (λ t. ne (sym t)), ap (count k) e))
  rest_cases (y ∷ rs) e = rest_from y rs e

  upto_step : upto x k ws ≡ x ∷ upto (next x) k ws
  upto_step = rest_cases (rest x ws) refl ∙ ap (λ y. x ∷ upto y k ws) (sym (next_is_successor next ws x r i))

-- ---- rows of edges

pub cond_same : {X : Type 0} (b : Bool) (x : X) → cond b x x ≡ x
cond_same true x = refl
cond_same false x = refl

-- the row of the edge of x, where x starts at v
abbrev row_with : ℕ → ℕ → EdgeRow → EdgeRow
row_with x v row = cond (is_first x) (record row { plus_tail = v }) (record row { minus_tail = v })

-- one more is listed
listed_here : (n : ℕ) (xs : List ℕ) (v a : ℕ) → cond (nat_lt 0 (count n xs)) v v ≡ cond (nat_lt 0 (tick n n + count n xs)) v a
listed_here n xs v a = grind (arith, nat_tests, tick_same n)

listed_past : (n x : ℕ) (xs : List ℕ) (v a : ℕ) → n ≢ x → cond (nat_lt 0 (count n xs)) v a ≡ cond (nat_lt 0 (tick n x + count n xs)) v a
listed_past n x xs v a ne = let t : count n xs ≡ tick n x + count n xs = omega (arith, tick_other n x ne) in ap (λ k. cond (nat_lt 0 k) v a) t

-- x starts at v, and then the others do
row_step : (x v : ℕ) (xs : List ℕ) (row : EdgeRow) → with_tails xs v (edge_of x) (row_with x v row) ≡ with_tails (x ∷ xs) v (edge_of x) row
row_step x v xs row = elim (halves_of_edge x) [
  | inl p ↦
      let a = subst (λ y. cond (nat_lt 0 (count (plus (edge_of x)) xs)) v v ≡ cond (nat_lt 0 (tick (plus (edge_of x)) y + count (plus (edge_of x)) xs)) v row.plus_tail) (sym p.0) (listed_here (plus (edge_of x)) xs v row.plus_tail) in
      let b = listed_past (minus (edge_of x)) x xs v row.minus_tail (λ q. omega (arith, p.0)) in
      ap (λ c. with_tails xs v (edge_of x) (cond c (record row { plus_tail = v }) (record row { minus_tail = v }))) p.1 ∙ (λ i. record { plus_tail = a i; minus_tail = b i })
  | inr p ↦
      let a = listed_past (plus (edge_of x)) x xs v row.plus_tail (λ q. omega (arith, p.0)) in
      let b = subst (λ y. cond (nat_lt 0 (count (minus (edge_of x)) xs)) v v ≡ cond (nat_lt 0 (tick (minus (edge_of x)) y + count (minus (edge_of x)) xs)) v row.minus_tail) (sym p.0) (listed_here (minus (edge_of x)) xs v row.minus_tail) in
      ap (λ c. with_tails xs v (edge_of x) (cond c (record row { plus_tail = v }) (record row { minus_tail = v }))) p.1 ∙ (λ i. record { plus_tail = a i; minus_tail = b i })
]

-- another edge doesn't have x
row_other : (x v q : ℕ) (xs : List ℕ) (row : EdgeRow) → q ≢ edge_of x → with_tails xs v q row ≡ with_tails (x ∷ xs) v q row
row_other x v q xs row ne = λ i. record {
  plus_tail = listed_past (plus q) x xs v row.plus_tail (λ e. ne (sym (plus_row q).0 ∙ ap edge_of e)) i;
  minus_tail = listed_past (minus q) x xs v row.minus_tail (λ e. ne (sym (minus_row q).0 ∙ ap edge_of e)) i;
}

abbrev set_row : Table EdgeRow → ℕ → ℕ → Table EdgeRow
set_row t x v = table.put t (edge_of x) (row_with x v (unwrap_or (table.get t (edge_of x)) no_edge))

tails_step : (t : Table EdgeRow) (x v : ℕ) (xs : List ℕ) → table.has t (edge_of x) ≡ true → table.map_rows (with_tails xs v) (set_row t x v) ≡ table.map_rows (with_tails (x ∷ xs) v) t
tails_step t x v xs there = same_table _ _ (λ q. table.get-map_rows (with_tails xs v) (set_row t x v) q ∙ elim (eqb_tells q n) [
  | inl e ↦ subst (λ k. option_map (with_tails xs v k) (table.get (set_row t x v) k) ≡ option_map (with_tails (x ∷ xs) v k) (table.get t k)) (sym e.1) here
  | inr e ↦ ap (option_map (with_tails xs v q)) (get-put_other t n (row_with x v (unwrap_or (table.get t n) no_edge)) q e.1) ∙ elsewhere q (table.get t q) e.1
] ∙ sym (table.get-map_rows (with_tails (x ∷ xs) v) t q)) where
  n : ℕ
  n = edge_of x

  row : (r : EdgeRow) × (table.get t (edge_of x) ≡ Some r)
  row = row_some (table.get t (edge_of x)) there

  here : option_map (with_tails xs v n) (table.get (set_row t x v) n) ≡ option_map (with_tails (x ∷ xs) v n) (table.get t n)
  here = ap (option_map (with_tails xs v n)) (get-put_here t n (row_with x v (unwrap_or (table.get t n) no_edge)))
      ∙ ap (λ o. Some (with_tails xs v n (row_with x v (unwrap_or o no_edge)))) row.1 ∙ ap Some (row_step x v xs row.0) ∙ sym (ap (option_map (with_tails (x ∷ xs) v n)) row.1)

  elsewhere : (q : ℕ) (o : Option EdgeRow) → q ≢ edge_of x → option_map (with_tails xs v q) o ≡ option_map (with_tails (x ∷ xs) v q) o
  elsewhere q None ne = refl
  elsewhere q (Some r) ne = ap Some (row_other x v q xs r ne)

-- ---- the walk

-- from s on the walk from g up to k has come to x: what is left of it makes of the edges what the whole makes
pub record HasCome (s now : Store) (g k x v : ℕ) : Type 0 where
  pub here : HasHalf s.model x
  pub one_tail : tail s.model x ≡ tail s.model k
  pub kept : now ≡ record s { model = record s.model { edges = now.model.edges } }
  pub halves : (e : ℕ) → table.has now.model.edges e ≡ table.has s.model.edges e
  pub ends : table.map_rows (with_tails (arc s.model x k) v) now.model.edges ≡ table.map_rows (with_tails (arc s.model g k) v) s.model.edges

pub come_first : (s : Store) (g k v : ℕ) → HasHalf s.model g → tail s.model k ≡ tail s.model g → HasCome s s g k g v
come_first s g k v there e = record { here = there; one_tail = sym e; kept = refl; halves = λ _. refl; ends = refl }

module _ (s now : Store) (g k x v : ℕ) (sound : Sound s.model) (k_there : HasHalf s.model k) (w : HasCome s now g k x v) where
  open s use {model as M}

  fan : Fan (after M) M (tail M k)
  fan = fan_of M sound k k_there

  abbrev ws : List ℕ
  ws = fan.items

  k_in : IsIn k ws
  k_in = fan.all k k_there refl

  x_in : IsIn x ws
  x_in = fan.all x w.here w.one_tail

  arc_from : (y : ℕ) → IsIn y ws → arc M y k ≡ upto y k ws
  arc_from y i = arc_is M ws y k fan.apart fan.ring (λ z j. (fan.of_it z j).0) i k_in

  round_in : IsIn (round M x) ws
  round_in = subst (λ y. IsIn y ws) (sym (next_is_successor (round M) ws x fan.ring x_in)) (IsIn_successor x ws x_in)

  arc_step : x ≢ k → arc M x k ≡ x ∷ arc M (round M x) k
  arc_step ne = arc_from x x_in ∙ upto_step (round M) ws fan.apart fan.ring x k x_in k_in ne ∙ ap (λ q. x ∷ q) (sym (arc_from (round M x) round_in))

  shorter : x ≢ k → length (arc M (round M x) k) < length (arc M x k)
  shorter ne = omega (arith, ap length (arc_step ne))

  loops_kept : now.model.loops ≡ M.loops
  loops_kept = ap (λ (t : Store). t.model.loops) w.kept

  pub half_now : (y : ℕ) → HasHalf M y → HasHalf now.model y
  half_now y t = w.halves (edge_of y) ∙ t

  set_loops : (set_tail now x v).model.loops ≡ M.loops
  unfolding set_tail
  set_loops = loops_kept

  set_halves : (e : ℕ) → table.has (set_tail now x v).model.edges e ≡ table.has M.edges e
  unfolding set_tail
  set_halves e = grind (arith, nat_tests, tables, w.here, w.halves e)

  pub mate_there : HasHalf (set_tail now x v).model (mate x)
  mate_there = set_halves (edge_of (mate x)) ∙ half_mate M x w.here

  mate_loop : loop_of M (mate x) ≢ 0
  mate_loop = number_real (loop_of M (mate x)) (sound.loops_fit (loop_of M (mate x)) (loop_there M sound (mate x) (half_mate M x w.here)))

  mate_looped : loop_of (set_tail now x v).model (mate x) ≢ 0
  mate_looped e = mate_loop (sym (loop_of-same M (set_tail now x v).model set_loops (mate x)) ∙ e)

  after-same : (N : Model) → N.loops ≡ M.loops → (y : ℕ) → after N y ≡ after M y
  unfolding after
  after-same N same y = ap (λ q. successor (items_of (content N q)) y) (loop_of-same M N same y) ∙ ap (λ c. successor (items_of c) y) (content-same M N same (loop_of M y))

  next_is : after (set_tail now x v).model (mate x) ≡ round M x
  next_is = after-same (set_tail now x v).model set_loops (mate x)

  set_kept : set_tail now x v ≡ record s { model = record M { edges = (set_tail now x v).model.edges } }
  unfolding set_tail
  set_kept = ap (λ (t : Store). record t { model = record t.model { edges = set_row now.model.edges x v } }) w.kept

  set_ends : x ≢ k → table.map_rows (with_tails (arc M (round M x) k) v) (set_tail now x v).model.edges ≡ table.map_rows (with_tails (arc M g k) v) M.edges
  unfolding set_tail
  set_ends ne = tails_step now.model.edges x v (arc M (round M x) k) (half_now x w.here) ∙ ap (λ q. table.map_rows (with_tails q v) now.model.edges) (sym (arc_step ne)) ∙ w.ends

  come_on : x ≢ k → HasCome s (set_tail now x v) g k (round M x) v
  come_on ne = record {
    here = (fan.of_it (round M x) round_in).0;
    one_tail = (fan.of_it (round M x) round_in).1;
    kept = set_kept;
    halves = set_halves;
    ends = set_ends ne;
  }

  pub come_last : x ≡ k → now ≡ with_tails_at s (arc M g k) v
  unfolding with_tails_at
  come_last e =
      let none : arc M x k ≡ [] = arc_from x x_in ∙ ap (λ y. upto x y ws) (sym e) ∙ upto_itself x ws x_in in
      w.kept ∙ ap (λ t. record s { model = record M { edges = t } })
      (sym (map_same (with_tails [] v) now.model.edges (λ q row at. refl)) ∙ ap (λ q. table.map_rows (with_tails q v) now.model.edges) (sym none) ∙ w.ends)

  -- where the next one round is read behind the mate
  module _ (q : Store) (n y : ℕ) (set : q ≡ set_tail now x v) (mate_is : n ≡ mate x) (next_in : loop_of q.model n ≢ 0 → y ≡ after q.model n) (ne : x ≢ k) where
    next_was : y ≡ round M x
    next_was = next_in (λ e. mate_looped (sym (ap (λ (u : Store). loop_of u.model n) set ∙ ap (loop_of (set_tail now x v).model) mate_is) ∙ e))
        ∙ ap (λ (u : Store). after u.model n) set ∙ ap (after (set_tail now x v).model) mate_is ∙ next_is

    pub come_next : HasCome s q g k y v × (length (arc M y k) < length (arc M x k))
    come_next = subst (λ z. HasCome s q g k z v × (length (arc M z k) < length (arc M x k))) (sym next_was) (subst (λ u. HasCome s u g k (round M x) v) (sym set) (come_on ne), shorter ne)

-- ---- what stays where tails move

module _ (s : Store) (hs : List ℕ) (v : ℕ) where
  pub room-tails : (with_tails_at s hs v).room ≡ s.room
  unfolding with_tails_at
  room-tails = refl

  pub loops-tails : (with_tails_at s hs v).model.loops ≡ s.model.loops
  unfolding with_tails_at
  loops-tails = refl

  pub loose-tails : (with_tails_at s hs v).loose ≡ s.loose
  unfolding with_tails_at
  loose-tails = refl

  pub edges-tails : (e : ℕ) → table.get (with_tails_at s hs v).model.edges e ≡ option_map (with_tails hs v e) (table.get s.model.edges e)
  unfolding with_tails_at
  edges-tails e = table.get-map_rows (with_tails hs v) s.model.edges e

  pub half-tails : (x : ℕ) → HasHalf s.model x → HasHalf (with_tails_at s hs v).model x
  half-tails x t = ap is_some (edges-tails (edge_of x)) ∙ mapped_some (with_tails hs v (edge_of x)) (table.get s.model.edges (edge_of x)) ∙ t

  pub free-tails : (e : ℕ) → table.get s.model.edges e ≡ None → table.get (with_tails_at s hs v).model.edges e ≡ None
  free-tails e f = edges-tails e ∙ ap (option_map (with_tails hs v e)) f

  -- who is listed starts at v
  pub tail-tails : (x : ℕ) → HasHalf s.model x → tail (with_tails_at s hs v).model x ≡ cond (nat_lt 0 (count x hs)) v (tail s.model x)
  unfolding tail
  tail-tails x there = ap (λ o. tail_in (unwrap_or o no_edge) (is_first x)) (edges-tails (edge_of x)) ∙ on_row (table.get s.model.edges (edge_of x)) there where
    on_row : (o : Option EdgeRow) → is_some o ≡ true → tail_in (unwrap_or (option_map (with_tails hs v (edge_of x)) o) no_edge) (is_first x) ≡ cond (nat_lt 0 (count x hs)) v (tail_in (unwrap_or o no_edge) (is_first x))
    on_row None t = absurd (true≢false (sym t))
    on_row (Some row) t = tails_of_row hs v x row
