-- What walks over all loops of a solid count are its vertices and its edges.
use Rattle.solid_measure.proofs.Prelude.{◌≡◌, ℕ, ◌+◌, ◌≤◌, Bool, true, nat_eq, List, ◌++◌, length, map, is_some, refl, sym, ap, subst, ◌∙◌, arith, inl, inr, ℤ, pos, ◌-ℤ◌, FitsSigned, eq-eqb, eqb-true, length-append, ints, to_z-of_z, fits_signed_from_abs, difference_within, count-append, tick_same, tick_other, IsIn_or_not, plus_row, first_is_plus, cycle_there, loop_there, IsIn-map, IsApart-images, row_some, eqb_tells, count, IsIn, IsApart, edge_of, is_first, plus, Model, LoopContent, lone, cycle, items_of, tail, content, loop_of, solid_of, faces_of, Sound, Has, HasHalf, IsLoneAt, lists, is_lone, lone_vertex, face_at, lone_is, one_solid_round, listed_passes, passes_listed, all_where-rises, IsIn-from_listed, listed-from_in, counted_once, items_in, vertices_on, corners_in, vertices_of, edges_of, leads, rings_in, counts, Met, IsFew, loops_met, solid_loops, all_loops_apart, loop_in_solid, solid_has_loop, faces_short, one_leads, only_leads, corners_are, on_one, in_some, on_some, halves_apart, half_solid, solid_half}
use mir.Syntax.{w64}
use mir.Val.{to_z, of_z}
use Rattle.std.proofs.lemmas.List.{length-map}
use Rattle.euler_operators.specs.Table as table
use Rattle.solid_measure.specs.declared.solid_counts.Tally.{Tally}
use Rattle.solid_measure.proofs.solid_counts_laws.HowMany.{passing, passing_are, passing_apart, of_passing, in_passing, of_map, equally_many}
use Rattle.solid_measure.proofs.solid_counts_laws.Sums.{is_lone_loop, loops_are, loops_few}
use Rattle.solid_measure.proofs.solid_counts_laws.FaceSums.{rings_few}

-- what the code holds of counts and of their difference
count_held : (z : ℤ) (n : ℕ) → z ≡ pos n → n ≤ 5000001 → to_z w64 (of_z w64 z) ≡ pos n
count_held z n e l = ap (λ y. to_z w64 (of_z w64 y)) e ∙ to_z-of_z w64 (pos n) (fits_signed_from_abs w64 (pos n) (omega (arith, ints, l)))

difference_held : (m n : ℕ) → m ≤ 5000001 → n ≤ 5000001 → FitsSigned w64 (pos m -ℤ pos n)
difference_held m n l k = fits_signed_from_abs w64 (pos m -ℤ pos n) (omega (arith, ints, difference_within (pos m) (pos n) 5000001 5000001 10000002 (omega (arith, ints, l)) (omega (arith, ints, k)) (omega arith)))

module _ (M : Model) (sound : Sound M) (s : ℕ) where
  abbrev loops : List ℕ
  loops = solid_loops M sound s

  abbrev halves : List ℕ
  halves = items_in M loops

  -- ---- edges

  -- the row of an edge of the solid
  abbrev OfSolid : ℕ → Bool
  OfSolid e = nat_eq (solid_of M (face_at M (plus e))) s

  edges_apart : IsApart (edges_of M s)
  edges_apart x = counted_once x (edges_of M s) (all_where-rises (λ e _. OfSolid e) M.edges)

  edge_listed : (e : ℕ) → IsIn e (map edge_of (passing is_first halves)) → IsIn e (edges_of M s)
  edge_listed e i =
      let m = of_map edge_of e (passing is_first halves) i in
      let p = of_passing is_first m.0 halves m.1 in
      let h = half_solid M sound s m.0 p.0 in
      let x : m.0 ≡ plus e = first_is_plus m.0 p.1 ∙ ap plus m.2 in
      let r = row_some (table.get M.edges e) (ap (table.has M.edges) (sym m.2) ∙ h.0) in
      IsIn-from_listed e (edges_of M s) (passes_listed (λ e _. OfSolid e) M.edges e r.0 r.1 (eq-eqb (solid_of M (face_at M (plus e))) s (ap (λ y. solid_of M (face_at M y)) (sym x) ∙ h.1)))

  listed_edge : (e : ℕ) → IsIn e (edges_of M s) → IsIn e (map edge_of (passing is_first halves))
  listed_edge e i =
      let r = listed_passes (λ e _. OfSolid e) M.edges e (listed-from_in e (edges_of M s) i) in
      let t : HasHalf M (plus e) = ap (table.has M.edges) (plus_row e).0 ∙ ap is_some r.1 in
      let h : IsIn (plus e) halves = solid_half M sound s (plus e) t (eqb-true (solid_of M (face_at M (plus e))) s r.2) in
      subst (λ k. IsIn k (map edge_of (passing is_first halves))) (plus_row e).0 (IsIn-map edge_of (plus e) (passing is_first halves) (in_passing is_first (plus e) halves h (plus_row e).1))

  plus_apart : IsApart (map edge_of (passing is_first halves))
  plus_apart = IsApart-images edge_of (passing is_first halves) (passing_apart is_first halves (halves_apart M sound s)) (λ x y i j e.
      first_is_plus x (of_passing is_first x halves i).1 ∙ ap plus e ∙ sym (first_is_plus y (of_passing is_first y halves j).1))

  pub edges_counted : (loops_met M loops).edges ≡ length (edges_of M s)
  edges_counted =
      (loops_are M loops).1 ∙ sym (passing_are is_first halves) ∙ sym (length-map (passing is_first halves) edge_of)
      ∙ equally_many (map edge_of (passing is_first halves)) (edges_of M s) plus_apart edges_apart edge_listed listed_edge

  -- ---- vertices

  abbrev lone_ones : List ℕ
  lone_ones = map (λ l. lone_vertex (content M l)) (passing (is_lone_loop M) loops)

  abbrev led_ones : List ℕ
  led_ones = map (tail M) (passing (leads M) halves)

  abbrev solid_vertices : List ℕ
  solid_vertices = vertices_of M s

  vertices_apart : IsApart solid_vertices
  vertices_apart x = counted_once x solid_vertices (all_where-rises (λ v _. lists (corners_in M (faces_of M s)) v) M.vertices)

  -- a vertex that is on one of the loops
  vertex_listed : (v l : ℕ) → Has M.vertices v → IsIn l loops → IsIn v (vertices_on M (content M l)) → IsIn v solid_vertices
  vertex_listed v l t i j =
      let c : IsIn v (corners_in M (faces_of M s)) = omega (arith, ap (count v) (corners_are M (faces_of M s)), on_some M loops l v i j) in
      let r = row_some (table.get M.vertices v) t in
      IsIn-from_listed v solid_vertices (passes_listed (λ v _. lists (corners_in M (faces_of M s)) v) M.vertices v r.0 r.1 (listed-from_in v (corners_in M (faces_of M s)) c))

  listed_vertex : (v : ℕ) → IsIn v solid_vertices → (l : ℕ) × IsIn l loops × IsIn v (vertices_on M (content M l))
  listed_vertex v i =
      let r = listed_passes (λ v _. lists (corners_in M (faces_of M s)) v) M.vertices v (listed-from_in v solid_vertices i) in
      on_one M loops v (omega (arith, ap (count v) (corners_are M (faces_of M s)), IsIn-from_listed v (corners_in M (faces_of M s)) r.2))

  -- the loop of a vertex that was counted for a lone loop
  lone_of : (v : ℕ) → IsIn v lone_ones → (l : ℕ) × IsIn l loops × IsLoneAt M l v
  lone_of v i =
      let m = of_map (λ l. lone_vertex (content M l)) v (passing (is_lone_loop M) loops) i in
      let p = of_passing (is_lone_loop M) m.0 loops m.1 in
      (m.0, p.0, lone_is (content M m.0) p.1 ∙ ap lone m.2)

  of_lone : (l v : ℕ) → IsIn l loops → IsLoneAt M l v → IsIn v lone_ones
  of_lone l v i e =
      subst (λ k. IsIn k lone_ones) (ap lone_vertex e) (IsIn-map (λ l. lone_vertex (content M l)) l (passing (is_lone_loop M) loops) (in_passing (is_lone_loop M) l loops i (ap is_lone e)))

  -- the half-edge of a vertex that was counted for one that leads
  led_of : (v : ℕ) → IsIn v led_ones → (x : ℕ) × IsIn x halves × (leads M x ≡ true) × (tail M x ≡ v)
  led_of v i =
      let m = of_map (tail M) v (passing (leads M) halves) i in
      let p = of_passing (leads M) m.0 halves m.1 in
      (m.0, p.0, p.1, m.2)

  -- a half-edge of the solid has its vertex counted
  of_half : (x v : ℕ) → IsIn x halves → tail M x ≡ v → IsIn v led_ones
  of_half x v i e =
      let h = half_solid M sound s x i in
      let y = one_leads M x h.0 in
      let j : IsIn y.0 halves = solid_half M sound s y.0 y.1 (one_solid_round M sound x y.0 h.0 y.1 (sym y.2) ∙ h.1) in
      subst (λ k. IsIn k led_ones) (y.2 ∙ e) (IsIn-map (tail M) y.0 (passing (leads M) halves) (in_passing (leads M) y.0 halves j y.3))

  lone_apart : IsApart lone_ones
  lone_apart = IsApart-images (λ l. lone_vertex (content M l)) (passing (is_lone_loop M) loops) (passing_apart (is_lone_loop M) loops (all_loops_apart M sound s)) (λ l k i j e.
      sound.one_lone l k (lone_vertex (content M l)) (lone_is (content M l) (of_passing (is_lone_loop M) l loops i).1) (lone_is (content M k) (of_passing (is_lone_loop M) k loops j).1 ∙ ap lone (sym e)))

  led_apart : IsApart led_ones
  led_apart = IsApart-images (tail M) (passing (leads M) halves) (passing_apart (leads M) halves (halves_apart M sound s)) (λ x y i j e.
      let p = of_passing (leads M) x halves i in let q = of_passing (leads M) y halves j in
      only_leads M sound x y (half_solid M sound s x p.0).0 (half_solid M sound s y q.0).0 p.1 q.1 e)

  -- no vertex is counted for a lone loop and for a half-edge
  not_both : (v : ℕ) → IsIn v lone_ones → IsIn v led_ones → ⊥
  not_both v i j = let l = lone_of v i in let x = led_of v j in sound.lone_is_no_tail l.0 x.0 (half_solid M sound s x.0 x.1).0 (l.2 ∙ ap lone (sym x.3))

  counted_apart : IsApart (lone_ones ++ led_ones)
  counted_apart v = elim (IsIn_or_not v lone_ones) [
    | inl i ↦ elim (IsIn_or_not v led_ones) [ inl j ↦ absurd (not_both v i j) | inr n ↦ omega (arith, n, lone_apart v, count-append v lone_ones led_ones) ]
    | inr n ↦ omega (arith, n, led_apart v, count-append v lone_ones led_ones)
  ]

  counted_listed : (v : ℕ) → IsIn v (lone_ones ++ led_ones) → IsIn v solid_vertices
  counted_listed v i = elim (IsIn_or_not v lone_ones) [
    | inl j ↦ let l = lone_of v j in vertex_listed v l.0 (sound.lone_at_vertex l.0 v l.2) l.1 (omega (arith, ap (λ c. count v (vertices_on M c)) l.2, tick_same v))
    | inr n ↦
        let x = led_of v (omega (arith, i, n, count-append v lone_ones led_ones)) in
        let h = half_solid M sound s x.0 x.1 in
        let l : ℕ = loop_of M x.0 in
        vertex_listed v l (ap (table.has M.vertices) (sym x.3) ∙ sound.tails_there x.0 h.0) (solid_has_loop M sound s l (loop_there M sound x.0 h.0) h.1)
        (subst (λ k. IsIn k (vertices_on M (content M l))) x.3 (tail_on (content M l) x.0 (cycle_there M sound x.0 h.0)))
  ] where
    tail_on : (c : LoopContent) (x : ℕ) → IsIn x (items_of c) → IsIn (tail M x) (vertices_on M c)
    tail_on (lone w) x i = absurd (omega arith)
    tail_on (cycle hs) x i = IsIn-map (tail M) x hs i

  listed_counted : (v : ℕ) → IsIn v solid_vertices → IsIn v (lone_ones ++ led_ones)
  listed_counted v i = let l = listed_vertex v i in counted_on_loop l.0 l.1 (content M l.0) refl l.2 where
    counted_on_loop : (l : ℕ) → IsIn l loops → (c : LoopContent) → content M l ≡ c → IsIn v (vertices_on M c) → IsIn v (lone_ones ++ led_ones)
    counted_on_loop l i (lone w) e j = elim (eqb_tells v w) [
      | inl p ↦ omega (arith, count-append v lone_ones led_ones, of_lone l v i (e ∙ ap lone (sym p.1)))
      | inr n ↦ absurd (omega (arith, j, tick_other v w n.1))
    ]
    counted_on_loop l i (cycle hs) e j =
        let m = of_map (tail M) v hs j in
        let x : IsIn m.0 halves = in_some (λ l. items_of (content M l)) (items_in M) (λ l ls. refl) loops l m.0 i (omega (arith, m.1, ap (λ c. count m.0 (items_of c)) e)) in
        omega (arith, count-append v lone_ones led_ones, of_half m.0 v x m.2)

  pub vertices_counted : (loops_met M loops).vertices ≡ length (vertices_of M s)
  vertices_counted =
      let n = equally_many (lone_ones ++ led_ones) solid_vertices counted_apart vertices_apart counted_listed listed_counted in
      omega (
        arith,
        n,
        (loops_are M loops).0,
        passing_are (is_lone_loop M) loops,
        passing_are (leads M) halves,
        length-map (passing (is_lone_loop M) loops) (λ l. lone_vertex (content M l)),
        length-map (passing (leads M) halves) (tail M),
        length-append lone_ones led_ones,
      )

  pub all_few : IsFew (loops_met M loops)
  all_few = loops_few M sound loops (all_loops_apart M sound s) (λ l i. (loop_in_solid M sound s l i).0)

  -- ---- the counts

  module _ (met : Met) (f r : ℕ) (m : met ≡ loops_met M loops) (fs : f ≡ length (faces_of M s)) (rs : r ≡ length (rings_in M (faces_of M s))) where
    pub more_fits : met.vertices + f ≤ 5000001
    more_fits = omega (arith, ap (λ (n : Met). n.vertices) m, all_few.0, fs, faces_short M sound s)

    pub less_fits : met.edges + r ≤ 5000001
    less_fits = omega (arith, ap (λ (n : Met). n.edges) m, all_few.1, rs, rings_few M sound s)

    sum_is : (a b : ℤ) → a ≡ pos (met.vertices + f) → b ≡ pos (met.edges + r) → to_z w64 (of_z w64 (to_z w64 (of_z w64 a) -ℤ to_z w64 (of_z w64 b))) ≡ pos (met.vertices + f) -ℤ pos (met.edges + r)
    sum_is a b ea eb =
        let inner : to_z w64 (of_z w64 a) -ℤ to_z w64 (of_z w64 b) ≡ pos (met.vertices + f) -ℤ pos (met.edges + r) = λ i. count_held a (met.vertices + f) ea more_fits i -ℤ count_held b (met.edges + r) eb less_fits i in
        ap (λ z. to_z w64 (of_z w64 z)) inner ∙ to_z-of_z w64 (pos (met.vertices + f) -ℤ pos (met.edges + r)) (difference_held (met.vertices + f) (met.edges + r) more_fits less_fits)

    pub tally_is : (a b : ℤ) → a ≡ pos (met.vertices + f) → b ≡ pos (met.edges + r) →
        ◌≡◌ {A = Tally} (record { v = met.vertices; e = met.edges; f = f; r = r; sum = to_z w64 (of_z w64 (to_z w64 (of_z w64 a) -ℤ to_z w64 (of_z w64 b))) }) (counts M s)
    unfolding counts
    tally_is a b ea eb =
        let v : met.vertices ≡ length (vertices_of M s) = ap (λ (n : Met). n.vertices) m ∙ vertices_counted in
        let e : met.edges ≡ length (edges_of M s) = ap (λ (n : Met). n.edges) m ∙ edges_counted in
        λ i. record { v = v i; e = e i; f = fs i; r = rs i; sum = (sum_is a b ea eb ∙ (λ j. pos (v j + fs j) -ℤ pos (e j + rs j))) i }
