-- Where half-edges start and end once a solid is opened along a cycle: where they did, and what stands in the place of a mate starts
-- and ends where that did.
use Rattle.split_laws.proofs.Prelude.{◌≡◌, ℕ, zero, suc, ◌+◌, ◌≤◌, ◌<◌, Bool, cond, not, ◌&&◌, List, length, Some, unwrap_or, sym, ap, ◌∙◌, arith, inl, inr, map, get_or, eqb_tells, length-map, get_or-map, mate, plus, minus, Model, tail, no_point, point_of, HasHalf, face_at, lists, mate-mate, plus_row, minus_row, mate_plus, mate_minus, tail_row, mate_there, less_still, get-put_here, get-put_other, start, finish, Taken, numbers_after, next_place, renamed, opened_row, with_copies, both_lists, opened_along, CanBeOpened, next_within, low_vertex, next_copy, length-numbers_after, numbers_at, renamed_cases, rim_row, rim_at, edges_are, vertices_are, tail_is}
use Rattle.euler_operators.specs.Common.{tail_in}
use Rattle.euler_operators.specs.Table as table
use Rattle.split_opening_laws.specs.strips.Strips.{copied}
use Rattle.split_opening_laws.proofs.strips.Copied.{points_next}
use Rattle.split_laws.proofs.Flags.{vertex_still}

module _ (M : Model) (above : List ℕ) (s : ℕ) (c : Taken) (bs : List ℕ) (w : CanBeOpened M above s c bs) where
  abbrev m : ℕ
  m = length bs

  abbrev N : Model
  N = opened_along M above s c bs

  -- what stands in the place of the mates
  abbrev pub swap : ℕ → ℕ
  swap = renamed (both_lists (map mate bs) (map plus (numbers_after c.edge (length bs))))

  -- ---- points

  copy_points : (i j : ℕ) → i ≤ m → j < i → table.get (with_copies M (copied M c bs i)) (c.vertex + suc j) ≡ Some (start M (get_or bs j 0))
  copy_points zero j le l = absurd (omega arith)
  copy_points (suc i) j le l = ap (λ t. table.get t (c.vertex + suc j)) (points_next M above s c bs w i (omega (arith, le))) ∙ elim (eqb_tells j i) [
    | inl e ↦ grind (arith, get-put_here)
    | inr e ↦ get-put_other (with_copies M (copied M c bs i)) (c.vertex + suc i) _ (c.vertex + suc j) (λ q. e.1 (omega (arith, q))) ∙ copy_points i j (omega (arith, le)) (less_still j i l e.1)
  ]

  -- an old vertex has its point
  pub point_old : (v : ℕ) → v ≤ c.vertex → point_of N v ≡ point_of M v
  unfolding point_of
  point_old v low = ap (λ o. unwrap_or o no_point) (vertex_still M above s c bs v low)

  -- and each copy that of its vertex
  point_new : (j : ℕ) → j < m → point_of N (c.vertex + suc j) ≡ start M (get_or bs j 0)
  unfolding point_of
  point_new j l = ap (λ o. unwrap_or o no_point) (ap (λ t. table.get t (c.vertex + suc j)) (vertices_are M above s c bs) ∙ copy_points m j (omega arith) l)

  point_copied : (v : ℕ) → v ≤ c.vertex → point_of N (renamed (copied M c bs (length bs)) v) ≡ point_of M v
  point_copied v low = grind (arith, renamed_cases, length-map, numbers_at, point_new, get_or-map, point_old)

  either_point : (b : Bool) (v : ℕ) → v ≤ c.vertex → point_of N (cond b (renamed (copied M c bs (length bs)) v) v) ≡ point_of M v
  either_point b v e = grind (arith, point_copied, point_old)

  -- an old half-edge starts where it did
  pub start_old : (h : ℕ) → HasHalf M h → start N h ≡ start M h
  start_old h there = ap (point_of N) (tail_is M above s c bs w.sound w.free h there) ∙ either_point (lists above (face_at M h) && not (lists (map mate bs) h)) (tail M h) (low_vertex M above s c bs w h there)

  pub finish_old : (h : ℕ) → HasHalf M h → finish N h ≡ finish M h
  finish_old h there = start_old (mate h) (mate_there M h there)

  -- ---- the edges round the cap above

  rim_edge : (j : ℕ) → j < m → table.get N.edges (c.edge + suc j) ≡ Some (rim_row c.vertex m j)
  rim_edge j l = ap (λ t. table.get t (c.edge + suc j)) (edges_are M above s c bs)
      ∙ rim_at (table.map_rows (opened_row M above (map mate bs) (copied M c bs (length bs))) M.edges) c.edge c.vertex m m j l

  -- the one half goes along the mate
  out_start : (j : ℕ) → j < m → start N (plus (c.edge + suc j)) ≡ start M (mate (get_or bs j 0))
  out_start j l =
      let row = plus_row (c.edge + suc j) in
      ap (point_of N) (tail_row N (plus (c.edge + suc j)) (rim_row c.vertex m j) (ap (table.get N.edges) row.0 ∙ rim_edge j l) ∙ ap (tail_in (rim_row c.vertex m j)) row.1 ∙ next_copy c.vertex m j)
      ∙ point_new (next_place m j) (next_within m j l) ∙ ap (point_of M) (w.cycle.meet j l)

  -- the other one along the below half
  back_start : (j : ℕ) → j < m → start N (minus (c.edge + suc j)) ≡ start M (get_or bs j 0)
  back_start j l =
      let row = minus_row (c.edge + suc j) in
      ap (point_of N) (tail_row N (minus (c.edge + suc j)) (rim_row c.vertex m j) (ap (table.get N.edges) row.0 ∙ rim_edge j l) ∙ ap (tail_in (rim_row c.vertex m j)) row.1) ∙ point_new j l

  pub back_along : (j : ℕ) → j < length bs → (start N (minus (c.edge + suc j)) ≡ start M (get_or bs j 0)) × (finish N (minus (c.edge + suc j)) ≡ finish M (get_or bs j 0))
  back_along j l = (back_start j l, ap (start N) (mate_minus (c.edge + suc j)) ∙ out_start j l)

  -- what stands in the place of an old half-edge starts and ends where that did
  pub swapped : (y : ℕ) → HasHalf M y → (start N (swap y) ≡ start M y) × (finish N (swap y) ≡ finish M y)
  swapped y there = elim (renamed_cases (map mate bs) (map plus (numbers_after c.edge m)) y) [
    | inl p ↦
        let under : p.0 < length bs = omega (arith, p.1, length-map bs mate) in
        let is : swap y ≡ plus (c.edge + suc p.0) = p.4 ∙ get_or-map plus (numbers_after c.edge m) p.0 0 0 (omega (arith, under, length-numbers_after c.edge m)) ∙ ap plus (numbers_at c.edge m p.0 under) in
        let was : mate (get_or bs p.0 0) ≡ y = sym (get_or-map mate bs p.0 0 0 under) ∙ p.3 in (
          ap (start N) is ∙ out_start p.0 under ∙ ap (start M) was,
          ap (finish N) is ∙ ap (start N) (mate_plus (c.edge + suc p.0)) ∙ back_start p.0 under ∙ ap (start M) (sym (mate-mate (get_or bs p.0 0))) ∙ ap (finish M) was,
        )
    | inr p ↦ (ap (start N) p.0 ∙ start_old y there, ap (finish N) p.0 ∙ finish_old y there)
  ]
