-- Of the half-edges at a vertex the one of the least edge leads, and no other.
use Rattle.shapes.proofs.Prelude.{◌≡◌, ℕ, ◌≤◌, ◌<◌, Bool, true, false, nat_eq, ◌||◌, Some, refl, sym, ap, ◌∙◌, arith, ne_eqb, eq-eqb, eqb-true, or_left, or_right, or_cases, edge_of, first_where, Model, EdgeRow, tail, Sound, HasHalf, plus_row, minus_row, same_edge, plus_tail_row, minus_tail_row, row_some, halves_of_edge, listed_passes, first_where_least, first_passes, first_edge, leads}
use Rattle.euler_operators.specs.Table as table

-- ---- the edges at a vertex

abbrev Ends : ℕ → ℕ → EdgeRow → Bool
Ends v e row = nat_eq row.plus_tail v || nat_eq row.minus_tail v

module _ (M : Model) where
  -- an edge with an end at v has a half-edge that starts there
  ends_start : (v e : ℕ) (row : EdgeRow) → table.get M.edges e ≡ Some row → Ends v e row ≡ true → (x : ℕ) × HasHalf M x × (tail M x ≡ v) × (edge_of x ≡ e)
  ends_start v e row at b = grind (arith, or_cases, row.plus_tail, row.minus_tail, plus_row, plus_tail_row, eqb-true, minus_row, minus_tail_row)

  -- the edge of a half-edge that starts at v has an end there
  start_ends : (x v : ℕ) → HasHalf M x → tail M x ≡ v → (row : EdgeRow) × (table.get M.edges (edge_of x) ≡ Some row) × (Ends v (edge_of x) row ≡ true)
  start_ends x v t s = grind (arith, row_some, halves_of_edge, or_left, eq-eqb, plus_tail_row, or_right, minus_tail_row)

  -- ---- which half-edges lead

  pub leads_true : (h : ℕ) → HasHalf M h → ((x : ℕ) → HasHalf M x → tail M x ≡ tail M h → edge_of h ≤ edge_of x) → leads M h ≡ true
  unfolding leads first_edge
  leads_true h t least = grind (arith, start_ends h (tail M h) t, eq-eqb (edge_of h), first_where_least, ends_start (tail M h))

  pub leads_false : (h x : ℕ) → HasHalf M x → tail M x ≡ tail M h → edge_of x < edge_of h → leads M h ≡ false
  unfolding leads first_edge
  leads_false h x t s l =
      let r = start_ends x (tail M h) t s in
      ne_eqb (edge_of h) (first_where (Ends (tail M h)) M.edges) (λ e. absurd (omega (arith, e, l, (first_passes (Ends (tail M h)) M.edges (edge_of x) r.0 r.1 r.2).1)))

  -- where a half-edge starts one leads
  pub one_leads : (h : ℕ) → HasHalf M h → (x : ℕ) × HasHalf M x × (tail M x ≡ tail M h) × (leads M x ≡ true)
  unfolding leads first_edge
  one_leads h t =
      let p = Ends (tail M h) in
      let r = start_ends h (tail M h) t refl in
      let f = listed_passes p M.edges (first_where p M.edges) (first_passes p M.edges (edge_of h) r.0 r.1 r.2).0 in
      let x = ends_start (tail M h) (first_where p M.edges) f.0 f.1 f.2 in
      (x.0, x.1, x.2, eq-eqb (edge_of x.0) (first_where (Ends (tail M x.0)) M.edges) (x.3 ∙ ap (λ v. first_where (Ends v) M.edges) (sym x.2)))

  -- and only one
  pub only_leads : Sound M → (x y : ℕ) → HasHalf M x → HasHalf M y → leads M x ≡ true → leads M y ≡ true → tail M x ≡ tail M y → x ≡ y
  unfolding leads
  only_leads sound x y s t a b e = grind (arith, eqb-true, same_edge, sound.ends_differ)
