-- The numbers above those that an opening takes are free after it.
use Rattle.split_opening_laws.proofs.Prelude.{◌≡◌, ℕ, ◌+◌, ◌*◌, ◌<◌, List, [], ◌∷◌, length, None, refl, ap, ◌∙◌, arith, fold, option_map, Point, Plane, count, Table, get-map_rows, Model, tail, point_of, tick_same, get-put_other, AreFree, Taken, numbers_after, rewritten_row, renamed, opened_row, both_lists, opened_along, Opening, next_opened}
use Rattle.euler_operators.specs.Table as table
use Rattle.split_opening_laws.proofs.sections.Numbered.{in_numbers, rim_above}
use Rattle.split_opening_laws.proofs.sections.OpenedRows.{faces_are, loops_are, edges_are, vertices_are}

pub copied_other : (M : Model) (t : Table Point) (xs ys : List ℕ) (q : ℕ) → count q ys ≡ 0 → table.get (fold (λ t p. table.put t p.1 (point_of M p.0)) t (both_lists xs ys)) q ≡ table.get t q
copied_other M t [] ys q z = refl
copied_other M t (x ∷ xs) [] q z = refl
copied_other M t (x ∷ xs) (y ∷ ys) q z =
    copied_other M (table.put t y (point_of M x)) xs ys q (omega (arith, z)) ∙ get-put_other t y (point_of M x) q (λ e. absurd (omega (arith, z, ap (λ n. count n (y ∷ ys)) e, tick_same y)))

module _ (M : Model) (above : List ℕ) (s : ℕ) (c : Taken) (bs : List ℕ) (free : AreFree M c) where
  abbrev m : ℕ
  m = length bs

  abbrev N : Model
  N = opened_along M above s c bs

  faces_free : (q : ℕ) → c.face + m + 1 < q → table.get N.faces q ≡ None
  faces_free q l = grind (arith, faces_are, get-put_other)

  loops_free : (q : ℕ) → c.loop + m + 1 < q → table.get N.loops q ≡ None
  loops_free q l = grind (arith, loops_are, get-put_other, m, get-map_rows, rewritten_row, renamed, both_lists, numbers_after, option_map)

  edges_free : (q : ℕ) → c.edge + 2 * m < q → table.get N.edges q ≡ None
  edges_free q l = grind (arith, edges_are, rim_above, m, get-map_rows, opened_row, both_lists, tail, numbers_after, option_map)

  vertices_free : (q : ℕ) → c.vertex + m < q → table.get N.vertices q ≡ None
  vertices_free q l = grind (arith, vertices_are, copied_other, in_numbers)

pub still_free : (above : List ℕ) (s : ℕ) (p : Plane) (o : Opening) (bs : List ℕ) → AreFree o.model o.taken → AreFree (next_opened p above s o bs).model (next_opened p above s o bs).taken
unfolding next_opened
still_free above s p o bs free = grind (arith, faces_free, loops_free, edges_free, vertices_free)
