-- The tables of a model to which the sides over some items have been added.
use Rattle.sweeps_laws.proofs.Prelude.{◌≡◌, ◌≢◌, ℕ, zero, suc, ◌+◌, ◌≤◌, ◌<◌, List, [], ◌∷◌, length, get_or, Some, refl, sym, ap, subst, ◌∙◌, arith, eqb_tells, Point, moved, canonical, mate, edge_of, plus, minus, Model, cycle, FaceRow, LoopRow, EdgeRow, tail, point_of, edge_of-mate, point_row, get-put_here, get-put_other, start, finish, Taken, riser, top_edge, next_place, with_side, with_sides, same_tail, same_point}
use Rattle.euler_operators.specs.Table as table
use Rattle.sweeps_laws.proofs.swept.Filled.{filled, filled_old, filled_new}
use Rattle.sweeps_laws.proofs.swept.Numbers.{riser_above, top_cases, riser_apart, top_apart, riser_no_top}

-- edges up to e and vertices up to v answer as they did
pub record Keeps (M N : Model) (e v : ℕ) : Type 0 where
  pub tails : (h : ℕ) → edge_of h ≤ e → tail N h ≡ tail M h
  pub points : (w : ℕ) → w ≤ v → point_of N w ≡ point_of M w

module _ {M N : Model} {e v : ℕ} (keeps : Keeps M N e v) (bounded : (h : ℕ) → tail M h ≤ v) where
  pub start_kept : (h : ℕ) → edge_of h ≤ e → start N h ≡ start M h
  start_kept h l = ap (point_of N) (keeps.tails h l) ∙ keeps.points (tail M h) (bounded h)

  pub finish_kept : (h : ℕ) → edge_of h ≤ e → finish N h ≡ finish M h
  finish_kept h l = start_kept (mate h) (subst (λ k. k ≤ e) (sym (edge_of-mate h)) l)

module _ (M : Model) (c : Taken) (s : ℕ) (d : Point) (hs : List ℕ) where
  abbrev pub grown : ℕ → Model
  grown i = with_sides c s d hs i M

  abbrev pub item : ℕ → ℕ
  item i = get_or hs i 0

  -- the rows that side i adds
  abbrev pub side_face : ℕ → FaceRow
  side_face i = record { solid = s; outer = c.loop + 1 + i }

  abbrev pub side_items : ℕ → List ℕ
  side_items i = item i ∷ plus (riser c.edge (next_place (length hs) i)) ∷ minus (top_edge c.edge (length hs) i) ∷ minus (riser c.edge i) ∷ []

  abbrev pub side_loop : ℕ → LoopRow
  side_loop i = record { face = c.face + 1 + i; content = cycle (canonical (side_items i)) }

  abbrev pub side_riser : ℕ → EdgeRow
  side_riser i = record { plus_tail = tail (grown i) (item i); minus_tail = c.vertex + 1 + i }

  abbrev pub side_top : ℕ → EdgeRow
  side_top i = record { plus_tail = c.vertex + 1 + i; minus_tail = c.vertex + 1 + next_place (length hs) i }

  abbrev pub side_point : ℕ → Point
  side_point i = moved (start (grown i) (item i)) d

  pub edges_step : (i : ℕ) → (with_side c s d hs i (grown i)).edges ≡ table.put (table.put (grown i).edges (riser c.edge i) (side_riser i)) (top_edge c.edge (length hs) i) (side_top i)
  unfolding with_side
  edges_step i = refl

  pub faces_grown : (n : ℕ) → (grown n).faces ≡ filled M.faces c.face side_face n
  unfolding with_side
  faces_grown zero = refl
  faces_grown (suc n) = refl ∙ ap (λ t. table.put t (c.face + 1 + n) (side_face n)) (faces_grown n)

  pub loops_grown : (n : ℕ) → (grown n).loops ≡ filled M.loops c.loop side_loop n
  unfolding with_side
  loops_grown zero = refl
  loops_grown (suc n) = refl ∙ ap (λ t. table.put t (c.loop + 1 + n) (side_loop n)) (loops_grown n)

  pub vertices_grown : (n : ℕ) → (grown n).vertices ≡ filled M.vertices c.vertex side_point n
  unfolding with_side
  vertices_grown zero = refl
  vertices_grown (suc n) = refl ∙ ap (λ t. table.put t (c.vertex + 1 + n) (side_point n)) (vertices_grown n)

  -- numbers that none of the new edges has
  pub edges_other : (n q : ℕ) → ((j : ℕ) → j < n → (q ≢ riser c.edge j) × (q ≢ top_edge c.edge (length hs) j)) → table.get (grown n).edges q ≡ table.get M.edges q
  unfolding with_side
  edges_other zero q o = refl
  edges_other (suc n) q o = let h = o n (omega arith) in get-put_other _ _ _ q h.1 ∙ get-put_other _ _ _ q h.0 ∙ edges_other n q (λ j l. o j (omega (arith, l)))

  pub edges_kept : (n q : ℕ) → q ≤ c.edge → table.get (grown n).edges q ≡ table.get M.edges q
  edges_kept n q l = edges_other n q (λ j m. ((λ e. omega (arith, l, e, riser_above c.edge j)), (λ e. omega (arith, l, e, top_cases c.edge (length hs) j))))

  pub vertices_kept : (n w : ℕ) → w ≤ c.vertex → table.get (grown n).vertices w ≡ table.get M.vertices w
  vertices_kept n w l = ap (λ t. table.get t w) (vertices_grown n) ∙ filled_old M.vertices c.vertex side_point n w l

  -- what was there before is kept
  pub keeps_grown : (n : ℕ) → Keeps M (grown n) c.edge c.vertex
  keeps_grown n = grind (arith, same_tail, edges_kept, same_point, vertices_kept)

  riser_grown : (n i : ℕ) → n ≤ length hs → i < n → table.get (grown n).edges (riser c.edge i) ≡ Some (side_riser i)
  riser_grown zero i m l = absurd (omega arith)
  riser_grown (suc n) i m l = grind (arith, eqb_tells i n, edges_step n, get-put_here, get-put_other, riser_apart c.edge i n, riser_no_top c.edge (length hs) i n, riser_grown n i)

  top_grown : (n i : ℕ) → n ≤ length hs → i < n → table.get (grown n).edges (top_edge c.edge (length hs) i) ≡ Some (side_top i)
  top_grown zero i m l = absurd (omega arith)
  top_grown (suc n) i m l = grind (arith, eqb_tells i n, edges_step n, get-put_here, get-put_other, top_apart c.edge (length hs) i n, riser_no_top c.edge (length hs) n i, top_grown n i)

  module _ (items : (i : ℕ) → i < length hs → edge_of (item i) ≤ c.edge) (bounded : (h : ℕ) → tail M h ≤ c.vertex) where
    -- the rows of the new edges and vertices, once all sides are there
    pub riser_row : (i : ℕ) → i < length hs → table.get (grown (length hs)).edges (riser c.edge i) ≡ Some (record { plus_tail = tail M (item i); minus_tail = c.vertex + 1 + i })
    riser_row i l = riser_grown (length hs) i (omega arith) l ∙ ap (λ v. Some (record { plus_tail = v; minus_tail = c.vertex + 1 + i })) ((keeps_grown i).tails (item i) (items i l))

    pub top_row : (i : ℕ) → i < length hs → table.get (grown (length hs)).edges (top_edge c.edge (length hs) i) ≡ Some (side_top i)
    top_row i l = top_grown (length hs) i (omega arith) l

    pub point_grown : (i : ℕ) → i < length hs → point_of (grown (length hs)) (c.vertex + 1 + i) ≡ moved (start M (item i)) d
    point_grown i l = point_row (grown (length hs)) (c.vertex + 1 + i) (side_point i) (ap (λ t. table.get t (c.vertex + 1 + i)) (vertices_grown (length hs)) ∙ filled_new M.vertices c.vertex side_point (length hs) i l)
        ∙ ap (λ p. moved p d) (start_kept (keeps_grown i) bounded (item i) (items i l))
