-- One loop of a face swept: what the readers answer of the model after.
use Rattle.sweeps_laws.proofs.Prelude.{◌≡◌, ◌≢◌, ℕ, ◌+◌, ◌≤◌, ◌<◌, true, false, cond, not, nat_eq, ◌&&◌, List, [], ◌∷◌, length, get_or, Some, is_some, refl, sym, ap, subst, ◌∙◌, arith, inl, inr, ne_eqb, Bool, nat_tests, eqb_tells, Point, moved, IsIn, least, canonical, edge_of, plus, minus, map_rows, Model, cycle, LoopRow, items_of, tail, content, face_of, outer, solid_of, point_of, rings_of, Has, IsIn-get_or, map_one, all_where_none, all_where-map, get-put_here, get-put_other, content_row, face_row, outer_row, plus_tail_row, minus_tail_row, same_content, same_face, same_outer, same_solid, in_use_within, none_but, loop_row, start, finish, Taken, riser, top_edge, top_items, next_place, lifted, at_most_greatest}
use Rattle.euler_operators.specs.Table as table
use Rattle.sweeps_laws.proofs.lamina.Lists.{canonical_least}
use Rattle.sweeps_laws.proofs.swept.Filled.{place_cases, filled, filled_old, filled_new, filled_past, filled_none, same_search}
use Rattle.sweeps_laws.proofs.swept.Numbers.{riser_above, top_above, next_within}
use Rattle.sweeps_laws.proofs.swept.Bounds.{HasFree, item_within, loop_face_within, loops_within, tail_within}
use Rattle.sweeps_laws.proofs.swept.Sides.{Keeps, start_kept, finish_kept, grown, item, side_face, side_items, side_loop, faces_grown, loops_grown, keeps_grown, riser_row, top_row, point_grown}

-- loop l of face f is a closed path along these half-edges
pub record IsPathOf (M : Model) (f l : ℕ) (hs : List ℕ) : Type 0 where
  pub there : Has M.loops l
  pub of_face : face_of M l ≡ f
  pub content : content M l ≡ cycle hs
  pub some_item : 0 < length hs
  pub linked : (i : ℕ) → i < length hs → finish M (get_or hs i 0) ≡ start M (get_or hs (next_place (length hs) i) 0)

-- ---- what rows say

-- a face whose loops are all its outer one has no rings
pub no_rings : (M : Model) (k : ℕ) → ((q : ℕ) (y : LoopRow) → table.get M.loops q ≡ Some y → y.face ≡ k → outer M k ≡ q) → rings_of M k ≡ []
no_rings M k all = all_where_none (λ q row. nat_eq row.face k && not (nat_eq (outer M k) q)) M.loops (λ q y at. none_but y.face k (outer M k) q (all q y at))

-- the half-edges of a later edge are greater
below : (h e r : ℕ) → edge_of h ≤ e → e < r → (h < plus r) × (h < minus r)
unfolding edge_of
below h e r l m = (omega arith, omega arith)

least_first : (h a b g : ℕ) → h < a → h < b → h < g → least (h ∷ a ∷ b ∷ g ∷ []) ≡ h
least_first h a b g l m n = omega arith

module _ (M : Model) (c : Taken) (s : ℕ) (d : Point) (hs : List ℕ) (f l : ℕ) where
  abbrev pub swept : Model
  swept = lifted (grown M c s d hs (length hs)) f l (top_items c.edge (length hs) (length hs))

  pub tail_lifted : (h : ℕ) → tail swept h ≡ tail (grown M c s d hs (length hs)) h
  unfolding tail
  tail_lifted h = refl

  point_lifted : (v : ℕ) → point_of swept v ≡ point_of (grown M c s d hs (length hs)) v
  unfolding point_of
  point_lifted v = refl

  pub keeps_swept : Keeps M swept c.edge c.vertex
  keeps_swept = let k = keeps_grown M c s d hs (length hs) in record {
    tails = λ h m. tail_lifted h ∙ k.tails h m;
    points = λ w m. point_lifted w ∙ k.points w m;
  }

  -- ---- faces

  pub face_old : (k : ℕ) → k ≤ c.face → table.get swept.faces k ≡ table.get M.faces k
  face_old k m = ap (λ t. table.get t k) (faces_grown M c s d hs (length hs)) ∙ filled_old M.faces c.face (side_face M c s d hs) (length hs) k m

  pub outer_new : (i : ℕ) → i < length hs → outer swept (c.face + 1 + i) ≡ c.loop + 1 + i
  outer_new i m = outer_row swept (c.face + 1 + i) (side_face M c s d hs i)
      (ap (λ t. table.get t (c.face + 1 + i)) (faces_grown M c s d hs (length hs)) ∙ filled_new M.faces c.face (side_face M c s d hs) (length hs) i m)

  -- ---- loops

  abbrev lifted_row : LoopRow
  lifted_row = record { face = f; content = cycle (top_items c.edge (length hs) (length hs)) }

  pub loop_here : table.get swept.loops l ≡ Some lifted_row
  loop_here = get-put_here (grown M c s d hs (length hs)).loops l lifted_row

  loop_other : (q : ℕ) → q ≢ l → table.get swept.loops q ≡ table.get (filled M.loops c.loop (side_loop M c s d hs) (length hs)) q
  loop_other q ne = get-put_other (grown M c s d hs (length hs)).loops l lifted_row q ne ∙ ap (λ t. table.get t q) (loops_grown M c s d hs (length hs))

  pub loop_old : (q : ℕ) → q ≢ l → q ≤ c.loop → table.get swept.loops q ≡ table.get M.loops q
  loop_old q ne m = loop_other q ne ∙ filled_old M.loops c.loop (side_loop M c s d hs) (length hs) q m

  pub loop_past : (q : ℕ) → q ≢ l → c.loop + length hs < q → table.get swept.loops q ≡ table.get M.loops q
  loop_past q ne m = loop_other q ne ∙ filled_past M.loops c.loop (side_loop M c s d hs) (length hs) q m

  module _ (b : HasFree M c) (r : IsPathOf M f l hs) where
    pub within : l ≤ c.loop
    within = grind (arith, at_most_greatest M.loops l r.there, loops_within b)

    pub loop_new : (i : ℕ) → i < length hs → table.get swept.loops (c.loop + 1 + i) ≡ Some (side_loop M c s d hs i)
    loop_new i m = loop_other (c.loop + 1 + i) (λ e. absurd (omega (arith, within)))
        ∙ filled_new M.loops c.loop (side_loop M c s d hs) (length hs) i m

    pub face_of_old : (q : ℕ) → q ≤ c.loop → face_of swept q ≡ face_of M q
    face_of_old q m = grind (arith, eqb_tells q l, face_row swept l lifted_row loop_here, r.of_face, same_face M swept q, loop_old q)

    pub face_of_new : (i : ℕ) → i < length hs → face_of swept (c.loop + 1 + i) ≡ c.face + 1 + i
    face_of_new i m = face_row swept (c.loop + 1 + i) (side_loop M c s d hs i) (loop_new i m)

    pub face_of_past : (q : ℕ) → c.loop + length hs < q → face_of swept q ≡ face_of M q
    face_of_past q m = same_face M swept q (loop_past q (λ e. absurd (omega (arith, within))) m)

    pub content_here : content swept l ≡ cycle (top_items c.edge (length hs) (length hs))
    content_here = content_row swept l lifted_row loop_here

    pub content_old : (q : ℕ) → q ≢ l → q ≤ c.loop → content swept q ≡ content M q
    content_old q ne m = same_content M swept q (loop_old q ne m)

    pub items_within : (i : ℕ) → i < length hs → edge_of (item M c s d hs i) ≤ c.edge
    items_within i m = item_within b (item M c s d hs i) l (subst (λ x. IsIn (item M c s d hs i) (items_of x)) (sym r.content) (IsIn-get_or hs i 0 m))

    side_read : (i : ℕ) → i < length hs → canonical (side_items M c s d hs i) ≡ side_items M c s d hs i
    side_read i m = let h = item M c s d hs i in let j = next_place (length hs) i in
        canonical_least h (plus (riser c.edge j) ∷ minus (top_edge c.edge (length hs) i) ∷ minus (riser c.edge i) ∷ [])
        (least_first h (plus (riser c.edge j)) (minus (top_edge c.edge (length hs) i)) (minus (riser c.edge i))
        (below h c.edge (riser c.edge j) (items_within i m) (riser_above c.edge j)).0
        (below h c.edge (top_edge c.edge (length hs) i) (items_within i m) (top_above c.edge (length hs) i m)).1
        (below h c.edge (riser c.edge i) (items_within i m) (riser_above c.edge i)).1)

    pub content_new : (i : ℕ) → i < length hs → content swept (c.loop + 1 + i) ≡ cycle (side_items M c s d hs i)
    content_new i m = content_row swept (c.loop + 1 + i) (side_loop M c s d hs i) (loop_new i m) ∙ ap cycle (side_read i m)

    -- ---- rings

    abbrev rewrite : ℕ → LoopRow → LoopRow
    rewrite q row = cond (nat_eq q l) (record { face = row.face; content = cycle (top_items c.edge (length hs) (length hs)) }) row

    rewrite_other : (q : ℕ) (row : LoopRow) → q ≢ l → rewrite q row ≡ row
    rewrite_other q row ne = grind (arith, nat_tests)

    rewrite_here : (row : LoopRow) → rewrite l row ≡ record { face = row.face; content = cycle (top_items c.edge (length hs) (length hs)) }
    rewrite_here row = grind (arith, nat_tests)

    rewrite_face : (q : ℕ) (row : LoopRow) → (rewrite q row).face ≡ row.face
    rewrite_face q row = elim (nat_eq q l) as (λ b. (cond b (record { face = row.face; content = cycle (top_items c.edge (length hs) (length hs)) }) row).face ≡ row.face) [ true ↦ refl | false ↦ refl ]

    pub loops_are : swept.loops ≡ map_rows rewrite (filled M.loops c.loop (side_loop M c s d hs) (length hs))
    loops_are = ap (λ t. table.put t l lifted_row) (loops_grown M c s d hs (length hs))
        ∙ ap (table.put (filled M.loops c.loop (side_loop M c s d hs) (length hs)) l) (ap (λ k. record { face = k; content = cycle (top_items c.edge (length hs) (length hs)) }) (sym r.of_face) ∙ sym (rewrite_here (record { face = face_of M l; content = content M l })))
        ∙ sym (map_one rewrite (filled M.loops c.loop (side_loop M c s d hs) (length hs)) l (record { face = face_of M l; content = content M l })
        (filled_old M.loops c.loop (side_loop M c s d hs) (length hs) l within ∙ loop_row M l r.there) (λ q y ne at. rewrite_other q y ne))

    pub outer_old : (k : ℕ) → k ≤ c.face → outer swept k ≡ outer M k
    outer_old k m = same_outer M swept k (face_old k m)

    abbrev is_ring : ℕ → ℕ → LoopRow → Bool
    is_ring k q row = nat_eq row.face k && not (nat_eq (outer M k) q)

    pub rings_old : (k : ℕ) → k ≤ c.face → rings_of swept k ≡ rings_of M k
    rings_old k m = ap (λ o. table.all_where (λ q row. nat_eq row.face k && not (nat_eq o q)) swept.loops) (outer_old k m)
        ∙ ap (table.all_where (is_ring k)) loops_are ∙ all_where-map rewrite (is_ring k) (filled M.loops c.loop (side_loop M c s d hs) (length hs))
        ∙ same_search (λ q row. is_ring k q (rewrite q row)) (is_ring k) (filled M.loops c.loop (side_loop M c s d hs) (length hs)) (λ q row. ap (λ f. nat_eq f k && not (nat_eq (outer M k) q)) (rewrite_face q row))
        ∙ filled_none M.loops c.loop (side_loop M c s d hs) (loops_within b) (is_ring k) (length hs) (λ i. ap (λ t. t && not (nat_eq (outer M k) (c.loop + 1 + i))) (ne_eqb (c.face + 1 + i) k (λ e. absurd (omega (arith, m, e)))))

    pub rings_new : (i : ℕ) → i < length hs → rings_of swept (c.face + 1 + i) ≡ []
    rings_new i m = no_rings swept (c.face + 1 + i) (λ q y at e. let is = face_row swept q y at ∙ e in outer_new i m ∙ (elim (place_cases q c.loop (length hs)) [
      | inl o ↦ absurd (omega (arith, sym (face_of_old q o) ∙ is, loop_face_within b q))
      | inr (inl j) ↦ omega (arith, sym (face_of_new j.0 j.1) ∙ ap (face_of swept) (sym j.2) ∙ is) ∙ sym j.2
      | inr (inr p) ↦ absurd (omega (arith, sym (face_of_past q p) ∙ is, loop_face_within b q))
    ]))

    -- ---- where the new half-edges start and end

    -- item i starts here, and ends there
    abbrev pub from_point : ℕ → Point
    from_point i = start M (item M c s d hs i)

    abbrev pub to_point : ℕ → Point
    to_point i = finish M (item M c s d hs i)

    new_point : (i : ℕ) → i < length hs → point_of swept (c.vertex + 1 + i) ≡ moved (from_point i) d
    new_point i m = point_lifted (c.vertex + 1 + i) ∙ point_grown M c s d hs items_within (tail_within b) i m

    pub riser_start : (i : ℕ) → i < length hs → start swept (plus (riser c.edge i)) ≡ from_point i
    riser_start i m = ap (point_of swept) (plus_tail_row swept (riser c.edge i) _ (riser_row M c s d hs items_within (tail_within b) i m)) ∙ keeps_swept.points (tail M (item M c s d hs i)) (tail_within b (item M c s d hs i))

    pub riser_finish : (i : ℕ) → i < length hs → start swept (minus (riser c.edge i)) ≡ moved (from_point i) d
    riser_finish i m = ap (point_of swept) (minus_tail_row swept (riser c.edge i) _ (riser_row M c s d hs items_within (tail_within b) i m)) ∙ new_point i m

    pub top_start : (i : ℕ) → i < length hs → start swept (plus (top_edge c.edge (length hs) i)) ≡ moved (from_point i) d
    top_start i m = ap (point_of swept) (plus_tail_row swept (top_edge c.edge (length hs) i) _ (top_row M c s d hs items_within (tail_within b) i m)) ∙ new_point i m

    pub top_finish : (i : ℕ) → i < length hs → start swept (minus (top_edge c.edge (length hs) i)) ≡ moved (to_point i) d
    top_finish i m = ap (point_of swept) (minus_tail_row swept (top_edge c.edge (length hs) i) _ (top_row M c s d hs items_within (tail_within b) i m))
        ∙ new_point (next_place (length hs) i) (next_within (length hs) i m) ∙ ap (λ p. moved p d) (sym (r.linked i m))

    pub next_start : (i : ℕ) → i < length hs → start swept (plus (riser c.edge (next_place (length hs) i))) ≡ to_point i
    next_start i m = riser_start (next_place (length hs) i) (next_within (length hs) i m) ∙ sym (r.linked i m)

    pub next_finish : (i : ℕ) → i < length hs → start swept (minus (riser c.edge (next_place (length hs) i))) ≡ moved (to_point i) d
    next_finish i m = riser_finish (next_place (length hs) i) (next_within (length hs) i m) ∙ ap (λ p. moved p d) (sym (r.linked i m))

    pub item_start : (i : ℕ) → i < length hs → start swept (item M c s d hs i) ≡ from_point i
    item_start i m = start_kept keeps_swept (tail_within b) (item M c s d hs i) (items_within i m)

    pub item_finish : (i : ℕ) → i < length hs → finish swept (item M c s d hs i) ≡ to_point i
    item_finish i m = finish_kept keeps_swept (tail_within b) (item M c s d hs i) (items_within i m)

    -- ---- the swept face stays, with its solid and its outer loop

    module _ (there : Has M.faces f) where
      old_face : f ≤ c.face
      old_face = in_use_within M.faces c.face b.free.faces f there

      pub there_after : Has swept.faces f
      there_after = ap is_some (face_old f old_face) ∙ there

      pub solid_after : solid_of swept f ≡ solid_of M f
      solid_after = same_solid M swept f (face_old f old_face)

      pub outer_after : outer swept f ≡ outer M f
      outer_after = outer_old f old_face
