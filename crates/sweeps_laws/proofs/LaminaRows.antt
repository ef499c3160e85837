-- One loop of a face swept: what the six volumes grow by; and the rows of a lamina, beside which other solids keep theirs.
use Rattle.sweeps_laws.proofs.Prelude.{◌≡◌, ◌≢◌, ℕ, zero, suc, ◌+◌, ◌≤◌, pos, ◌+ℤ◌, ◌*ℤ◌, Bool, true, cond, nat_eq, List, [], ◌∷◌, ◌++◌, length, is_some, refl, sym, ap, ◌∙◌, arith, inl, inr, false, ◌||◌, ◌<◌, not, ◌&&◌, Some, subst, ◌⊎◌, None, append-nil, eqb-true, eq-eqb, ne_eqb, get_or, map, reverse, ◌-◌, eqb_tells, nat_tests, map-append, Point, dot, Model, FaceRow, face_of, outer, solid_of, faces_of, cycle, LoopRow, EdgeRow, no_point, point_of, rings_of, items_of, tail, content, Has, lists, canonical, plus, minus, Table, content_row, solid_row, face_row, outer_row, plus_tail_row, point_row, same_content, same_outer, add_none, add_assoc, total_to, same_total, area_at, sides_volume, nat_eq_itself, less_still, first_where_zero, get-put_here, get-put_other, listed_passes, all_where-rises, passes_listed, face_there, same_tail, same_point, Taken, numbers_after, area, normal, volume_in, six_volume, anchor, first_vertex, least_lone, items_in, vertices_in, vertices_on, corners, loops_of, lamina_at, with_path, with_points, with_ring, at_most_greatest, get-put_cases, all_where-put_last, area_kept, areas_kept, greatest-put_last, volume_of, same_volumes, out}
use Rattle.euler_operators.specs.Table as table
use Rattle.sweeps_laws.proofs.lamina.Lists.{numbers_last, plus_halves}
use Rattle.sweeps_laws.proofs.swept.Filled.{filled, filled_search, filled_none}
use Rattle.sweeps_laws.proofs.Loops.{area_sum, volume_last, side_is, faces_kept, faces_moved, from_at, to_at, normal_is, first_kept, face_loop_within}
use Rattle.sweeps_laws.proofs.swept.Sides.{side_face, faces_grown, Keeps, start_kept, finish_kept}
use Rattle.sweeps_laws.proofs.swept.Lifted.{IsPathOf, swept, no_rings}
use Rattle.sweeps_laws.proofs.swept.Bounds.{HasFree, faces_within, item_within, lone_within, loop_face_within, loops_within, outer_within, tail_within}

pub six_volume_is : (M : Model) (s : ℕ) → six_volume M s ≡ volume_in M (faces_of M s)
unfolding six_volume
six_volume_is M s = refl

-- a face of solid u
pub face_within : (M : Model) (c : Taken) → HasFree M c → (u k : ℕ) → lists (faces_of M u) k ≡ true → (k ≤ c.face) × Has M.faces k × (solid_of M k ≡ u)
face_within M c b u k i = let p = listed_passes (λ _ row. nat_eq row.solid u) M.faces k i in (grind (arith, at_most_greatest M.faces k (ap is_some p.1), faces_within b), ap is_some p.1, solid_row M k p.0 p.1 ∙ eqb-true p.0.solid u p.2)

module _ {M : Model} {c : Taken} (s : ℕ) (d : Point) {hs : List ℕ} {f l : ℕ} (b : HasFree M c) (r : IsPathOf M f l hs) where
  abbrev after : Model
  after = swept M c s d hs f l

  abbrev of_solid : ℕ → FaceRow → Bool
  of_solid k row = nat_eq row.solid s

  -- the sides come after the faces that were there
  sides_after : (n : ℕ) → volume_in after (table.all_where of_solid (filled M.faces c.face (side_face M c s d hs) n)) ≡ volume_in after (faces_of M s) +ℤ total_to (λ i. volume_of after (c.face + 1 + i)) n
  sides_after zero = sym (add_none (volume_in after (faces_of M s)))
  sides_after (suc n) = ap (volume_in after) (filled_search M.faces c.face (side_face M c s d hs) (faces_within b) of_solid n
      ∙ ap (λ t. table.all_where of_solid (filled M.faces c.face (side_face M c s d hs) n) ++ cond t ((c.face + 1 + n) ∷ []) []) (nat_eq_itself s))
      ∙ volume_last after (table.all_where of_solid (filled M.faces c.face (side_face M c s d hs) n)) (c.face + 1 + n)
      ∙ ap (λ v. v +ℤ volume_of after (c.face + 1 + n)) (sides_after n)
      ∙ add_assoc (volume_in after (faces_of M s)) (total_to (λ i. volume_of after (c.face + 1 + i)) n) (volume_of after (c.face + 1 + n))

  sides_add : total_to (λ i. volume_of after (c.face + 1 + i)) (length hs) ≡ pos 2 *ℤ dot (area M hs) d
  sides_add = same_total (λ i. volume_of after (c.face + 1 + i)) (λ i. pos 2 *ℤ dot (area_at (from_at s d b r) (to_at s d b r) d i) d) (length hs) (side_is s d b r)
      ∙ sides_volume (area_at (from_at s d b r) (to_at s d b r) d) d (length hs) ∙ ap (λ a. pos 2 *ℤ dot a d) (sym (area_sum M hs))

  volume_after : six_volume after s ≡ volume_in after (faces_of M s) +ℤ pos 2 *ℤ dot (area M hs) d
  volume_after = six_volume_is after s ∙ ap (λ t. volume_in after (table.all_where of_solid t)) (faces_grown M c s d hs (length hs)) ∙ sides_after (length hs) ∙ ap (λ v. volume_in after (faces_of M s) +ℤ v) sides_add

  other_outer : (k : ℕ) → Has M.faces k → k ≢ f → outer M k ≢ l
  other_outer k there ne e = ne (sym ((b.sound.outers_there k there).1) ∙ ap (face_of M) e ∙ r.of_face)

  -- a ring swept
  pub ring_adds : outer M f ≢ l → six_volume after s ≡ six_volume M s +ℤ pos 2 *ℤ dot (area M hs) d
  ring_adds ne = volume_after ∙ ap (λ v. v +ℤ pos 2 *ℤ dot (area M hs) d) (faces_kept s d b r (faces_of M s) each ∙ sym (six_volume_is M s)) where
    each : (k : ℕ) → lists (faces_of M s) k ≡ true → (k ≤ c.face) × (outer M k ≢ l)
    each k i = let p = face_within M c b s k i in (p.0, elim (eqb_tells k f) [ inl e ↦ λ o. ne (ap (outer M) (sym e.1) ∙ o) | inr e ↦ other_outer k p.1 e.1 ])

  -- an outer loop swept
  pub outer_adds : outer M f ≡ l → Has M.faces f → solid_of M f ≡ s → six_volume after s ≡ (six_volume M s +ℤ dot d (normal M f)) +ℤ pos 2 *ℤ dot (area M hs) d
  outer_adds e there of = volume_after ∙ ap (λ v. v +ℤ pos 2 *ℤ dot (area M hs) d)
      (faces_moved s d b r (faces_of M s) (all_where-rises of_solid M.faces) (passes_listed of_solid M.faces f (record { solid = solid_of M f; outer = outer M f }) (face_there M f there) (eq-eqb (solid_of M f) s of)) e each
      ∙ ap (λ v. v +ℤ dot d (normal M f)) (sym (six_volume_is M s))) where
        each : (k : ℕ) → lists (faces_of M s) k ≡ true → (k ≤ c.face) × (k ≢ f → outer M k ≢ l)
        each k i = let p = face_within M c b s k i in (p.0, other_outer k p.1)

  -- another solid than that of the face
  pub others_kept : (u : ℕ) → u ≢ s → solid_of M f ≡ s → six_volume after u ≡ six_volume M u
  others_kept u ne of = six_volume_is after u ∙ ap (volume_in after) faces_same ∙ faces_kept s d b r (faces_of M u) each ∙ sym (six_volume_is M u) where
    faces_same : faces_of after u ≡ faces_of M u
    faces_same = ap (table.all_where (λ _ row. nat_eq row.solid u)) (faces_grown M c s d hs (length hs))
        ∙ filled_none M.faces c.face (side_face M c s d hs) (faces_within b) (λ _ row. nat_eq row.solid u) (length hs) (λ i. ne_eqb s u (λ e. ne (sym e)))

    each : (k : ℕ) → lists (faces_of M u) k ≡ true → (k ≤ c.face) × (outer M k ≢ l)
    each k i = let p = face_within M c b u k i in (p.0, other_outer k p.1 (λ e. ne (sym p.2 ∙ ap (solid_of M) e ∙ of)))

-- ---- the rows of a lamina, its two faces and their loops; and what was there before: other solids keep their six volumes

-- ---- the tables of a lamina

pub path_new : (t : Table EdgeRow) (e v j i : ℕ) → i < j → table.get (with_path t e v j) (e + suc i) ≡ Some (record { plus_tail = v + suc i; minus_tail = v + suc i + 1 })
path_new t e v zero i l = absurd (omega arith)
path_new t e v (suc j) i l = grind (arith, eqb_tells i j, get-put_here, get-put_other, path_new t e v j i)

pub points_new : (t : Table Point) (v : ℕ) (ps : List Point) (j i : ℕ) → i < j → table.get (with_points t v ps j) (v + suc i) ≡ Some (get_or ps i no_point)
points_new t v ps zero i l = absurd (omega (arith, l))
points_new t v ps (suc j) i l = grind (arith, eqb_tells i j, get-put_here, get-put_other, points_new t v ps j i)

pub no_lone : (b : Bool) (f g : ℕ) → f ≢ g → (b && (nat_eq f g || false)) ≡ false
no_lone true f g ne = grind (arith, nat_tests)
no_lone false f g ne = refl

-- and what was there before

path_old : (t : Table EdgeRow) (e v j q : ℕ) → q ≤ e → table.get (with_path t e v j) q ≡ table.get t q
path_old t e v zero q l = refl
path_old t e v (suc j) q l = get-put_other (with_path t e v j) (e + suc j) (record { plus_tail = v + suc j; minus_tail = v + suc j + 1 }) q (omega (arith, l)) ∙ path_old t e v j q l

ring_old : (t : Table EdgeRow) (e v n q : ℕ) → 0 < n → q ≤ e → table.get (with_ring t e v n) q ≡ table.get t q
ring_old t e v n q some l = get-put_other (with_path t e v (n - 1)) (e + n) (record { plus_tail = v + n; minus_tail = v + 1 }) q (omega (arith, l, some)) ∙ path_old t e v (n - 1) q l

points_old : (t : Table Point) (v : ℕ) (ps : List Point) (j w : ℕ) → w ≤ v → table.get (with_points t v ps j) w ≡ table.get t w
points_old t v ps zero w l = refl
points_old t v ps (suc j) w l = get-put_other (with_points t v ps j) (v + suc j) (get_or ps j no_point) w (omega (arith, l)) ∙ points_old t v ps j w l

module _ (M : Model) (c : Taken) (s : ℕ) (ps : List Point) where
  abbrev pub drawn : Model
  drawn = lamina_at M c s ps

  abbrev pub first_face : FaceRow
  first_face = record { solid = s; outer = c.loop + 1 }

  abbrev pub second_face : FaceRow
  second_face = record { solid = s; outer = c.loop + 2 }

  abbrev pub first_loop : LoopRow
  first_loop = record { face = c.face + 1; content = cycle (map plus (numbers_after c.edge (length ps))) }

  abbrev pub second_loop : LoopRow
  second_loop = record { face = c.face + 2; content = cycle (canonical (reverse (map minus (numbers_after c.edge (length ps))))) }

  pub face_one : table.get drawn.faces (c.face + 1) ≡ Some first_face
  face_one = get-put_other (table.put M.faces (c.face + 1) first_face) (c.face + 2) second_face (c.face + 1) (omega arith) ∙ get-put_here M.faces (c.face + 1) first_face

  pub face_two : table.get drawn.faces (c.face + 2) ≡ Some second_face
  face_two = get-put_here (table.put M.faces (c.face + 1) first_face) (c.face + 2) second_face

  pub loop_one : table.get drawn.loops (c.loop + 1) ≡ Some first_loop
  loop_one = get-put_other (table.put M.loops (c.loop + 1) first_loop) (c.loop + 2) second_loop (c.loop + 1) (omega arith) ∙ get-put_here M.loops (c.loop + 1) first_loop

  pub loop_two : table.get drawn.loops (c.loop + 2) ≡ Some second_loop
  loop_two = get-put_here (table.put M.loops (c.loop + 1) first_loop) (c.loop + 2) second_loop

  pub solid_one : solid_of drawn (c.face + 1) ≡ s
  solid_one = solid_row drawn (c.face + 1) first_face face_one

  pub there_one : Has drawn.faces (c.face + 1)
  there_one = ap is_some face_one

  -- the edges, of which the last leads back to the first point, and the points
  pub edge_at : (i : ℕ) → suc i < length ps → table.get drawn.edges (c.edge + suc i) ≡ Some (record { plus_tail = c.vertex + suc i; minus_tail = c.vertex + suc i + 1 })
  edge_at i l = grind (arith, get-put_other, path_new)

  pub last_edge_at : table.get drawn.edges (c.edge + length ps) ≡ Some (record { plus_tail = c.vertex + length ps; minus_tail = c.vertex + 1 })
  last_edge_at = get-put_here (with_path M.edges c.edge c.vertex (length ps - 1)) (c.edge + length ps) (record { plus_tail = c.vertex + length ps; minus_tail = c.vertex + 1 })

  pub point_at : (i : ℕ) → i < length ps → point_of drawn (c.vertex + suc i) ≡ get_or ps i no_point
  point_at i l = point_row drawn (c.vertex + suc i) (get_or ps i no_point) (points_new M.vertices c.vertex ps (length ps) i l)

  -- where the edges start
  pub tail_at : (i : ℕ) → i < length ps → tail drawn (plus (c.edge + suc i)) ≡ c.vertex + suc i
  tail_at i l = elim (eqb_tells (suc i) (length ps)) [
    | inl p ↦ subst (λ n. tail drawn (plus (c.edge + n)) ≡ c.vertex + n) (sym p.1) (plus_tail_row drawn (c.edge + length ps) _ last_edge_at)
    | inr p ↦ plus_tail_row drawn (c.edge + suc i) _ (edge_at i (less_still (suc i) (length ps) (omega (arith, l)) p.1))
  ]

  tails_are : (k : ℕ) → k ≤ length ps → map (tail drawn) (out c.edge k) ≡ numbers_after c.vertex k
  tails_are zero m = refl
  tails_are (suc k) m = map-append (tail drawn) (out c.edge k) (plus (c.edge + suc k) ∷ [])
      ∙ (λ i. tails_are k (omega (arith, m)) i ++ tail_at k (omega (arith, m)) i ∷ []) ∙ sym (numbers_last c.vertex k)

  module _ (has_free : HasFree M c) where
    -- a loop is one of the two new ones, or was there
    loop_cases : (q : ℕ) (y : LoopRow) → table.get drawn.loops q ≡ Some y → ((q ≡ c.loop + 2) × (y ≡ second_loop)) ⊎ (((q ≡ c.loop + 1) × (y ≡ first_loop)) ⊎ (y.face ≤ c.face))
    loop_cases q y at = elim (get-put_cases (table.put M.loops (c.loop + 1) first_loop) (c.loop + 2) second_loop q y at) [
      | inl p ↦ inl p
      | inr p ↦ elim (get-put_cases M.loops (c.loop + 1) first_loop q y p.1) [
        | inl r ↦ inr (inl r)
        | inr r ↦ inr (inr (subst (λ f. f ≤ c.face) (face_row M q y r.1) (loop_face_within has_free q)))
      ]
    ]

    pub rings_one : rings_of drawn (c.face + 1) ≡ []
    rings_one = no_rings drawn (c.face + 1) (λ q y at e. grind (arith, e, loop_cases q y at, outer_row drawn (c.face + 1) first_face face_one))

    -- the corners of the first face are at the new vertices, in order
    pub corners_one : corners drawn (c.face + 1) ≡ numbers_after c.vertex (length ps)
    unfolding corners loops_of
    corners_one = (λ i. vertices_in drawn (outer_row drawn (c.face + 1) first_face face_one i ∷ rings_one i))
        ∙ ap (λ x. vertices_on drawn x ++ []) (content_row drawn (c.loop + 1) first_loop loop_one ∙ ap cycle (plus_halves c.edge (length ps)))
        ∙ append-nil (map (tail drawn) (out c.edge (length ps))) ∙ tails_are (length ps) (omega arith)

    pub rings_two : rings_of drawn (c.face + 2) ≡ []
    rings_two = no_rings drawn (c.face + 2) (λ q y at e. grind (arith, e, loop_cases q y at, outer_row drawn (c.face + 2) second_face face_two))

    -- no loop of the first face is lone
    pub none_lone : least_lone drawn ((c.face + 1) ∷ []) ≡ None
    none_lone = grind (arith, first_where_zero, loop_cases, no_lone)

    -- a search of the faces, and of the loops
    pub faces_found : (p : ℕ → FaceRow → Bool) → table.all_where p drawn.faces ≡ (table.all_where p M.faces ++ cond (p (c.face + 1) first_face) ((c.face + 1) ∷ []) []) ++ cond (p (c.face + 2) second_face) ((c.face + 2) ∷ []) []
    faces_found p = grind (arith, all_where-put_last, greatest-put_last, faces_within has_free)

    pub loops_found : (p : ℕ → LoopRow → Bool) → table.all_where p drawn.loops ≡ (table.all_where p M.loops ++ cond (p (c.loop + 1) first_loop) ((c.loop + 1) ∷ []) []) ++ cond (p (c.loop + 2) second_loop) ((c.loop + 2) ∷ []) []
    loops_found p = grind (arith, all_where-put_last, greatest-put_last, loops_within has_free)

    -- the faces of a solid that was not there
    pub faces_are : faces_of M s ≡ [] → faces_of drawn s ≡ (c.face + 1) ∷ (c.face + 2) ∷ []
    faces_are none = grind (arith, faces_found, nat_eq_itself)

  -- ---- other solids keep their six volumes

  module _ (some : 0 < length ps) where
    keeps_drawn : Keeps M drawn c.edge c.vertex
    keeps_drawn = grind (arith, same_tail, ring_old, same_point, points_old)

    face_old : (k : ℕ) → k ≤ c.face → table.get drawn.faces k ≡ table.get M.faces k
    face_old k l = get-put_other (table.put M.faces (c.face + 1) first_face) (c.face + 2) second_face k (omega (arith, l)) ∙ get-put_other M.faces (c.face + 1) first_face k (omega (arith, l))

    loop_old : (q : ℕ) → q ≤ c.loop → table.get drawn.loops q ≡ table.get M.loops q
    loop_old q l = get-put_other (table.put M.loops (c.loop + 1) first_loop) (c.loop + 2) second_loop q (omega (arith, l)) ∙ get-put_other M.loops (c.loop + 1) first_loop q (omega (arith, l))

    outer_old : (k : ℕ) → k ≤ c.face → outer drawn k ≡ outer M k
    outer_old k l = same_outer M drawn k (face_old k l)

    module _ (b : HasFree M c) where
      -- where neither new row passes
      none_found : (xs : List ℕ) (m n : ℕ) (p q : Bool) → p ≡ false → q ≡ false → (xs ++ cond p (m ∷ []) []) ++ cond q (n ∷ []) [] ≡ xs
      none_found xs m n p q e f = (λ i. (xs ++ cond (e i) (m ∷ []) []) ++ cond (f i) (n ∷ []) []) ∙ append-nil (xs ++ []) ∙ append-nil xs

      rings_old : (k : ℕ) → k ≤ c.face → rings_of drawn k ≡ rings_of M k
      rings_old k l = ap (λ o. table.all_where (λ q row. nat_eq row.face k && not (nat_eq o q)) drawn.loops) (outer_old k l)
          ∙ loops_found b (λ q row. nat_eq row.face k && not (nat_eq (outer M k) q))
          ∙ none_found (rings_of M k) (c.loop + 1) (c.loop + 2) _ _ (new_passes (c.face + 1) k (omega (arith, l)) _) (new_passes (c.face + 2) k (omega (arith, l)) _) where
            new_passes : (g k : ℕ) → k < g → (t : Bool) → (nat_eq g k && t) ≡ false
            new_passes g k less t = ap (λ b. b && t) (ne_eqb g k (λ e. absurd (omega (arith, less, e))))

      loop_kept : (q : ℕ) → q ≤ c.loop → area drawn (items_of (content drawn q)) ≡ area M (items_of (content M q))
      loop_kept q l = ap (λ x. area drawn (items_of x)) (same_content M drawn q (loop_old q l))
          ∙ area_kept M drawn (items_of (content M q)) (λ h i. (start_kept keeps_drawn (tail_within b) h (item_within b h q i), finish_kept keeps_drawn (tail_within b) h (item_within b h q i)))

      normal_kept : (k : ℕ) → k ≤ c.face → normal drawn k ≡ normal M k
      normal_kept k l = normal_is drawn k ∙ (λ t. area drawn (items_in drawn (outer_old k l t ∷ rings_old k l t)))
          ∙ areas_kept M drawn (outer M k ∷ rings_of M k) (λ q i. loop_kept q (face_loop_within M c b k q i)) ∙ sym (normal_is M k)

      anchor_kept : (k : ℕ) → k ≤ c.face → anchor drawn k ≡ anchor M k
      anchor_kept k l = ap (λ q. point_of drawn (first_vertex drawn (content drawn q))) (outer_old k l)
          ∙ ap (λ x. point_of drawn (first_vertex drawn x)) (same_content M drawn (outer M k) (loop_old (outer M k) (outer_within b k)))
          ∙ first_kept M drawn c.edge c.vertex keeps_drawn (tail_within b) (content M (outer M k)) (λ h i. item_within b h (outer M k) i) (λ w e. lone_within b (outer M k) w e)

      -- every other solid keeps its six volumes
      pub lamina_keeps : (u : ℕ) → u ≢ s → six_volume drawn u ≡ six_volume M u
      lamina_keeps u ne = six_volume_is drawn u
          ∙ ap (volume_in drawn) (faces_found b (λ _ row. nat_eq row.solid u) ∙ none_found (faces_of M u) (c.face + 1) (c.face + 2) _ _ (ne_eqb s u (λ e. ne (sym e))) (ne_eqb s u (λ e. ne (sym e))))
          ∙ same_volumes M drawn (faces_of M u) (λ k i. let p = face_within M c b u k i in λ t. dot (anchor_kept k p.0 t) (normal_kept k p.0 t))
          ∙ sym (six_volume_is M u)
