-- The area round each cycle of the section of a strictly convex solid points along the plane; so the section has no holes.
use Rattle.convex_laws.proofs.Prelude.{◌≡◌, ℕ, ℤ, pos, ◌+ℤ◌, ◌*ℤ◌, neg_ℤ, unsigned_abs, int_lt, Bool, true, false, cond, List, [], ◌∷◌, refl, sym, ap, subst, ◌∙◌, arith, true≢false, inl, inr, ints, Plane, Point, IsIn, direction, dot, height, is_on, mate, Model, face_at, faces_of, point_of, solid_of, tail, Sound, Has, HasHalf, lists, IsIn-filter, IsIn_head, dot_turned, filter_passes, mate-mate, mate_there, IsIn-from_listed, half_face, listed-from_in, area, corners, face_is_above, finish, holes_in, is_hole, plane_of, start, towards, with_drawings, area_mates, CanBegin, in_solid, AreSectionCycles, IsBelowHalf, IsSectionCycle, area_below, half_comes, IsStrictlyConvex, IsVertexOf, dot_back, starts_in, ends_in, stages}
use Rattle.convex_laws.proofs.Drawn as drawn
use Rattle.convex_laws.proofs.Drawn.{beyond_of, IsInside}
use Rattle.convex_laws.proofs.Levels.{IsLow, low_times, twice_back}
use Rattle.convex_laws.proofs.Pieces.{balanced, first_down, not_less, one_weight, some_weight, turned_low}
use Rattle.convex_laws.proofs.Planes.{IsBent, above_facing, below_facing, level_step, on_facing, step_from, turned_over}
use Rattle.convex_laws.proofs.Rounds.{path_looks, weighed_low}
use Rattle.convex_laws.proofs.Section as section
use Rattle.split_laws.proofs.measures.Splittable.{level as between}
use Rattle.split_laws.proofs.opened.Caps.{closed_round}
use Rattle.convex_laws.proofs.Turns.{Edge, IsHigh, either_sign, leads_on, never_back, not_under, nothing, swept_over, turn_over, weighed, dot_negated}
use Rattle.convex_laws.proofs.Volumes.{depth, height_is, under}

exchanged_sum : (x y : ℤ) → x +ℤ y ≡ y +ℤ x
exchanged_sum x y = omega (arith, ints)

pub high_weight : (x : ℤ) → IsHigh x → IsHigh (pos (unsigned_abs x))
high_weight x e = grind (arith, ints)

module _ (M : Model) (s : ℕ) (p : Plane) (t : ℕ) (sound : Sound M) (begun : CanBegin M s p t) (unstuck : (with_drawings M s p).stuck ≡ 0) (convex : IsStrictlyConvex M s) where
  open stages M s p t use {cut as C, drawn as D, above}

  D_sound : Sound D
  D_sound = drawn.D_sound M s p t sound begun unstuck convex

  abbrev over : Plane
  over = turned_over p

  -- ---- a half-edge of the section

  pub not_above : (k : ℕ) → Has D.faces k → solid_of D k ≡ s → lists above k ≡ false → face_is_above D p k ≡ false
  not_above k has of off = by_test (face_is_above D p k) refl where
    by_test : (b : Bool) → face_is_above D p k ≡ b → b ≡ false
    by_test false e = refl
    by_test true e = absurd (true≢false (sym (listed-from_in k above (IsIn-filter (face_is_above D p) k (faces_of D s) (in_solid D k s has of) e)) ∙ off))

  pub is_then_above : (k : ℕ) → lists above k ≡ true → face_is_above D p k ≡ true
  is_then_above k l = filter_passes (face_is_above D p) k (faces_of D s) (IsIn-from_listed k above l)

  module _ (b : ℕ) (w : IsBelowHalf D above s b) where
    back_there : HasHalf D (mate b)
    back_there = mate_there D b w.there

    back_of : solid_of D (face_at D (mate b)) ≡ s
    back_of = drawn.mate_of M s p t sound begun unstuck convex b w.there w.of_solid

    pub below_side : face_is_above D p (face_at D b) ≡ false
    below_side = not_above (face_at D b) (half_face D D_sound b w.there) w.of_solid w.below

    pub above_side : face_is_above D p (face_at D (mate b)) ≡ true
    above_side = is_then_above (face_at D (mate b)) w.mate_above

    on_both_faces : (v : ℕ) → IsIn v (corners D (face_at D b)) → IsIn v (corners D (face_at D (mate b))) → is_on p (point_of D v) ≡ true
    on_both_faces v i j = between (height p (point_of D v))
        (drawn.corner_low M s p t sound begun unstuck convex false (face_at D b) (half_face D D_sound b w.there) w.of_solid below_side v i)
        (sym (above_facing true p (point_of D v)) ∙ drawn.corner_low M s p t sound begun unstuck convex true (face_at D (mate b)) (half_face D D_sound (mate b) back_there) back_of above_side v j)

    pub starts_on : is_on p (start D b) ≡ true
    starts_on = on_both_faces (tail D b) (starts_in D D_sound b w.there) (subst (λ x. IsIn (tail D x) (corners D (face_at D (mate b)))) (mate-mate b) (ends_in D D_sound (mate b) back_there))

    pub ends_on : is_on p (finish D b) ≡ true
    ends_on = on_both_faces (tail D (mate b)) (ends_in D D_sound b w.there) (starts_in D D_sound (mate b) back_there)

    pub edge : section.IsSectionEdge M s p t sound begun unstuck convex false b w.there w.of_solid below_side starts_on ends_on
    edge = section.section_edge M s p t sound begun unstuck convex false b w.there w.of_solid below_side starts_on ends_on

    old_of : solid_of D (face_at D edge.old) ≡ s
    old_of = ap (solid_of D) edge.now ∙ w.of_solid

    face_facts : Has M.faces (face_at C edge.old) × (solid_of M (face_at C edge.old) ≡ s)
    face_facts = drawn.came_face M s p t sound begun unstuck convex edge.old edge.was old_of

    -- a vertex of the solid under the face
    record IsDeep : Type 0 where
      vertex : ℕ
      corner : IsVertexOf M s vertex
      down : IsHigh (neg_ℤ (height (plane_of M (face_at C edge.old)) (point_of M vertex)))

    deep : IsDeep
    deep =
        let comes = half_comes M s p t sound begun edge.old edge.was in
        let g = comes.half in
        let g_of = drawn.came_of M s p t sound begun unstuck convex edge.old edge.was old_of in
        let back = beyond_of M s sound convex g comes.there g_of in
        let u = under M s sound convex (mate g) (mate_there M g comes.there) back in
        record {
          vertex = u.vertex;
          corner = record { face = face_at M (mate g); there = half_face M sound (mate g) (mate_there M g comes.there); solid = back; corner = u.corner };
          down = ap (λ k. int_lt (pos 0) (neg_ℤ (height (plane_of M k) (point_of M u.vertex)))) (comes.face ∙ ap (face_at M) (sym (mate-mate g)))
              ∙ deeper (height (plane_of M (face_at M (mate (mate g)))) (point_of M u.vertex)) (depth M (point_of M u.vertex) (face_at M (mate (mate g)))) (height_is M (point_of M u.vertex) (face_at M (mate (mate g)))) u.depth;
        } where
          deeper : (h d : ℤ) → h ≡ neg_ℤ d → int_lt (pos 0) d ≡ true → IsHigh (neg_ℤ h)
          deeper h d e high = ap (λ x. int_lt (pos 0) (neg_ℤ x)) e ∙ ap (int_lt (pos 0)) (twice_back d) ∙ high

  -- ---- the section, seen from a point on the plane between u and w

  module _ (u w : Point) (a c : ℕ) (u_in : IsInside M s u) (w_in : IsInside M s w) (level : weighed a c (height (turned_over p) u) (height (turned_over p) w) ≡ pos 0) where
    module _ (b : ℕ) (h : IsBelowHalf D above s b) where
      abbrev n : Plane
      n = plane_of M (face_at C (edge b h).old)

      bent : IsBent n p D b
      bent = (edge b h).bends_here

      seen_edge : Edge (direction over) (direction n) u w (start D b) (finish D b) a c
      seen_edge = record {
        level = level_step over (start D b) (finish D b) (on_facing true p (start D b) bent.start_beyond) (on_facing true p (finish D b) bent.finish_beyond);
        beside = level_step n (start D b) (finish D b) bent.start_here bent.finish_here;
        bends = ap (int_lt (pos 0)) (turn_over (direction p) (towards (start D b) (finish D b)) (direction n)) ∙ bent.bends;
        on = (λ i. weighed a c (step_from over (start D b) u (on_facing true p (start D b) bent.start_beyond) i) (step_from over (start D b) w (on_facing true p (start D b) bent.start_beyond) i)) ∙ level;
      }

      heights : weighed a c (dot (direction n) (towards (start D b) u)) (dot (direction n) (towards (start D b) w)) ≡ weighed a c (height n u) (height n w)
      heights = λ i. weighed a c (step_from n (start D b) u bent.start_here i) (step_from n (start D b) w bent.start_here i)

      never_back_here : int_lt (swept_over (direction over) u w (start D b) (finish D b) a c) (pos 0) ≡ false
      never_back_here = let f = face_facts b h in never_back (direction over) (direction n) u w (start D b) (finish D b) a c seen_edge
          (ap (int_lt (pos 0)) heights ∙ weighed_low a c (height n u) (height n w) (u_in (face_at C (edge b h).old) f.0 f.1) (w_in (face_at C (edge b h).old) f.0 f.1))

      leads_on_here : IsHigh (neg_ℤ (weighed a c (height n u) (height n w))) → IsHigh (swept_over (direction over) u w (start D b) (finish D b) a c)
      leads_on_here high = leads_on (direction over) (direction n) u w (start D b) (finish D b) a c seen_edge (ap (λ x. int_lt (pos 0) (neg_ℤ x)) heights ∙ high)

    cycle_from : (bs : List ℕ) → IsSectionCycle D above s bs → (b : ℕ) (i : IsIn b bs) → (h : IsBelowHalf D above s b) → IsHigh (neg_ℤ (weighed a c (height (plane_of M (face_at C (edge b h).old)) u) (height (plane_of M (face_at C (edge b h).old)) w))) →
        IsHigh (dot (direction over) (area D bs))
    cycle_from bs cycle b i h high = path_looks D (direction over) u w a c bs (closed_round D bs cycle.meet) (λ x j. never_back_here x (cycle.halves x j)) b i (leads_on_here b h high)

  -- ---- a cycle

  module _ (bs : List ℕ) (cycle : IsSectionCycle D above s bs) (b : ℕ) (i : IsIn b bs) where
    h : IsBelowHalf D above s b
    h = cycle.halves b i

    abbrev face_plane : Plane
    face_plane = plane_of M (face_at C (edge b h).old)

    abbrev v : Point
    v = point_of M (deep b h).vertex

    v_in : IsInside M s v
    v_in = drawn.vertex_inside M s p t sound begun unstuck convex (deep b h).vertex (deep b h).corner

    under_it : (q : Point) → IsInside M s q → IsLow (height face_plane q)
    under_it q inside = let f = face_facts b h in inside (face_at C (edge b h).old) f.0 f.1

    alone : height over v ≡ pos 0 → IsHigh (dot (direction over) (area D bs))
    alone e = cycle_from v v 1 0 v_in v_in (one_weight (height over v) (height over v) ∙ e) bs cycle b i h (ap (λ x. int_lt (pos 0) (neg_ℤ x)) (one_weight (height face_plane v) (height face_plane v)) ∙ (deep b h).down)

    -- with a vertex on the other side
    with_other : (o : ℕ) → IsVertexOf M s o → IsHigh (pos (unsigned_abs (height over (point_of M o)))) → weighed (unsigned_abs (height over (point_of M o))) (unsigned_abs (height over v)) (height over v) (height over (point_of M o)) ≡ pos 0 →
        IsHigh (dot (direction over) (area D bs))
    with_other o corner some level =
        let r = point_of M o in
        let r_in : IsInside M s r = drawn.vertex_inside M s p t sound begun unstuck convex o corner in
        cycle_from v r (unsigned_abs (height over r)) (unsigned_abs (height over v)) v_in r_in level bs cycle b i h
        (first_down (pos (unsigned_abs (height over r))) (pos (unsigned_abs (height over v))) (height face_plane v) (height face_plane r) some (not_less (unsigned_abs (height over v))) (deep b h).down
        (low_times (unsigned_abs (height over v)) (height face_plane r) (under_it r r_in)))

    turned_round : IsHigh (dot (direction over) (area D bs))
    turned_round = elim (either_sign (height over v)) [
      | inr high ↦
          let o = section.reaches M s p t sound begun unstuck convex false in
          let down : IsHigh (neg_ℤ (height over (point_of M o.vertex))) = turned_low (height over (point_of M o.vertex)) (below_facing true p (point_of M o.vertex) ∙ o.above) in
          with_other o.vertex o.corner (some_weight (height over (point_of M o.vertex)) down) (balanced (height over v) (height over (point_of M o.vertex)) high down)
      | inl low ↦ elim (either_sign (neg_ℤ (height over v))) [
        | inl none ↦ alone (nothing (height over v) low none)
        | inr down ↦
            let o = section.reaches M s p t sound begun unstuck convex true in
            let ho = height over (point_of M o.vertex) in
            with_other o.vertex o.corner (high_weight ho o.above) (exchanged_sum (pos (unsigned_abs ho) *ℤ height over v) (pos (unsigned_abs (height over v)) *ℤ ho) ∙ balanced ho (height over v) o.above down)
      ]
    ]

    -- the area round the cycle, in the sense of its cap below, points along the plane's direction
    pub cycle_looks : IsHigh (dot (direction p) (area_below D bs))
    cycle_looks = let a = area D bs in ap (λ x. int_lt (pos 0) (dot (direction p) x)) (area_mates D bs) ∙ ap (int_lt (pos 0)) (sym (dot_negated (direction p) a ∙ sym (dot_back (direction p) a))) ∙ turned_round

  first_half : (bs : List ℕ) → IsSectionCycle D above s bs → (b : ℕ) × IsIn b bs
  first_half [] cycle = absurd (omega (arith, cycle.two_halves))
  first_half (b ∷ bs) cycle = (b, IsIn_head b bs)

  pub cycle_high : (bs : List ℕ) → IsSectionCycle D above s bs → IsHigh (dot (direction p) (area_below D bs))
  cycle_high bs cycle = let b = first_half bs cycle in cycle_looks bs cycle b.0 b.1

  no_hole : (bs : List ℕ) → IsSectionCycle D above s bs → is_hole D p bs ≡ false
  unfolding is_hole
  no_hole bs cycle = not_under (dot (area_below D bs) (direction p)) (ap (int_lt (pos 0)) (dot_turned (area_below D bs) (direction p)) ∙ cycle_high bs cycle)

  pub none_of : (cs : List (List ℕ)) → AreSectionCycles D above s cs → holes_in D p cs ≡ []
  none_of [] each = refl
  none_of (bs ∷ cs) each = ap (λ b. cond b (bs ∷ holes_in D p cs) (holes_in D p cs)) (no_hole bs each.0) ∙ none_of cs each.1
