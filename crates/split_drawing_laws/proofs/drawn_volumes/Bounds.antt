-- Faces by their half-edges: which half-edges bound a face, and when all corners of a face lie on a plane.
use Rattle.split_drawing_laws.proofs.Prelude.{◌≡◌, ◌≢◌, ℕ, true, ◌&&◌, List, [], ◌∷◌, is_some, unwrap_or, refl, sym, ap, ◌∙◌, subst, arith, inl, inr, ◌⊎◌, ◌+◌, ◌++◌, true≢false, and_parts, eqb_tells, Plane, moved, cross, is_on, count, IsIn, SameItems, tick, mate, plus, minus, Model, LoopContent, lone, cycle, items_of, tail, content, outer, point_of, loop_of, face_of, no_face, solid_of, cycle_of, Sound, Has, HasHalf, face_at, Point, rotate_to, tick_same, tick_other, count-append, cycle_there, loop_there, lone_there, item_there, item_loop, never_lone, mate_there, content_row, face_row, same_content, same_face, same_outer, all_mapped, IsIn_head, count-canonical, mate_plus, plus_other, row_elsewhere, moved_twice, none_moved, listed-from_in, count-mef_old, count-mef_new, half_face, start, finish, loops_of, boundary, vertices_on, corners, area, anchor, first_vertex, normal, are_on, face_of_loop, AreHalves, different_items, loops_of_apart, area-append, area_kept, area_same, halves_cancel, Stays, none_in}
use Rattle.euler_operators.specs.Table as table
use Rattle.split_drawing_laws.proofs.crossings.Premises.{loop_in_face, item_in_face}
use Rattle.split_drawing_laws.proofs.crossings.Whole.{item_face}
use Rattle.split_drawing_laws.proofs.cut_volumes.Told.{loop_on, loops_on, item_on}
use Rattle.split_drawing_laws.proofs.drawings.Drawn.{CanDraw, draw_sound, face_drawn_new, face_drawn_else, CanJoin, join_sound, loops_joined_faces, face_drawn, loops_joined}
use Rattle.split_drawing_laws.proofs.drawings.Stays.{new_halves, point_stays, start_stays, stands_at, row_old, row_new, row_else, edges_are, draw_stays, draw_tails, draw_beside, draw_within, row_joined, row_other, row_gone, joined_edges, join_stays, join_tails, join_faces, draw_has}
use Rattle.split_drawing_laws.proofs.loop_sides.Parting.{none_new, halves_drawn, halves_joined}

-- the half-edges and the lone vertices of face f lie on the plane
pub record OnFace (N : Model) (t : Plane) (f : ℕ) : Type 0 where
  pub halves : (h : ℕ) → HasHalf N h → face_at N h ≡ f → is_on t (start N h) ≡ true
  pub lones : (q v : ℕ) → face_of N q ≡ f → content N q ≡ lone v → is_on t (point_of N v) ≡ true

module _ (N : Model) (sound : Sound N) where
  -- the loops of a face are of it
  pub loop_facts : (f : ℕ) → Has N.faces f → (q : ℕ) → IsIn q (loops_of N f) → Has N.loops q × (face_of N q ≡ f)
  loop_facts f there q i = face_of_loop N sound f q there (listed-from_in q (loops_of N f) i)

  -- ---- half-edges

  pub bound_halves : (f : ℕ) → AreHalves N (boundary N f)
  unfolding boundary
  bound_halves f = different_items N sound (loops_of N f) (loops_of_apart N sound f)

  -- a half-edge of a face bounds it once
  pub bound_one : (f h : ℕ) → HasHalf N h → face_at N h ≡ f → count h (boundary N f) ≡ 1
  bound_one f h there at =
      let i : IsIn h (boundary N f) = subst (λ x. IsIn h (boundary N x)) at (item_in_face N h (loop_of N h) (loop_there N sound h there) (cycle_there N sound h there)) in
      omega (arith, i, (bound_halves f).apart h)

  -- and no other does
  pub bound_none : (f h : ℕ) → Has N.faces f → (HasHalf N h → face_at N h ≢ f) → count h (boundary N f) ≡ 0
  bound_none f h there never = none_in h (boundary N f) (λ i. never ((bound_halves f).there h i) (item_face N sound f there h i))

  -- ---- corners

  pub on_face : (t : Plane) (f : ℕ) → are_on N t (corners N f) ≡ true → OnFace N t f
  unfolding corners
  on_face t f on = record {
    halves = λ h there at. item_on N t (content N (loop_of N h)) h
        (loop_on N t (loops_of N f) (loop_of N h) on (subst (λ x. IsIn (loop_of N h) (loops_of N x)) at (loop_in_face N (loop_of N h) (loop_there N sound h there)))) (cycle_there N sound h there);
    lones = λ q v at is.
        let on_q : are_on N t (vertices_on N (content N q)) ≡ true = loop_on N t (loops_of N f) q on (subst (λ x. IsIn q (loops_of N x)) at (loop_in_face N q (lone_there N q v is))) in
        (and_parts (is_on t (point_of N v)) true (subst (λ c. are_on N t (vertices_on N c) ≡ true) is on_q)).0;
  }

  pub face_on : (t : Plane) (f : ℕ) → Has N.faces f → OnFace N t f → are_on N t (corners N f) ≡ true
  unfolding corners
  face_on t f there w = loops_on N t (loops_of N f) (λ q i. content_on q (loop_facts f there q i).1 (content N q) refl) where
    content_on : (q : ℕ) → face_of N q ≡ f → (c : LoopContent) → content N q ≡ c → are_on N t (vertices_on N c) ≡ true
    content_on q at (lone v) is = ap (λ b. b && true) (w.lones q v at is)
    content_on q at (cycle hs) is = all_mapped (λ v. is_on t (point_of N v)) (tail N) hs (λ h i.
        let j : IsIn h (items_of (content N q)) = subst (λ c. IsIn h (items_of c)) (sym is) i in
        w.halves h (item_there N sound q h j) (ap (face_of N) (item_loop N sound q h j) ∙ at))

-- ---- half-edges that stay

module _ (N K : Model) (sound : Sound N) (stays : Stays N K) where
  finish_still : (h : ℕ) → HasHalf N h → finish K h ≡ finish N h
  finish_still h there = start_stays N K stays (mate h) (mate_there N h there)

  -- a face keeps its anchor with its outer loop
  pub anchor_still : (f : ℕ) → Has N.faces f → outer K f ≡ outer N f → content K (outer N f) ≡ content N (outer N f) → anchor K f ≡ anchor N f
  anchor_still f there o c = ap (λ q. point_of K (first_vertex K (content K q))) o ∙ ap (λ x. point_of K (first_vertex K x)) c ∙ first_still (content N (outer N f)) refl where
    first_still : (x : LoopContent) → content N (outer N f) ≡ x → point_of K (first_vertex K x) ≡ point_of N (first_vertex N x)
    first_still (lone v) is = point_stays N K stays v
    first_still (cycle []) is = absurd ((sound.cycles (outer N f) [] (sound.outers_there f there).0 is).some_item refl)
    first_still (cycle (h ∷ hs)) is = start_stays N K stays h (item_there N sound (outer N f) h (subst (λ x. IsIn h (items_of x)) (sym is) (IsIn_head h hs)))

-- ---- a model with one edge more: its half-edges, and faces that keep theirs

pub half_there : (N : Model) (h : ℕ) → HasHalf N h ⊎ (HasHalf N h → ⊥)
half_there N h = grind arith

pub normal_is : (N : Model) (f : ℕ) → normal N f ≡ area N (boundary N f)
unfolding normal
normal_is N f = refl

-- ---- faces that keep their half-edges

pub area_after : (N K : Model) → Sound N → Stays N K → (f : ℕ) → area K (boundary N f) ≡ normal N f
area_after N K sound stays f =
    let has = (bound_halves N sound f).there in
    area_kept N K (boundary N f) (λ h i. (start_stays N K stays h (has h i), finish_still N K sound stays h (has h i))) ∙ sym (normal_is N f)

module _ (N K : Model) (sound : Sound N) (new : Sound K) (stays : Stays N K) (f : ℕ) (there : Has N.faces f) where
  -- a half-edge that keeps its face bounds f as often as it did, and so does what is no half-edge of f
  pub one_count : (h : ℕ) → HasHalf N h → face_at K h ≡ face_at N h → count h (boundary K f) ≡ count h (boundary N f)
  one_count h was s = elim (eqb_tells (face_at N h) f) [
    | inl at ↦ bound_one K new f h (stays.halves h was) (s ∙ at.1) ∙ sym (bound_one N sound f h was at.1)
    | inr at ↦ bound_none K new f h (stays.faces f there) (λ t z. at.1 (sym s ∙ z)) ∙ sym (bound_none N sound f h there (λ t. at.1))
  ]

  pub no_count : (h : ℕ) → (HasHalf N h → ⊥) → (HasHalf K h → face_at K h ≢ f) → count h (boundary K f) ≡ count h (boundary N f)
  no_count h not_was none = bound_none K new f h (stays.faces f there) none ∙ sym (bound_none N sound f h there (λ t s. not_was t))

  -- with its half-edges it keeps its normal
  pub normal_kept : ((h : ℕ) → HasHalf K h → face_at K h ≡ f → HasHalf N h × (face_at N h ≡ f)) → ((h : ℕ) → HasHalf N h → face_at N h ≡ f → face_at K h ≡ f) → normal K f ≡ normal N f
  normal_kept back on = normal_is K f ∙ area_same K (boundary K f) (boundary N f) (λ h. elim (half_there N h) [
    | inl was ↦ elim (eqb_tells (face_at N h) f) [
      | inl at ↦ bound_one K new f h (stays.halves h was) (on h was at.1) ∙ sym (bound_one N sound f h was at.1)
      | inr at ↦ bound_none K new f h (stays.faces f there) (λ t z. at.1 (back h t z).1) ∙ sym (bound_none N sound f h there (λ t. at.1))
    ]
    | inr not_was ↦ no_count h not_was (λ t z. not_was (back h t z).0)
  ]) ∙ area_after N K sound stays f

-- ---- lists

-- n is how often h stands in a list with both halves of e, where each case is known
pub two_halves : (h e n : ℕ) (zs : List ℕ) → (h ≡ plus e → (n ≡ 1) × (count h zs ≡ 0)) → (h ≡ minus e → (n ≡ 1) × (count h zs ≡ 0)) →
    (h ≢ plus e → h ≢ minus e → n ≡ count h zs) → n ≡ count h (plus e ∷ minus e ∷ zs)
two_halves h e n zs first second else = grind (arith, tick_same, tick_other, plus_other)

-- the two halves of an edge have no area
pub no_area : (K : Model) (e : ℕ) (hs : List ℕ) → area K (plus e ∷ minus e ∷ hs) ≡ area K hs
no_area K e hs =
    let first : Point = cross (start K (plus e)) (finish K (plus e)) in
    let second : Point = cross (start K (mate (plus e))) (finish K (mate (plus e))) in
    ap (λ h. moved first (moved (cross (start K h) (finish K h)) (area K hs))) (sym (mate_plus e))
    ∙ sym (moved_twice first second (area K hs)) ∙ ap (λ x. moved x (area K hs)) (halves_cancel K (plus e)) ∙ none_moved (area K hs)

-- ---- an edge drawn, or two loops joined: the faces lie on the planes of the one that was, and their normals sum to its

module _ (N : Model) (u k e g l : ℕ) (can : CanDraw N u k e g l) where
  abbrev K : Model
  K = face_drawn N u k e g l

  abbrev F : ℕ
  F = face_at N u

  pub K_sound : Sound (face_drawn N u k e g l)
  K_sound = draw_sound N u k e g l can

  stays : Stays N K
  stays = draw_stays N u k e g l can

  pub solid_new : solid_of (face_drawn N u k e g l) g ≡ solid_of N (face_at N u)
  unfolding solid_of
  solid_new = ap (λ o. (unwrap_or o no_face).solid) (face_drawn_new N u k e g l)

  pub F_there : Has N.faces (face_at N u)
  F_there = half_face N can.sound u can.u_there

  pub not_new : (f : ℕ) → Has N.faces f → f ≢ g
  not_new f there = row_elsewhere N.faces f g there can.face_free

  -- ---- the faces of half-edges then

  pub plus_face : face_at (face_drawn N u k e g l) (plus e) ≡ face_at N u
  plus_face = ap (face_of K) (stands_at K K_sound (plus e) (loop_of N u) _ (content_row K (loop_of N u) _ (row_old N u k e g l can)) (omega (arith, count-mef_old (plus e) (plus e) u k (cycle_of N u), tick_same (plus e))))
      ∙ face_row K (loop_of N u) _ (row_old N u k e g l can)

  pub minus_face : face_at (face_drawn N u k e g l) (minus e) ≡ g
  minus_face = ap (face_of K) (stands_at K K_sound (minus e) l _ (content_row K l _ (row_new N u k e g l can)) (omega (arith, count-mef_new (minus e) (minus e) u k (cycle_of N u), tick_same (minus e))))
      ∙ face_row K l _ (row_new N u k e g l can)

  face_then : (h : ℕ) → HasHalf N h → (face_at K h ≡ face_at N h) ⊎ ((face_at N h ≡ F) × (face_at K h ≡ g))
  face_then h there = grind (arith, draw_within, draw_beside)

  plus_start : start K (plus e) ≡ start N u
  plus_start = ap (point_of K) (draw_tails N u k e g l can).0 ∙ point_stays N K stays (tail N u)

  minus_start : start K (minus e) ≡ start N k
  minus_start = ap (point_of K) (draw_tails N u k e g l can).1 ∙ point_stays N K stays (tail N k)

  cases : (h : ℕ) → HasHalf K h → HasHalf N h ⊎ ((h ≡ plus e) ⊎ (h ≡ minus e))
  cases = halves_drawn N u k e g l can

  -- ---- lone loops stay

  lone_row : (q v : ℕ) → content K q ≡ lone v → table.get K.loops q ≡ table.get N.loops q
  lone_row q v is = row_else N u k e g l can q
      (λ s. never_lone _ v (sym (ap (content K) s ∙ content_row K (loop_of N u) _ (row_old N u k e g l can)) ∙ is))
      (λ s. never_lone _ v (sym (ap (content K) s ∙ content_row K l _ (row_new N u k e g l can)) ∙ is))

  lone_on : (t : Plane) (q v : ℕ) → content K q ≡ lone v → OnFace N t (face_of K q) → is_on t (point_of K v) ≡ true
  lone_on t q v is w =
      let row = lone_row q v is in
      ap (is_on t) (point_stays N K stays v) ∙ w.lones q v (sym (same_face N K q row)) (sym (same_content N K q row) ∙ is)

  -- ---- planes

  -- a half-edge starts where one of N did, of its face or of the one that its face is cut off
  comes : (h : ℕ) → HasHalf K h → (z : ℕ) × HasHalf N z × (start K h ≡ start N z) × ((face_at K h ≡ face_at N z) ⊎ ((face_at N z ≡ F) × (face_at K h ≡ g)))
  comes h now = elim (cases h now) [
    | inl was ↦ (h, was, start_stays N K stays h was, face_then h was)
    | inr new ↦ elim new [
      | inl is ↦ (u, can.u_there, ap (start K) is ∙ plus_start, inl (ap (face_at K) is ∙ plus_face))
      | inr is ↦ (k, can.k_there, ap (start K) is ∙ minus_start, inr (ap (face_of N) (sym can.one_loop), ap (face_at K) is ∙ minus_face))
    ]
  ]

  -- a face of N lies on its planes
  pub old_on : (t : Plane) (f : ℕ) → Has N.faces f → OnFace N t f → OnFace (face_drawn N u k e g l) t f
  old_on t f there w = record {
    halves = λ h now at. let z = comes h now in ap (is_on t) z.2 ∙ elim z.3 [ inl same ↦ w.halves z.0 z.1 (sym same ∙ at) | inr new ↦ absurd (not_new f there (sym at ∙ new.1)) ];
    lones = λ q v at is. lone_on t q v is (subst (OnFace N t) (sym at) w);
  }

  -- and the new one on those of the face that it is cut off
  pub new_on : (t : Plane) → OnFace N t (face_at N u) → OnFace (face_drawn N u k e g l) t g
  new_on t w = record {
    halves = λ h now at. let z = comes h now in ap (is_on t) z.2 ∙ elim z.3 [ inl same ↦ absurd (not_new (face_at N z.0) (half_face N can.sound z.0 z.1) (sym same ∙ at)) | inr new ↦ w.halves z.0 z.1 new.0 ];
    lones = λ q v at is.
        let row = lone_row q v is in
        absurd (not_new (face_of N q) (can.sound.loops_of_faces q (ap is_some (sym row) ∙ lone_there K q v is)) (sym (same_face N K q row) ∙ at));
  }

  -- ---- normals

  pub F_now : Has (face_drawn N u k e g l).faces (face_at N u)
  F_now = stays.faces F F_there

  -- a half-edge that was there bounds one of the two if it bounded F
  old_counts : (h : ℕ) → HasHalf N h → count h (boundary K F) + count h (boundary K g) ≡ count h (boundary N F)
  old_counts h was =
      let now : HasHalf K h = stays.halves h was in
      elim (face_then h was) [
        | inl same ↦
            let none : count h (boundary K g) ≡ 0 = bound_none K K_sound g h (draw_has N u k e g l can) (λ t at. not_new (face_at N h) (half_face N can.sound h was) (sym same ∙ at)) in
            elim (eqb_tells (face_at N h) F) [
              | inl at ↦ omega (arith, none, bound_one K K_sound F h now (same ∙ at.1), bound_one N can.sound F h was at.1)
              | inr at ↦ omega (arith, none, bound_none K K_sound F h F_now (λ t s. at.1 (sym same ∙ s)), bound_none N can.sound F h F_there (λ t. at.1))
            ]
        | inr new ↦ omega (arith, bound_one K K_sound g h now new.1, bound_none K K_sound F h F_now (λ t s. not_new F F_there (sym s ∙ new.1)), bound_one N can.sound F h was new.0)
      ]

  both : SameItems (boundary K F ++ boundary K g) (plus e ∷ minus e ∷ boundary N F)
  both h = count-append h (boundary K F) (boundary K g) ∙ two_halves h e (count h (boundary K F) + count h (boundary K g)) (boundary N F)
      (λ is. let now : HasHalf K h = subst (HasHalf K) (sym is) (new_halves N K e _ _ (edges_are N u k e g l can) can.edge_free).0 in
      (omega (arith, bound_one K K_sound F h now (ap (face_at K) is ∙ plus_face), bound_none K K_sound g h (draw_has N u k e g l can) (λ t s. not_new F F_there (sym plus_face ∙ sym (ap (face_at K) is) ∙ s))), bound_none N can.sound F h F_there (λ t s. (none_new N e h can.edge_free t).0 is)))
      (λ is. let now : HasHalf K h = subst (HasHalf K) (sym is) (new_halves N K e _ _ (edges_are N u k e g l can) can.edge_free).1 in
      (omega (arith, bound_none K K_sound F h F_now (λ t s. not_new F F_there (sym s ∙ ap (face_at K) is ∙ minus_face)), bound_one K K_sound g h now (ap (face_at K) is ∙ minus_face)), bound_none N can.sound F h F_there (λ t s. (none_new N e h can.edge_free t).1 is)))
      (λ a b. elim (half_there N h) [
        | inl was ↦ old_counts h was
        | inr not_was ↦
            let gone : HasHalf K h → ⊥ = λ now. elim (cases h now) [ inl was ↦ not_was was | inr new ↦ elim new [ inl is ↦ a is | inr is ↦ b is ] ] in
            omega (arith, bound_none K K_sound F h F_now (λ t s. gone t), bound_none K K_sound g h (draw_has N u k e g l can) (λ t s. gone t), bound_none N can.sound F h F_there (λ t s. not_was t))
      ])

  pub normals_sum : moved (normal (face_drawn N u k e g l) (face_at N u)) (normal (face_drawn N u k e g l) g) ≡ normal N (face_at N u)
  normals_sum = (λ i. moved (normal_is K F i) (normal_is K g i)) ∙ sym (area-append K (boundary K F) (boundary K g))
      ∙ area_same K (boundary K F ++ boundary K g) (plus e ∷ minus e ∷ boundary N F) both
      ∙ no_area K e (boundary N F)
      ∙ area_after N K can.sound stays F

  -- another face keeps its half-edges
  pub normal_else : (f : ℕ) → Has N.faces f → f ≢ face_at N u → normal (face_drawn N u k e g l) f ≡ normal N f
  normal_else f there ne = grind (arith, normal_kept, K_sound, stays, cases, face_then, not_new, plus_face, minus_face)

  -- and its anchor
  pub anchor_else : (f : ℕ) → Has N.faces f → f ≢ face_at N u → anchor (face_drawn N u k e g l) f ≡ anchor N f
  anchor_else f there ne = let o = can.sound.outers_there f there in
      anchor_still N K can.sound stays f there (same_outer N K f (face_drawn_else N u k e g l f (not_new f there))) (same_content N K (outer N f)
      (row_else N u k e g l can (outer N f) (λ s. ne (sym o.1 ∙ ap (face_of N) s)) (row_elsewhere N.loops (outer N f) l o.0 can.loop_free)))

-- ---- two loops of a face joined by an edge: the face lies on its planes and keeps its normal

module _ (N : Model) (c d e : ℕ) (can : CanJoin N c d e) where
  abbrev J : Model
  J = loops_joined N c d e

  abbrev G : ℕ
  G = face_at N c

  pub J_sound : Sound (loops_joined N c d e)
  J_sound = join_sound N c d e can

  keeps : Stays N J
  keeps = join_stays N c d e can

  at_joined : (h : ℕ) → count h (plus e ∷ minus e ∷ []) ≡ 1 → face_at J h ≡ G
  at_joined h one = ap (face_of J) (stands_at J J_sound h (loop_of N c) _ (content_row J (loop_of N c) _ (row_joined N c d e can))
      (omega (arith, one, count-canonical h ((plus e ∷ rotate_to d (cycle_of N d)) ++ minus e ∷ rotate_to c (cycle_of N c)), count-append h (plus e ∷ rotate_to d (cycle_of N d)) (minus e ∷ rotate_to c (cycle_of N c)))))
      ∙ face_row J (loop_of N c) _ (row_joined N c d e can)

  plus_joins : face_at J (plus e) ≡ G
  plus_joins = at_joined (plus e) (let o : tick (plus e) (minus e) ≡ 0 = tick_other (plus e) (minus e) (λ s. absurd (omega (arith, s))) in omega (arith, tick_same (plus e), o))

  minus_joins : face_at J (minus e) ≡ G
  minus_joins = at_joined (minus e) (let o : tick (minus e) (plus e) ≡ 0 = tick_other (minus e) (plus e) (λ s. absurd (omega (arith, s))) in omega (arith, tick_same (minus e), o))

  plus_goes : start J (plus e) ≡ start N c
  plus_goes = ap (point_of J) (join_tails N c d e can).0 ∙ point_stays N J keeps (tail N c)

  minus_goes : start J (minus e) ≡ start N d
  minus_goes = ap (point_of J) (join_tails N c d e can).1 ∙ point_stays N J keeps (tail N d)

  joined_cases : (h : ℕ) → HasHalf J h → HasHalf N h ⊎ ((h ≡ plus e) ⊎ (h ≡ minus e))
  joined_cases = halves_joined N c d e can

  lone_joins : (q v : ℕ) → content J q ≡ lone v → table.get J.loops q ≡ table.get N.loops q
  lone_joins q v is = row_other N c d e can q
      (λ s. never_lone _ v (sym (ap (content J) s ∙ content_row J (loop_of N c) _ (row_joined N c d e can)) ∙ is))
      (λ s. true≢false (sym (lone_there J q v is) ∙ ap is_some (ap (table.get J.loops) s ∙ row_gone N c d e can)))

  -- each face lies on its planes
  pub joined_on : (t : Plane) (f : ℕ) → OnFace N t f → OnFace (loops_joined N c d e) t f
  joined_on t f w = record {
    halves = λ h now at. elim (joined_cases h now) [
      | inl was ↦ ap (is_on t) (start_stays N J keeps h was) ∙ w.halves h was (sym (join_faces N c d e can h was) ∙ at)
      | inr new ↦ elim new [
        | inl is ↦ ap (is_on t) (ap (start J) is ∙ plus_goes) ∙ w.halves c can.c_there (sym plus_joins ∙ sym (ap (face_at J) is) ∙ at)
        | inr is ↦ ap (is_on t) (ap (start J) is ∙ minus_goes) ∙ w.halves d can.d_there (sym can.one_face ∙ sym minus_joins ∙ sym (ap (face_at J) is) ∙ at)
      ]
    ];
    lones = λ q v at is.
        let row = lone_joins q v is in
        ap (is_on t) (point_stays N J keeps v) ∙ w.lones q v (sym (same_face N J q row) ∙ at) (sym (same_content N J q row) ∙ is);
  }

  -- ---- normals

  module _ (f : ℕ) (there : Has N.faces f) where
    normal_beside : f ≢ G → normal J f ≡ normal N f
    normal_beside ne = grind (arith, normal_kept, J_sound, keeps, joined_cases, join_faces, plus_joins, minus_joins)

    normal_here : f ≡ G → normal J f ≡ normal N f
    normal_here at = normal_is J f ∙ area_same J (boundary J f) (plus e ∷ minus e ∷ boundary N f) (λ h. two_halves h e (count h (boundary J f)) (boundary N f)
        (λ is. (bound_one J J_sound f h (subst (HasHalf J) (sym is) (new_halves N J e _ _ (joined_edges N c d e can) can.edge_free).0) (ap (face_at J) is ∙ plus_joins ∙ sym at), bound_none N can.sound f h there (λ t s. (none_new N e h can.edge_free t).0 is)))
        (λ is. (bound_one J J_sound f h (subst (HasHalf J) (sym is) (new_halves N J e _ _ (joined_edges N c d e can) can.edge_free).1) (ap (face_at J) is ∙ minus_joins ∙ sym at), bound_none N can.sound f h there (λ t s. (none_new N e h can.edge_free t).1 is)))
        (λ a b. elim (half_there N h) [
          | inl was ↦ one_count N J can.sound J_sound keeps f there h was (join_faces N c d e can h was)
          | inr not_was ↦ no_count N J can.sound J_sound keeps f there h not_was (λ t s. elim (joined_cases h t) [ inl was ↦ not_was was | inr new ↦ elim new [ inl is ↦ a is | inr is ↦ b is ] ])
        ])) ∙ no_area J e (boundary N f) ∙ area_after N J can.sound keeps f

    pub normal_joined : normal (loops_joined N c d e) f ≡ normal N f
    normal_joined = elim (eqb_tells f G) [ inl at ↦ normal_here at.1 | inr ne ↦ normal_beside ne.1 ]

    -- another face keeps its anchor
    pub anchor_joined : f ≢ face_at N c → anchor (loops_joined N c d e) f ≡ anchor N f
    anchor_joined ne = let o = can.sound.outers_there f there in
        anchor_still N J can.sound keeps f there (same_outer N J f (ap (λ t. table.get t f) (loops_joined_faces N c d e))) (same_content N J (outer N f)
        (row_other N c d e can (outer N f) (λ s. ne (sym o.1 ∙ ap (face_of N) s)) (λ s. ne (sym o.1 ∙ ap (face_of N) s ∙ sym can.one_face))))
