-- Lists that tests pick from, and the items and corners of faces.
use Rattle.split_drawing_laws.proofs.Prelude.{list_any, list_all, ◌≡◌, ℕ, ◌+◌, ◌≤◌, Bool, true, false, cond, not, nat_eq, ◌&&◌, ◌||◌, List, [], ◌∷◌, refl, sym, ap, ◌∙◌, subst, arith, inl, inr, ◌≢◌, ℤ, pos, is_some, ◌⊎◌, true≢false, filter, int_lt, eq-eqb, eqb-true, eqb_tells, or_right, count, tick, IsIn, Model, items_of, content, tail, face_of, loop_of, solid_of, before, faces_of, Has, Sound, HasHalf, StandsIn, Plane, IsInRange, height, opposite, are_opposite, is_on, same_point, cut_between, plus, minus, face_at, count-append, tick_same, tick_other, mate_plus, mate_minus, held_row, cycle_there, plus_there, minus_there, solid_row, IsIn-filter, count-filter, filter_passes, same_as, cut_back, opposite_back, not_level, level_is, cut_fits, row_some, not_false, no_zero, loop_row, face_there, point_row, all_where_in, all_where_has, loops_of, items_in, boundary, corners, start, finish, edges_of, crosses, straddles, straddling_faces, crossing_edges, is_place, place_point, places, some_meet, is_crossed, is_up_and_down, sorted_pairs, Cuttable, cut_on}
use Rattle.shapes.proofs.Common.{tail_in}
use Rattle.split_drawing_laws.proofs.crossings.Runs.{Crossing}

-- ---- lists

pub here : (x y : ℕ) (ns : List ℕ) → x ≡ y → IsIn x (y ∷ ns)
here x y ns e = subst (λ k. 1 ≤ tick x k + count x ns) e (omega (arith, tick_same x))

pub picked_none : (p : ℕ → Bool) (ns : List ℕ) → ((x : ℕ) → IsIn x ns → p x ≡ false) → filter p ns ≡ []
picked_none p [] none = refl
picked_none p (n ∷ ns) none = ap (λ b. cond b (n ∷ filter p ns) (filter p ns)) (none n (here n n ns refl)) ∙ picked_none p ns (λ x i. none x (omega (arith, i)))

-- one that passes
pub any_passes : (p : ℕ → Bool) (x : ℕ) (ns : List ℕ) → IsIn x ns → p x ≡ true → list_any p ns ≡ true
any_passes p x [] i e = absurd (omega arith)
any_passes p x (n ∷ ns) i e = elim (eqb_tells x n) [
  | inl s ↦ ap (λ b. b || list_any p ns) (ap p (sym s.1) ∙ e)
  | inr s ↦ or_right (p n) (list_any p ns) (any_passes p x ns (omega (arith, i, tick_other x n s.1)) e)
]

-- ---- the faces of a solid, and those of them that straddle

pub solid_facts : (M : Model) (s f : ℕ) → IsIn f (faces_of M s) → Has M.faces f × (solid_of M f ≡ s)
solid_facts M s f i = grind (arith, all_where_has, solid_row, eqb-true)

pub in_solid : (M : Model) (f s : ℕ) → Has M.faces f → solid_of M f ≡ s → IsIn f (faces_of M s)
in_solid M f s there of_s = all_where_in (λ _ row. nat_eq row.solid s) M.faces f _ (face_there M f there) (eq-eqb (solid_of M f) s of_s)

pub face_facts : (M : Model) (s : ℕ) (p : Plane) (f : ℕ) → IsIn f (straddling_faces M p s) → Has M.faces f × (solid_of M f ≡ s)
face_facts M s p f i = solid_facts M s f (omega (arith, i, count-filter (straddles M p) f (faces_of M s)))

pub edge_listed : (M : Model) (s e : ℕ) → Has M.edges e → solid_of M (face_at M (plus e)) ≡ s → IsIn e (edges_of M s)
edge_listed M s e there of_s = grind (arith, row_some, all_where_in, eq-eqb)

-- ---- the loops of a face

module _ (M : Model) where
  -- a loop is one of the loops of its face
  pub loop_in_face : (l : ℕ) → Has M.loops l → IsIn l (loops_of M (face_of M l))
  unfolding loops_of
  loop_in_face l there = grind (arith, here, all_where_in, loop_row, not_false)

  pub item_in : (h l : ℕ) (ls : List ℕ) → IsIn l ls → IsIn h (items_of (content M l)) → IsIn h (items_in M ls)
  item_in h l [] i j = absurd (omega arith)
  item_in h l (k ∷ ls) i j = elim (eqb_tells l k) [
    | inl s ↦ grind (arith, count-append)
    | inr s ↦ let later : IsIn h (items_in M ls) = item_in h l ls (omega (arith, i, tick_other l k s.1)) j in
        omega (arith, later, count-append h (items_of (content M k)) (items_in M ls))
  ]

  -- the items of a loop are items of its face, and start at its corners
  pub item_in_face : (h l : ℕ) → Has M.loops l → IsIn h (items_of (content M l)) → IsIn h (boundary M (face_of M l))
  unfolding boundary
  item_in_face h l there i = item_in h l (loops_of M (face_of M l)) (loop_in_face l there) i

  pub tail_in_face : (h l : ℕ) → Has M.loops l → IsIn h (items_of (content M l)) → IsIn (tail M h) (corners M (face_of M l))
  unfolding corners
  tail_in_face h l there i = tail_in M h l (loops_of M (face_of M l)) (loop_in_face l there) i

-- ---- two places of a face with equal points

pub two_meet : (M : Model) (p : Plane) (x y : ℕ) (hs : List ℕ) → x ≢ y → place_point M p x ≡ place_point M p y → IsIn x hs → IsIn y hs → some_meet M p hs ≡ true
two_meet M p x y [] ne e i j = absurd (omega (arith, i))
two_meet M p x y (h ∷ hs) ne e i j = elim (eqb_tells x h) [
  | inl s ↦ ap (λ b. b || some_meet M p hs) (any_passes (λ k. same_point (place_point M p h) (place_point M p k)) y hs (rest y h hs (λ t. ne (s.1 ∙ sym t)) j) (same_as (place_point M p h) (place_point M p y) (ap (place_point M p) (sym s.1) ∙ e)))
  | inr s ↦ elim (eqb_tells y h) [
    | inl t ↦ ap (λ b. b || some_meet M p hs) (any_passes (λ k. same_point (place_point M p h) (place_point M p k)) x hs (rest x h hs s.1 i) (same_as (place_point M p h) (place_point M p x) (ap (place_point M p) (sym t.1) ∙ sym e)))
    | inr t ↦ or_right (list_any (λ k. same_point (place_point M p h) (place_point M p k)) hs) (some_meet M p hs) (two_meet M p x y hs ne e (rest x h hs s.1 i) (rest y h hs t.1 j))
  ]
] where
  rest : (a b : ℕ) (ns : List ℕ) → a ≢ b → IsIn a (b ∷ ns) → IsIn a ns
  rest a b ns n i = omega (arith, i, tick_other a b n)

pub crossing_is_place : (M : Model) (p : Plane) (h : ℕ) → crosses M p h ≡ true → is_place M p h ≡ true
unfolding is_place
crossing_is_place M p h x = ap (λ b. b || (is_on p (start M h) && are_opposite p (start M (before M h)) (finish M h))) x

-- ---- edges that cross the plane, and faces that straddle it

module _ (M : Model) (sound : Sound M) (s : ℕ) (p : Plane) where
  pub edge_facts : (e : ℕ) → IsIn e (crossing_edges M p s) → Has M.edges e × (solid_of M (face_at M (plus e)) ≡ s) × (crosses M p (plus e) ≡ true)
  edge_facts e i = grind (arith, count-filter, all_where_has, eqb-true, filter_passes)

  pub faces_not_zero : (f : ℕ) → IsIn f (straddling_faces M p s) → f ≢ 0
  faces_not_zero f i z = no_zero f z (sound.faces_fit f (face_facts M s p f i).0)

  -- ---- the halves of an edge that crosses the plane stand in different loops

  module _ (c : Cuttable M s p) (e : ℕ) (i : IsIn e (crossing_edges M p s)) where
    e_there : Has M.edges e
    e_there = (edge_facts e i).0

    far_end : finish M (plus e) ≡ start M (minus e)
    far_end = ap (start M) (mate_plus e)

    pub plus_crosses : are_opposite p (start M (plus e)) (start M (minus e)) ≡ true
    plus_crosses = ap (are_opposite p (start M (plus e))) (sym far_end) ∙ (edge_facts e i).2

    pub minus_crosses : are_opposite p (start M (minus e)) (start M (plus e)) ≡ true
    minus_crosses = opposite_back (height p (start M (plus e))) (height p (start M (minus e))) plus_crosses

    pub minus_is : crosses M p (minus e) ≡ true
    minus_is = ap (are_opposite p (start M (minus e))) (ap (start M) (mate_minus e)) ∙ minus_crosses

    pub crossing_point : (h : ℕ) → crosses M p h ≡ true → place_point M p h ≡ cut_between p (start M h) (finish M h)
    unfolding place_point
    crossing_point h x = ap (λ b. cond b (start M h) (cut_between p (start M h) (finish M h))) (not_level (height p (start M h)) (height p (finish M h)) x)

    pub one_point : place_point M p (plus e) ≡ place_point M p (minus e)
    one_point = grind (arith, crossing_point, edge_facts, far_end, cut_back, plus_crosses, ap (start M) (mate_minus e), minus_is)

    -- both in loop l: then the face of that loop straddles, and has two places at one point
    module _ (l : ℕ) (first : loop_of M (plus e) ≡ l) (second : loop_of M (minus e) ≡ l) where
      first_in : IsIn (plus e) (items_of (content M l))
      first_in = subst (λ q. IsIn (plus e) (items_of (content M q))) first (cycle_there M sound (plus e) (plus_there M e e_there))

      second_in : IsIn (minus e) (items_of (content M l))
      second_in = subst (λ q. IsIn (minus e) (items_of (content M q))) second (cycle_there M sound (minus e) (minus_there M e e_there))

      l_there : Has M.loops l
      l_there = ap is_some (held_row M (plus e) l (subst (λ q. StandsIn M (plus e) q) first (sound.stands (plus e) (plus_there M e e_there))))

      face_in : IsIn (face_of M l) (faces_of M s)
      face_in = in_solid M (face_of M l) s (sound.loops_of_faces l l_there) (ap (λ q. solid_of M (face_of M q)) (sym first) ∙ (edge_facts e i).1)

      minus_corner : IsIn (tail M (minus e)) (corners M (face_of M l))
      minus_corner = tail_in_face M (minus e) l l_there second_in

      both_sides : (m n : ℤ) → opposite m n ≡ true → ((int_lt (pos 0) m ≡ true) × (int_lt n (pos 0) ≡ true)) ⊎ ((int_lt m (pos 0) ≡ true) × (int_lt (pos 0) n ≡ true))
      both_sides m n o = grind arith

      face_straddles : straddles M p (face_of M l) ≡ true
      unfolding straddles
      face_straddles = grind (arith, both_sides, plus_crosses, tail_in_face M (plus e) l l_there first_in, minus_corner, any_passes)

      places_meet : some_meet M p (places M p (face_of M l)) ≡ true
      unfolding places
      places_meet = two_meet M p (plus e) (minus e) (filter (is_place M p) (boundary M (face_of M l))) (λ q. omega arith) one_point
          (IsIn-filter (is_place M p) (plus e) (boundary M (face_of M l)) (item_in_face M (plus e) l l_there first_in) (crossing_is_place M p (plus e) (edge_facts e i).2))
          (IsIn-filter (is_place M p) (minus e) (boundary M (face_of M l)) (item_in_face M (minus e) l l_there second_in) (crossing_is_place M p (minus e) minus_is))

      is_then_crossed : is_crossed M p (face_of M l) ≡ true
      unfolding is_crossed
      is_then_crossed = ap (λ b. b || not (list_all (is_up_and_down M p) (sorted_pairs M p (face_of M l)))) places_meet

      one_loop_absurd : ⊥
      one_loop_absurd = true≢false (sym is_then_crossed ∙ c.uncrossed (face_of M l) (IsIn-filter (straddles M p) (face_of M l) (faces_of M s) face_in face_straddles))

    point_there : (h : ℕ) → HasHalf M h → IsInRange (start M h)
    point_there h there = sound.points_fit (tail M h) (start M h) (point_row M (tail M h) (sound.tails_there h there))

    pub crossing_here : Crossing M p e
    crossing_here = record {
      there = e_there;
      apart = λ q. one_loop_absurd (loop_of M (minus e)) q refl;
      crossing = (edge_facts e i).2;
      level = level_is (height p (cut_between p (start M (plus e)) (finish M (plus e)))) (cut_on p (start M (plus e)) (finish M (plus e)) (edge_facts e i).2 (c.whole e i));
      fits = cut_fits p (start M (plus e)) (finish M (plus e)) (point_there (plus e) (plus_there M e e_there)) (subst IsInRange (sym far_end) (point_there (minus e) (minus_there M e e_there))) (edge_facts e i).2;
    }
