-- The six volumes of a lamina: its two faces have opposite normals, and one is told from the first point, the other from the second.
use Rattle.sweeps_laws.proofs.Prelude.{◌≡◌, ℕ, zero, suc, ◌+◌, ◌≤◌, ◌<◌, ℤ, pos, ◌+ℤ◌, ◌-ℤ◌, true, List, [], ◌∷◌, ◌++◌, refl, sym, ap, ◌∙◌, arith, append-nil, length, get_or, map, reverse, ints, Point, dot, origin, moved, cross, count, IsIn, IsApart, head_or, canonical, mate, plus, minus, Model, cycle, no_point, items_of, tail, content, outer, point_of, faces_of, lists, content_row, outer_row, minus_tail_row, mate_plus, mate_minus, count-append, tick_same, count-canonical, ring_area, listed-from_in, items_in, corners, start, finish, Taken, numbers_after, area, normal, anchor, first_vertex, is_flat, volume_in, six_volume, negated, lamina_at, dot_back, area_same, area_back, corner_told, out, back}
use Rattle.sweeps_laws.proofs.lamina.Lists.{out_first, plus_halves, minus_halves, back_within, back_apart, first_moved, canonical_first}
use Rattle.sweeps_laws.proofs.LaminaRows as rows
use Rattle.sweeps_laws.proofs.swept.Bounds.{HasFree}
use Rattle.sweeps_laws.proofs.Loops.{normal_is}

-- ---- the loop the other way round, from its least half-edge on

-- the minus halves before the first edge's
abbrev pub earlier : ℕ → ℕ → List ℕ
earlier e zero = []
earlier e (suc j) = minus (e + suc (suc j)) ∷ earlier e j

back_last : (e j : ℕ) → back e (suc j) ≡ earlier e j ++ minus (e + 1) ∷ []
back_last e zero = refl
back_last e (suc j) = ap (λ xs. minus (e + suc (suc j)) ∷ xs) (back_last e j)

earlier_high : (e j y : ℕ) → IsIn y (earlier e j) → minus (e + 1) ≤ y
earlier_high e j y i = (back_within e (suc j) y (omega (arith, i, ap (count y) (back_last e j), count-append y (earlier e j) (minus (e + 1) ∷ [])))).0

pub back_from_first : (e j : ℕ) → canonical (back e (suc j)) ≡ minus (e + 1) ∷ earlier e j
back_from_first e j = ap canonical (back_last e j) ∙ first_moved (minus (e + 1)) (earlier e j) apart ∙ canonical_first (minus (e + 1)) (earlier e j) (earlier_high e j) where
  apart : IsApart (minus (e + 1) ∷ earlier e j)
  apart x = omega (arith, back_apart e (suc j) x, ap (count x) (back_last e j), count-append x (earlier e j) (minus (e + 1) ∷ []))

mates : (es : List ℕ) → map minus es ≡ map mate (map plus es)
mates [] = refl
mates (e ∷ es) = λ i. sym (mate_plus e) i ∷ mates es i

no_difference : (m n : ℤ) → n ≡ m → m -ℤ n ≡ pos 0
no_difference m n e = omega (arith, ints)

-- ---- n points, k + 3 of them

module _ {M : Model} {c : Taken} (s : ℕ) (ps : List Point) (k : ℕ) (many : length ps ≡ suc (suc (suc k))) (b : HasFree M c) where
  abbrev drawn : Model
  drawn = rows.drawn M c s ps

  abbrev face : ℕ
  face = c.face + 1

  abbrev halves : List ℕ
  halves = map plus (numbers_after c.edge (length ps))

  abbrev halves_back : List ℕ
  halves_back = reverse (map minus (numbers_after c.edge (length ps)))

  back_one : tail drawn (minus (c.edge + 1)) ≡ c.vertex + 2
  back_one = minus_tail_row drawn (c.edge + 1) (record { plus_tail = c.vertex + 1; minus_tail = c.vertex + 1 + 1 }) (rows.edge_at M c s ps 0 (omega (arith, many))) ∙ omega arith

  -- ---- the first face

  outer_one : outer drawn face ≡ c.loop + 1
  outer_one = outer_row drawn face (rows.first_face M c s ps) (rows.face_one M c s ps)

  content_one : content drawn (c.loop + 1) ≡ cycle halves
  content_one = content_row drawn (c.loop + 1) (rows.first_loop M c s ps) (rows.loop_one M c s ps)

  halves_are : halves ≡ out c.edge (suc (suc (suc k)))
  halves_are = plus_halves c.edge (length ps) ∙ ap (out c.edge) many

  anchor_one : anchor drawn face ≡ get_or ps 0 no_point
  anchor_one = ap (λ q. point_of drawn (first_vertex drawn (content drawn q))) outer_one ∙ ap (λ x. point_of drawn (first_vertex drawn x)) content_one
      ∙ ap (λ hs. point_of drawn (tail drawn (head_or 0 hs))) (halves_are ∙ out_first c.edge (suc (suc k)))
      ∙ ap (point_of drawn) (rows.tail_at M c s ps 0 (omega (arith, many))) ∙ rows.point_at M c s ps 0 (omega (arith, many))

  normal_one : normal drawn face ≡ area drawn halves
  normal_one = normal_is drawn face ∙ ap (λ rs. area drawn (items_in drawn (outer drawn face ∷ rs))) (rows.rings_one M c s ps b)
      ∙ ap (λ q. area drawn (items_in drawn (q ∷ []))) outer_one ∙ ap (λ x. area drawn (items_of x ++ [])) content_one ∙ ap (area drawn) (append-nil halves)

  -- ---- the second face

  outer_two : outer drawn (c.face + 2) ≡ c.loop + 2
  outer_two = outer_row drawn (c.face + 2) (rows.second_face M c s ps) (rows.face_two M c s ps)

  content_two : content drawn (c.loop + 2) ≡ cycle (canonical halves_back)
  content_two = content_row drawn (c.loop + 2) (rows.second_loop M c s ps) (rows.loop_two M c s ps)

  anchor_two : anchor drawn (c.face + 2) ≡ get_or ps 1 no_point
  anchor_two = ap (λ q. point_of drawn (first_vertex drawn (content drawn q))) outer_two ∙ ap (λ x. point_of drawn (first_vertex drawn x)) content_two
      ∙ ap (λ hs. point_of drawn (tail drawn (head_or 0 (canonical hs)))) (minus_halves c.edge (length ps) ∙ ap (back c.edge) many)
      ∙ ap (λ hs. point_of drawn (tail drawn (head_or 0 hs))) (back_from_first c.edge (suc (suc k)))
      ∙ ap (point_of drawn) back_one ∙ rows.point_at M c s ps 1 (omega (arith, many))

  normal_back : normal drawn (c.face + 2) ≡ area drawn (canonical halves_back)
  normal_back = normal_is drawn (c.face + 2) ∙ ap (λ rs. area drawn (items_in drawn (outer drawn (c.face + 2) ∷ rs))) (rows.rings_two M c s ps b)
      ∙ ap (λ q. area drawn (items_in drawn (q ∷ []))) outer_two ∙ ap (λ x. area drawn (items_of x ++ [])) content_two ∙ ap (area drawn) (append-nil (canonical halves_back))

  normal_two : normal drawn (c.face + 2) ≡ negated (normal drawn face)
  normal_two = normal_back ∙ area_same drawn (canonical halves_back) halves_back (λ x. count-canonical x halves_back)
      ∙ ap (λ hs. area drawn (reverse hs)) (mates (numbers_after c.edge (length ps))) ∙ area_back drawn halves ∙ ap negated (sym normal_one)

  -- ---- both

  faces_volume : faces_of M s ≡ [] → six_volume drawn s ≡ dot (get_or ps 0 no_point) (normal drawn face) +ℤ (dot (get_or ps 1 no_point) (normal drawn (c.face + 2)) +ℤ pos 0)
  faces_volume none = rows.six_volume_is drawn s ∙ ap (volume_in drawn) (rows.faces_are M c s ps b none)
      ∙ (λ i. dot (anchor_one i) (normal drawn face) +ℤ (dot (anchor_two i) (normal drawn (c.face + 2)) +ℤ pos 0))

  pub lamina_volume : faces_of M s ≡ [] → six_volume drawn s ≡ dot (get_or ps 0 no_point) (normal drawn face) -ℤ dot (get_or ps 1 no_point) (normal drawn face)
  lamina_volume none = faces_volume none
      ∙ ap (λ v. dot (get_or ps 0 no_point) (normal drawn face) +ℤ (v +ℤ pos 0)) (ap (dot (get_or ps 1 no_point)) normal_two ∙ dot_back (get_or ps 1 no_point) (normal drawn face))
      ∙ omega (arith, ints)

  -- the second vertex is one of the first face's corners
  second_corner : lists (corners drawn face) (c.vertex + 2) ≡ true
  second_corner = ap (λ vs. lists vs (c.vertex + 2)) (rows.corners_one M c s ps b) ∙ ap (λ n. lists (numbers_after c.vertex n) (c.vertex + 2)) many
      ∙ listed-from_in (c.vertex + 2) (numbers_after c.vertex (suc (suc (suc k)))) (grind (arith, tick_same))

  pub flat_volume : faces_of M s ≡ [] → is_flat drawn face ≡ true → six_volume drawn s ≡ pos 0
  flat_volume none flat = lamina_volume none ∙ no_difference (dot (get_or ps 0 no_point) (normal drawn face)) (dot (get_or ps 1 no_point) (normal drawn face))
      (ap (λ p. dot p (normal drawn face)) (sym (rows.point_at M c s ps 1 (omega (arith, many)))) ∙ corner_told drawn face (c.vertex + 2) flat second_corner ∙ ap (λ p. dot p (normal drawn face)) anchor_one)

-- ---- four points

module _ (M : Model) (c : Taken) (s : ℕ) (a b g h : Point) where
  abbrev four : List Point
  four = a ∷ b ∷ g ∷ h ∷ []

  abbrev pub base : Model
  base = lamina_at M c s four

  out_starts : (i : ℕ) → i < 4 → start base (plus (c.edge + suc i)) ≡ get_or four i no_point
  out_starts i l = ap (point_of base) (rows.tail_at M c s four i l) ∙ rows.point_at M c s four i l

  back_starts : (i : ℕ) → i < 3 → start base (minus (c.edge + suc i)) ≡ get_or four (suc i) no_point
  back_starts i l = ap (point_of base) (minus_tail_row base (c.edge + suc i) _ (rows.edge_at M c s four i (omega (arith, l))) ∙ omega arith) ∙ rows.point_at M c s four (suc i) (omega (arith, l))

  last_ends : start base (minus (c.edge + 4)) ≡ a
  last_ends = ap (point_of base) (minus_tail_row base (c.edge + 4) _ (rows.last_edge_at M c s four)) ∙ rows.point_at M c s four 0 (omega arith)

  -- a half-edge ends where its mate starts
  plus_ends : (e : ℕ) (p : Point) → start base (minus e) ≡ p → finish base (plus e) ≡ p
  plus_ends e p i = ap (start base) (mate_plus e) ∙ i

  minus_ends : (e : ℕ) (p : Point) → start base (plus e) ≡ p → finish base (minus e) ≡ p
  minus_ends e p i = ap (start base) (mate_minus e) ∙ i

  module _ (has_free : HasFree M c) where
    pub base_normal : normal base (c.face + 1) ≡ ring_area a b g h
    base_normal = normal_one s four 1 refl has_free ∙ ap (area base) (plus_halves c.edge 4)
        ∙ (λ i. moved (cross (out_starts 0 (omega arith) i) (plus_ends (c.edge + 1) b (back_starts 0 (omega arith)) i)) (moved (cross (out_starts 1 (omega arith) i) (plus_ends (c.edge + 2) g (back_starts 1 (omega arith)) i))
        (moved (cross (out_starts 2 (omega arith) i) (plus_ends (c.edge + 3) h (back_starts 2 (omega arith)) i)) (moved (cross (out_starts 3 (omega arith) i) (plus_ends (c.edge + 4) a last_ends i)) origin))))

    back_normal : normal base (c.face + 2) ≡ ring_area b a h g
    back_normal = normal_back s four 1 refl has_free ∙ ap (area base) (ap canonical (minus_halves c.edge 4) ∙ back_from_first c.edge 3)
        ∙ (λ i. moved (cross (back_starts 0 (omega arith) i) (minus_ends (c.edge + 1) a (out_starts 0 (omega arith)) i)) (moved (cross (last_ends i) (minus_ends (c.edge + 4) h (out_starts 3 (omega arith)) i))
        (moved (cross (back_starts 2 (omega arith) i) (minus_ends (c.edge + 3) g (out_starts 2 (omega arith)) i)) (moved (cross (back_starts 1 (omega arith) i) (minus_ends (c.edge + 2) b (out_starts 1 (omega arith)) i)) origin))))

    -- the six volumes of a solid that was not there
    pub base_volume : faces_of M s ≡ [] → six_volume base s ≡ dot a (ring_area a b g h) +ℤ (dot b (ring_area b a h g) +ℤ pos 0)
    base_volume none = faces_volume s four 1 refl has_free none ∙ (λ i. dot a (base_normal i) +ℤ (dot b (back_normal i) +ℤ pos 0))
