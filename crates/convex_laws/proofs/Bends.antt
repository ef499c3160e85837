-- At each edge of a block the two faces bend away from each other: a table of its half-edges, of which each has its mate in one face.
use Rattle.convex_laws.proofs.Prelude.{list_all, ◌≡◌, ◌⊎◌, ℕ, zero, suc, ◌+◌, ◌*◌, ◌≤◌, ◌<◌, inl, inr, ℤ, pos, negsuc, ◌+ℤ◌, ◌-ℤ◌, ◌*ℤ◌, int_lt, int_le, Bool, true, false, cond, not, ◌&&◌, ◌||◌, List, [], ◌∷◌, map, length, get_or, refl, sym, ap, subst, ◌∙◌, arith, and_parts, cases_lt, eqb_tells, ints, Point, moved, cross, direction, dot, mate, same_point, IsIn, Model, cycle_of, loop_of, face_at, outer, solid_of, Sound, Has, HasHalf, has_rings, is_empty, IsIn_one, cycle_there, row_of, tick_other, dif-parts, difs, mate-mate, mate_there, number, same_dif, same_vector, all_hold, half_face, no_rings_means, block_conditions, base_of, finish, next_place, normal, plane_of, start, towards, vector, at_most_greatest, same_is, Machine, held, IsBlock, BendsAway, BlocksAreConvex, IsFaceOf, all_moved, area_to, last_face, nth, side_over, turned_back, up_by, block_has_top_and_bottom, block_has_four_sides, block_takes_six_faces, IsOneOf, no_older, one_of, sound_after, add_none, base_corners}
use Rattle.convex_laws.proofs.Blocks.{block_convex}
use Rattle.sweeps_laws.proofs.swept.Lifted.{IsPathOf}
use Rattle.command_laws.proofs.Outlines.{points_are, ring_path}

-- ---- the corners of a block, and its half-edges

-- a corner has one of two ends along each axis
record Bits : Type 0 where
  x : Bool
  y : Bool
  z : Bool

abbrev at_bits : Bool → Bool → Bool → Bits
at_bits x y z = record { x = x; y = y; z = z }

-- a face, by its corners in their order
record Quad : Type 0 where
  a : Bits
  b : Bits
  c : Bits
  d : Bits

abbrev unit : Bool → ℤ
unit b = cond b (pos 1) (pos 0)

-- the way from one corner to another, where each edge has length 1
abbrev way : Bits → Bits → Point
way a b = record { x = unit b.x -ℤ unit a.x; y = unit b.y -ℤ unit a.y; z = unit b.z -ℤ unit a.z }

-- a half-edge, and where its face looks: twice its area, where each edge has length 1
record Row : Type 0 where
  from : Bits
  to : Bits
  looks : Point

abbrev looks_of : Quad → Point
looks_of q = cross (way q.c q.a) (way q.d q.b)

abbrev row : Quad → Bits → Bits → Row
row q a b = record { from = a; to = b; looks = looks_of q }

abbrev rows_of : Quad → List Row
rows_of q = row q q.a q.b ∷ row q q.b q.c ∷ row q q.c q.d ∷ row q q.d q.a ∷ []

-- the top, the bottom, and the side over each edge of the base
abbrev top : Quad
top = record { a = at_bits false false true; b = at_bits true false true; c = at_bits true true true; d = at_bits false true true }

abbrev bottom : Quad
bottom = record { a = at_bits true false false; b = at_bits false false false; c = at_bits false true false; d = at_bits true true false }

abbrev side : Bool → Bool → Bool → Bool → Quad
side x y u v = record { a = at_bits x y false; b = at_bits u v false; c = at_bits u v true; d = at_bits x y true }

abbrev quads : List Quad
quads = top ∷ bottom ∷ side false false true false ∷ side true false true true ∷ side true true false true ∷ side false true false false ∷ []

abbrev same_bit : Bool → Bool → Bool
same_bit a b = cond a b (not b)

abbrev same_bits : Bits → Bits → Bool
same_bits a b = same_bit a.x b.x && (same_bit a.y b.y && same_bit a.z b.z)

-- axis by axis, the way of the one half-edge times the product of where both look
abbrev along : Row → Row → Point
along r t = let u = way r.from r.to in let c = cross r.looks t.looks in record { x = u.x *ℤ c.x; y = u.y *ℤ c.y; z = u.z *ℤ c.z }

abbrev on_axis : Point → Bool
on_axis p = same_point p (vector (pos 4) (pos 0) (pos 0)) || (same_point p (vector (pos 0) (pos 4) (pos 0)) || same_point p (vector (pos 0) (pos 0) (pos 4)))

-- where t goes back along r, that is 4 on one axis and 0 on the others
abbrev bends : Row → Row → Bool
bends r t = not (same_bits t.from r.to && same_bits t.to r.from) || on_axis (along r t)

abbrev bends_all : Row → Bool
bends_all r = list_all (λ q. list_all (bends r) (rows_of q)) quads

-- the whole table, row against row
all_bend : list_all (λ q. list_all bends_all (rows_of q)) quads ≡ true
all_bend = refl

-- P holds of one of a list
abbrev AnyOf : {X : Type 0} → (X → Type 0) → List X → Type 0
AnyOf P [] = ⊥
AnyOf P (x ∷ xs) = P x ⊎ AnyOf P xs

any_passes : {X : Type 0} (P : X → Type 0) (f : X → Bool) (xs : List X) → AnyOf P xs → list_all f xs ≡ true → (x : X) × P x × (f x ≡ true)
any_passes P f [] any all = absurd any
any_passes P f (x ∷ xs) any all = let e = and_parts (f x) (list_all f xs) all in elim any [
  | inl p ↦ (x, p, e.0)
  | inr p ↦ any_passes P f xs p e.1
]

any_mapped : {X : Type 0} (P Q : X → Type 0) (xs : List X) → ((x : X) → P x → Q x) → AnyOf P xs → AnyOf Q xs
any_mapped P Q [] f any = any
any_mapped P Q (x ∷ xs) f any = elim any [ inl p ↦ inl (f x p) | inr p ↦ inr (any_mapped P Q xs f p) ]

-- ---- sums and products

-- a number of 1 and more
record Some (x : ℤ) : Type 0 where
  less : ℕ
  is : x ≡ pos (suc less)

some_of : (x : ℤ) → int_le (pos 1) x ≡ true → Some x
some_of (pos zero) e = absurd (grind (arith, ints))
some_of (pos (suc n)) e = record { less = n; is = refl }
some_of (negsuc n) e = absurd (grind (arith, ints))

some_product : (x y : ℤ) → Some x → Some y → Some (x *ℤ y)
some_product x y a b = record { less = b.less + a.less * suc b.less; is = (λ i. a.is i *ℤ b.is i) ∙ ap pos (enlarged a.less b.less) } where
  enlarged : (m n : ℕ) → suc m * suc n ≡ suc (n + m * suc n)
  enlarged m n = omega arith

product_part : (a b d e : ℤ) → (a *ℤ d) *ℤ (b *ℤ e) ≡ (a *ℤ b) *ℤ (d *ℤ e)
product_part a b d e = rw (dif-parts a, dif-parts b, dif-parts d, dif-parts e) (simp difs (same_dif _ _ _ _ (omega arith)))

cross_part : (a b c e d f : ℤ) → (a *ℤ d) *ℤ (b *ℤ f) -ℤ (c *ℤ f) *ℤ (e *ℤ d) ≡ (a *ℤ b -ℤ c *ℤ e) *ℤ (d *ℤ f)
cross_part a b c e d f = rw (dif-parts a, dif-parts b, dif-parts c, dif-parts e, dif-parts d, dif-parts f) (simp difs (same_dif _ _ _ _ (omega arith)))

quad_part : (a b c d e f g h : ℤ) → (a *ℤ f -ℤ e *ℤ b) +ℤ ((b *ℤ g -ℤ f *ℤ c) +ℤ ((c *ℤ h -ℤ g *ℤ d) +ℤ ((d *ℤ e -ℤ h *ℤ a) +ℤ pos 0))) ≡ (a -ℤ c) *ℤ (f -ℤ h) -ℤ (e -ℤ g) *ℤ (b -ℤ d)
quad_part a b c d e f g h = rw (dif-parts a, dif-parts b, dif-parts c, dif-parts d, dif-parts e, dif-parts f, dif-parts g, dif-parts h, number 0) (simp difs (same_dif _ _ _ _ (omega arith)))

-- twice the area of a face with four corners is the product of its diagonals
quad_area : (a b c d : Point) → area_to a (a ∷ b ∷ c ∷ d ∷ []) ≡ cross (towards c a) (towards d b)
quad_area a b c d = same_vector _ _ (quad_part a.y b.y c.y d.y a.z b.z c.z d.z) (quad_part a.z b.z c.z d.z a.x b.x c.x d.x) (quad_part a.x b.x c.x d.x a.y b.y c.y d.y)

abbrev at : ℤ → ℤ → Bool → ℤ
at l d b = cond b (l +ℤ d) l

step : (l d : ℤ) (a b : Bool) → at l d b -ℤ at l d a ≡ (unit b -ℤ unit a) *ℤ d
step l d true true = omega (arith, ints)
step l d true false = omega (arith, ints)
step l d false true = omega (arith, ints)
step l d false false = omega (arith, ints)

ends_apart : (l d : ℤ) → Some d → l +ℤ d ≡ l → ⊥
ends_apart l d some e = omega (arith, ints, e, some.is)

bit_told : (l d : ℤ) → Some d → (a b : Bool) → at l d a ≡ at l d b → same_bit a b ≡ true
bit_told l d some true true e = refl
bit_told l d some true false e = absurd (ends_apart l d some e)
bit_told l d some false true e = absurd (ends_apart l d some (sym e))
bit_told l d some false false e = refl

or_either : (a b : Bool) → (a || b) ≡ true → (a ≡ true) ⊎ (b ≡ true)
or_either true b e = inl refl
or_either false b e = inr e

over : (n : ℕ) → int_lt (pos 0) (pos (suc n)) ≡ true
over n = grind (arith, ints)

-- where one of three products has the factor 4, and the others 0, the sum is positive
sum_some : {x y z : ℤ} (a b c : ℤ) → Some x → Some y → Some z → on_axis (record { x = a; y = b; z = c }) ≡ true → int_lt (pos 0) (a *ℤ x +ℤ b *ℤ y +ℤ c *ℤ z) ≡ true
sum_some {x} {y} {z} a b c sx sy sz e = by_axis (or_either (same_point o (vector (pos 4) (pos 0) (pos 0))) (same_point o (vector (pos 0) (pos 4) (pos 0)) || same_point o (vector (pos 0) (pos 0) (pos 4))) e) where
  o : Point
  o = record { x = a; y = b; z = c }

  same_sum : (u : Point) → o ≡ u → a *ℤ x +ℤ b *ℤ y +ℤ c *ℤ z ≡ u.x *ℤ x +ℤ u.y *ℤ y +ℤ u.z *ℤ z
  same_sum u is = λ i. (is i).x *ℤ x +ℤ (is i).y *ℤ y +ℤ (is i).z *ℤ z

  first : (x y z : ℤ) (s : Some x) → pos 4 *ℤ x +ℤ pos 0 *ℤ y +ℤ pos 0 *ℤ z ≡ pos (suc (3 + 4 * s.less))
  first x y z s = omega (arith, ints, s.is)

  second : (x y z : ℤ) (s : Some y) → pos 0 *ℤ x +ℤ pos 4 *ℤ y +ℤ pos 0 *ℤ z ≡ pos (suc (3 + 4 * s.less))
  second x y z s = omega (arith, ints, s.is)

  third : (x y z : ℤ) (s : Some z) → pos 0 *ℤ x +ℤ pos 0 *ℤ y +ℤ pos 4 *ℤ z ≡ pos (suc (3 + 4 * s.less))
  third x y z s = omega (arith, ints, s.is)

  by_axis : (same_point o (vector (pos 4) (pos 0) (pos 0)) ≡ true) ⊎ ((same_point o (vector (pos 0) (pos 4) (pos 0)) || same_point o (vector (pos 0) (pos 0) (pos 4))) ≡ true) → int_lt (pos 0) (a *ℤ x +ℤ b *ℤ y +ℤ c *ℤ z) ≡ true
  by_axis (inl f) = ap (int_lt (pos 0)) (same_sum _ (same_is o _ f)) ∙ ap (int_lt (pos 0)) (first x y z sx) ∙ over (3 + 4 * sx.less)
  by_axis (inr f) = elim (or_either (same_point o (vector (pos 0) (pos 4) (pos 0))) (same_point o (vector (pos 0) (pos 0) (pos 4))) f) [
    | inl g ↦ ap (int_lt (pos 0)) (same_sum _ (same_is o _ g)) ∙ ap (int_lt (pos 0)) (second x y z sy) ∙ over (3 + 4 * sy.less)
    | inr g ↦ ap (int_lt (pos 0)) (same_sum _ (same_is o _ g)) ∙ ap (int_lt (pos 0)) (third x y z sz) ∙ over (3 + 4 * sz.less)
  ]

-- ---- a block of any size

module _ (p : Point) (dx dy dz : ℤ) where
  abbrev corner : Bits → Point
  corner b = record { x = at p.x dx b.x; y = at p.y dy b.y; z = at p.z dz b.z }

  -- a way, and a face's normal, at the block's sizes
  abbrev sized : Point → Point
  sized u = record { x = u.x *ℤ dx; y = u.y *ℤ dy; z = u.z *ℤ dz }

  abbrev faced : Point → Point
  faced n = record { x = n.x *ℤ (dy *ℤ dz); y = n.y *ℤ (dz *ℤ dx); z = n.z *ℤ (dx *ℤ dy) }

  ways : (a b : Bits) → towards (corner a) (corner b) ≡ sized (way a b)
  ways a b = same_vector _ _ (step p.x dx a.x b.x) (step p.y dy a.y b.y) (step p.z dz a.z b.z)

  across : (u w : Point) → cross (sized u) (sized w) ≡ faced (cross u w)
  across u w = same_vector _ _ (cross_part u.y w.z u.z w.y dy dz) (cross_part u.z w.x u.x w.z dz dx) (cross_part u.x w.y u.y w.x dx dy)

  abbrev corners_of : Quad → List Point
  corners_of q = corner q.a ∷ corner q.b ∷ corner q.c ∷ corner q.d ∷ []

  area_is : (q : Quad) → area_to (corner q.a) (corners_of q) ≡ faced (looks_of q)
  area_is q = quad_area (corner q.a) (corner q.b) (corner q.c) (corner q.d) ∙ (λ i. cross (ways q.c q.a i) (ways q.d q.b i)) ∙ across (way q.c q.a) (way q.d q.b)

  bend_is : (u n m : Point) → let c = cross n m in dot (sized u) (cross (faced n) (faced m))
      ≡ (u.x *ℤ c.x) *ℤ (dx *ℤ ((dz *ℤ dx) *ℤ (dx *ℤ dy))) +ℤ (u.y *ℤ c.y) *ℤ (dy *ℤ ((dx *ℤ dy) *ℤ (dy *ℤ dz))) +ℤ (u.z *ℤ c.z) *ℤ (dz *ℤ ((dy *ℤ dz) *ℤ (dz *ℤ dx)))
  bend_is u n m = let c = cross n m in
      (λ i. (u.x *ℤ dx) *ℤ cross_part n.y m.z n.z m.y (dz *ℤ dx) (dx *ℤ dy) i +ℤ (u.y *ℤ dy) *ℤ cross_part n.z m.x n.x m.z (dx *ℤ dy) (dy *ℤ dz) i +ℤ (u.z *ℤ dz) *ℤ cross_part n.x m.y n.y m.x (dy *ℤ dz) (dz *ℤ dx) i)
      ∙ (λ i. product_part u.x c.x dx ((dz *ℤ dx) *ℤ (dx *ℤ dy)) i +ℤ product_part u.y c.y dy ((dx *ℤ dy) *ℤ (dy *ℤ dz)) i +ℤ product_part u.z c.z dz ((dy *ℤ dz) *ℤ (dz *ℤ dx)) i)

  module _ (sx : Some dx) (sy : Some dy) (sz : Some dz) where
    corner_told : (a b : Bits) → corner a ≡ corner b → same_bits a b ≡ true
    corner_told a b e = λ i. bit_told p.x dx sx a.x b.x (ap (λ c. c.x) e) i && (bit_told p.y dy sy a.y b.y (ap (λ c. c.y) e) i && bit_told p.z dz sz a.z b.z (ap (λ c. c.z) e) i)

    way_back : (u n m : Point) → let c = cross n m in on_axis (record { x = u.x *ℤ c.x; y = u.y *ℤ c.y; z = u.z *ℤ c.z }) ≡ true → int_lt (pos 0) (dot (sized u) (cross (faced n) (faced m))) ≡ true
    way_back u n m e = let c = cross n m in
        ap (int_lt (pos 0)) (bend_is u n m)
        ∙ sum_some (u.x *ℤ c.x) (u.y *ℤ c.y) (u.z *ℤ c.z)
        (some_product _ _ sx (some_product _ _ (some_product _ _ sz sx) (some_product _ _ sx sy)))
        (some_product _ _ sy (some_product _ _ (some_product _ _ sx sy) (some_product _ _ sy sz)))
        (some_product _ _ sz (some_product _ _ (some_product _ _ sy sz) (some_product _ _ sz sx))) e

  -- ---- the points of the faces

  open base_corners p dx dy use {q, r, t}

  q_is : q ≡ corner (at_bits true false false)
  q_is = same_vector _ _ refl (add_none p.y) (add_none p.z)

  r_is : r ≡ corner (at_bits true true false)
  r_is = same_vector _ _ refl refl (add_none p.z)

  t_is : t ≡ corner (at_bits false true false)
  t_is = same_vector _ _ (add_none p.x) refl (add_none p.z)

  raised : (x y : Bool) (o : Point) → o ≡ corner (at_bits x y false) → moved o (up_by dz) ≡ corner (at_bits x y true)
  raised x y o e = same_vector _ _ (add_none o.x ∙ ap (λ c. c.x) e) (add_none o.y ∙ ap (λ c. c.y) e) (ap (λ c. c.z +ℤ dz) e)

  top_points : all_moved (up_by dz) (base_of p dx dy) ≡ corners_of top
  top_points = λ i. raised false false p refl i ∷ raised true false q q_is i ∷ raised true true r r_is i ∷ raised false true t t_is i ∷ []

  bottom_points : turned_back (base_of p dx dy) ≡ corners_of bottom
  bottom_points = λ i. q_is i ∷ p ∷ t_is i ∷ r_is i ∷ []

  side_points : (x y u v : Bool) (o w : Point) → o ≡ corner (at_bits x y false) → w ≡ corner (at_bits u v false) → side_over (up_by dz) o w ≡ corners_of (side x y u v)
  side_points x y u v o w e f = λ i. e i ∷ f i ∷ raised u v w f i ∷ raised x y o e i ∷ []

  -- ---- a half-edge of a face

  module _ (M : Model) (sound : Sound M) (s h : ℕ) (half : HasHalf M h) where
    -- it is the half-edge of a row
    record Stands (r : Row) : Type 0 where
      starts : start M h ≡ corner r.from
      ends : finish M h ≡ corner r.to
      normal : normal M (face_at M h) ≡ faced r.looks

    module _ (q : Quad) (face : IsFaceOf M (face_at M h) s (corners_of q)) where
      looks : normal M (face_at M h) ≡ faced (looks_of q)
      unfolding plane_of
      looks = ap direction face.plane ∙ area_is q

      stands : (hs : List ℕ) → map (start M) hs ≡ corners_of q → ((i : ℕ) → i < length hs → finish M (get_or hs i 0) ≡ start M (get_or hs (next_place (length hs) i) 0)) → IsIn h hs → AnyOf Stands (rows_of q)
      stands [] e linked i = absurd (omega (arith, i))
      stands (a ∷ []) e linked i = absurd (omega (arith, ap length e))
      stands (a ∷ b ∷ []) e linked i = absurd (omega (arith, ap length e))
      stands (a ∷ b ∷ c ∷ []) e linked i = absurd (omega (arith, ap length e))
      stands (a ∷ b ∷ c ∷ d ∷ f ∷ hs) e linked i = absurd (omega (arith, ap length e))
      stands (a ∷ b ∷ c ∷ d ∷ []) e linked i = elim (eqb_tells h a) [
        | inl m ↦ inl (at a b q.a q.b m.1 (ap (λ t. nth t 0) e) (linked 0 (omega arith)) (ap (λ t. nth t 1) e))
        | inr m ↦ elim (eqb_tells h b) [
          | inl n ↦ inr (inl (at b c q.b q.c n.1 (ap (λ t. nth t 1) e) (linked 1 (omega arith)) (ap (λ t. nth t 2) e)))
          | inr n ↦ elim (eqb_tells h c) [
            | inl u ↦ inr (inr (inl (at c d q.c q.d u.1 (ap (λ t. nth t 2) e) (linked 2 (omega arith)) (ap (λ t. nth t 3) e))))
            | inr u ↦ inr (inr (inr (inl (at d a q.d q.a (IsIn_one d h (omega (arith, i, tick_other h a m.1, tick_other h b n.1, tick_other h c u.1))) (ap (λ t. nth t 3) e) (linked 3 (omega arith)) (ap (λ t. nth t 0) e)))))
          ]
        ]
      ] where
        at : (j k : ℕ) (from to : Bits) → h ≡ j → start M j ≡ corner from → finish M j ≡ start M k → start M k ≡ corner to → Stands (record { from = from; to = to; looks = looks_of q })
        at j k from to is begins meets ends = record { starts = ap (start M) is ∙ begins; ends = ap (finish M) is ∙ meets ∙ ends; normal = looks }

      path : IsPathOf M (face_at M h) (loop_of M h) (cycle_of M h)
      path = ring_path M sound (face_at M h) (loop_of M h) (cycle_of M h) (row_of M sound h half)

      outer_is : outer M (face_at M h) ≡ loop_of M h
      unfolding has_rings
      outer_is = no_rings_means M (face_at M h) (ap (λ rs. not (is_empty rs)) face.plain) (loop_of M h) path.there path.of_face

      half_stands : AnyOf Stands (rows_of q)
      half_stands = stands (cycle_of M h) (sym (points_are M (face_at M h) (loop_of M h) (cycle_of M h) face.plain outer_is path.content) ∙ face.points) path.linked (cycle_there M sound h half)

-- ---- a whole block

module _ (before after : Machine) (s : ℕ) (p : Point) (dx dy dz : ℤ) (sound : Sound (held before)) (made : IsBlock before after s p dx dy dz) where
  sizes : Some dx × Some dy × Some dz
  unfolding block_conditions
  sizes = let hold = (all_hold (block_conditions (held before) s p dx dy dz) made.0).1.1 in (some_of dx hold.0, some_of dy hold.1.0, some_of dz hold.1.1.0)

  now_sound : Sound (held after)
  now_sound = sound_after before after s p dx dy dz sound made

  abbrev IsQuad : ℕ → Quad → Type 0
  IsQuad k q = IsFaceOf (held after) k s (corners_of p dx dy dz q)

  quad_as : (k j : ℕ) (ps : List Point) (q : Quad) → k ≡ j → ps ≡ corners_of p dx dy dz q → IsFaceOf (held after) j s ps → IsQuad k q
  quad_as k j ps q e f face = subst (λ n. IsQuad n q) (sym e) (subst (IsFaceOf (held after) j s) f face)

  side_quad : (k i : ℕ) → i < 4 → (x y u v : Bool) → nth (base_of p dx dy) i ≡ corner p dx dy dz (at_bits x y false) → nth (base_of p dx dy) (next_place 4 i) ≡ corner p dx dy dz (at_bits u v false) →
      k ≡ last_face before + 3 + i → IsQuad k (side x y u v)
  side_quad k i l x y u v from to e = quad_as k (last_face before + 3 + i) _ (side x y u v) e
      (side_points p dx dy dz x y u v (nth (base_of p dx dy) i) (nth (base_of p dx dy) (next_place 4 i)) from to) (block_has_four_sides before after s p dx dy dz i sound made l)

  sides : (k i : ℕ) → i < 4 → k ≡ last_face before + 3 + i → AnyOf (IsQuad k) quads
  sides k zero l e = inr (inr (inl (side_quad k 0 l false false true false refl (q_is p dx dy dz) e)))
  sides k (suc zero) l e = inr (inr (inr (inl (side_quad k 1 l true false true true (q_is p dx dy dz) (r_is p dx dy dz) e))))
  sides k (suc (suc zero)) l e = inr (inr (inr (inr (inl (side_quad k 2 l true true false true (r_is p dx dy dz) (t_is p dx dy dz) e)))))
  sides k (suc (suc (suc zero))) l e = inr (inr (inr (inr (inr (inl (side_quad k 3 l false true false false (t_is p dx dy dz) refl e))))))
  sides k (suc (suc (suc (suc i)))) l e = absurd (omega (arith, l))

  one_quad : (k : ℕ) → IsOneOf (last_face before) k → AnyOf (IsQuad k) quads
  one_quad k (inl e) = inl (quad_as k (last_face before + 1) _ top e (top_points p dx dy dz) (block_has_top_and_bottom before after s p dx dy dz sound made).0)
  one_quad k (inr (inl e)) = inr (inl (quad_as k (last_face before + 2) _ bottom e (bottom_points p dx dy dz) (block_has_top_and_bottom before after s p dx dy dz sound made).1))
  one_quad k (inr (inr (i, l, e))) = sides k i l e

  some_quad : (k : ℕ) → Has (held after).faces k → solid_of (held after) k ≡ s → AnyOf (IsQuad k) quads
  some_quad k there of = elim (cases_lt (last_face before) k) [
    | inr m ↦ absurd (no_older before after s p dx dy dz sound made k m there of)
    | inl m ↦ one_quad k (one_of (last_face before) k m (subst (λ n. k ≤ n) (block_takes_six_faces before after s p dx dy dz sound made) (at_most_greatest (held after).faces k there)))
  ]

  module _ (h : ℕ) (half : HasHalf (held after) h) (of : solid_of (held after) (face_at (held after) h) ≡ s) where
    abbrev Place : Row → Type 0
    Place = Stands p dx dy dz (held after) now_sound s h half

    place : AnyOf (λ q. AnyOf Place (rows_of q)) quads
    place = any_mapped (IsQuad (face_at (held after) h)) (λ q. AnyOf Place (rows_of q)) quads
        (λ q face. half_stands p dx dy dz (held after) now_sound s h half q face) (some_quad (face_at (held after) h) (half_face (held after) now_sound h half) of)

    -- it has a row, which passes what all rows do
    row_of_half : (f : Row → Bool) → list_all (λ q. list_all f (rows_of q)) quads ≡ true → (r : Row) × Place r × (f r ≡ true)
    row_of_half f all = let q = any_passes (λ q. AnyOf Place (rows_of q)) (λ q. list_all f (rows_of q)) quads place all in any_passes Place f (rows_of q.0) q.1 q.2

  two_bend : (h : ℕ) → HasHalf (held after) h → solid_of (held after) (face_at (held after) h) ≡ s → BendsAway (held after) h
  two_bend h half of =
      let N : Model = held after in
      let r = row_of_half h half of bends_all all_bend in
      let t = row_of_half (mate h) (mate_there N h half) (sym (now_sound.one_solid h half) ∙ of) (bends r.0) r.2 in
      let begins : same_bits t.0.from r.0.to ≡ true = corner_told p dx dy dz sizes.0 sizes.1 sizes.2 t.0.from r.0.to (sym t.1.starts ∙ r.1.ends) in
      let ends : same_bits t.0.to r.0.from ≡ true = corner_told p dx dy dz sizes.0 sizes.1 sizes.2 t.0.to r.0.from (sym t.1.ends ∙ ap (start N) (mate-mate h) ∙ r.1.starts) in
      (λ i. int_lt (pos 0) (dot (towards (r.1.starts i) (r.1.ends i)) (cross (r.1.normal i) (t.1.normal i))))
      ∙ (λ i. int_lt (pos 0) (dot (ways p dx dy dz r.0.from r.0.to i) (cross (faced p dx dy dz r.0.looks) (faced p dx dy dz t.0.looks))))
      ∙ way_back p dx dy dz sizes.0 sizes.1 sizes.2 (way r.0.from r.0.to) r.0.looks t.0.looks (sym (λ i. not (begins i && ends i) || on_axis (along r.0 t.0)) ∙ t.2)

pub blocks_are_convex : BlocksAreConvex
blocks_are_convex before after s p dx dy dz sound made = record { convex = block_convex before after s p dx dy dz sound made; bends = two_bend before after s p dx dy dz sound made }
