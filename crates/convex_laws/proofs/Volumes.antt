-- The six volumes of a strictly convex solid: seen from a vertex, no face takes any away, and one adds some.
use Rattle.convex_laws.proofs.Prelude.{list_all, int_eq, ◌≡◌, ◌≢◌, ℕ, ℤ, pos, ◌+ℤ◌, ◌-ℤ◌, ◌*ℤ◌, neg_ℤ, int_lt, Bool, true, false, not, ◌&&◌, List, [], ◌∷◌, refl, sym, ap, subst, ◌∙◌, arith, true≢false, inl, inr, and_parts, ints, Plane, Point, origin, moved, cross, direction, dot, height, is_on, mate, same_point, IsIn, Model, content, face_at, face_of, faces_of, items_of, point_of, solid_of, Sound, Has, HasHalf, lists, add_none, count-append, dif-parts, difs, dot_origin, dot_sum, dot_turned, IsIn_head, IsIn_or_not, item_loop, mate_there, neg-dif, same_dif, first_listed, half_face, listed_cases, rest_listed, anchor, area, boundary, corners, finish, is_flat, items_in, loops_of, normal, plane_of, six_volume, start, towards, volume_in, anchor_on, face_listed, face_of_loop, face_told, items_there, listed_face, some_direction, ConvexSolidsHaveVolume, IsStrictlyConvex, IsVertexOf}
use Rattle.solid_measure_laws.specs.Models.{normals_in}
use Rattle.solid_measure_laws.proofs.Moved.{normals_close}
use Rattle.convex_laws.proofs.Levels.{first_more, no_less, rest_more}

-- ---- the six volumes, seen from a point

seen_part : (a b c x y z u v w : ℤ) → x *ℤ a +ℤ y *ℤ b +ℤ z *ℤ c ≡ (a *ℤ (x -ℤ u) +ℤ b *ℤ (y -ℤ v) +ℤ c *ℤ (z -ℤ w)) +ℤ (u *ℤ a +ℤ v *ℤ b +ℤ w *ℤ c)
seen_part a b c x y z u v w = rw (dif-parts a, dif-parts b, dif-parts c, dif-parts x, dif-parts y, dif-parts z, dif-parts u, dif-parts v, dif-parts w) (simp (difs, neg-dif) (same_dif _ _ _ _ (omega arith)))

depth_part : (a b c x y z u v w : ℤ) → (a *ℤ u +ℤ b *ℤ v +ℤ c *ℤ w) +ℤ neg_ℤ (a *ℤ x +ℤ b *ℤ y +ℤ c *ℤ z) ≡ neg_ℤ (a *ℤ (x -ℤ u) +ℤ b *ℤ (y -ℤ v) +ℤ c *ℤ (z -ℤ w))
depth_part a b c x y z u v w = rw (dif-parts a, dif-parts b, dif-parts c, dif-parts x, dif-parts y, dif-parts z, dif-parts u, dif-parts v, dif-parts w) (simp (difs, neg-dif) (same_dif _ _ _ _ (omega arith)))

module _ (M : Model) (q : Point) where
  -- how deep q lies under a face, times the length of its normal
  abbrev pub depth : ℕ → ℤ
  depth k = dot (normal M k) (towards q (anchor M k))

  abbrev depths : List ℕ → ℤ
  depths [] = pos 0
  depths (k ∷ ks) = depth k +ℤ depths ks

  pub height_is : (k : ℕ) → height (plane_of M k) q ≡ neg_ℤ (depth k)
  unfolding plane_of
  height_is k = let n = normal M k in let a = anchor M k in depth_part n.x n.y n.z a.x a.y a.z q.x q.y q.z

  anchor_seen : (k : ℕ) → dot (anchor M k) (normal M k) ≡ depth k +ℤ dot q (normal M k)
  anchor_seen k = let n = normal M k in let a = anchor M k in seen_part n.x n.y n.z a.x a.y a.z q.x q.y q.z

  exchanged : (a b c d : ℤ) → (a +ℤ b) +ℤ (c +ℤ d) ≡ (a +ℤ c) +ℤ (b +ℤ d)
  exchanged a b c d = omega (arith, ints)

  volume_seen : (ks : List ℕ) → volume_in M ks ≡ depths ks +ℤ dot q (normals_in M ks)
  volume_seen [] = sym (add_none (dot q origin) ∙ dot_turned q origin ∙ dot_origin q) ∙ none_before (dot q origin) where
    none_before : (a : ℤ) → a +ℤ pos 0 ≡ pos 0 +ℤ a
    none_before a = omega (arith, ints)
  volume_seen (k ∷ ks) =
      (λ i. anchor_seen k i +ℤ volume_seen ks i)
      ∙ exchanged (depth k) (dot q (normal M k)) (depths ks) (dot q (normals_in M ks))
      ∙ ap (λ d. depths (k ∷ ks) +ℤ d) (sym (dot_sum q (normal M k) (normals_in M ks)))

  six_seen : Sound M → (s : ℕ) → six_volume M s ≡ depths (faces_of M s)
  unfolding six_volume
  six_seen sound s =
      volume_seen (faces_of M s) ∙ ap (λ n. depths (faces_of M s) +ℤ dot q n) (normals_close M sound s)
      ∙ ap (λ d. depths (faces_of M s) +ℤ d) (dot_turned q origin ∙ dot_origin q) ∙ add_none (depths (faces_of M s))

  -- ---- their signs

  not_low : (d : ℤ) → int_lt (pos 0) (neg_ℤ d) ≡ false → int_lt d (pos 0) ≡ false
  not_low d e = grind (arith, ints)

  some_depth : (d : ℤ) → int_lt d (pos 0) ≡ false → d ≢ pos 0 → int_lt (pos 0) d ≡ true
  some_depth d e ne = grind (arith, ints)

  abbrev NoneAbove : List ℕ → Type 0
  NoneAbove ks = (k : ℕ) → lists ks k ≡ true → int_lt (depth k) (pos 0) ≡ false

  none_less : (ks : List ℕ) → NoneAbove ks → int_lt (depths ks) (pos 0) ≡ false
  none_less [] each = refl
  none_less (k ∷ ks) each = no_less (depth k) (depths ks) (each k (first_listed k ks)) (none_less ks (λ j i. each j (rest_listed k j ks i)))

  some_more : (ks : List ℕ) → NoneAbove ks → (k : ℕ) → lists ks k ≡ true → int_lt (pos 0) (depth k) ≡ true → int_lt (pos 0) (depths ks) ≡ true
  some_more [] each k i more = absurd (true≢false (sym i))
  some_more (j ∷ ks) each k i more = elim (listed_cases j k ks i) [
    | inl e ↦ first_more (depth j) (depths ks) (subst (λ n. int_lt (pos 0) (depth n) ≡ true) e more) (none_less ks (λ n m. each n (rest_listed j n ks m)))
    | inr m ↦ rest_more (depth j) (depths ks) (each j (first_listed j ks)) (some_more ks (λ n m. each n (rest_listed j n ks m)) k m more)
  ]

-- ---- a corner that isn't on the plane beyond an edge

fails_somewhere : (p : ℕ → Bool) (xs : List ℕ) → list_all p xs ≡ false → (x : ℕ) × (lists xs x ≡ true) × (p x ≡ false)
fails_somewhere p [] e = absurd (true≢false e)
fails_somewhere p (x ∷ xs) e = fails (p x) refl (λ f. fails_somewhere p xs (ap (λ b. b && list_all p xs) (sym f) ∙ e)) where
  fails : (b : Bool) → p x ≡ b → (p x ≡ true → (y : ℕ) × (lists xs y ≡ true) × (p y ≡ false)) → (y : ℕ) × (lists (x ∷ xs) y ≡ true) × (p y ≡ false)
  fails false f later = (x, first_listed x xs, f)
  fails true f later = let r = later f in (r.0, rest_listed x r.0 xs r.1, r.2)

across_part : (a b c d x y z u v w : ℤ) → (a *ℤ (x +ℤ (v *ℤ c -ℤ w *ℤ b)) +ℤ b *ℤ (y +ℤ (w *ℤ a -ℤ u *ℤ c)) +ℤ c *ℤ (z +ℤ (u *ℤ b -ℤ v *ℤ a))) +ℤ d ≡ (a *ℤ x +ℤ b *ℤ y +ℤ c *ℤ z) +ℤ d
across_part a b c d x y z u v w = rw (dif-parts a, dif-parts b, dif-parts c, dif-parts d, dif-parts x, dif-parts y, dif-parts z, dif-parts u, dif-parts v, dif-parts w) (simp difs (same_dif _ _ _ _ (omega arith)))

bend_part : (x y z u v w a b c l m n : ℤ) →
    u *ℤ (m *ℤ c -ℤ n *ℤ b) +ℤ v *ℤ (n *ℤ a -ℤ l *ℤ c) +ℤ w *ℤ (l *ℤ b -ℤ m *ℤ a)
    ≡ (x *ℤ l +ℤ y *ℤ m +ℤ z *ℤ n) -ℤ ((x +ℤ (v *ℤ c -ℤ w *ℤ b)) *ℤ l +ℤ (y +ℤ (w *ℤ a -ℤ u *ℤ c)) *ℤ m +ℤ (z +ℤ (u *ℤ b -ℤ v *ℤ a)) *ℤ n)
bend_part x y z u v w a b c l m n = rw (dif-parts x, dif-parts y, dif-parts z, dif-parts u, dif-parts v, dif-parts w, dif-parts a, dif-parts b, dif-parts c, dif-parts l, dif-parts m, dif-parts n) (simp difs (same_dif _ _ _ _ (omega arith)))

no_bend : (a b : ℤ) → a ≡ b → int_lt (pos 0) (a -ℤ b) ≡ true → ⊥
no_bend a b e more = true≢false (sym more ∙ ap (int_lt (pos 0)) none) where
  none : a -ℤ b ≡ pos 0
  none = omega (arith, ints, e)

module _ (M : Model) (s : ℕ) (sound : Sound M) (convex : IsStrictlyConvex M s) (h : ℕ) (half : HasHalf M h) (of : solid_of M (face_at M h) ≡ s) where
  abbrev here : ℕ
  here = face_at M h

  abbrev beyond : ℕ
  beyond = face_at M (mate h)

  abbrev far : Plane
  far = plane_of M beyond

  here_there : Has M.faces here
  here_there = half_face M sound h half

  beyond_there : Has M.faces beyond
  beyond_there = half_face M sound (mate h) (mate_there M h half)

  beyond_of : solid_of M beyond ≡ s
  beyond_of = sym (sound.one_solid h half) ∙ of

  directed : not (same_point (direction far) origin) ≡ true
  unfolding is_flat
  directed = (and_parts (not (same_point (direction far) origin)) (list_all (λ v. is_on far (point_of M v)) (corners M beyond)) (convex.convex.flat beyond beyond_there beyond_of)).0

  -- along the way and across the face beyond, from r, one stays on its plane
  abbrev aside : Point → Point
  aside r = moved r (cross (towards (start M h) (finish M h)) (normal M beyond))

  still_on : (r : Point) → is_on far r ≡ true → is_on far (aside r) ≡ true
  unfolding plane_of
  still_on r on = let n = normal M beyond in let w = towards (start M h) (finish M h) in
      ap (λ d. int_eq d (pos 0)) (across_part n.x n.y n.z far.d r.x r.y r.z w.x w.y w.z) ∙ on

  not_all_on : list_all (λ v. is_on far (point_of M v)) (corners M here) ≡ true → ⊥
  not_all_on all =
      let r = anchor M here in let q = aside r in let n = normal M beyond in let m = normal M here in let w = towards (start M h) (finish M h) in
      let on : is_on far r ≡ true = anchor_on M far here sound here_there all in
      no_bend (dot r m) (dot q m) (face_told M far here r q sound (λ i. directed i && all i) on (still_on r on))
      (ap (int_lt (pos 0)) (sym (bend_part r.x r.y r.z w.x w.y w.z n.x n.y n.z m.x m.y m.z)) ∙ convex.bends h half of)

  -- so some corner of the face lies under that plane
  pub record Under : Type 0 where
    pub vertex : ℕ
    pub corner : lists (corners M here) vertex ≡ true
    pub depth : int_lt (pos 0) (depth M (point_of M vertex) beyond) ≡ true

  pub under : Under
  under = found (list_all (λ v. is_on far (point_of M v)) (corners M here)) refl where
    off : (d : ℤ) → int_eq (neg_ℤ d) (pos 0) ≡ false → d ≢ pos 0
    off d e is = true≢false (sym (ap (λ x. int_eq (neg_ℤ x) (pos 0)) is) ∙ e)

    found : (b : Bool) → list_all (λ v. is_on far (point_of M v)) (corners M here) ≡ b → Under
    found true e = absurd (not_all_on e)
    found false e =
        let f = fails_somewhere (λ v. is_on far (point_of M v)) (corners M here) e in
        let q = point_of M f.0 in
        let low = convex.convex.below beyond beyond_there beyond_of f.0 (record { face = here; there = here_there; solid = of; corner = f.1 }) in
        record {
          vertex = f.0;
          corner = f.1;
          depth = some_depth M q (depth M q beyond) (not_low M q (depth M q beyond) (ap (int_lt (pos 0)) (sym (height_is M q beyond)) ∙ low)) (off (depth M q beyond) (ap (λ d. int_eq d (pos 0)) (sym (height_is M q beyond)) ∙ f.2));
        }

  has_volume : int_lt (pos 0) (six_volume M s) ≡ true
  has_volume =
      let u = under in let q = point_of M u.vertex in
      let vertex : IsVertexOf M s u.vertex = record { face = here; there = here_there; solid = of; corner = u.corner } in
      ap (int_lt (pos 0)) (six_seen M q sound s)
      ∙ some_more M q (faces_of M s)
      (λ k i. let f = listed_face M sound s k i in not_low M q (depth M q k) (ap (int_lt (pos 0)) (sym (height_is M q k)) ∙ convex.convex.below k f.0 f.1 u.vertex vertex))
      beyond (face_listed M sound s beyond beyond_there beyond_of) u.depth

-- ---- a flat face has a half-edge

module _ (M : Model) (sound : Sound M) where
  pub item_of_one : (ls : List ℕ) (x : ℕ) → IsIn x (items_in M ls) → (l : ℕ) × (lists ls l ≡ true) × IsIn x (items_of (content M l))
  item_of_one [] x i = absurd (omega (arith, i))
  item_of_one (l ∷ ls) x i = elim (IsIn_or_not x (items_of (content M l))) [
    | inl j ↦ (l, first_listed l ls, j)
    | inr z ↦ let r = item_of_one ls x (omega (arith, i, z, count-append x (items_of (content M l)) (items_in M ls))) in (r.0, rest_listed l r.0 ls r.1, r.2)
  ]

  flat_has_half : (k : ℕ) → Has M.faces k → is_flat M k ≡ true → (h : ℕ) × HasHalf M h × (face_at M h ≡ k)
  unfolding is_flat plane_of normal boundary
  flat_has_half k there flat = first (items_in M (loops_of M k)) refl where
    first : (hs : List ℕ) → items_in M (loops_of M k) ≡ hs → (h : ℕ) × HasHalf M h × (face_at M h ≡ k)
    first [] e = absurd (some_direction (plane_of M k) (and_parts (not (same_point (direction (plane_of M k)) origin)) _ flat).0 (ap (area M) e))
    first (h ∷ hs) e =
        let i : IsIn h (items_in M (loops_of M k)) = subst (IsIn h) (sym e) (IsIn_head h hs) in
        let l = item_of_one (loops_of M k) h i in
        (h, items_there M sound (loops_of M k) h i, ap (face_of M) (item_loop M sound l.0 h l.2) ∙ (face_of_loop M sound k l.0 there l.1).1)

pub convex_solids_have_volume : ConvexSolidsHaveVolume
convex_solids_have_volume M s sound there convex =
    let k = sound.solid_has_face s there in
    let h = flat_has_half M sound k.0 k.1 (convex.convex.flat k.0 k.1 k.2) in
    has_volume M s sound convex h.0 h.1 (ap (solid_of M) h.2 ∙ k.2)
