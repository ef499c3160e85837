-- The glued solid: its other faces measure what they did, and the two that go added nothing together.
use Rattle.gluing_laws.proofs.Prelude.{◌≡◌, ◌≢◌, ℕ, true, false, cond, nat_eq, Bool, List, [], ◌∷◌, Option, Some, None, unwrap_or, refl, sym, ap, ◌∙◌, arith, inl, ◌+◌, ℤ, pos, ◌+ℤ◌, neg_ℤ, ◌++◌, map, is_some, true≢false, ◌⊎◌, option_map, ne_eqb, eq-eqb, eqb-true, nat_tests, eqb_tells, dot, count, IsIn, head_or, SameItems, successor, Table, tables, get-map_rows, Model, lone, cycle, FaceRow, LoopRow, no_face, no_loop, items_of, tail, content, face_of, outer, solid_of, point_of, rings_of, faces_of, after, Has, lists, faces_to_solid, mate, tick_same, tick_other, count-append, canonical_nil, IsIn_head, in-holds, face_row, item_loop, IsIn_some_head, IsIn_successor, moved_none, none_added, listed-from_in, listed_passes, listed_as, face_there, solid_either, mapped_some, loop_row, start, items_in, loops_of, boundary, corners, finish, rewritten, rewritten_row, area, normal, anchor, first_vertex, is_flat, volume_in, six_volume, negated, AgreeOn, IsReplaced, face_of_loop, area-append, corner_told, area_same, area_opposed, dot_back, normal_agrees, renamed_not, replaced_area, rings_agree, volume_stays, volume_told}
use Rattle.euler_operators.specs.Table as table
use Rattle.shapes.proofs.Common.{tail_in}
use Rattle.gluing_laws.proofs.Listed.{one_if, passed, same_search, volume_of, count_where, volume_append, volume_same, same_volumes}
use Rattle.gluing_laws.proofs.Seams as seams
use Rattle.gluing_laws.proofs.Seams.{Seamed, Glued, Stays, side}
use Rattle.std.proofs.lemmas.Int.{ints}

-- ---- corners

-- the items of a flat face's outer loop start at corners, and so tell what the anchor does
item_told : (M : Model) (k y : ℕ) → is_flat M k ≡ true → IsIn y (items_of (content M (outer M k))) → dot (start M y) (normal M k) ≡ dot (anchor M k) (normal M k)
unfolding corners loops_of
item_told M k y flat i = corner_told M k (tail M y) flat (listed-from_in (tail M y) (corners M k) (tail_in M y (outer M k) (loops_of M k) (IsIn_head (outer M k) (rings_of M k)) i))

-- ---- the six volumes of the glued solid: both faces go, and together they added nothing

-- ---- faces with one loop

pub only_loop : (M : Model) (k : ℕ) (cs : List ℕ) → rings_of M k ≡ [] → content M (outer M k) ≡ cycle cs → normal M k ≡ area M cs
unfolding normal boundary loops_of
only_loop M k cs alone is = ap (λ rs. area M (items_in M (outer M k ∷ rs))) alone ∙ ap (λ c. area M (items_of c ++ [])) is ∙ area-append M cs [] ∙ moved_none (area M cs)

-- ---- rows of faces

-- what is of s afterwards was of s or of t
of_both : (a s t : ℕ) → s ≢ t → one_if (nat_eq (cond (nat_eq a t) s a) s) ≡ one_if (nat_eq a s) + one_if (nat_eq a t)
of_both a s t ne = grind (arith, eqb_tells, one_if, eq-eqb, ne_eqb)

was_either : (a s t : ℕ) → nat_eq (cond (nat_eq a t) s a) s ≡ true → (a ≡ s) ⊎ (a ≡ t)
was_either a s t is = grind (arith, eqb_tells, eqb-true)

-- ---- the solids that aren't glued keep their six volumes

-- a solid that is neither s nor t has the faces that it had
of_neither : (a s t u : ℕ) → u ≢ s → u ≢ t → one_if (nat_eq (cond (nat_eq a t) s a) u) ≡ one_if (nat_eq a u)
of_neither a s t u not_s not_t = grind (arith, eqb_tells, one_if, ne_eqb)

module _ {M N : Model} {f g : ℕ} {partner_of : ℕ → ℕ} {hs gs : List ℕ} (w : Seamed M f g partner_of hs gs) (n : Glued M N f g partner_of hs) where
  abbrev swap : ℕ → ℕ
  swap = seams.swap w n

  abbrev StaysHere : ℕ → ℕ → Type 0
  StaysHere = Stays w n

  -- ---- loops

  abbrev kept : Table LoopRow
  kept = table.remove (table.remove M.loops (outer M f)) (outer M g)

  row_in : (l : ℕ) → table.get N.loops l ≡ option_map (rewritten_row (map swap) l) (table.get kept l)
  row_in l = ap (λ t. table.get t l) n.loops ∙ get-map_rows (rewritten_row (map swap)) kept l

  row_else : (l : ℕ) → l ≢ outer M f → l ≢ outer M g → table.get N.loops l ≡ option_map (rewritten_row (map swap) l) (table.get M.loops l)
  row_else l a b = row_in l ∙ ap (option_map (rewritten_row (map swap) l)) (grind (arith, nat_tests, tables))

  content_in : (l : ℕ) (o : Option LoopRow) → (unwrap_or (option_map (rewritten_row (map swap) l) o) no_loop).content ≡ rewritten (map swap) (unwrap_or o no_loop).content
  content_in l None = ap cycle (sym canonical_nil)
  content_in l (Some row) = refl

  pub content_is : (l : ℕ) → l ≢ outer M f → l ≢ outer M g → content N l ≡ rewritten (map swap) (content M l)
  unfolding content
  content_is l a b = ap (λ o. (unwrap_or o no_loop).content) (row_else l a b) ∙ content_in l (table.get M.loops l)

  pub each_swapped : (l : ℕ) → l ≢ outer M g → (y : ℕ) → IsIn y (items_of (content M l)) → StaysHere (swap y) y
  each_swapped l b y i = grind (arith, in-holds y (content M l) i, seams.swapped w n y, w.sound.only_edges y l, w.sound.one_loop y l)

  replaced : (l : ℕ) → Has M.loops l → l ≢ outer M f → l ≢ outer M g → IsReplaced M N swap l
  replaced l there a b = record {
    content_is = content_is l a b;
    good = λ hs is. w.sound.cycles l hs there is;
    halves = each_swapped l b;
    lones = λ v is. seams.point_kept w n v (λ h i e. w.sound.lone_is_no_tail l (partner_of h) (seams.half_g w (partner_of h) (seams.partner_in w h i)) (is ∙ ap lone (sym e)));
  }

  -- a loop that is there was there, and is none of the two that went
  was_there : (l : ℕ) → Has N.loops l → (l ≢ outer M f) × (l ≢ outer M g) × Has M.loops l
  was_there l there =
      let none : table.get kept l ≡ None → ⊥ = λ e. true≢false (sym there ∙ ap is_some (row_in l ∙ ap (option_map (rewritten_row (map swap) l)) e)) in
      let a : l ≢ outer M f = λ e. none (grind (arith, nat_tests, tables)) in
      let b : l ≢ outer M g = λ e. none (grind (arith, nat_tests, tables)) in
      (a, b, sym (mapped_some (rewritten_row (map swap) l) (table.get M.loops l)) ∙ ap is_some (sym (row_else l a b)) ∙ there)

  -- ---- faces

  abbrev pub to_s : ℕ → FaceRow → FaceRow
  to_s = faces_to_solid (λ _ row. nat_eq row.solid (solid_of M g)) (solid_of M f)

  abbrev pub faces_left : Table FaceRow
  faces_left = table.remove (table.remove M.faces f) g

  pub face_at_row : (k : ℕ) → table.get N.faces k ≡ option_map (to_s k) (table.get faces_left k)
  face_at_row k = ap (λ t. table.get t k) n.faces ∙ get-map_rows to_s faces_left k

  pub other_face : (k : ℕ) → k ≢ f → k ≢ g → table.get N.faces k ≡ option_map (to_s k) (table.get M.faces k)
  other_face k a b = face_at_row k ∙ ap (option_map (to_s k)) (grind (arith, nat_tests, tables))

  outer_either : (b : Bool) (row : FaceRow) → (cond b (record row { solid = solid_of M f }) row).outer ≡ row.outer
  outer_either true row = refl
  outer_either false row = refl

  outer_in : (k : ℕ) (o : Option FaceRow) → (unwrap_or (option_map (to_s k) o) no_face).outer ≡ (unwrap_or o no_face).outer
  outer_in k None = refl
  outer_in k (Some row) = outer_either (nat_eq row.solid (solid_of M g)) row

  -- face k is neither f nor g
  module _ (k : ℕ) (there : Has M.faces k) (not_f : k ≢ f) (not_g : k ≢ g) where
    pub outer_is : outer N k ≡ outer M k
    unfolding outer
    outer_is = ap (λ o. (unwrap_or o no_face).outer) (other_face k not_f not_g) ∙ outer_in k (table.get M.faces k)

    pub own : face_of M (outer M k) ≡ k
    own = (w.sound.outers_there k there).1

    pub loop_else : (l : ℕ) → face_of M l ≡ k → (l ≢ outer M f) × (l ≢ outer M g)
    loop_else l of = grind (arith, seams.face_f w, seams.face_g w)

    outer_replaced : IsReplaced M N swap (outer M k)
    outer_replaced = let e = loop_else (outer M k) own in replaced (outer M k) (w.sound.outers_there k there).0 e.0 e.1

    row_now : (l : ℕ) → Has M.loops l → l ≢ outer M f → l ≢ outer M g → table.get N.loops l ≡ Some (rewritten_row (map swap) l (record { face = face_of M l; content = content M l }))
    row_now l was a b = row_else l a b ∙ ap (option_map (rewritten_row (map swap) l)) (loop_row M l was)

    agree : AgreeOn M N k
    agree = record {
      outer_is = outer_is;
      stay = λ l was of. let e = loop_else l of in let now = row_now l was e.0 e.1 in (ap is_some now, face_row N l _ now ∙ of);
      back = λ l has of. let e = was_there l has in (e.2, sym (face_row N l _ (row_now l e.2 e.0 e.1)) ∙ of);
      areas = λ l i. let of = face_of_loop M w.sound k l there i in let e = loop_else l of.1 in replaced_area (replaced l of.0 e.0 e.1);
    }

    pub rings_are : rings_of N k ≡ rings_of M k
    rings_are = rings_agree agree

    pub normal_is : normal N k ≡ normal M k
    normal_is = normal_agrees agree

    -- the face adds what it did
    pub volume_is : is_flat M k ≡ true → volume_of N k ≡ volume_of M k
    volume_is flat = volume_told agree outer_replaced (λ h i. item_told M k h flat i)

  abbrev s : ℕ
  s = solid_of M f

  abbrev t : ℕ
  t = solid_of M g

  -- ---- the two faces

  normals_opposed : normal M g ≡ negated (normal M f)
  normals_opposed = only_loop M g gs w.alone_g w.second ∙ area_same M gs (map partner_of hs) w.partners ∙ area_opposed M partner_of hs (λ h i. (w.starts h i, w.ends h i)) ∙ ap negated (sym (only_loop M f hs w.alone_f w.first))

  -- an item of f ends where another starts
  item_ends : (h : ℕ) → IsIn h hs → dot (finish M h) (normal M f) ≡ volume_of M f
  unfolding after
  item_ends h i =
      let next : after M h ≡ successor hs h = ap (λ q. successor q h) (ap (λ l. items_of (content M l)) (seams.loop_f w h i) ∙ ap items_of w.first) in
      grind (arith, next, w.sound.ends_meet h (seams.half_f w h i), item_told M f (successor hs h) (w.flat f w.f_there (inl refl)), w.first, IsIn_successor h hs i)

  some_of_g : gs ≢ []
  some_of_g = (w.sound.cycles (outer M g) gs (w.sound.outers_there g w.g_there).0 w.second).some_item

  anchor_g : dot (anchor M g) (normal M f) ≡ volume_of M f
  anchor_g =
      let p = seams.partner_back w (head_or 0 gs) (IsIn_some_head gs some_of_g) in
      ap (λ c. dot (point_of M (first_vertex M c)) (normal M f)) w.second ∙ ap (λ k. dot (start M k) (normal M f)) p.2 ∙ ap (λ q. dot q (normal M f)) (w.starts p.0 p.1) ∙ item_ends p.0 p.1

  -- together they add nothing
  both_nothing : volume_of M f +ℤ volume_of M g ≡ pos 0
  both_nothing = ap (λ v. volume_of M f +ℤ v) (ap (dot (anchor M g)) normals_opposed ∙ dot_back (anchor M g) (normal M f) ∙ ap neg_ℤ anchor_g) ∙ none (volume_of M f) where
    none : (a : ℤ) → a +ℤ neg_ℤ a ≡ pos 0
    none a = omega (arith, ints)

  -- ---- the faces of the glued solid

  abbrev of : ℕ → ℕ → FaceRow → Bool
  of u k row = nat_eq row.solid u

  left_f : table.get faces_left f ≡ None
  left_f = grind (arith, nat_tests, tables)

  left_g : table.get faces_left g ≡ None
  left_g = grind (arith, nat_tests, tables)

  none_after : (k : ℕ) → table.get faces_left k ≡ None → count k (faces_of N s) ≡ 0
  none_after k e = count_where (of s) N.faces k ∙ ap (passed (of s) k) (face_at_row k ∙ ap (option_map (to_s k)) e)

  of_solid : (k u : ℕ) → Has M.faces k → count k (faces_of M u) ≡ one_if (nat_eq (solid_of M k) u)
  of_solid k u there = count_where (of u) M.faces k ∙ ap (passed (of u) k) (face_there M k there)

  abbrev SameAt : ℕ → Type 0
  SameAt k = count k (f ∷ g ∷ faces_of N s) ≡ count k (faces_of M s ++ faces_of M t)

  at_f : SameAt f
  at_f = grind (arith, of_solid, one_if, eq-eqb, ne_eqb, tick_same, tick_other, seams.faces_apart, none_after, left_f, count-append)

  at_g : SameAt g
  at_g = grind (arith, of_solid, one_if, ne_eqb, eq-eqb, tick_same, tick_other, seams.faces_apart, none_after, left_g, count-append)

  both_rows : (k : ℕ) (o : Option FaceRow) → passed (of s) k (option_map (to_s k) o) ≡ passed (of s) k o + passed (of t) k o
  both_rows k None = refl
  both_rows k (Some row) = ap (λ v. one_if (nat_eq v s)) (solid_either (nat_eq row.solid t) row s) ∙ of_both row.solid s t w.solids_apart

  at_other : (k : ℕ) → k ≢ f → k ≢ g → SameAt k
  at_other k a b = grind (arith, passed, count_where, other_face, both_rows, tick_other, count-append)

  -- the faces of both solids but the two
  same_faces : SameItems (f ∷ g ∷ faces_of N s) (faces_of M s ++ faces_of M t)
  same_faces k = grind (arith, eqb_tells, at_f, at_g, at_other)

  not_free : (k j : ℕ) → table.has N.faces k ≡ true → table.get faces_left j ≡ None → k ≢ j
  not_free k j there e q = true≢false (sym there ∙ ap is_some (face_at_row k ∙ ap (option_map (to_s k)) (ap (table.get faces_left) q ∙ e)))

  -- each adds what it did
  each_kept : (k : ℕ) → lists (faces_of N s) k ≡ true → volume_of N k ≡ volume_of M k
  each_kept k i =
      let r = listed_passes (of s) N.faces k i in
      let not_f : k ≢ f = not_free k f (ap is_some r.1) left_f in
      let not_g : k ≢ g = not_free k g (ap is_some r.1) left_g in
      let at = other_face k not_f not_g in
      let there : Has M.faces k = sym (mapped_some (to_s k) (table.get M.faces k)) ∙ ap is_some (sym at ∙ r.1) in
      let now : table.get N.faces k ≡ Some (to_s k (record { solid = solid_of M k; outer = outer M k })) = at ∙ ap (option_map (to_s k)) (face_there M k there) in
      let passes : of s k (to_s k (record { solid = solid_of M k; outer = outer M k })) ≡ true = sym (listed_as (of s) N.faces k (to_s k (record { solid = solid_of M k; outer = outer M k })) now) ∙ i in
      let solid = was_either (solid_of M k) s t (sym (ap (λ v. nat_eq v s) (solid_either (nat_eq (solid_of M k) t) (record { solid = solid_of M k; outer = outer M k }) s)) ∙ passes) in
      volume_is k there not_f not_g (w.flat k there solid)

  pub solids_add : six_volume N s ≡ six_volume M s +ℤ six_volume M t
  unfolding six_volume
  solids_add = same_volumes M N (faces_of N s) each_kept
      ∙ sym (none_added (volume_of M f) (volume_of M g) (volume_in M (faces_of N s)) both_nothing)
      ∙ volume_same M (f ∷ g ∷ faces_of N s) (faces_of M s ++ faces_of M t) same_faces
      ∙ volume_append M (faces_of M s) (faces_of M t)

  module _ (u : ℕ) (not_s : u ≢ solid_of M f) (not_t : u ≢ solid_of M g) where
    face_gone : (k : ℕ) → table.get faces_left k ≡ None → Has M.faces k → solid_of M k ≢ u → passed (of u) k (table.get N.faces k) ≡ passed (of u) k (table.get M.faces k)
    face_gone k e there ne = grind (arith, passed, face_at_row, face_there, one_if, ne_eqb)

    row_kept : (k : ℕ) (o : Option FaceRow) → passed (of u) k (option_map (to_s k) o) ≡ passed (of u) k o
    row_kept k None = refl
    row_kept k (Some row) = ap (λ v. one_if (nat_eq v u)) (solid_either (nat_eq row.solid (solid_of M g)) row (solid_of M f)) ∙ of_neither row.solid (solid_of M f) (solid_of M g) u not_s not_t

    faces_are : faces_of N u ≡ faces_of M u
    faces_are = same_search (of u) (of u) N.faces M.faces (λ k. let other = other_face k in let row = row_kept k (table.get M.faces k) in
        grind (arith, eqb_tells k f, eqb_tells k g, face_gone k, w.f_there, w.g_there, not_s, not_t, other, row, left_f, left_g))

    module _ (k : ℕ) (there : Has M.faces k) (is_of : solid_of M k ≡ u) where
      not_f : k ≢ f
      not_f e = not_s (sym is_of ∙ ap (solid_of M) e)

      not_g : k ≢ g
      not_g e = not_t (sym is_of ∙ ap (solid_of M) e)

      side_is : (y : ℕ) → IsIn y (items_of (content M (outer M k))) → side w y ≡ u
      side_is y i = ap (solid_of M) (ap (face_of M) (item_loop M w.sound (outer M k) y i) ∙ own k there not_f not_g) ∙ is_of

      -- nothing there is replaced
      nothing_replaced : (y : ℕ) → IsIn y (items_of (content M (outer M k))) → swap y ≡ y
      nothing_replaced y i = renamed_not (λ h. mate (partner_of h)) (λ h. h) hs y (λ h j e.
          let p = seams.partner_in w h j in
          not_t (sym (side_is y i) ∙ ap (side w) (sym e) ∙ seams.side_mate w (partner_of h) (seams.half_g w (partner_of h) p) ∙ seams.side_g w (partner_of h) p))

      pub volume_kept : volume_of N k ≡ volume_of M k
      volume_kept = volume_stays (agree k there not_f not_g) (outer_replaced k there not_f not_g) nothing_replaced

    pub others_stay : six_volume N u ≡ six_volume M u
    unfolding six_volume
    others_stay = ap (volume_in N) faces_are
        ∙ same_volumes M N (faces_of M u) (λ k i. grind (arith, listed_passes, volume_kept, eqb-true, listed_as, face_there))
