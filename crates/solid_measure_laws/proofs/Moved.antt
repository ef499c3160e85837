-- A model moved: normals stay, and volumes grow by the sum of the normals along the way, which is nothing over a whole solid.
-- A model with its loops run the other way: a solid with flat faces, turned inside out.
use Rattle.std.proofs.Common.{◌≡◌, ◌≢◌, ℕ, nat_eq, ℤ, ◌+ℤ◌, ◌-ℤ◌, ◌*ℤ◌, true, List, [], ◌∷◌, ◌++◌, Option, Some, None, is_some, unwrap_or, refl, sym, ap, ◌∙◌, arith, true≢false, ◌+◌, Bool, false, cond, not, ◌&&◌, map, inl, inr, reverse, neg_ℤ, option_map}
use Rattle.std.proofs.lemmas.Int.{ints}
use Rattle.euler_operators.specs.Common.{Point, origin, moved, dot, cross, same_point, is_on, direction, IsIn, count, tick, SameItems, head_or, mate, get-map_rows, Model, LoopContent, lone, cycle, no_point, items_of, tail, content, outer, point_of, faces_of, has_half, holds, loop_of, face_of, solid_of, rings_of, LoopRow, no_loop, after, Sound, Has, HasHalf, lists, strictly_rises, canonical, IsRing, Plane}
use Rattle.euler_operators.specs.Table as table
use Rattle.euler_operators.proofs.Common.{in-holds, mate_there, holds_in, loop_there, dif-parts, difs, same_dif, same_vector, moved_none, dot_moved, dot_turned, dot_origin, dot_sum, add_none, IsIn_rest, IsIn_first, each_mapped, IsIn_head, canonical_nil, count-canonical, count-append, tick_same, tick_other, IsIn_or_not, edge_of-mate, mate-mate, all_where-map, SameItems-from_permutation, ring_stays}
use Rattle.euler_laws.proofs.Common.{first_listed, rest_listed, listed_passes, listed_as, all_where-rises, IsIn-from_listed, light, loop_row, face_there, counted_once, none_counted}
use Rattle.shapes.specs.Common.{start, finish, loops_of, items_in, boundary, vertices_on, corners, area, normal, anchor, first_vertex, volume_in, six_volume, plane_of, is_flat, towards, negated}
use Rattle.shapes.proofs.Common.{area-append, area_kept, areas_kept, cross_nothing, begins, IsPathTo, loop_closed, items_there, area_same, area_mates, own_opposite, count-mates, area_back, moved_back, dot_back, list_parts, are_on, plane_told}
use Rattle.solid_measure_laws.specs.Models.{shifted, normals_in, run_back, row_back, turned}
use Rattle.std.proofs.lemmas.Bool.Decides.{nat_tests}
use Rattle.std.specs.List.{list_all}
use Rattle.std.proofs.lemmas.Bool.{and_parts}
use Rattle.std.proofs.lemmas.List.Sorted.{IsPermutation-reverse}

-- ---- a path moved by d: from p over q to e

-- (a, b) to (e, f), moved by (h, k), before a path to (l, m) with the sum g
step_part : (a b e f h k g l m : ℤ) →
    ((a +ℤ h) *ℤ (f +ℤ k) -ℤ (b +ℤ k) *ℤ (e +ℤ h)) +ℤ (g +ℤ (h *ℤ (m -ℤ f) -ℤ k *ℤ (l -ℤ e))) ≡ ((a *ℤ f -ℤ b *ℤ e) +ℤ g) +ℤ (h *ℤ (m -ℤ b) -ℤ k *ℤ (l -ℤ a))
step_part a b e f h k g l m = rw (dif-parts a, dif-parts b, dif-parts e, dif-parts f, dif-parts h, dif-parts k, dif-parts g, dif-parts l, dif-parts m) (simp difs (same_dif _ _ _ _ (omega arith)))

step_moved : (p q d a e : Point) → moved (cross (moved p d) (moved q d)) (moved a (cross d (towards q e))) ≡ moved (moved (cross p q) a) (cross d (towards p e))
step_moved p q d a e = same_vector _ _ (step_part p.y p.z q.y q.z d.y d.z a.x e.y e.z) (step_part p.z p.x q.z q.x d.z d.x a.y e.z e.x) (step_part p.x p.y q.x q.y d.x d.y a.z e.x e.y)

nowhere : (p : Point) → towards p p ≡ origin
nowhere p = same_vector _ origin (omega (arith, ints)) (omega (arith, ints)) (omega (arith, ints))

-- nothing moved
stays : (d e p : Point) → moved p (cross d (towards e e)) ≡ p
stays d e p = ap (λ v. moved p (cross d v)) (nowhere e) ∙ ap (moved p) (cross_nothing d) ∙ moved_none p

module _ (M : Model) (d : Point) where
  abbrev N : Model
  N = shifted M d

  point_in : (o : Option Point) → is_some o ≡ true → unwrap_or (option_map (λ p. moved p d) o) no_point ≡ moved (unwrap_or o no_point) d
  point_in None e = absurd (true≢false (sym e))
  point_in (Some p) e = refl

  pub point_moved : (v : ℕ) → Has M.vertices v → point_of N v ≡ moved (point_of M v) d
  unfolding shifted point_of
  point_moved v there = ap (λ o. unwrap_or o no_point) (get-map_rows (λ _ p. moved p d) M.vertices v) ∙ point_in (table.get M.vertices v) there

  content_kept : (l : ℕ) → content N l ≡ content M l
  unfolding shifted content
  content_kept l = refl

  loops_kept : (f : ℕ) → loops_of N f ≡ loops_of M f
  unfolding shifted loops_of outer
  loops_kept f = refl

  -- ---- normals

  module _ (sound : Sound M) where
    start_moved : (h : ℕ) → HasHalf M h → start N h ≡ moved (start M h) d
    unfolding shifted tail
    start_moved h there = point_moved (tail M h) (sound.tails_there h there)

    finish_moved : (h : ℕ) → HasHalf M h → finish N h ≡ moved (finish M h) d
    finish_moved h there = start_moved (mate h) (mate_there M h there)

    path_moved : (hs : List ℕ) (e : Point) → IsPathTo M hs e → ((h : ℕ) → IsIn h hs → HasHalf M h) → area N hs ≡ moved (area M hs) (cross d (towards (begins M hs e) e))
    path_moved [] e leads there = sym (stays d e origin)
    path_moved (h ∷ hs) e leads there =
        let t = there h (IsIn_head h hs) in
        (λ i. moved (cross (start_moved h t i) (finish_moved h t i)) ((path_moved hs e leads.1 (λ g j. there g (IsIn_rest g h hs j)) ∙ ap (λ p. moved (area M hs) (cross d (towards p e))) (sym leads.0)) i))
        ∙ step_moved (start M h) (finish M h) d (area M hs) e

    loop_moved : (l : ℕ) → area N (items_of (content M l)) ≡ area M (items_of (content M l))
    loop_moved l = path_moved (items_of (content M l)) (begins M (items_of (content M l)) origin) (loop_closed M sound l) (λ h i. sound.only_edges h l (in-holds h (content M l) i)) ∙ ends (items_of (content M l)) where
      ends : (hs : List ℕ) → moved (area M hs) (cross d (towards (begins M hs (begins M hs origin)) (begins M hs origin))) ≡ area M hs
      ends [] = stays d origin (area M [])
      ends (h ∷ hs) = stays d (start M h) (area M (h ∷ hs))

    -- each face keeps its normal
    pub normal_kept : (f : ℕ) → normal N f ≡ normal M f
    unfolding normal boundary
    normal_kept f = ap (λ ls. area N (items_in N ls)) (loops_kept f) ∙ areas_kept M N (loops_of M f) (λ l i. ap (λ c. area N (items_of c)) (content_kept l) ∙ loop_moved l)

    -- ---- volumes

    first_moved : (x : LoopContent) → x ≢ cycle [] → ((v : ℕ) → x ≡ lone v → Has M.vertices v) → ((h : ℕ) → IsIn h (items_of x) → HasHalf M h) → point_of N (first_vertex N x) ≡ moved (point_of M (first_vertex M x)) d
    first_moved (lone v) ne lones halves = point_moved v (lones v refl)
    first_moved (cycle []) ne lones halves = absurd (ne refl)
    first_moved (cycle (h ∷ hs)) ne lones halves = start_moved h (halves h (IsIn_head h hs))

    anchor_moved : (f : ℕ) → Has M.faces f → anchor N f ≡ moved (anchor M f) d
    unfolding shifted outer
    anchor_moved f there =
        let l = outer M f in
        ap (λ x. point_of N (first_vertex N x)) (content_kept l)
        ∙ first_moved (content M l) (λ e. (sound.cycles l [] (sound.outers_there f there).0 e).some_item refl) (λ v e. sound.lone_at_vertex l v e) (λ h i. sound.only_edges h l (in-holds h (content M l) i))

    face_moved : (f : ℕ) → Has M.faces f → dot (anchor N f) (normal N f) ≡ dot (anchor M f) (normal M f) +ℤ dot d (normal M f)
    face_moved f there = (λ i. dot (anchor_moved f there i) (normal_kept f i)) ∙ dot_moved (anchor M f) d (normal M f)

    faces_moved : (fs : List ℕ) → ((f : ℕ) → lists fs f ≡ true → Has M.faces f) → volume_in N fs ≡ volume_in M fs +ℤ dot d (normals_in M fs)
    faces_moved [] there = sym (dot_origin d) ∙ dot_turned origin d ∙ omega (arith, ints)
    faces_moved (f ∷ fs) there =
        (λ i. face_moved f (there f (first_listed f fs)) i +ℤ faces_moved fs (λ g j. there g (rest_listed f g fs j)) i)
        ∙ omega (arith, ints)
        ∙ ap (λ t. volume_in M (f ∷ fs) +ℤ t) (sym (dot_sum d (normal M f) (normals_in M fs)))

    -- the six volumes grow by the sum of the normals along d
    pub volume_moved : (s : ℕ) → six_volume N s ≡ six_volume M s +ℤ dot d (normals_in M (faces_of M s))
    unfolding six_volume shifted
    volume_moved s = faces_moved (faces_of M s) (λ f i. ap is_some (listed_passes (λ _ row. nat_eq row.solid s) M.faces f i).1)

-- ---- the normals of a solid's faces sum to nothing: each edge has both its halves there

-- ---- counting

-- a rising list has once what it lists
count_listed : (q : ℕ) (ns : List ℕ) → strictly_rises ns ≡ true → count q ns ≡ cond (lists ns q) 1 0
count_listed q ns up = grind (arith, counted_once q ns up, IsIn-from_listed q ns, none_counted q ns)

-- the half-edges of some faces
abbrev pub halves_in : Model → List ℕ → List ℕ
halves_in M [] = []
halves_in M (f ∷ fs) = boundary M f ++ halves_in M fs

normals_area : (M : Model) (fs : List ℕ) → normals_in M fs ≡ area M (halves_in M fs)
unfolding normal
normals_area M [] = refl
normals_area M (f ∷ fs) = ap (moved (area M (boundary M f))) (normals_area M fs) ∙ sym (area-append M (boundary M f) (halves_in M fs))

module _ (M : Model) (sound : Sound M) where
  mates_there : (h : ℕ) → has_half M (mate h) ≡ has_half M h
  mates_there h = ap (table.has M.edges) (edge_of-mate h)

  -- a half-edge that is there stands once in its loop, and in no other
  module _ (x : ℕ) (there : HasHalf M x) where
    in_loop : (l : ℕ) → count x (items_of (content M l)) ≡ tick (loop_of M x) l
    in_loop l = elim (IsIn_or_not x (items_of (content M l))) [
      | inl i ↦ let e = sound.one_loop x l (in-holds x (content M l) i) in omega (arith, i, (light M sound l).0 x, ap (λ k. tick k l) e, tick_same l)
      | inr z ↦ z ∙ sym (tick_other (loop_of M x) l (λ e. let i = holds_in x (content M l) (sym (ap (λ k. holds x (content M k)) e) ∙ sound.stands x there) in omega (arith, z, i)))
    ]

    in_loops : (ls : List ℕ) → count x (items_in M ls) ≡ count (loop_of M x) ls
    in_loops [] = refl
    in_loops (l ∷ ls) = count-append x (items_of (content M l)) (items_in M ls) ∙ (λ i. in_loop l i + in_loops ls i)

  -- a loop is one of its face's loops, and of no other's
  loop_counted : (l f : ℕ) → Has M.loops l → Has M.faces f → count l (loops_of M f) ≡ tick (face_of M l) f
  unfolding loops_of
  loop_counted l f there face =
      ap (λ n. tick l (outer M f) + n) (count_listed l (rings_of M f) (all_where-rises (λ q row. nat_eq row.face f && not (nat_eq (outer M f) q)) M.loops)
      ∙ ap (λ b. cond b 1 0) (listed_as (λ q row. nat_eq row.face f && not (nat_eq (outer M f) q)) M.loops l _ (loop_row M l there)))
      ∙ once l (outer M f) (face_of M l) f (λ e. ap (face_of M) e ∙ (sound.outers_there f face).1) where
        once : (l o g f : ℕ) → (l ≡ o → g ≡ f) → tick l o + cond (nat_eq g f && not (nat_eq o l)) 1 0 ≡ tick g f
        once l o g f own = grind (arith, nat_tests, own)

  -- so a half-edge stands once in the boundary of one face
  in_faces : (x : ℕ) (there : HasHalf M x) (fs : List ℕ) → ((f : ℕ) → lists fs f ≡ true → Has M.faces f) → count x (halves_in M fs) ≡ count (face_of M (loop_of M x)) fs
  unfolding boundary
  in_faces x there [] faces = refl
  in_faces x there (f ∷ fs) faces = count-append x (items_in M (loops_of M f)) (halves_in M fs)
      ∙ (λ i. (in_loops x there (loops_of M f) ∙ loop_counted (loop_of M x) f (loop_there M sound x there) (faces f (first_listed f fs))) i + in_faces x there fs (λ g j. faces g (rest_listed f g fs j)) i)

  -- a face is one of its solid's
  face_counted : (f s : ℕ) → Has M.faces f → count f (faces_of M s) ≡ cond (nat_eq (solid_of M f) s) 1 0
  face_counted f s there = count_listed f (faces_of M s) (all_where-rises (λ _ row. nat_eq row.solid s) M.faces) ∙ ap (λ b. cond b 1 0) (listed_as (λ _ row. nat_eq row.solid s) M.faces f _ (face_there M f there))

  module _ (s : ℕ) where
    half_counted : (x : ℕ) → HasHalf M x → count x (halves_in M (faces_of M s)) ≡ cond (nat_eq (solid_of M (face_of M (loop_of M x))) s) 1 0
    half_counted x there = in_faces x there (faces_of M s) (λ f i. ap is_some (listed_passes (λ _ row. nat_eq row.solid s) M.faces f i).1)
        ∙ face_counted (face_of M (loop_of M x)) s (sound.loops_of_faces (loop_of M x) (loop_there M sound x there))

    none_there : (x : ℕ) (fs : List ℕ) → has_half M x ≡ false → count x (halves_in M fs) ≡ 0
    unfolding boundary
    none_there x [] e = refl
    none_there x (f ∷ fs) e = elim (IsIn_or_not x (items_in M (loops_of M f))) [
      | inl i ↦ absurd (true≢false (sym (items_there M sound (loops_of M f) x i) ∙ e))
      | inr z ↦ count-append x (items_in M (loops_of M f)) (halves_in M fs) ∙ (λ i. z i + none_there x fs e i)
    ]

    -- both halves of an edge stand in the faces of a solid, or none does
    both_halves : (x : ℕ) → count (mate x) (halves_in M (faces_of M s)) ≡ count x (halves_in M (faces_of M s))
    both_halves x = counted_alike (has_half M x) refl where
      counted_alike : (b : Bool) → has_half M x ≡ b → count (mate x) (halves_in M (faces_of M s)) ≡ count x (halves_in M (faces_of M s))
      counted_alike true e = half_counted (mate x) (mates_there x ∙ e) ∙ ap (λ k. cond (nat_eq k s) 1 0) (sym (sound.one_solid x e)) ∙ sym (half_counted x e)
      counted_alike false e = none_there (mate x) (faces_of M s) (mates_there x ∙ e) ∙ sym (none_there x (faces_of M s) e)

    pub normals_close : normals_in M (faces_of M s) ≡ origin
    normals_close =
        let hs = halves_in M (faces_of M s) in
        normals_area M (faces_of M s) ∙ own_opposite (area M hs) (sym (area_same M (map mate hs) hs (λ x. count-mates x hs ∙ both_halves x)) ∙ area_mates M hs)

    -- so a solid that is moved keeps its six volumes
    pub volume_kept : (d : Point) → six_volume (shifted M d) s ≡ six_volume M s
    volume_kept d = volume_moved M d sound s ∙ ap (λ v. six_volume M s +ℤ dot d v) normals_close ∙ ap (λ t. six_volume M s +ℤ t) (dot_turned d origin ∙ dot_origin d) ∙ add_none (six_volume M s)

-- ---- a model with its loops run the other way, and a solid with flat faces turned inside out

-- a loop run back, from its least item on
abbrev back : List ℕ → List ℕ
back hs = canonical (reverse (map mate hs))

count_back : (x : ℕ) (hs : List ℕ) → count x (back hs) ≡ count (mate x) hs
count_back x hs = count-canonical x (reverse (map mate hs)) ∙ sym (SameItems-from_permutation (map mate hs) (reverse (map mate hs)) (IsPermutation-reverse (map mate hs)) x) ∙ count-mates x hs

module _ (M : Model) where
  start_kept : (h : ℕ) → start (turned M) h ≡ start M h
  unfolding turned tail point_of
  start_kept h = refl

  pub outer_turned : (f : ℕ) → outer (turned M) f ≡ outer M f
  unfolding turned outer
  outer_turned f = refl

  own_loops_turned : (f : ℕ) → loops_of (turned M) f ≡ loops_of M f
  unfolding loops_of turned outer
  own_loops_turned f =
      λ i. outer_turned f i ∷ (all_where-map (λ _ row. row_back row) (λ l row. nat_eq row.face f && not (nat_eq (outer M f) l)) M.loops i)

  content_in : (o : Option LoopRow) → (unwrap_or (option_map row_back o) no_loop).content ≡ run_back (unwrap_or o no_loop).content
  content_in None = ap cycle (sym canonical_nil)
  content_in (Some row) = refl

  pub content_turned : (l : ℕ) → content (turned M) l ≡ run_back (content M l)
  unfolding turned content
  content_turned l = ap (λ o. (unwrap_or o no_loop).content) (get-map_rows (λ _ row. row_back row) M.loops l) ∙ content_in (table.get M.loops l)

  back_area : (x : LoopContent) → area M (items_of (run_back x)) ≡ negated (area M (items_of x))
  back_area (lone v) = refl
  back_area (cycle hs) = area_same M (canonical (reverse (map mate hs))) (reverse (map mate hs)) (λ x. count-canonical x (reverse (map mate hs))) ∙ area_back M hs

  loops_turned : (ls : List ℕ) → area M (items_in (turned M) ls) ≡ negated (area M (items_in M ls))
  loops_turned [] = refl
  loops_turned (l ∷ ls) = area-append M (items_of (content (turned M) l)) (items_in (turned M) ls)
      ∙ (λ i. moved ((ap (λ x. area M (items_of x)) (content_turned l) ∙ back_area (content M l)) i) (loops_turned ls i))
      ∙ moved_back (area M (items_of (content M l))) (area M (items_in M ls))
      ∙ ap negated (sym (area-append M (items_of (content M l)) (items_in M ls)))

  pub normal_turned : (f : ℕ) → normal (turned M) f ≡ negated (normal M f)
  unfolding normal boundary
  normal_turned f = area_kept M (turned M) (items_in (turned M) (loops_of (turned M) f)) (λ h i. (start_kept h, start_kept (mate h))) ∙ ap (λ ls. area M (items_in (turned M) ls)) (own_loops_turned f) ∙ loops_turned (loops_of M f)

  -- the other halves of a face's half-edges, in any order
  pub normal_opposed : (f g : ℕ) → SameItems (boundary M g) (map mate (boundary M f)) → normal M g ≡ negated (normal M f)
  unfolding normal
  normal_opposed f g s = area_same M (boundary M g) (map mate (boundary M f)) s ∙ area_mates M (boundary M f)

  first_kept : (x : LoopContent) → first_vertex (turned M) x ≡ first_vertex M x
  unfolding turned tail
  first_kept (lone v) = refl
  first_kept (cycle hs) = refl

  anchor_is : (f : ℕ) → anchor (turned M) f ≡ point_of M (first_vertex M (run_back (content M (outer M f))))
  unfolding turned point_of
  anchor_is f = ap (point_of M) (first_kept (content (turned M) (outer (turned M) f)))
      ∙ ap (λ x. point_of M (first_vertex M x)) (ap (content (turned M)) (outer_turned f) ∙ content_turned (outer M f))

  module _ (s : Plane) (next : ℕ → ℕ) where
    -- the first corner of a loop that is run back is one of its corners
    first_back : (x : LoopContent) → x ≢ cycle [] → IsRing next (items_of x) → ((g : ℕ) → IsIn g (items_of x) → tail M (next g) ≡ tail M (mate g)) →
        are_on M s (vertices_on M x) ≡ true → is_on s (point_of M (first_vertex M (run_back x))) ≡ true
    first_back (lone v) ne ring meet on = (and_parts _ _ on).0
    first_back (cycle []) ne ring meet on = absurd (ne refl)
    first_back (cycle (h ∷ hs)) ne ring meet on =
        let ks = back (h ∷ hs) in
        let k = head_or 0 ks in
        let there : IsIn (mate h) ks = omega (arith, count_back (mate h) (h ∷ hs), ap (λ x. count x (h ∷ hs)) (mate-mate h), IsIn_head h hs) in
        let g : IsIn (mate k) (h ∷ hs) = omega (arith, count_back k (h ∷ hs), IsIn_first ks (mate h) there) in
        ap (λ v. is_on s (point_of M v)) (ap (tail M) (sym (mate-mate k)) ∙ sym (meet (mate k) g))
        ∙ each_mapped (λ v. is_on s (point_of M v)) (tail M) (h ∷ hs) (next (mate k)) on (ring_stays next (h ∷ hs) (mate k) ring g)

  module _ (sound : Sound M) where
    anchor_on : (f : ℕ) (s : Plane) → Has M.faces f → are_on M s (corners M f) ≡ true → is_on s (anchor (turned M) f) ≡ true
    unfolding corners loops_of
    anchor_on f s there on =
        let l = outer M f in
        ap (is_on s) (anchor_is f) ∙ first_back s (after M) (content M l) (λ e. (sound.cycles l [] (sound.outers_there f there).0 e).some_item refl) (light M sound l).1
        (λ g i. sound.ends_meet g (sound.only_edges g l (in-holds g (content M l) i))) (list_parts (λ v. is_on s (point_of M v)) (vertices_on M (content M l)) _ on).0

    face_inverted : (f : ℕ) → Has M.faces f → is_flat M f ≡ true → dot (anchor (turned M) f) (normal (turned M) f) ≡ neg_ℤ (dot (anchor M f) (normal M f))
    unfolding is_flat
    face_inverted f there flat =
        let on = (and_parts (not (same_point (direction (plane_of M f)) origin)) (are_on M (plane_of M f) (corners M f)) flat).1 in
        ap (dot (anchor (turned M) f)) (normal_turned f) ∙ dot_back (anchor (turned M) f) (normal M f) ∙ ap neg_ℤ (plane_told M f (anchor (turned M) f) (anchor_on f (plane_of M f) there on))

    faces_inverted : (fs : List ℕ) → ((f : ℕ) → lists fs f ≡ true → Has M.faces f) → list_all (is_flat M) fs ≡ true → volume_in (turned M) fs ≡ neg_ℤ (volume_in M fs)
    faces_inverted [] there flat = refl
    faces_inverted (f ∷ fs) there flat =
        let a = and_parts (is_flat M f) (list_all (is_flat M) fs) flat in
        (λ i. face_inverted f (there f (first_listed f fs)) a.0 i +ℤ faces_inverted fs (λ g j. there g (rest_listed f g fs j)) a.1 i) ∙ omega (arith, ints)

    pub volume_inverted : (s : ℕ) → list_all (is_flat M) (faces_of M s) ≡ true → six_volume (turned M) s ≡ neg_ℤ (six_volume M s)
    unfolding six_volume turned
    volume_inverted s flat = faces_inverted (faces_of M s) (λ f i. ap is_some (listed_passes (λ _ row. nat_eq row.solid s) M.faces f i).1) flat
