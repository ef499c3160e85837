-- Areas of lists of half-edges and of loops, as sums along the places and where each stays; the volume of one face more.
use Rattle.sweeps_laws.proofs.Prelude.{◌≡◌, ℕ, ◌+ℤ◌, true, List, [], ◌∷◌, ◌++◌, length, get_or, refl, sym, ap, ◌∙◌, ◌≢◌, zero, suc, ◌+◌, ◌≤◌, ◌<◌, ℤ, pos, ◌*ℤ◌, not, nat_eq, ◌&&◌, is_some, subst, arith, inl, inr, true≢false, moved, cross, dot, IsIn, head_or, Model, items_of, content, LoopContent, lone, cycle, tail, outer, point_of, rings_of, lists, strictly_rises, Point, edge_of, plus, first_listed, rest_listed, listed_cases, listed_passes, rises_on, rises_apart, start, finish, items_in, loops_of, boundary, area, volume_in, normal, anchor, first_vertex, Taken, top_edge, top_items, area_kept, area_push, areas_kept, volume_of, volume_append, same_volumes, at_most_greatest, add_none, dot_moved, add_assoc, sum_to, sum_first, moved_at, area_at, moved_ring, side_area, side_volume, Linked, IsIn_head, mate_plus, mate_minus, eqb_tells, ints}
use Rattle.sweeps_laws.proofs.swept.Numbers.{next_cases}
use Rattle.sweeps_laws.proofs.swept.Bounds.{HasFree, item_within, lone_within, loops_within, outer_within, tail_within}
use Rattle.sweeps_laws.proofs.swept.Sides.{Keeps, start_kept, finish_kept}
use Rattle.sweeps_laws.proofs.swept.Lifted.{IsPathOf, swept, keeps_swept, outer_new, content_here, content_old, content_new, outer_old, rings_old, rings_new, from_point, to_point, riser_start, riser_finish, top_start, top_finish, next_start, next_finish, item_start, item_finish}
use Rattle.sweeps_laws.proofs.prism.Loops.{tops_head}

module _ (M : Model) where
  -- the area as a sum along the places
  pub area_sum : (hs : List ℕ) → area M hs ≡ sum_to (λ i. cross (start M (get_or hs i 0)) (finish M (get_or hs i 0))) (length hs)
  area_sum [] = refl
  area_sum (h ∷ hs) = ap (moved (cross (start M h) (finish M h))) (area_sum hs) ∙ sum_first (λ i. cross (start M (get_or (h ∷ hs) i 0)) (finish M (get_or (h ∷ hs) i 0))) (length hs)

  pub volume_last : (ks : List ℕ) (k : ℕ) → volume_in M (ks ++ k ∷ []) ≡ volume_in M ks +ℤ volume_of M k
  volume_last ks k = volume_append M ks (k ∷ []) ∙ ap (λ v. volume_in M ks +ℤ v) (add_none (volume_of M k))

-- ---- one loop of a face swept: areas, anchors and volumes of the faces after

-- the normal of a face, over its outer loop and its rings
pub normal_is : (M : Model) (k : ℕ) → normal M k ≡ area M (items_in M (outer M k ∷ rings_of M k))
unfolding normal boundary loops_of
normal_is M k = refl

-- the first item
pub head_is : (hs : List ℕ) → head_or 0 hs ≡ get_or hs 0 0
head_is [] = refl
head_is (h ∷ hs) = refl

pub top_head : (e n k : ℕ) → 0 < k → head_or 0 (top_items e n k) ≡ plus (top_edge e n 0)
top_head e n zero l = absurd (omega arith)
top_head e n (suc k) l = ap (head_or 0) (tops_head e n k).1

-- what starts where the loop's path starts is its anchor
pub first_kept : (M N : Model) (e v : ℕ) (keeps : Keeps M N e v) (bounded : (h : ℕ) → tail M h ≤ v) (x : LoopContent) →
    ((h : ℕ) → IsIn h (items_of x) → edge_of h ≤ e) → ((w : ℕ) → x ≡ lone w → w ≤ v) → point_of N (first_vertex N x) ≡ point_of M (first_vertex M x)
unfolding edge_of
first_kept M N e v keeps bounded (lone w) a b = keeps.points w (b w refl)
first_kept M N e v keeps bounded (cycle []) a b = start_kept keeps bounded 0 (omega arith)
first_kept M N e v keeps bounded (cycle (h ∷ hs)) a b = start_kept keeps bounded h (a h (IsIn_head h hs))

-- the loops of a face
pub face_loop_within : (M : Model) (c : Taken) → HasFree M c → (k q : ℕ) → lists (outer M k ∷ rings_of M k) q ≡ true → q ≤ c.loop
face_loop_within M c b k q i = elim (listed_cases (outer M k) q (rings_of M k) i) [
  | inl e ↦ subst (λ x. x ≤ c.loop) (sym e) (outer_within b k)
  | inr i ↦ let p = listed_passes (λ l row. nat_eq row.face k && not (nat_eq (outer M k) l)) M.loops q i in grind (arith, at_most_greatest M.loops q (ap is_some p.1), loops_within b)
]

-- a closed path of n steps keeps its area where it is moved
pub ring_moved : (p q : ℕ → Point) (d : Point) (n : ℕ) → 0 < n → Linked p q d n → ((m : ℕ) → suc m ≡ n → q m ≡ p 0) → sum_to (moved_at p q d) n ≡ sum_to (area_at p q d) n
ring_moved p q d zero l e c = absurd (omega arith)
ring_moved p q d (suc n) l e c = moved_ring p q d n e (c n refl)

module _ {M : Model} {c : Taken} (s : ℕ) (d : Point) {hs : List ℕ} {f l : ℕ} (b : HasFree M c) (r : IsPathOf M f l hs) where
  abbrev after : Model
  after = swept M c s d hs f l

  abbrev pub from_at : ℕ → Point
  from_at = from_point M c s d hs f l b r

  abbrev pub to_at : ℕ → Point
  to_at = to_point M c s d hs f l b r

  -- ---- the sides

  side_normal : (i : ℕ) → i < length hs → normal after (c.face + 1 + i) ≡ side_area (from_at i) (to_at i) d
  side_normal i m = grind (arith, normal_is, rings_new, outer_new, content_new, mate_plus, mate_minus, riser_start, item_start, item_finish, next_start, top_finish, riser_finish, next_finish, top_start)

  side_anchor : (i : ℕ) → i < length hs → anchor after (c.face + 1 + i) ≡ from_at i
  side_anchor i m = grind (arith, outer_new, content_new, item_start)

  pub side_is : (i : ℕ) → i < length hs → volume_of after (c.face + 1 + i) ≡ pos 2 *ℤ dot (area_at from_at to_at d i) d
  side_is i m = (λ t. dot (side_anchor i m t) (side_normal i m t)) ∙ side_volume (from_at i) (to_at i) d

  -- ---- the loops that were there

  tops_area : (k : ℕ) → k ≤ length hs → area after (top_items c.edge (length hs) k) ≡ sum_to (moved_at from_at to_at d) k
  tops_area zero m = refl
  tops_area (suc k) m = area_push after (top_items c.edge (length hs) k) (plus (top_edge c.edge (length hs) k))
      ∙ (λ t. moved (tops_area k (omega (arith, m)) t) (cross (top_start M c s d hs f l b r k m t) (over k m t))) where
        over : (k : ℕ) (m : k < length hs) → finish after (plus (top_edge c.edge (length hs) k)) ≡ moved (to_at k) d
        over k m = ap (start after) (mate_plus (top_edge c.edge (length hs) k)) ∙ top_finish M c s d hs f l b r k m

  path_closed : (m : ℕ) → suc m ≡ length hs → to_at m ≡ from_at 0
  path_closed m e = r.linked m (omega (arith, e)) ∙ ap from_at (elim (next_cases (length hs) m) [ inl p ↦ p.1 | inr p ↦ absurd (p.0 (omega (arith, e))) ])

  linked : (i : ℕ) → suc i < length hs → to_at i ≡ from_at (suc i)
  linked i m = elim (next_cases (length hs) i) [ inl p ↦ absurd (omega (arith, m, p.0)) | inr p ↦ r.linked i (omega (arith, m)) ∙ ap from_at (p.1 ∙ omega arith) ]

  pub area_lifted : area after (top_items c.edge (length hs) (length hs)) ≡ area M hs
  area_lifted = tops_area (length hs) (omega arith)
      ∙ ring_moved from_at to_at d (length hs) r.some_item linked path_closed ∙ sym (area_sum M hs)

  pub loop_area : (q : ℕ) → q ≤ c.loop → area after (items_of (content after q)) ≡ area M (items_of (content M q))
  loop_area q m = elim (eqb_tells q l) [
    | inl e ↦ subst (λ k. area after (items_of (content after k)) ≡ area M (items_of (content M k))) (sym e.1)
        (ap (λ x. area after (items_of x)) (content_here M c s d hs f l b r) ∙ area_lifted ∙ sym (ap (λ x. area M (items_of x)) r.content))
    | inr e ↦ ap (λ x. area after (items_of x)) (content_old M c s d hs f l b r q e.1 m)
        ∙ area_kept M after (items_of (content M q)) (λ h i. (start_kept (keeps_swept M c s d hs f l) (tail_within b) h (item_within b h q i), finish_kept (keeps_swept M c s d hs f l) (tail_within b) h (item_within b h q i)))
  ]

  pub loops_area : (ls : List ℕ) → ((q : ℕ) → lists ls q ≡ true → q ≤ c.loop) → area after (items_in after ls) ≡ area M (items_in M ls)
  loops_area ls m = areas_kept M after ls (λ q i. loop_area q (m q i))

  -- each face that was there keeps its normal
  pub normal_kept : (k : ℕ) → k ≤ c.face → normal after k ≡ normal M k
  normal_kept k m = normal_is after k ∙ (λ t. area after (items_in after (outer_old M c s d hs f l b r k m t ∷ rings_old M c s d hs f l b r k m t)))
      ∙ loops_area (outer M k ∷ rings_of M k) (face_loop_within M c b k) ∙ sym (normal_is M k)

  -- and its anchor, where its outer loop isn't the swept one
  anchor_kept : (k : ℕ) → k ≤ c.face → outer M k ≢ l → anchor after k ≡ anchor M k
  anchor_kept k m ne = ap (λ q. point_of after (first_vertex after (content after q))) (outer_old M c s d hs f l b r k m)
      ∙ ap (λ x. point_of after (first_vertex after x)) (content_old M c s d hs f l b r (outer M k) ne (outer_within b k))
      ∙ first_kept M after c.edge c.vertex (keeps_swept M c s d hs f l) (tail_within b) (content M (outer M k)) (λ h i. item_within b h (outer M k) i) (λ w e. lone_within b (outer M k) w e)

  -- the anchor of the face whose outer loop is swept moves along
  anchor_moved : (k : ℕ) → k ≤ c.face → outer M k ≡ l → anchor after k ≡ moved (anchor M k) d
  anchor_moved k m e = ap (λ q. point_of after (first_vertex after (content after q))) (outer_old M c s d hs f l b r k m ∙ e)
      ∙ ap (λ x. point_of after (first_vertex after x)) (content_here M c s d hs f l b r)
      ∙ ap (start after) (top_head c.edge (length hs) (length hs) r.some_item)
      ∙ top_start M c s d hs f l b r 0 r.some_item
      ∙ ap (λ p. moved p d) (ap (start M) (sym (head_is hs)) ∙ sym (ap (λ x. point_of M (first_vertex M x)) (ap (content M) e ∙ r.content)))

  volume_kept : (k : ℕ) → k ≤ c.face → outer M k ≢ l → volume_of after k ≡ volume_of M k
  volume_kept k m ne = λ t. dot (anchor_kept k m ne t) (normal_kept k m t)

  volume_moved : (k : ℕ) → k ≤ c.face → outer M k ≡ l → volume_of after k ≡ volume_of M k +ℤ dot d (normal M k)
  volume_moved k m e = (λ t. dot (anchor_moved k m e t) (normal_kept k m t)) ∙ dot_moved (anchor M k) d (normal M k)

  -- ---- the six volumes

  pub faces_kept : (ks : List ℕ) → ((k : ℕ) → lists ks k ≡ true → (k ≤ c.face) × (outer M k ≢ l)) → volume_in after ks ≡ volume_in M ks
  faces_kept ks w = same_volumes M after ks (λ k i. let p = w k i in volume_kept k p.0 p.1)

  pub faces_moved : (ks : List ℕ) → strictly_rises ks ≡ true → lists ks f ≡ true → outer M f ≡ l → ((k : ℕ) → lists ks k ≡ true → (k ≤ c.face) × (k ≢ f → outer M k ≢ l)) →
      volume_in after ks ≡ volume_in M ks +ℤ dot d (normal M f)
  faces_moved [] up i e w = absurd (true≢false (sym i))
  faces_moved (k ∷ ks) up i e w = elim (listed_cases k f ks i) [
    | inl p ↦ (λ t. volume_moved k (w k (first_listed k ks)).0 (ap (outer M) (sym p) ∙ e) t +ℤ faces_kept ks (λ q j. ((w q (rest_listed k q ks j)).0, (w q (rest_listed k q ks j)).1 (omega (arith, p, rises_apart k q ks up j)))) t)
        ∙ turned (volume_of M k) (dot d (normal M k)) (volume_in M ks) ∙ ap (λ j. volume_of M k +ℤ volume_in M ks +ℤ dot d (normal M j)) (sym p)
    | inr j ↦ (λ t. volume_kept k (w k (first_listed k ks)).0 ((w k (first_listed k ks)).1 (omega (arith, rises_apart k f ks up j))) t +ℤ faces_moved ks (rises_on k ks up) j e (λ q j. w q (rest_listed k q ks j)) t)
        ∙ sym (add_assoc (volume_of M k) (volume_in M ks) (dot d (normal M f)))
  ] where
    turned : (a b c : ℤ) → (a +ℤ b) +ℤ c ≡ (a +ℤ c) +ℤ b
    turned a b c = omega (arith, ints)
