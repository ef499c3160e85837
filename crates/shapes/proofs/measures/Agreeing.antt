-- Faces on which two models agree: they keep their rings and their normals, and what they add to the six volumes.
use Rattle.shapes.proofs.Prelude.{◌≡◌, ℕ, true, List, [], ◌∷◌, refl, sym, ap, ◌∙◌, subst, arith, ◌⊎◌, inl, inr, map, eqb-true, eq-eqb, and_parts, moved, dot, cross, count, IsIn, head_or, canonical, Model, LoopContent, lone, cycle, items_of, content, face_of, outer, point_of, rings_of, IsCycle, Has, lists, strictly_rises, count-canonical, from_map, face_row, IsIn_head, IsIn_rest, IsIn_first, first_listed, rest_listed, listed_passes, passes_listed, all_where-rises, loop_row, within, start, finish, items_in, loops_of, boundary, rewritten, area, normal, anchor, first_vertex}
use Rattle.shapes.proofs.Areas.{area-append}
use Rattle.shapes.proofs.glue.Renamings.{none_replaced}
use Rattle.shapes.proofs.measures.Sums.{area_same, area_renamed, volume_of}

-- rising lists of the same numbers are one
pub rising_one : (xs ys : List ℕ) → strictly_rises xs ≡ true → strictly_rises ys ≡ true → ((q : ℕ) → lists xs q ≡ true → lists ys q ≡ true) → ((q : ℕ) → lists ys q ≡ true → lists xs q ≡ true) → xs ≡ ys
rising_one xs ys x_rises y_rises on back = let one = within xs ys x_rises y_rises on in let two = within ys xs y_rises x_rises back in one.1 (omega (arith, one.0, two.0))

module _ (M N : Model) where
  -- half-edges that start and end where they did have the area that they had
  pub area_kept : (hs : List ℕ) → ((h : ℕ) → IsIn h hs → (start N h ≡ start M h) × (finish N h ≡ finish M h)) → area N hs ≡ area M hs
  area_kept [] same = refl
  area_kept (h ∷ hs) same = let p = same h (IsIn_head h hs) in λ i. moved (cross (p.0 i) (p.1 i)) (area_kept hs (λ g j. same g (IsIn_rest g h hs j)) i)

  -- so have loops, where each has
  pub areas_kept : (ls : List ℕ) → ((l : ℕ) → lists ls l ≡ true → area N (items_of (content N l)) ≡ area M (items_of (content M l))) → area N (items_in N ls) ≡ area M (items_in M ls)
  areas_kept [] same = refl
  areas_kept (l ∷ ls) same = grind (arith, area-append, first_listed, rest_listed, areas_kept ls)

  -- a loop's first corner stays, where half-edges start where they did and vertices have their points
  pub corner_kept : (c : LoopContent) → ((h : ℕ) → start N h ≡ start M h) → ((v : ℕ) → point_of N v ≡ point_of M v) → point_of N (first_vertex N c) ≡ point_of M (first_vertex M c)
  corner_kept (lone v) starts points = points v
  corner_kept (cycle hs) starts points = starts (head_or 0 hs)

-- each loop of face k of M is one in N
abbrev pub LoopsStay : Model → Model → ℕ → Type 0
LoopsStay M N k = (l : ℕ) → Has M.loops l → face_of M l ≡ k → Has N.loops l × (face_of N l ≡ k)

-- N agrees with M on face k: it has the loops that it had, and each of them has the area that it had
pub record AgreeOn (M N : Model) (k : ℕ) : Type 0 where
  pub outer_is : outer N k ≡ outer M k
  pub stay : LoopsStay M N k
  pub back : LoopsStay N M k
  pub areas : (l : ℕ) → lists (loops_of M k) l ≡ true → area N (items_of (content N l)) ≡ area M (items_of (content M l))

rings_stay : (M N : Model) (k : ℕ) → outer N k ≡ outer M k → LoopsStay M N k → (l : ℕ) → lists (rings_of M k) l ≡ true → lists (rings_of N k) l ≡ true
rings_stay M N k same stay l i = grind (arith, listed_passes, and_parts, face_row, eqb-true, passes_listed, loop_row, eq-eqb)

module _ {M N : Model} {k : ℕ} (agree : AgreeOn M N k) where
  pub rings_agree : rings_of N k ≡ rings_of M k
  rings_agree = rising_one (rings_of N k) (rings_of M k) (all_where-rises _ N.loops) (all_where-rises _ M.loops) (rings_stay N M k (sym agree.outer_is) agree.back) (rings_stay M N k agree.outer_is agree.stay)

  pub loops_agree : loops_of N k ≡ loops_of M k
  unfolding loops_of
  loops_agree = λ i. agree.outer_is i ∷ rings_agree i

  pub normal_agrees : normal N k ≡ normal M k
  unfolding normal boundary
  normal_agrees = ap (λ ls. area N (items_in N ls)) loops_agree ∙ areas_kept M N (loops_of M k) agree.areas

-- ---- loops whose half-edges are replaced

-- in loop l each half-edge is replaced by one that starts and ends where it did
pub record IsReplaced (M N : Model) (swap : ℕ → ℕ) (l : ℕ) : Type 0 where
  pub content_is : content N l ≡ rewritten (map swap) (content M l)
  pub good : (hs : List ℕ) → content M l ≡ cycle hs → IsCycle hs
  pub halves : (h : ℕ) → IsIn h (items_of (content M l)) → (start N (swap h) ≡ start M h) × (finish N (swap h) ≡ finish M h)
  pub lones : (v : ℕ) → content M l ≡ lone v → point_of N v ≡ point_of M v

module _ {M N : Model} {swap : ℕ → ℕ} {l : ℕ} (w : IsReplaced M N swap l) where
  content_area : (c : LoopContent) → ((h : ℕ) → IsIn h (items_of c) → (start N (swap h) ≡ start M h) × (finish N (swap h) ≡ finish M h)) → area N (items_of (rewritten (map swap) c)) ≡ area M (items_of c)
  content_area (lone v) same = refl
  content_area (cycle hs) same = area_same N (canonical (map swap hs)) (map swap hs) (λ x. count-canonical x (map swap hs)) ∙ area_renamed M N swap hs same

  pub replaced_area : area N (items_of (content N l)) ≡ area M (items_of (content M l))
  replaced_area = ap (λ c. area N (items_of c)) w.content_is ∙ content_area (content M l) w.halves

  in_content : (c : LoopContent) (h : ℕ) → IsIn h (items_of (rewritten (map swap) c)) → (g : ℕ) × IsIn g (items_of c) × (h ≡ swap g)
  in_content c h i = grind (arith, from_map, count-canonical)

  -- what stands there starts where an item did
  pub replaced_start : (h : ℕ) → IsIn h (items_of (content N l)) → (g : ℕ) × IsIn g (items_of (content M l)) × (start N h ≡ start M g)
  replaced_start h i = grind (arith, in_content, w.content_is, w.halves)

  -- so its first corner lies where one did
  first_corner : (c : LoopContent) → content M l ≡ c → (point_of N (first_vertex N (rewritten (map swap) c)) ≡ point_of M (first_vertex M c))
      ⊎ ((g : ℕ) × IsIn g (items_of (content M l)) × (point_of N (first_vertex N (rewritten (map swap) c)) ≡ start M g))
  first_corner (lone v) is = inl (w.lones v is)
  first_corner (cycle []) is = absurd ((w.good [] is).some_item refl)
  first_corner (cycle (h ∷ hs)) is =
      let zs = canonical (map swap (h ∷ hs)) in
      let first : IsIn (head_or 0 zs) (items_of (content N l)) =
      omega (arith, IsIn_first zs (swap h) (omega (arith, count-canonical (swap h) (map swap (h ∷ hs)), IsIn_head (swap h) (map swap hs))), ap (λ c. count (head_or 0 zs) (items_of c)) (w.content_is ∙ ap (rewritten (map swap)) is)) in
      inr (replaced_start (head_or 0 zs) first)

  -- a loop in which none is replaced stays
  pub content_stays : ((h : ℕ) → IsIn h (items_of (content M l)) → swap h ≡ h) → content N l ≡ content M l
  content_stays same = w.content_is ∙ none_replaced swap (content M l) w.good same

  -- and has its first corner where it was
  pub first_stays : ((h : ℕ) → IsIn h (items_of (content M l)) → swap h ≡ h) → point_of N (first_vertex N (content N l)) ≡ point_of M (first_vertex M (content M l))
  first_stays same = ap (λ c. point_of N (first_vertex N c)) (content_stays same) ∙ first_of (content M l) refl where
    first_of : (c : LoopContent) → content M l ≡ c → point_of N (first_vertex N c) ≡ point_of M (first_vertex M c)
    first_of (lone v) is = w.lones v is
    first_of (cycle []) is = absurd ((w.good [] is).some_item refl)
    first_of (cycle (h ∷ hs)) is = let i : IsIn h (items_of (content M l)) = subst (λ c. IsIn h (items_of c)) (sym is) (IsIn_head h hs) in ap (start N) (sym (same h i)) ∙ (w.halves h i).0

-- ---- faces on which the models agree, with their outer loops so

module _ {M N : Model} {k : ℕ} (agree : AgreeOn M N k) {swap : ℕ → ℕ} (w : IsReplaced M N swap (outer M k)) where
  anchor_now : anchor N k ≡ point_of N (first_vertex N (content N (outer M k)))
  anchor_now = ap (λ l. point_of N (first_vertex N (content N l))) agree.outer_is

  -- a face that tells the same from each corner adds what it did
  pub volume_told : ((h : ℕ) → IsIn h (items_of (content M (outer M k))) → dot (start M h) (normal M k) ≡ volume_of M k) → volume_of N k ≡ volume_of M k
  volume_told alike = grind (arith, normal_agrees agree, anchor_now, w.content_is, first_corner w)

  -- so does one in which nothing is replaced
  pub volume_stays : ((h : ℕ) → IsIn h (items_of (content M (outer M k))) → swap h ≡ h) → volume_of N k ≡ volume_of M k
  volume_stays same = λ i. dot ((anchor_now ∙ first_stays w same) i) (normal_agrees agree i)
