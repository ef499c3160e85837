-- A face whose loops, edges and vertices are left alone stands as it did.
use Rattle.command_laws.proofs.Prelude.{◌≡◌, ℕ, true, not, nat_eq, ◌&&◌, List, [], ◌∷◌, ◌++◌, is_some, refl, sym, ap, subst, ◌∙◌, arith, map, eqb-true, and_parts, map-append, IsIn, mate, lists, Model, LoopContent, lone, cycle, items_of, tail, content, face_of, outer, point_of, rings_of, after, Sound, Has, HasHalf, face_at, IsIn_rest, IsIn-map, IsIn_head, edge_of-mate, face_row, item_there, holds_in, same_content, same_outer, same_solid, item_loop, IsIn-from_listed, all_where-rises, listed_passes, passes_listed, half_after, loop_after, listed-from_in, same_tail, start, finish, items_in, loops_of, boundary, vertices_on, vertices_in, corners, area, normal, anchor, first_vertex, plane_through, plane_of, areas_kept, face_of_loop, rising_one, corner_points, FacesStand, KeepsLoops, KeepsEdges, KeepsPoints, StandsAsBefore}
use Rattle.euler_operators.specs.Table as table
use Rattle.euler_laws.proofs.Common.{same_point}
use Rattle.shapes.proofs.Common.{area_kept}
use Rattle.command_laws.proofs.Turned.{IsTurned, not_turned}

-- ---- rings

ring_still : (M N : Model) (k : ℕ) → outer N k ≡ outer M k → ((l : ℕ) → Has M.loops l → face_of M l ≡ k → table.get N.loops l ≡ table.get M.loops l) →
    (l : ℕ) → lists (rings_of M k) l ≡ true → lists (rings_of N k) l ≡ true
ring_still M N k same on l i =
    let r = listed_passes (λ q row. nat_eq row.face k && not (nat_eq (outer M k) q)) M.loops l i in
    let of = (and_parts (nat_eq r.0.face k) (not (nat_eq (outer M k) l)) r.2).0 in
    passes_listed (λ q row. nat_eq row.face k && not (nat_eq (outer N k) q)) N.loops l r.0 (on l (ap is_some r.1) (face_row M l r.0 r.1 ∙ eqb-true r.0.face k of) ∙ r.1)
    (ap (λ o. nat_eq r.0.face k && not (nat_eq o l)) same ∙ r.2)

-- where the loops of a face have the rows that they had, and no loop more is of it, it has the rings that it had
pub rings_same : (M N : Model) (k : ℕ) → table.get N.faces k ≡ table.get M.faces k → ((l : ℕ) → Has M.loops l → face_of M l ≡ k → table.get N.loops l ≡ table.get M.loops l) →
    ((l : ℕ) → Has N.loops l → face_of N l ≡ k → table.get N.loops l ≡ table.get M.loops l) → rings_of N k ≡ rings_of M k
rings_same M N k row on back =
    let same = same_outer M N k row in
    rising_one (rings_of N k) (rings_of M k) (all_where-rises _ N.loops) (all_where-rises _ M.loops) (ring_still N M k (sym same) (λ l has of. sym (back l has of))) (ring_still M N k same on)

-- ---- a face

module _ (M N : Model) (Alone : ℕ → Type 0) (sound : Sound M) (loops : KeepsLoops Alone M N) (edges : KeepsEdges Alone M N) (points : KeepsPoints Alone M N)
    (k : ℕ) (there : Has M.faces k) (alone : Alone k) (row : table.get N.faces k ≡ table.get M.faces k) (rings : rings_of N k ≡ rings_of M k) where
  loop_in : (l : ℕ) → IsIn l (loops_of M k) → Has M.loops l × (face_of M l ≡ k)
  loop_in l i = face_of_loop M sound k l there (listed-from_in l (loops_of M k) i)

  -- ---- one loop of it

  module _ (l : ℕ) (i : IsIn l (loops_of M k)) where
    left : Alone (face_of M l)
    left = subst Alone (sym (loop_in l i).1) alone

    content_kept : content N l ≡ content M l
    content_kept = same_content M N l (loops l (loop_in l i).0 left)

    vertex_kept : (v : ℕ) → IsIn v (vertices_on M (content M l)) → point_of N v ≡ point_of M v
    vertex_kept v j = same_point M N v (points l v j left)

    tail_on : (c : LoopContent) (h : ℕ) → IsIn h (items_of c) → IsIn (tail M h) (vertices_on M c)
    tail_on (lone v) h j = absurd (omega (arith, j))
    tail_on (cycle hs) h j = IsIn-map (tail M) h hs j

    module _ (h : ℕ) (j : IsIn h (items_of (content M l))) where
      half : HasHalf M h
      half = item_there M sound l h j

      of_left : Alone (face_at M h)
      of_left = subst Alone (sym (ap (face_of M) (item_loop M sound l h j))) left

      tail_kept : tail N h ≡ tail M h
      tail_kept = same_tail M N h (edges h half of_left)

      mate_kept : tail N (mate h) ≡ tail M (mate h)
      mate_kept = same_tail M N (mate h) (ap (table.get N.edges) (edge_of-mate h) ∙ edges h half of_left ∙ sym (ap (table.get M.edges) (edge_of-mate h)))

      start_kept : start N h ≡ start M h
      start_kept = ap (point_of N) tail_kept ∙ vertex_kept (tail M h) (tail_on (content M l) h j)

      -- what follows stands in the loop too
      next_in : IsIn (after M h) (items_of (content M l))
      next_in = subst (λ q. IsIn (after M h) (items_of (content M q))) (loop_after M sound h half ∙ item_loop M sound l h j)
          (holds_in (after M h) _ (sound.stands (after M h) (half_after M sound h half)))

      finish_kept : finish N h ≡ finish M h
      finish_kept = ap (point_of N) (mate_kept ∙ sym (sound.ends_meet h half)) ∙ vertex_kept (tail M (after M h)) (tail_on (content M l) (after M h) next_in) ∙ ap (point_of M) (sound.ends_meet h half)

    points_in : (hs : List ℕ) → ((h : ℕ) → IsIn h hs → IsIn h (items_of (content M l))) → map (point_of N) (map (tail N) hs) ≡ map (point_of M) (map (tail M) hs)
    points_in [] inside = refl
    points_in (h ∷ hs) inside = λ t. start_kept h (inside h (IsIn_head h hs)) t ∷ points_in hs (λ x j. inside x (IsIn_rest x h hs j)) t

    points_on : (c : LoopContent) → content M l ≡ c → map (point_of N) (vertices_on N c) ≡ map (point_of M) (vertices_on M c)
    points_on (lone v) is = ap (λ p. p ∷ []) (vertex_kept v (subst (λ c. IsIn v (vertices_on M c)) (sym is) (IsIn_head v [])))
    points_on (cycle hs) is = points_in hs (λ h j. subst (λ c. IsIn h (items_of c)) (sym is) j)

    loop_points_kept : map (point_of N) (vertices_on N (content N l)) ≡ map (point_of M) (vertices_on M (content M l))
    loop_points_kept = ap (λ c. map (point_of N) (vertices_on N c)) content_kept ∙ points_on (content M l) refl

    loop_area : area N (items_of (content N l)) ≡ area M (items_of (content M l))
    loop_area = ap (λ c. area N (items_of c)) content_kept ∙ area_kept M N (items_of (content M l)) (λ h j. (start_kept h j, finish_kept h j))

    first_on : (c : LoopContent) → content M l ≡ c → point_of N (first_vertex N c) ≡ point_of M (first_vertex M c)
    first_on (lone v) is = vertex_kept v (subst (λ c. IsIn v (vertices_on M c)) (sym is) (IsIn_head v []))
    first_on (cycle []) is = absurd ((sound.cycles l [] (loop_in l i).0 is).some_item refl)
    first_on (cycle (h ∷ hs)) is = start_kept h (subst (λ c. IsIn h (items_of c)) (sym is) (IsIn_head h hs))

  -- ---- all of them

  outer_kept : outer N k ≡ outer M k
  outer_kept = same_outer M N k row

  loops_kept : loops_of N k ≡ loops_of M k
  unfolding loops_of
  loops_kept = λ t. outer_kept t ∷ rings t

  outer_in : IsIn (outer M k) (loops_of M k)
  unfolding loops_of
  outer_in = IsIn_head (outer M k) (rings_of M k)

  points_of : (X : Model) (l : ℕ) (ls : List ℕ) → map (point_of X) (vertices_in X (l ∷ ls)) ≡ map (point_of X) (vertices_on X (content X l)) ++ map (point_of X) (vertices_in X ls)
  points_of X l ls = map-append (point_of X) (vertices_on X (content X l)) (vertices_in X ls)

  all_points : (ls : List ℕ) → ((l : ℕ) → IsIn l ls → IsIn l (loops_of M k)) → map (point_of N) (vertices_in N ls) ≡ map (point_of M) (vertices_in M ls)
  all_points [] inside = refl
  all_points (l ∷ ls) inside = points_of N l ls
      ∙ (λ t. loop_points_kept l (inside l (IsIn_head l ls)) t ++ all_points ls (λ q j. inside q (IsIn_rest q l ls j)) t) ∙ sym (points_of M l ls)

  corners_kept : corner_points N k ≡ corner_points M k
  unfolding corners
  corners_kept = ap (λ ls. map (point_of N) (vertices_in N ls)) loops_kept ∙ all_points (loops_of M k) (λ l i. i)

  normal_kept : normal N k ≡ normal M k
  unfolding normal boundary
  normal_kept = ap (λ ls. area N (items_in N ls)) loops_kept ∙ areas_kept M N (loops_of M k) (λ l i. loop_area l (IsIn-from_listed l (loops_of M k) i))

  anchor_kept : anchor N k ≡ anchor M k
  anchor_kept = ap (λ q. point_of N (first_vertex N (content N q))) outer_kept ∙ ap (λ c. point_of N (first_vertex N c)) (content_kept (outer M k) outer_in) ∙ first_on (outer M k) outer_in (content M (outer M k)) refl

  plane_kept : plane_of N k ≡ plane_of M k
  unfolding plane_of
  plane_kept = λ t. plane_through (normal_kept t) (anchor_kept t)

  pub stands_turned : IsTurned M N k
  stands_turned = record { there = ap is_some row ∙ there; loops = loops_kept; points = λ l i. not_turned _ _ (loop_points_kept l i); normal = normal_kept }

  pub stands : StandsAsBefore M N k
  stands = grind (arith, same_solid, outer_kept, corners_kept, plane_kept)

pub faces_stand : FacesStand
faces_stand M N k s ps same was = grind arith
