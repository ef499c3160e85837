-- One loop of a face swept: its new ring and its sides.
use Rattle.command_laws.proofs.Prelude.{◌≡◌, ℕ, zero, suc, ◌+◌, ◌*◌, ◌≤◌, ◌<◌, List, [], ◌∷◌, ◌++◌, Some, is_some, refl, sym, ap, subst, ◌∙◌, arith, inl, inr, length, get_or, map, take, map-append, Point, moved, IsIn, edge_of, plus, Model, cycle, items_of, content, point_of, solid_of, rings_of, Sound, Has, IsIn_or_not, IsIn_rest, outer_row, solid_row, same_content, in_use_within, start, vertices_on, Taken, Growing, top_edge, top_items, next_place, filled_new, side_face, side_items, faces_grown, IsPathOf, within, rings_new, content_here, content_new, loop_new, item_start, next_start, top_start, top_finish, riser_finish, taken_after, item_within, all_moved, side_over, IsFaceOf, loop_points}
use Rattle.euler_operators.specs.Table as table
use Rattle.command_laws.proofs.Outlines.{take_next, take_whole, nth_start, as_many, same_starts, starts_are, points_are, plane_is}
use Rattle.command_laws.proofs.MovedAreas.{moved_many, nth_moved}
use Rattle.command_laws.proofs.SweptLoops.{Ready, Later, items, path, has_free, swept_once, after_ready}

-- ---- points

pub along_cycle : (M : Model) (l : ℕ) (hs : List ℕ) → content M l ≡ cycle hs → loop_points M l ≡ map (start M) hs
along_cycle M l hs is = ap (λ x. map (point_of M) (vertices_on M x)) is ∙ starts_are M hs

-- ---- the new ring

module _ {f s : ℕ} (d : Point) {g : Growing} {l : ℕ} {ls : List ℕ} (w : Ready f s d g (l ∷ ls)) where
  abbrev X : Model
  X = g.model

  abbrev c : Taken
  c = g.taken

  abbrev o : ℕ
  o = solid_of g.model f

  abbrev hs : List ℕ
  hs = items d w

  abbrev r : IsPathOf g.model f l (items_of (content g.model l))
  r = path d w

  abbrev Y : Model
  Y = swept_once d w

  pub ring_is : content (swept_once d w) l ≡ cycle (top_items g.taken.edge (length (items d w)) (length (items d w)))
  ring_is = content_here X c o d hs f l (has_free d w) r

  tops_to : (k : ℕ) → k ≤ length hs → map (start Y) (top_items c.edge (length hs) k) ≡ take k (all_moved d (map (start X) hs))
  tops_to zero m = refl
  tops_to (suc k) m =
      let many : k < length (map (start X) hs) = omega (arith, m, as_many X hs) in
      map-append (start Y) (top_items c.edge (length hs) k) (plus (top_edge c.edge (length hs) k) ∷ [])
      ∙ (λ t. tops_to k (omega (arith, m)) t ++ (top_start X c o d hs f l (has_free d w) r k (omega (arith, m)) ∙ sym (nth_moved d (map (start X) hs) k many ∙ ap (λ p. moved p d) (nth_start X hs k (omega (arith, m))))) t ∷ [])
      ∙ sym (take_next (all_moved d (map (start X) hs)) k (omega (arith, many, moved_many d (map (start X) hs))))

  pub ring_moved : map (start (swept_once d w)) (top_items g.taken.edge (length (items d w)) (length (items d w))) ≡ all_moved d (map (start g.model) (items d w))
  ring_moved = tops_to (length hs) (omega arith) ∙ ap (λ n. take n (all_moved d (map (start X) hs))) (sym (as_many X hs) ∙ sym (moved_many d (map (start X) hs))) ∙ take_whole (all_moved d (map (start X) hs))

  -- what stands in a loop then is within the numbers taken
  pub items_taken : (q h : ℕ) → IsIn h (items_of (content (swept_once d w) q)) → edge_of h ≤ g.taken.edge + 2 * length (items d w)
  items_taken q h i = let then = (after_ready d w).going in item_within (record { sound = then.sound; free = then.free }) h q i

  pub loop_low : l ≤ g.taken.loop
  loop_low = within X c o d hs f l (has_free d w) r

  later_low : (q : ℕ) → IsIn q ls → q ≤ c.loop
  later_low q i = in_use_within X.loops c.loop w.going.free.loops q (ap is_some (w.going.rows q (IsIn_rest q l ls i)))

  -- ---- side i, in a model Z with the later loops swept too

  module _ (Z : Model) (sound : Sound Z) (later : Later (swept_once d w) Z (taken_after g.taken (length (items d w))) ls) (i : ℕ) (m : i < length (items d w)) where
    abbrev k : ℕ
    k = c.face + 1 + i

    abbrev q : ℕ
    q = c.loop + 1 + i

    abbrev round : List ℕ
    round = side_items X c o d hs i

    row : table.get Z.faces k ≡ Some (side_face X c o d hs i)
    row = later.faces k (omega (arith, m)) ∙ ap (λ t. table.get t k) (faces_grown X c o d hs (length hs)) ∙ filled_new X.faces c.face (side_face X c o d hs) (length hs) i m

    none : rings_of Z k ≡ []
    none = later.rings k (omega (arith, m)) ∙ rings_new X c o d hs f l (has_free d w) r i m

    side_row : table.get Z.loops q ≡ table.get Y.loops q
    side_row = later.loops q (omega (arith, m)) (elim (IsIn_or_not q ls) [ inl j ↦ absurd (omega (arith, later_low q j)) | inr z ↦ z ])

    content_is : content Z q ≡ cycle round
    content_is = same_content Y Z q side_row ∙ content_new X c o d hs f l (has_free d w) r i m

    there : Has Z.loops q
    there = ap is_some (side_row ∙ loop_new X c o d hs f l (has_free d w) r i m)

    abbrev from : Point
    from = start X (get_or hs i 0)

    abbrev to : Point
    to = start X (get_or hs (next_place (length hs) i) 0)

    starts_then : map (start Z) round ≡ map (start Y) round
    starts_then = same_starts Y Z round (λ h j. later.starts h (items_taken q h (subst (λ x. IsIn h (items_of x)) (sym (content_new X c o d hs f l (has_free d w) r i m)) j)))

    round_points : map (start Z) round ≡ side_over d from to
    round_points = starts_then
        ∙ (λ t. item_start X c o d hs f l (has_free d w) r i m t ∷ (next_start X c o d hs f l (has_free d w) r i m ∙ r.linked i m) t
        ∷ (top_finish X c o d hs f l (has_free d w) r i m ∙ ap (λ p. moved p d) (r.linked i m)) t ∷ riser_finish X c o d hs f l (has_free d w) r i m t ∷ [])

    pub side_stands : IsFaceOf Z (g.taken.face + 1 + i) s (side_over d (start g.model (get_or (items d w) i 0)) (start g.model (get_or (items d w) (next_place (length (items d w)) i) 0)))
    side_stands =
        let out = outer_row Z k (side_face X c o d hs i) row in
        let told = points_are Z k q round none out content_is ∙ round_points in
        record {
          there = ap is_some row;
          solid = solid_row Z k (side_face X c o d hs i) row ∙ w.solid;
          plain = none;
          points = told;
          plane = plane_is Z k q round none out content_is sound there (omega arith) (side_over d from to) told;
        }
