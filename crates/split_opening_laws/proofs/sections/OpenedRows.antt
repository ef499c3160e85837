-- What the tables say once a solid is opened along a cycle.
use Rattle.split_opening_laws.proofs.Prelude.{◌≡◌, ℕ, ◌+◌, ◌≤◌, ◌<◌, Bool, true, false, cond, not, ◌&&◌, List, length, map, reverse, Option, Some, None, is_some, unwrap_or, refl, sym, ap, subst, ◌∙◌, arith, true≢false, ◌⊎◌, inl, inr, option_map, length-map, count, IsIn, IsApart, canonical, mate, edge_of, is_first, plus, minus, get-map_rows, Model, LoopContent, LoopRow, FaceRow, EdgeRow, lone, cycle, no_face, holds, items_of, tail, tail_in, content, cycle_of, loop_of, face_of, solid_of, Sound, Has, HasHalf, face_at, lists, count-canonical, from_map, count-reverse, IsApart-map, plus_row, minus_row, mate-mate, holds_in, in-holds, face_row, content_row, tail_row, cycle_there, row_of, first_where_is, in_use_within, row_some, get-put_other, get-put_here, IsIn-map, Contains-from_in, halves_of_edge, mapped_some, AreFree, Taken, numbers_after, rewritten_row, renamed, opened_tail, opened_row, with_rim, with_copies, both_lists, opened_along, get-put_cases}
use Rattle.euler_operators.specs.Table as table
use Rattle.split_opening_laws.proofs.sections.Numbered.{other_number, rim_below, rim_cases, renamed_one, renamed_not, in_numbers, numbers_in, renamed_onto, length-numbers_after}

-- ---- in which faces the half-edges of a section cycle and of its copy lie, once a solid is opened along it

mates_apart : (bs : List ℕ) → IsApart bs → IsApart (map mate bs)
mates_apart bs d = IsApart-map mate bs (λ x i y j e. sym (mate-mate x) ∙ ap mate e ∙ mate-mate y) d

-- a half-edge that is found in a loop lies in its face
found_in : (N : Model) → Sound N → (h l : ℕ) (row : LoopRow) → table.get N.loops l ≡ Some row → holds h row.content ≡ true → face_at N h ≡ row.face
found_in N sound h l row at is = ap (face_of N) (sound.one_loop h l (ap (holds h) (content_row N l row at) ∙ is)) ∙ face_row N l row at

module _ (M : Model) (above : List ℕ) (s : ℕ) (c : Taken) (bs : List ℕ) where
  abbrev m : ℕ
  m = length bs

  abbrev mates : List ℕ
  mates = map mate bs

  abbrev rim : List ℕ
  rim = numbers_after c.edge (length bs)

  abbrev swaps : List (ℕ × ℕ)
  swaps = both_lists (map mate bs) (map plus (numbers_after c.edge (length bs)))

  abbrev copies : List (ℕ × ℕ)
  copies = both_lists (map (tail M) bs) (numbers_after c.vertex (length bs))

  abbrev pub opened : Model
  opened = opened_along M above s c bs

  abbrev below_cap : FaceRow
  below_cap = record { solid = s; outer = c.loop + 1 }

  abbrev above_cap : FaceRow
  above_cap = record { solid = s; outer = c.loop + m + 1 }

  abbrev below_rim : LoopRow
  below_rim = record { face = c.face + 1; content = cycle (canonical (reverse mates)) }

  abbrev above_rim : LoopRow
  above_rim = record { face = c.face + m + 1; content = cycle (map minus rim) }

  pub faces_are : opened.faces ≡ table.put (table.put M.faces (c.face + 1) below_cap) (c.face + m + 1) above_cap
  unfolding opened_along
  faces_are = refl

  pub loops_are : opened.loops ≡ table.put (table.put (table.map_rows (rewritten_row (map (renamed swaps))) M.loops) (c.loop + 1) below_rim) (c.loop + m + 1) above_rim
  unfolding opened_along
  loops_are = refl

  pub edges_are : opened.edges ≡ with_rim (table.map_rows (opened_row M above mates copies) M.edges) c.edge c.vertex m m
  unfolding opened_along
  edges_are = refl

  pub vertices_are : opened.vertices ≡ with_copies M copies
  unfolding opened_along
  vertices_are = refl

  module _ (sound : Sound M) (free : AreFree M c) where
    old_edge : (h : ℕ) → HasHalf M h → edge_of h ≤ c.edge
    old_edge h there = in_use_within M.edges c.edge free.edges (edge_of h) there

    -- ---- faces and loops

    pub face_still : (f : ℕ) → Has M.faces f → table.get opened.faces f ≡ table.get M.faces f
    face_still f there = let l = in_use_within M.faces c.face free.faces f there in
        ap (λ t. table.get t f) faces_are
        ∙ get-put_other (table.put M.faces (c.face + 1) below_cap) (c.face + m + 1) above_cap f (other_number f c.face (c.face + m + 1) l (omega arith))
        ∙ get-put_other M.faces (c.face + 1) below_cap f (other_number f c.face (c.face + 1) l (omega arith))

    pub solid_kept : (f : ℕ) → Has M.faces f → solid_of opened f ≡ solid_of M f
    unfolding solid_of
    solid_kept f there = ap (λ o. (unwrap_or o no_face).solid) (face_still f there)

    -- an old loop is rewritten
    pub loop_row : (q : ℕ) (row : LoopRow) → table.get M.loops q ≡ Some row → table.get opened.loops q ≡ Some (rewritten_row (map (renamed swaps)) q row)
    loop_row q row at = let l = in_use_within M.loops c.loop free.loops q (ap is_some at) in
        ap (λ t. table.get t q) loops_are
        ∙ get-put_other (table.put (table.map_rows (rewritten_row (map (renamed swaps))) M.loops) (c.loop + 1) below_rim) (c.loop + m + 1) above_rim q (other_number q c.loop (c.loop + m + 1) l (omega arith))
        ∙ get-put_other (table.map_rows (rewritten_row (map (renamed swaps))) M.loops) (c.loop + 1) below_rim q (other_number q c.loop (c.loop + 1) l (omega arith))
        ∙ get-map_rows (rewritten_row (map (renamed swaps))) M.loops q ∙ ap (option_map (rewritten_row (map (renamed swaps)) q)) at

    -- an old half-edge isn't one of those round a cap
    not_plus : (h : ℕ) → HasHalf M h → IsIn h (map plus rim) → ⊥
    not_plus h there i = grind (arith, from_map, other_number, old_edge, in_numbers, plus_row)

    not_minus : (h : ℕ) → HasHalf M h → IsIn h (map minus rim) → ⊥
    not_minus h there i = grind (arith, from_map, other_number, old_edge, in_numbers, minus_row)

    module _ (h : ℕ) (there : HasHalf M h) (no_mate : count h (map mate bs) ≡ 0) where
      renamed_in : (hs : List ℕ) → IsIn h hs → IsIn h (canonical (map (renamed swaps) hs))
      renamed_in hs i = omega (arith, count-canonical h (map (renamed swaps) hs), subst (λ x. IsIn x (map (renamed swaps) hs)) (renamed_not (map mate bs) (map plus rim) h no_mate) (IsIn-map (renamed swaps) h hs i))

      -- a rewritten loop that holds it held it
      held : (q : ℕ) (k : LoopContent) → content M q ≡ k → IsIn h (items_of (rewritten_row (map (renamed swaps)) q (record { face = 0; content = k })).content) → loop_of M h ≡ q
      held q (lone v) e i = absurd (omega arith)
      held q (cycle hs) e i =
          let r = from_map (renamed swaps) h hs (omega (arith, i, count-canonical h (map (renamed swaps) hs))) in
          elim (renamed_one (map mate bs) (map plus rim) r.0) [
            | inl kept ↦ sound.one_loop h q (in-holds h (content M q) (subst (λ x. IsIn h (items_of x)) (sym e) (subst (λ x. IsIn x hs) (sym (r.2 ∙ kept)) r.1)))
            | inr new ↦ absurd (not_plus h there (subst (λ x. IsIn x (map plus rim)) (sym r.2) new))
          ]

      content_of : (q : ℕ) (row : LoopRow) → table.get M.loops q ≡ Some row → IsIn h (items_of (rewritten_row (map (renamed swaps)) q row).content) → loop_of M h ≡ q
      content_of q row at i = held q row.content (content_row M q row at) i

      from_rewritten : (q : ℕ) (y : LoopRow) (o : Option LoopRow) → table.get M.loops q ≡ o → option_map (rewritten_row (map (renamed swaps)) q) o ≡ Some y → IsIn h (items_of y.content) → loop_of M h ≡ q
      from_rewritten q y None e at i = absurd (true≢false (sym (ap is_some at)))
      from_rewritten q y (Some row) e at i = grind (arith, content_of)

      only_there : (q : ℕ) (y : LoopRow) → table.get opened.loops q ≡ Some y → holds h y.content ≡ true → q ≡ loop_of M h
      only_there q y at passes = elim (get-put_cases (table.put (table.map_rows (rewritten_row (map (renamed swaps))) M.loops) (c.loop + 1) below_rim) (c.loop + m + 1) above_rim q y (sym (ap (λ t. table.get t q) loops_are) ∙ at)) [
        | inl p ↦ absurd (not_minus h there (holds_in h (cycle (map minus rim)) (sym (ap (λ r. holds h r.content) p.1) ∙ passes)))
        | inr p ↦ elim (get-put_cases (table.map_rows (rewritten_row (map (renamed swaps))) M.loops) (c.loop + 1) below_rim q y p.1) [
          | inl r ↦ absurd (in_cap (holds_in h (cycle (canonical (reverse mates))) (sym (ap (λ x. holds h x.content) r.1) ∙ passes)))
          | inr r ↦ sym (from_rewritten q y (table.get M.loops q) refl (sym (get-map_rows (rewritten_row (map (renamed swaps))) M.loops q) ∙ r.1) (holds_in h y.content passes))
        ]
      ] where
        in_cap : IsIn h (canonical (reverse mates)) → ⊥
        in_cap i = absurd (omega (arith, i, count-canonical h (reverse mates), count-reverse h mates, no_mate))

      loop_there : table.get opened.loops (loop_of M h) ≡ Some (rewritten_row (map (renamed swaps)) (loop_of M h) (record { face = face_of M (loop_of M h); content = cycle (cycle_of M h) }))
      loop_there = loop_row (loop_of M h) _ (row_of M sound h there)

      loop_kept : loop_of opened h ≡ loop_of M h
      unfolding loop_of
      loop_kept = first_where_is (λ _ row. holds h row.content) opened.loops (loop_of M h) _ loop_there
          (in-holds h (cycle (canonical (map (renamed swaps) (cycle_of M h)))) (renamed_in (cycle_of M h) (cycle_there M sound h there))) only_there

      -- a half-edge that isn't a mate of the cycle keeps its face
      pub face_kept : face_at opened h ≡ face_at M h
      face_kept = ap (face_of opened) loop_kept ∙ face_row opened (loop_of M h) _ loop_there

    -- ---- edges

    edge_row : (e : ℕ) (row : EdgeRow) → table.get M.edges e ≡ Some row → table.get opened.edges e ≡ Some (opened_row M above mates copies e row)
    edge_row e row at = ap (λ t. table.get t e) edges_are
        ∙ rim_below (table.map_rows (opened_row M above mates copies) M.edges) c.edge c.vertex m m e (in_use_within M.edges c.edge free.edges e (ap is_some at))
        ∙ get-map_rows (opened_row M above mates copies) M.edges e ∙ ap (option_map (opened_row M above mates copies e)) at

    pub half_kept : (h : ℕ) → HasHalf M h → HasHalf opened h
    half_kept h there = let r = row_some (table.get M.edges (edge_of h)) there in ap is_some (edge_row (edge_of h) r.0 r.1)

    pub tail_is : (h : ℕ) → HasHalf M h → tail opened h ≡ opened_tail M above mates copies h (tail M h)
    tail_is h there =
        let r = row_some (table.get M.edges (edge_of h)) there in
        let now : tail opened h ≡ tail_in (opened_row M above mates copies (edge_of h) r.0) (is_first h) = tail_row opened h (opened_row M above mates copies (edge_of h) r.0) (edge_row (edge_of h) r.0 r.1) in
        let old : tail M h ≡ tail_in r.0 (is_first h) = tail_row M h r.0 r.1 in
        elim (halves_of_edge h) [
          | inl p ↦ grind arith
          | inr p ↦ grind arith
        ]

    -- it starts where it did, or at a copy
    pub tail_cases : (h : ℕ) → HasHalf M h → (tail opened h ≡ tail M h) ⊎ (c.vertex < tail opened h)
    tail_cases h there = either_tail (lists above (face_at M h) && not (lists mates h)) (tail_is h there) where
      either_tail : (b : Bool) → tail opened h ≡ cond b (renamed copies (tail M h)) (tail M h) → (tail opened h ≡ tail M h) ⊎ (c.vertex < tail opened h)
      either_tail true e = elim (renamed_one (map (tail M) bs) (numbers_after c.vertex m) (tail M h)) [
        | inl k ↦ inl (e ∙ k)
        | inr i ↦ inr (subst (λ n. c.vertex < n) (sym e) (in_numbers c.vertex m (renamed copies (tail M h)) i).0)
      ]
      either_tail false e = inl e

    -- where no half of the cycle starts, it starts where it did
    pub tail_kept : (h : ℕ) → HasHalf M h → count (tail M h) (map (tail M) bs) ≡ 0 → tail opened h ≡ tail M h
    tail_kept h there z = grind (arith, tail_is, renamed_not)

    -- a half-edge was there, or is of an edge round a cap and starts at a copy
    pub half_cases : (h : ℕ) → HasHalf opened h → HasHalf M h ⊎ (IsIn (edge_of h) (numbers_after c.edge (length bs)) × (c.vertex < tail opened h))
    half_cases h there =
        let r = row_some (table.get opened.edges (edge_of h)) there in
        elim (rim_cases (table.map_rows (opened_row M above mates copies) M.edges) c.edge c.vertex m m (edge_of h) r.0 (sym (ap (λ t. table.get t (edge_of h)) edges_are) ∙ r.1)) [
          | inl at ↦ inl (sym (mapped_some (opened_row M above mates copies (edge_of h)) (table.get M.edges (edge_of h))) ∙ ap is_some (sym (get-map_rows (opened_row M above mates copies) M.edges (edge_of h)) ∙ at))
          | inr l ↦ inr (numbers_in c.edge m (edge_of h) l.0 l.1, subst (λ n. c.vertex < n) (sym (tail_row opened h r.0 r.1)) (either (is_first h) r.0 l.2 l.3))
        ]
      where
        either : (b : Bool) (row : EdgeRow) → c.vertex < row.plus_tail → c.vertex < row.minus_tail → c.vertex < tail_in row b
        either true row a d = a
        either false row a d = d

  abbrev N : Model
  N = opened_along M above s c bs

  -- the cap above is a face of the solid
  pub upper_row : table.get N.faces (c.face + length bs + 1) ≡ Some (record { solid = s; outer = c.loop + length bs + 1 })
  upper_row = ap (λ t. table.get t (c.face + m + 1)) faces_are ∙ get-put_here _ (c.face + m + 1) _

  module _ (then_sound : Sound (opened_along M above s c bs)) where
    -- the mates lie in the cap below
    pub mate_face : (h : ℕ) → IsIn h (map mate bs) → face_at N h ≡ c.face + 1
    mate_face h i = found_in N then_sound h (c.loop + 1) _
        (ap (λ t. table.get t (c.loop + 1)) loops_are ∙ get-put_other _ (c.loop + m + 1) _ (c.loop + 1) (λ e. absurd (omega (arith, e, (Contains-from_in h (map mate bs) i).1, length-map bs mate))) ∙ get-put_here _ (c.loop + 1) _)
        (in-holds h (cycle (canonical (reverse mates))) (omega (arith, i, count-canonical h (reverse mates), count-reverse h mates)))

    -- the one half of an edge round the cap above lies in that cap
    pub minus_face : (k : ℕ) → IsIn k (numbers_after c.edge (length bs)) → face_at N (minus k) ≡ c.face + length bs + 1
    minus_face k i = found_in N then_sound (minus k) (c.loop + m + 1) _
        (ap (λ t. table.get t (c.loop + m + 1)) loops_are ∙ get-put_here _ (c.loop + m + 1) _)
        (in-holds (minus k) (cycle (map minus rim)) (IsIn-map minus k rim i))

    -- and the other half stands in place of a mate
    pub plus_face : Sound M → AreFree M c → IsApart bs → ((b : ℕ) → IsIn b (map mate bs) → HasHalf M b) → (k : ℕ) → IsIn k (numbers_after c.edge (length bs)) → (a : ℕ) × IsIn a (map mate bs) × (face_at N (plus k) ≡ face_at M a)
    plus_face sound free d there k i =
        let r = renamed_onto mates (map plus rim) (mates_apart bs d) (length-map bs mate ∙ sym (length-map rim plus ∙ length-numbers_after c.edge m)) (plus k) (IsIn-map plus k rim i) in
        let t : HasHalf M r.0 = there r.0 r.1 in
        let swap : ℕ → ℕ = renamed (both_lists mates (map plus rim)) in
        let j : IsIn (plus k) (map swap (cycle_of M r.0)) = subst (λ x. IsIn x (map swap (cycle_of M r.0))) r.2 (IsIn-map swap r.0 (cycle_of M r.0) (cycle_there M sound r.0 t)) in (
          r.0,
          r.1,
          found_in N then_sound (plus k) (loop_of M r.0) _ (loop_row sound free (loop_of M r.0) _ (row_of M sound r.0 t))
              (in-holds (plus k) (cycle (canonical (map swap (cycle_of M r.0)))) (omega (arith, j, count-canonical (plus k) (map swap (cycle_of M r.0))))),
        )
