-- What a model holds while two solids are being glued together, and one item more.
use Rattle.gluing_laws.proofs.Prelude.{◌≡◌, ◌≢◌, ℕ, nat_eq, List, ◌∷◌, ◌++◌, Option, Some, None, is_some, unwrap_or, refl, sym, ap, ◌∙◌, subst, arith, true≢false, inl, inr, cond, [], map, reverse, option_map, nat_tests, eqb_tells, count, IsIn, canonical, rest, mate, edge_of, is_first, Table, tables, get-map_rows, same_table, get-put, Model, LoopRow, cycle, tail, tail_in, no_edge, solid_of, outer, items_of, loop_of, content, face_of, cycle_of, Sound, HasHalf, StandsIn, faces_to_solid, count-append, tick_other, IsIn_or_not, get-put_here, get-put_other, count-canonical, from_map, count-reverse, content_row, holds_in, none-holds, other_loop, row_of, cycle_there, cycle_sound, mate_there, IsIn-map, mapped_some, Around, half_is, loop_is, rewritten_row, renamed, without_rows, renamed_tails, paired, seam, glued_part, renamed_not, without_there, without_gone, renamed_more, replaced, tail_renamed, Facing, side, row_stays, row_turns}
use Rattle.std.proofs.lemmas.Option.{same_Some}
use Rattle.euler_operators.specs.Table as table
use Rattle.shapes.proofs.glue.Facing as facing

-- some items are glued, the others aren't yet; last is the last item
pub record Stage (M : Model) (f g : ℕ) (partner_of : ℕ → ℕ) (hs : List ℕ) (x last : ℕ) (done more : List ℕ) : Type 0 where
  pub facing : Facing M f g partner_of hs x
  pub split : hs ≡ done ++ more
  pub last_in : IsIn last more
  pub sound : Sound (glued_part M f g partner_of last done more)

module _ (M : Model) (f g : ℕ) (partner_of : ℕ → ℕ) (hs : List ℕ) (x last : ℕ) (done more : List ℕ) (w : Stage M f g partner_of hs x last done more) where
  abbrev N : Model
  N = glued_part M f g partner_of last done more

  abbrev l : ℕ
  l = outer M f

  abbrev r : ℕ
  r = outer M g

  -- what replaces the mates of the partners, and what the tails become
  abbrev swap : ℕ → ℕ
  swap = renamed (paired (λ h. mate (partner_of h)) (λ h. h) done)

  abbrev move : ℕ → ℕ
  move = renamed (paired (λ h. tail M (partner_of h)) (λ h. tail M (mate h)) (last ∷ done))

  abbrev gone : List ℕ
  gone = map (λ h. edge_of (partner_of h)) done

  abbrev kept : Table LoopRow
  kept = table.remove (table.remove M.loops l) r

  pub loops_are : N.loops ≡ table.put (table.map_rows (rewritten_row (map swap)) kept) l (record { face = f; content = cycle (canonical (seam partner_of more)) })
  unfolding glued_part
  loops_are = refl

  pub edges_are : N.edges ≡ table.map_rows (renamed_tails (paired (λ h. tail M (partner_of h)) (λ h. tail M (mate h)) (last ∷ done))) (without_rows M.edges gone)
  unfolding glued_part
  edges_are = refl

  pub faces_are : N.faces ≡ table.map_rows (faces_to_solid (λ _ row. nat_eq row.solid (solid_of M g)) (solid_of M f)) (table.remove M.faces g)
  unfolding glued_part
  faces_are = refl

  pub all_in : (h : ℕ) → IsIn h more → IsIn h hs
  all_in h i = omega (arith, i, ap (count h) w.split, count-append h done more)

  pub done_in : (h : ℕ) → IsIn h done → IsIn h hs
  done_in h i = omega (arith, i, ap (count h) w.split, count-append h done more)

  pub moved_in : (h : ℕ) → IsIn h (last ∷ done) → IsIn h hs
  moved_in h i = grind (arith, eqb_tells, all_in, done_in, tick_other)

  -- ---- loops

  pub at_l : table.get N.loops l ≡ Some (record { face = f; content = cycle (canonical (seam partner_of more)) })
  at_l = ap (λ t. table.get t l) loops_are ∙ get-put_here _ l _

  pub around_l : Around N l f (seam partner_of more)
  around_l = record { sound = w.sound; at = at_l }

  kept_r : table.get kept r ≡ None
  kept_r = grind (arith, nat_tests, tables)

  pub at_kept : (q : ℕ) → q ≢ l → table.get N.loops q ≡ option_map (rewritten_row (map swap) q) (table.get kept q)
  at_kept q a = ap (λ t. table.get t q) loops_are ∙ get-put_other _ l _ q a ∙ get-map_rows (rewritten_row (map swap)) kept q

  pub at_r : table.get N.loops r ≡ None
  at_r = at_kept r (λ e. facing.loops_apart M f g partner_of hs x w.facing (sym e)) ∙ ap (option_map (rewritten_row (map swap) r)) kept_r

  -- ---- edges

  edge_row : (e : ℕ) → table.get N.edges e ≡ option_map (renamed_tails (paired (λ h. tail M (partner_of h)) (λ h. tail M (mate h)) (last ∷ done)) e) (table.get (without_rows M.edges gone) e)
  edge_row e = ap (λ t. table.get t e) edges_are ∙ get-map_rows _ (without_rows M.edges gone) e

  -- what is left is as it was
  pub still : (y : ℕ) → HasHalf N y → table.get (without_rows M.edges gone) (edge_of y) ≡ table.get M.edges (edge_of y)
  still y there = grind (arith, IsIn_or_not, true≢false, edge_row, without_gone, without_there)

  pub half_back : (y : ℕ) → HasHalf N y → HasHalf M y
  half_back y there = ap is_some (sym (still y there)) ∙ sym (mapped_some _ (table.get (without_rows M.edges gone) (edge_of y))) ∙ ap is_some (sym (edge_row (edge_of y))) ∙ there

  pub tail_is : (y : ℕ) → HasHalf N y → tail N y ≡ move (tail M y)
  unfolding tail
  tail_is y there = ap (λ o. tail_in (unwrap_or o no_edge) (is_first y)) (edge_row (edge_of y) ∙ ap (option_map _) (still y there)) ∙ tail_renamed (paired (λ h. tail M (partner_of h)) (λ h. tail M (mate h)) (last ∷ done)) (table.get M.edges (edge_of y)) (edge_of y) (is_first y) (half_back y there)

  pub edge_free : table.get N.edges x ≡ None
  edge_free = grind (arith, edge_row, IsIn_or_not, without_gone, without_there, w.facing.edge_free)

  pub face_free : table.get N.faces g ≡ None
  face_free = grind (arith, faces_are, get-map_rows, nat_tests, tables)

  -- an item that isn't glued yet, and its partner, start where they did
  pub tail_here : (h : ℕ) → IsIn h more → HasHalf N h → tail N h ≡ tail M h
  tail_here h i there = tail_is h there ∙ renamed_not (λ h. tail M (partner_of h)) (λ h. tail M (mate h)) (last ∷ done) (tail M h) (λ k j. facing.never_met M f g partner_of hs x w.facing k h (moved_in k j) (all_in h i))

  pub tail_partner : (h : ℕ) → IsIn h more → h ≢ last → HasHalf N (partner_of h) → tail N (partner_of h) ≡ tail M (partner_of h)
  tail_partner h i ne there = tail_is (partner_of h) there ∙ renamed_not (λ h. tail M (partner_of h)) (λ h. tail M (mate h)) (last ∷ done) (tail M (partner_of h)) (λ k j e.
      let same : k ≡ h = w.facing.starts_once k h (moved_in k j) (all_in h i) e in
      let out : count h (last ∷ done) ≡ 0 = omega (arith, facing.apart M f g partner_of hs x w.facing h, ap (count h) w.split, count-append h done more, i, tick_other h last ne) in
      absurd (omega (arith, out, subst (λ q. IsIn q (last ∷ done)) same j)))

  -- ---- the mate of the next partner, in the loop that holds it

  module _ (h : ℕ) (h_more : IsIn h more) where
    abbrev pub m : ℕ
    m = mate (partner_of h)

    abbrev q : ℕ
    q = loop_of N m

    abbrev swap_more : ℕ → ℕ
    swap_more = renamed (paired (λ j. mate (partner_of j)) (λ j. j) (done ++ h ∷ []))

    h_in : IsIn h hs
    h_in = all_in h h_more

    h_seam : IsIn h (seam partner_of more)
    h_seam = omega (arith, h_more, count-append h more (reverse (map partner_of more)))

    g_seam : IsIn (partner_of h) (seam partner_of more)
    g_seam = omega (arith, IsIn-map partner_of h more h_more, count-reverse (partner_of h) (map partner_of more), count-append (partner_of h) more (reverse (map partner_of more)))

    pub g_there : HasHalf N (partner_of h)
    g_there = half_is N l f (seam partner_of more) around_l (partner_of h) g_seam

    pub m_there : HasHalf N m
    m_there = mate_there N (partner_of h) g_there

    -- it stands in another loop
    pub mate_else : q ≢ l
    mate_else e =
        let stands : StandsIn N m l = subst (StandsIn N m) e (w.sound.stands m m_there) in
        let held = ap (λ c. count m (items_of c)) (content_row N l _ at_l) in
        let here : IsIn m (seam partner_of more) = omega (arith, holds_in m (content N l) stands, held, count-canonical m (seam partner_of more)) in
        elim (IsIn_or_not m more) [
          | inl j ↦ w.facing.solids_apart (sym (facing.side_f M f g partner_of hs x w.facing m (all_in m j))
              ∙ facing.side_mate M f g partner_of hs x w.facing (partner_of h) (facing.half_g M f g partner_of hs x w.facing h h_in) ∙ facing.side_g M f g partner_of hs x w.facing h h_in)
          | inr n ↦
              let b : IsIn m (map partner_of more) = omega (arith, here, n, count-append m more (reverse (map partner_of more)), count-reverse m (map partner_of more)) in
              let p = from_map partner_of m more b in
              w.facing.no_fold h p.0 h_in (all_in p.0 p.1) p.2
        ]

    -- with h in its place
    abbrev pub turned_row : LoopRow
    turned_row = record { face = face_of N q; content = cycle (canonical (h ∷ rest m (cycle_of N m))) }

    -- items of f aren't mates of items of g
    not_mate : (j : ℕ) → IsIn j done → j ≢ m
    not_mate j i e = w.facing.solids_apart (sym (facing.side_f M f g partner_of hs x w.facing j (done_in j i))
        ∙ ap (side M f g partner_of hs x w.facing) e ∙ facing.side_mate M f g partner_of hs x w.facing (partner_of h) (facing.half_g M f g partner_of hs x w.facing h h_in) ∙ facing.side_g M f g partner_of hs x w.facing h h_in)

    swaps_on : (u : ℕ) → swap_more u ≡ replaced m h (swap u)
    swaps_on u = renamed_more (λ j. mate (partner_of j)) (λ j. j) done h not_mate u

    -- h isn't in m's loop
    h_else : count h (cycle_of N m) ≡ 0
    h_else = none-holds h (cycle (cycle_of N m)) (other_loop N w.sound h q (record { face = face_of N q; content = cycle (cycle_of N m) })
        (λ e. mate_else (e ∙ loop_is N l f (seam partner_of more) around_l h h_seam)) (row_of N w.sound m m_there))

    kept_l : table.get kept l ≡ None
    kept_l = grind (arith, nat_tests, tables)

    -- each row of the others, before and after
    turned_at : (o : Option LoopRow) → option_map (rewritten_row (map swap) q) o ≡ Some (record { face = face_of N q; content = cycle (cycle_of N m) }) → option_map (rewritten_row (map swap_more) q) o ≡ Some turned_row
    turned_at None e = absurd (true≢false (sym (ap is_some e)))
    turned_at (Some row) e = ap Some (row_turns swap swap_more m h swaps_on q (face_of N q) row (cycle_of N m) (same_Some _ _ e) (cycle_sound N w.sound m m_there).apart (cycle_there N w.sound m m_there) h_else)

    stays_at : (p : ℕ) → p ≢ q → (o : Option LoopRow) → ((y : LoopRow) → option_map (rewritten_row (map swap) p) o ≡ Some y → table.get N.loops p ≡ Some y) → option_map (rewritten_row (map swap_more) p) o ≡ option_map (rewritten_row (map swap) p) o
    stays_at p ne None e = refl
    stays_at p ne (Some row) e = ap Some (row_stays swap swap_more m h swaps_on p row (none-holds m (rewritten_row (map swap) p row).content (other_loop N w.sound m p (rewritten_row (map swap) p row) ne (e (rewritten_row (map swap) p row) refl))))

    -- the other loops with one item more glued
    pub others : table.map_rows (rewritten_row (map swap_more)) kept ≡ table.put (table.map_rows (rewritten_row (map swap)) kept) q turned_row
    others = same_table _ _ (λ p. get-map_rows (rewritten_row (map swap_more)) kept p ∙ elim (eqb_tells p q) [
      | inl e ↦ ap (λ n. option_map (rewritten_row (map swap_more) n) (table.get kept n)) e.1
          ∙ turned_at (table.get kept q) (sym (at_kept q mate_else) ∙ row_of N w.sound m m_there)
          ∙ sym (get-put (table.map_rows (rewritten_row (map swap)) kept) q turned_row p ∙ ap (λ b. cond b (Some turned_row) (table.get (table.map_rows (rewritten_row (map swap)) kept) p)) e.0)
      | inr ne ↦ elim (eqb_tells p l) [
        | inl e ↦ ap (option_map (rewritten_row (map swap_more) p)) (ap (table.get kept) e.1 ∙ kept_l) ∙ sym (ap (option_map (rewritten_row (map swap) p)) (ap (table.get kept) e.1 ∙ kept_l))
        | inr nl ↦ stays_at p ne.1 (table.get kept p) (λ y at. at_kept p nl.1 ∙ at)
      ]
          ∙ sym (get-map_rows (rewritten_row (map swap)) kept p)
          ∙ sym (get-put (table.map_rows (rewritten_row (map swap)) kept) q turned_row p ∙ ap (λ b. cond b (Some turned_row) (table.get (table.map_rows (rewritten_row (map swap)) kept) p)) ne.0)
    ])
