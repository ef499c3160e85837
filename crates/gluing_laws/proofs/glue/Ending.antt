-- The last item: only its partner's edge goes, with face f.
use Rattle.gluing_laws.proofs.Prelude.{◌≡◌, ◌≢◌, ℕ, true, false, cond, nat_eq, Bool, List, [], ◌∷◌, ◌++◌, Option, Some, None, is_some, unwrap_or, refl, sym, ap, ◌∙◌, subst, arith, true≢false, inl, inr, map, option_map, nat_tests, eqb_tells, map-append, count, IsIn, IsApart, canonical, rest, mate, edge_of, half, Table, tables, same_table, get-map_rows, Model, FaceRow, LoopRow, cycle, tail, loop_of, face_of, solid_of, outer, cycle_of, no_face, Has, HasHalf, face_at, first_false, effect, kef, faces_to_solid, count-append, tick_same, rest_same, rest_at, canonical-rotates, code-half, mate-mate, edge_of-mate, face_row, row_of, mate_there, Kef, face_there, KefGoes, kef_accepted, Around, half_is, loop_is, apart_xs, cycle_is, rewritten_row, renamed, without_rows, glued_along, renamed_tails, moves, partner, partners, paired, glued_part, renamed_last, without_first, without_more, map_agree, map_removed, Facing}
use Rattle.euler_operators.specs.Table as table
use Rattle.euler_laws.proofs.mef.KefSound as kill
use Rattle.shapes.proofs.glue.Facing as facing
use Rattle.gluing_laws.proofs.glue.Stages as stages

-- the same with f's loop and face, and the last item's partner, gone
abbrev pub glued_all : Model → ℕ → ℕ → (ℕ → ℕ) → List ℕ → Model
glued_all M f g partner_of hs = let s = solid_of M f in let t = solid_of M g in record {
  solids = table.remove M.solids t;
  faces = table.map_rows (faces_to_solid (λ _ row. nat_eq row.solid t) s) (table.remove (table.remove M.faces f) g);
  loops = table.map_rows (rewritten_row (map (renamed (paired (λ h. mate (partner_of h)) (λ h. h) hs)))) (table.remove (table.remove M.loops (outer M f)) (outer M g));
  edges = table.map_rows (renamed_tails (paired (λ h. tail M (partner_of h)) (λ h. tail M (mate h)) hs)) (without_rows M.edges (map (λ h. edge_of (partner_of h)) hs));
  vertices = without_rows M.vertices (map (λ h. tail M (partner_of h)) hs);
}

module _ (M : Model) (f g : ℕ) (partner_of : ℕ → ℕ) (hs : List ℕ) (x : ℕ) (done : List ℕ) (h : ℕ) (w : stages.Stage M f g partner_of hs x h done (h ∷ [])) where
  abbrev N : Model
  N = glued_part M f g partner_of h done (h ∷ [])

  abbrev F : Facing M f g partner_of hs x
  F = w.facing

  abbrev l : ℕ
  l = outer M f

  abbrev r : ℕ
  r = outer M g

  abbrev m : ℕ
  m = mate (partner_of h)

  abbrev q : ℕ
  q = loop_of N m

  h_in : IsIn h hs
  h_in = stages.all_in M f g partner_of hs x h done (h ∷ []) w h (omega (arith, tick_same h))

  around_l : Around N l f (h ∷ partner_of h ∷ [])
  around_l = stages.around_l M f g partner_of hs x h done (h ∷ []) w

  g_in : IsIn (partner_of h) (h ∷ partner_of h ∷ [])
  g_in = omega (arith, tick_same (partner_of h))

  m_there : HasHalf N m
  m_there = mate_there N (partner_of h) (half_is N l f (h ∷ partner_of h ∷ []) around_l (partner_of h) g_in)

  q_l : q ≢ l
  q_l = stages.mate_else M f g partner_of hs x h done (h ∷ []) w h (omega (arith, tick_same h))

  loop_g : loop_of N (mate m) ≡ l
  loop_g = ap (loop_of N) (mate-mate (partner_of h)) ∙ loop_is N l f (h ∷ partner_of h ∷ []) around_l (partner_of h) g_in

  face_g : face_at N (mate m) ≡ f
  face_g = ap (face_of N) loop_g ∙ face_row N l (record { face = f; content = cycle (canonical (h ∷ partner_of h ∷ [])) }) around_l.at

  -- no other loop is of f
  face_else : (p : ℕ) → p ≢ l → Has N.loops p → face_of N p ≢ f
  face_else p ne there is = from (table.get (table.remove (table.remove M.loops l) r) p) refl where
    kept_back : (row : LoopRow) → table.get (table.remove (table.remove M.loops l) r) p ≡ Some row → table.get M.loops p ≡ Some row
    kept_back row at = grind (arith, nat_tests, tables)

    from : (o : Option LoopRow) → table.get (table.remove (table.remove M.loops l) r) p ≡ o → ⊥
    from None e = true≢false (sym there ∙ ap is_some (stages.at_kept M f g partner_of hs x h done (h ∷ []) w p ne ∙ ap (option_map _) e))
    from (Some row) e =
        let at : table.get M.loops p ≡ Some row = kept_back row e in
        ne (sym (F.alone_f p (ap is_some at) (face_row M p row at ∙ sym (face_row N p _ (stages.at_kept M f g partner_of hs x h done (h ∷ []) w p ne ∙ ap (option_map _) e)) ∙ is)))

  face_row_f : table.get N.faces f ≡ Some (record { solid = solid_of M f; outer = l })
  face_row_f = ap (λ t. table.get t f) (stages.faces_are M f g partner_of hs x h done (h ∷ []) w)
      ∙ get-map_rows _ (table.remove M.faces g) f
      ∙ ap (option_map _) (removed (facing.faces_apart M f g partner_of hs x F) ∙ face_there M f F.f_there)
      ∙ ap Some (unmoved (nat_eq (solid_of M f) (solid_of M g))) where
        removed : f ≢ g → table.get (table.remove M.faces g) f ≡ table.get M.faces f
        removed ne = grind (arith, nat_tests, tables)

        unmoved : (b : Bool) → ◌≡◌ {A = FaceRow} (cond b (record { solid = solid_of M f; outer = l }) (record { solid = solid_of M f; outer = l })) (record { solid = solid_of M f; outer = l })
        unmoved true = refl
        unmoved false = refl

  goes : KefGoes N m
  unfolding outer
  goes = record {
    h_there = m_there;
    faces_apart = λ e. face_else q q_l (kill_has e) (e ∙ face_g);
    no_rings = λ p there is. ap (outer N) face_g ∙ ap (λ o. (unwrap_or o no_face).outer) face_row_f ∙ only p there (is ∙ face_g);
  } where
    kill_has : face_at N m ≡ face_at N (mate m) → Has N.loops q
    kill_has e = ap is_some (row_of N w.sound m m_there)

    only : (p : ℕ) → Has N.loops p → face_of N p ≡ f → l ≡ p
    only p there is = elim (eqb_tells p l) [ inl e ↦ sym e.1 | inr ne ↦ absurd (face_else p ne.1 there is) ]

  pub ending_ok : first_false N (Kef (half m)) ≡ None
  ending_ok = kef_accepted N (half m) w.sound (subst (KefGoes N) (sym (code-half m)) goes)

  -- ---- the model after

  abbrev X : Model
  X = glued_all M f g partner_of (done ++ h ∷ [])

  abbrev swap : ℕ → ℕ
  swap = renamed (paired (λ j. mate (partner_of j)) (λ j. j) done)

  abbrev kept : Table LoopRow
  kept = table.remove (table.remove M.loops l) r

  abbrev turned_row : LoopRow
  turned_row = stages.turned_row M f g partner_of hs x h done (h ∷ []) w h (omega (arith, tick_same h))

  rest_g : rest (mate m) (cycle_of N (mate m)) ≡ h ∷ []
  rest_g =
      let d : IsApart (h ∷ partner_of h ∷ []) = apart_xs N l f (h ∷ partner_of h ∷ []) around_l in
      (λ i. rest (mate-mate (partner_of h) i) ((ap (cycle_of N) (mate-mate (partner_of h)) ∙ cycle_is N l f (h ∷ partner_of h ∷ []) around_l (partner_of h) g_in) i))
      ∙ sym (rest_same (partner_of h) (h ∷ partner_of h ∷ []) (canonical (h ∷ partner_of h ∷ [])) (canonical-rotates (h ∷ partner_of h ∷ [])) d g_in)
      ∙ rest_at (partner_of h) (h ∷ []) [] (omega (arith, d (partner_of h), tick_same (partner_of h)))

  put_gone : {Y : Type 0} (t : Table Y) (a b : ℕ) (u v : Y) → b ≢ a → table.get t a ≡ None → table.remove (table.put (table.put t a u) b v) a ≡ table.put t b v
  put_gone t a b u v ne free = same_table _ _ (λ n. grind (arith, nat_tests, tables))

  free_l : table.get (table.map_rows (rewritten_row (map swap)) kept) l ≡ None
  free_l = grind (arith, get-map_rows (rewritten_row (map swap)) kept l, nat_tests, tables)

  loops_after : (kef N m).loops ≡ X.loops
  loops_after = kill.loops_are N w.sound m goes
      ∙ (λ i. table.remove (table.put (stages.loops_are M f g partner_of hs x h done (h ∷ []) w i) q (record { face = face_of N q; content = cycle (canonical (rest_g i ++ rest m (cycle_of N m))) })) (loop_g i))
      ∙ put_gone (table.map_rows (rewritten_row (map swap)) kept) l q _ turned_row q_l free_l
      ∙ sym (stages.others M f g partner_of hs x h done (h ∷ []) w h (omega (arith, tick_same h)))

  abbrev tail_from : ℕ → ℕ
  tail_from j = tail M (partner_of j)

  abbrev tail_to : ℕ → ℕ
  tail_to j = tail M (mate j)

  abbrev gone : List ℕ
  gone = map (λ j. edge_of (partner_of j)) done

  -- no other item's partner starts where h's does
  once : (j : ℕ) → IsIn j done → tail_from j ≢ tail_from h
  once j i e =
      let same : j ≡ h = F.starts_once j h (stages.done_in M f g partner_of hs x h done (h ∷ []) w j i) h_in e in
      omega (arith, subst (λ n. IsIn n done) same i, facing.apart M f g partner_of hs x F h, ap (count h) w.split, count-append h done (h ∷ []), tick_same h)

  edges_after : table.remove N.edges (edge_of m) ≡ X.edges
  edges_after =
      (λ i. table.remove (stages.edges_are M f g partner_of hs x h done (h ∷ []) w i) (edge_of-mate (partner_of h) i))
      ∙ sym (map_removed (renamed_tails (paired tail_from tail_to (h ∷ done))) (without_rows M.edges gone) (edge_of (partner_of h)))
      ∙ map_agree (renamed_tails (paired tail_from tail_to (h ∷ done))) (renamed_tails (paired tail_from tail_to (done ++ h ∷ []))) (table.remove (without_rows M.edges gone) (edge_of (partner_of h)))
      (λ e row. λ i. record { plus_tail = renamed_last tail_from tail_to done h once row.plus_tail i; minus_tail = renamed_last tail_from tail_to done h once row.minus_tail i })
      ∙ ap (table.map_rows (renamed_tails (paired tail_from tail_to (done ++ h ∷ [])))) (sym (without_more M.edges gone (edge_of (partner_of h))) ∙ ap (without_rows M.edges) (sym (map-append (λ j. edge_of (partner_of j)) done (h ∷ []))))

  vertices_after : N.vertices ≡ X.vertices
  unfolding glued_part
  vertices_after = without_first M.vertices (map tail_from done) (tail_from h) ∙ sym (without_more M.vertices (map tail_from done) (tail_from h)) ∙ ap (without_rows M.vertices) (sym (map-append tail_from done (h ∷ [])))

  remove_both : {Y : Type 0} (fix : ℕ → Y → Y) (t : Table Y) (a b : ℕ) → table.remove (table.map_rows fix (table.remove t b)) a ≡ table.map_rows fix (table.remove (table.remove t a) b)
  remove_both fix t a b = same_table _ _ (λ n. grind (arith, nat_tests, tables))

  faces_after : table.remove N.faces (face_at N (mate m)) ≡ X.faces
  faces_after = (λ i. table.remove (stages.faces_are M f g partner_of hs x h done (h ∷ []) w i) (face_g i)) ∙ remove_both _ M.faces f g

  -- the solids are glued
  pub ending_is : effect N (Kef (half m)) ≡ X
  unfolding effect kef glued_part
  ending_is = grind (arith, code-half, faces_after, loops_after, edges_after, vertices_after)

-- ---- the pairs as the definition of a glue has them

partners_map : {Y : Type 0} (M : Model) (gs : List ℕ) (a : ℕ × ℕ → Y) (hs : List ℕ) → map a (partners M gs hs) ≡ map (λ h. a (h, partner M gs h)) hs
partners_map M gs a [] = refl
partners_map M gs a (h ∷ hs) = ap (λ t. a (h, partner M gs h) ∷ t) (partners_map M gs a hs)

sources : (M : Model) (ps : List (ℕ × ℕ)) → map (λ m. m.0) (moves M ps) ≡ map (λ p. tail M p.1) ps
sources M [] = refl
sources M (p ∷ ps) = ap (λ t. tail M p.1 ∷ t) (sources M ps)

pub glued_along_is : (M : Model) (f g : ℕ) (gs hs : List ℕ) → glued_all M f g (partner M gs) hs ≡ glued_along M f g (partners M gs hs)
glued_along_is M f g gs hs = grind (arith, partners_map, sources)
