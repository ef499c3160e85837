-- One item more is glued.
use Rattle.gluing_laws.proofs.Prelude.{◌≡◌, ◌≢◌, ℕ, cond, nat_eq, List, [], ◌∷◌, ◌++◌, Some, is_some, refl, sym, ap, ◌∙◌, subst, arith, inl, inr, rules, map, reverse, append_assoc, nat_tests, map-append, count, IsIn, canonical, mate, edge_of, Table, tables, same_table, Model, LoopRow, cycle, tail, loop_of, solid_of, outer, HasHalf, moved_tail, count-append, tick_same, tick_other, canonical_same, reverse-cons, mate_there, map_twice, Around, half_is, apart_xs, effects, AreAccepted, rewritten_row, renamed, without_rows, renamed_tails, closing, paired, seam, glued_part, renamed_cases, renamed_more, without_more, map_agree, map_removed, Facing, side}
use Rattle.euler_operators.specs.Table as table
use Rattle.shapes.proofs.glue.Facing as facing
use Rattle.gluing_laws.proofs.glue.Stages as stages
use Rattle.gluing_laws.proofs.glue.Round.{Closes, closed, closing_leads}

module _ (M : Model) (f g : ℕ) (partner_of : ℕ → ℕ) (hs : List ℕ) (x last : ℕ) (done : List ℕ) (h k : ℕ) (more : List ℕ) (w : stages.Stage M f g partner_of hs x last done (h ∷ k ∷ more)) (later : IsIn last (k ∷ more)) where
  abbrev N : Model
  N = glued_part M f g partner_of last done (h ∷ k ∷ more)

  abbrev F : Facing M f g partner_of hs x
  F = w.facing

  abbrev l : ℕ
  l = outer M f

  abbrev r : ℕ
  r = outer M g

  abbrev tail_from : ℕ → ℕ
  tail_from j = tail M (partner_of j)

  abbrev tail_to : ℕ → ℕ
  tail_to j = tail M (mate j)

  abbrev qs : List ℕ
  qs = more ++ reverse (map partner_of (k ∷ more))

  h_more : IsIn h (h ∷ k ∷ more)
  h_more = omega (arith, tick_same h)

  h_in : IsIn h hs
  h_in = stages.all_in M f g partner_of hs x last done (h ∷ k ∷ more) w h h_more

  k_in : IsIn k hs
  k_in = stages.all_in M f g partner_of hs x last done (h ∷ k ∷ more) w k (omega (arith, tick_same k))

  h_once : (count h done ≡ 0) × (count h (k ∷ more) ≡ 0)
  h_once = grind (arith, facing.apart M f g partner_of hs x F h, count-append h done (h ∷ k ∷ more), tick_same h)

  not_last : h ≢ last
  not_last e = omega (arith, later, h_once.1, subst (λ q. count q (k ∷ more) ≡ 0) e h_once.1)

  seam_is : seam partner_of (h ∷ k ∷ more) ≡ (h ∷ k ∷ qs) ++ partner_of h ∷ []
  seam_is = search (rules, reverse-cons, append_assoc)

  around_seam : Around N l f (seam partner_of (h ∷ k ∷ more))
  around_seam = stages.around_l M f g partner_of hs x last done (h ∷ k ∷ more) w

  turned_is : canonical (seam partner_of (h ∷ k ∷ more)) ≡ canonical ((partner_of h ∷ h ∷ []) ++ k ∷ qs)
  turned_is = canonical_same (seam partner_of (h ∷ k ∷ more)) ((partner_of h ∷ h ∷ []) ++ k ∷ qs) (record { front = h ∷ k ∷ qs; back = partner_of h ∷ []; here = seam_is; there = refl }) (apart_xs N l f (seam partner_of (h ∷ k ∷ more)) around_seam)

  around_here : Around N l f ((partner_of h ∷ h ∷ []) ++ k ∷ qs)
  around_here = record { sound = w.sound; at = stages.at_l M f g partner_of hs x last done (h ∷ k ∷ more) w ∙ ap (λ t. Some (record { face = f; content = cycle t })) turned_is }

  g_there : HasHalf N (partner_of h)
  g_there = stages.g_there M f g partner_of hs x last done (h ∷ k ∷ more) w h h_more

  k_there : HasHalf N k
  k_there = half_is N l f ((partner_of h ∷ h ∷ []) ++ k ∷ qs) around_here k (omega (arith, tick_same k, count-append k (partner_of h ∷ h ∷ []) (k ∷ qs)))

  tail_g : tail N (partner_of h) ≡ tail M (partner_of h)
  tail_g = stages.tail_partner M f g partner_of hs x last done (h ∷ k ∷ more) w h h_more not_last g_there

  tail_k : tail N k ≡ tail M k
  tail_k = stages.tail_here M f g partner_of hs x last done (h ∷ k ∷ more) w k (omega (arith, tick_same k)) k_there

  meets : tail M k ≡ tail M (mate h)
  meets = facing.meets M f g partner_of hs x F done h k more w.split

  moved_in : (j : ℕ) → IsIn j (last ∷ done) → IsIn j hs
  moved_in = stages.moved_in M f g partner_of hs x last done (h ∷ k ∷ more) w

  no_parallel : (y : ℕ) → HasHalf N y → tail N y ≡ tail N k → tail N (mate y) ≢ tail N (partner_of h)
  no_parallel y there a b =
      let m_there : HasHalf N (mate y) = mate_there N y there in
      let y_M : HasHalf M y = stages.half_back M f g partner_of hs x last done (h ∷ k ∷ more) w y there in
      let m_M : HasHalf M (mate y) = stages.half_back M f g partner_of hs x last done (h ∷ k ∷ more) w (mate y) m_there in
      let ay : renamed (paired tail_from tail_to (last ∷ done)) (tail M y) ≡ tail M k = sym (stages.tail_is M f g partner_of hs x last done (h ∷ k ∷ more) w y there) ∙ a ∙ tail_k in
      let bm : renamed (paired tail_from tail_to (last ∷ done)) (tail M (mate y)) ≡ tail M (partner_of h) = sym (stages.tail_is M f g partner_of hs x last done (h ∷ k ∷ more) w (mate y) m_there) ∙ b ∙ tail_g in
      elim (renamed_cases tail_from tail_to (last ∷ done) (tail M (mate y))) [
        | inl p ↦ facing.never_ends M f g partner_of hs x F p.0 h (moved_in p.0 p.1) h_in (sym p.3 ∙ bm)
        | inr p ↦
            let at_w : tail M (mate y) ≡ tail M (partner_of h) = sym p.0 ∙ bm in
            let side_y : side M f g partner_of hs x F y ≡ solid_of M g =
            sym (facing.side_mate M f g partner_of hs x F y y_M) ∙ facing.side_vertex M f g partner_of hs x F (partner_of h) (mate y) (facing.half_g M f g partner_of hs x F h h_in) m_M (sym at_w) ∙ facing.side_g M f g partner_of hs x F h h_in in
            elim (renamed_cases tail_from tail_to (last ∷ done) (tail M y)) [
              | inl q ↦
                  let same : q.0 ≡ h = F.ends_once q.0 h (moved_in q.0 q.1) h_in (sym q.3 ∙ ay ∙ meets) in
                  omega (arith, h_once.0, tick_other h last not_last, subst (λ j. IsIn j (last ∷ done)) same q.1)
              | inr q ↦ F.solids_apart (sym (facing.side_f M f g partner_of hs x F k k_in)
                  ∙ sym (facing.side_vertex M f g partner_of hs x F k y (facing.half_f M f g partner_of hs x F k k_in) y_M (sym (sym q.0 ∙ ay))) ∙ side_y)
            ]
      ]

  closes : Closes N l f (partner_of h) h k qs x g r
  closes = record {
    around = around_here;
    edge_free = stages.edge_free M f g partner_of hs x last done (h ∷ k ∷ more) w;
    face_free = stages.face_free M f g partner_of hs x last done (h ∷ k ∷ more) w;
    loop_free = stages.at_r M f g partner_of hs x last done (h ∷ k ∷ more) w;
    edge_fits = F.edge_fits;
    face_fits = F.sound.faces_fit g F.g_there;
    loop_fits = F.sound.loops_fit r (ap is_some F.second);
    ends_apart = λ e. facing.never_met M f g partner_of hs x F h k h_in k_in (sym tail_g ∙ e ∙ tail_k);
    no_parallel = no_parallel;
    mate_else = stages.mate_else M f g partner_of hs x last done (h ∷ k ∷ more) w h h_more;
  }

  -- ---- the model after

  abbrev X : Model
  X = glued_part M f g partner_of last (done ++ h ∷ []) (k ∷ more)

  abbrev q : ℕ
  q = loop_of N (mate (partner_of h))

  abbrev swap : ℕ → ℕ
  swap = renamed (paired (λ j. mate (partner_of j)) (λ j. j) done)

  abbrev kept : Table LoopRow
  kept = table.remove (table.remove M.loops l) r

  abbrev turned_row : LoopRow
  turned_row = stages.turned_row M f g partner_of hs x last done (h ∷ k ∷ more) w h h_more

  swap_puts : {Y : Type 0} (t : Table Y) (a b : ℕ) (u v z : Y) → b ≢ a → table.put (table.put (table.put t a u) a v) b z ≡ table.put (table.put t b z) a v
  swap_puts t a b u v z ne = same_table _ _ (λ n. grind (arith, nat_tests, tables))

  loops_next : (closed closes).loops ≡ X.loops
  unfolding glued_part
  loops_next =
      ap (λ t. table.put (table.put t l (record { face = f; content = cycle (canonical (k ∷ qs)) })) q turned_row) (stages.loops_are M f g partner_of hs x last done (h ∷ k ∷ more) w)
      ∙ swap_puts (table.map_rows (rewritten_row (map swap)) kept) l q _ _ turned_row closes.mate_else
      ∙ ap (λ t. table.put t l (record { face = f; content = cycle (canonical (k ∷ qs)) })) (sym (stages.others M f g partner_of hs x last done (h ∷ k ∷ more) w h h_more))

  abbrev moves_before : List (ℕ × ℕ)
  moves_before = paired tail_from tail_to (last ∷ done)

  abbrev moves_after : List (ℕ × ℕ)
  moves_after = paired tail_from tail_to (last ∷ (done ++ h ∷ []))

  abbrev gone : List ℕ
  gone = map (λ j. edge_of (partner_of j)) done

  move_on : (u : ℕ) → cond (nat_eq (renamed moves_before u) (tail M (partner_of h))) (tail M (mate h)) (renamed moves_before u) ≡ renamed moves_after u
  move_on u = sym (renamed_more tail_from tail_to (last ∷ done) h (λ j i. facing.never_ends M f g partner_of hs x F j h (moved_in j i) h_in) u)

  edges_next : (closed closes).edges ≡ X.edges
  unfolding glued_part
  edges_next =
      (λ i. table.remove (table.map_rows (moved_tail (tail_g i) ((tail_k ∙ meets) i)) (stages.edges_are M f g partner_of hs x last done (h ∷ k ∷ more) w i)) (edge_of (partner_of h)))
      ∙ ap (λ t. table.remove t (edge_of (partner_of h))) (map_twice (moved_tail (tail M (partner_of h)) (tail M (mate h))) (renamed_tails moves_before) (without_rows M.edges gone)
      ∙ map_agree (λ e row. moved_tail (tail M (partner_of h)) (tail M (mate h)) e (renamed_tails moves_before e row)) (renamed_tails moves_after) (without_rows M.edges gone)
      (λ e row. λ i. record { plus_tail = move_on row.plus_tail i; minus_tail = move_on row.minus_tail i }))
      ∙ sym (map_removed (renamed_tails moves_after) (without_rows M.edges gone) (edge_of (partner_of h)))
      ∙ ap (table.map_rows (renamed_tails moves_after)) (sym (without_more M.edges gone (edge_of (partner_of h))) ∙ ap (without_rows M.edges) (sym (map-append (λ j. edge_of (partner_of j)) done (h ∷ []))))

  vertices_next : (closed closes).vertices ≡ X.vertices
  unfolding glued_part
  vertices_next = grind (arith, tail_g, without_more, map-append)

  -- the three operators of the item are accepted, and then it is glued too
  pub turn_accepted : AreAccepted N (closing (partner_of h) k x g r)
  turn_accepted = (closing_leads closes).accepted

  pub turn_is : effects N (closing (partner_of h) k x g r) ≡ X
  unfolding glued_part
  turn_is = grind (arith, closing_leads closes, closes, loops_next, edges_next, vertices_next)
