-- The first four operators of a glue: the solids become one, and the two loops one loop.
use Rattle.gluing_laws.proofs.Prelude.{◌≡◌, ◌≢◌, ℕ, cond, nat_eq, List, [], ◌∷◌, ◌++◌, Some, None, is_some, refl, sym, ap, ◌∙◌, subst, arith, true≢false, map, reverse, ne_eqb, eq-eqb, nat_tests, map-append, reverse-append, count, IsIn, IsApart, canonical, rest, successor, without, mate, edge_of, half, plus, minus, Table, tables, same_table, At, Model, FaceRow, LoopRow, EdgeRow, cycle, items_of, tail, tail_in, face_of, solid_of, outer, is_number, Sound, HasHalf, first_false, effect, merge, kfmrh, mekr, kev, faces_to_solid, loop_to_face, moved_tail, edge_row, count-append, tick_same, before_at, after_at, canonical_same, count-canonical, canonical-rotates, IsApart-canonical, successor_inner, successor_same, rest_canonical, code-half, plus_row, minus_row, edge_of-mate, mate_plus, map-put, map_same, map_one, remove-put, get-put_here, get-put_other, get-remove_other, same_outer, content_row, face_row, tail_row, in-holds, holds-none, not_held, same_head, Kev, Mekr, Kfmrh, Merge, both_out, edge_row_plus, OtherSolids, MergeGoes, merge_accepted, merge_other, solid_new, joined_same, joined_t, sound-merge, KillGoes, kfmrh_accepted, CornerAt, corner_here, MekrGoes, mekr_accepted, KevGoes, kev_accepted, effect_keeps_sound, Leads, leads_one, leads_first, Around, half_is, loop_is, cycle_is, apart_xs, same_tail, as_cycle, effects, AreAccepted, edge_plus, rewritten_row, renamed, opening, paired, seam, glued_part, renamed_more, row_unrenamed, map_agree, map_removed, Facing}
use Rattle.euler_operators.specs.Items.{before, after}
use Rattle.euler_operators.specs.Table as table
use Rattle.euler_operators.specs.Model as model
use Rattle.euler_laws.proofs.merge.Merge.{face_same}
use Rattle.shapes.proofs.glue.Facing as facing
use Rattle.gluing_laws.proofs.glue.Round.{out_edge, out_here, out_none}

module _ (M : Model) (f g : ℕ) (partner_of : ℕ → ℕ) (h : ℕ) (mid : List ℕ) (last x : ℕ) (w : Facing M f g partner_of (h ∷ (mid ++ last ∷ [])) x) where
  abbrev hs : List ℕ
  hs = h ∷ (mid ++ last ∷ [])

  abbrev s : ℕ
  s = solid_of M f

  abbrev t : ℕ
  t = solid_of M g

  abbrev l : ℕ
  l = outer M f

  abbrev r : ℕ
  r = outer M g

  abbrev k : ℕ
  k = partner_of last

  abbrev rs : List ℕ
  rs = reverse (map partner_of hs)

  abbrev back : List ℕ
  back = reverse (map partner_of (h ∷ mid))

  rs_are : rs ≡ k ∷ back
  rs_are = ap reverse (map-append partner_of (h ∷ mid) (last ∷ [])) ∙ reverse-append (map partner_of (h ∷ mid)) (k ∷ [])

  h_in : IsIn h hs
  h_in = omega (arith, tick_same h)

  last_in : IsIn last hs
  last_in = omega (arith, count-append last (h ∷ mid) (last ∷ []), tick_same last)

  -- ---- Merge and kfmrh

  abbrev to_s : ℕ → FaceRow → FaceRow
  to_s = faces_to_solid (λ _ row. nat_eq row.solid t) s

  merge_goes : MergeGoes M s t
  merge_goes = record { s_there = w.sound.faces_of_solids f w.f_there; t_there = w.sound.faces_of_solids g w.g_there; apart = w.solids_apart }

  abbrev M1 : Model
  M1 = merge M s t

  M1_is : effect M (Merge s t) ≡ M1
  unfolding effect
  M1_is = refl

  merged : OtherSolids M M1
  merged = merge_other w.sound merge_goes

  kfmrh_goes : KillGoes M1 f g
  unfolding merge
  kfmrh_goes = record {
    f_there = merged.has_face f ∙ w.f_there;
    g_there = merged.has_face g ∙ w.g_there;
    apart = facing.faces_apart M f g partner_of hs x w;
    one_solid = solid_new w.sound merge_goes f w.f_there ∙ joined_same w.sound merge_goes s w.solids_apart ∙ sym (solid_new w.sound merge_goes g w.g_there ∙ joined_t w.sound merge_goes);
    no_rings = λ q there is. merged.outers g ∙ w.alone_g q there (sym (face_same merged q) ∙ is);
  }

  kfmrh_ok : first_false M1 (Kfmrh f g) ≡ None
  kfmrh_ok = kfmrh_accepted M1 f g (sound-merge w.sound merge_goes) kfmrh_goes

  abbrev row_r : LoopRow
  row_r = record { face = f; content = cycle (canonical rs) }

  abbrev A : Model
  A = record M {
    solids = table.remove M.solids t;
    faces = table.remove (table.map_rows to_s M.faces) g;
    loops = table.put M.loops r row_r;
  }

  to_f : table.map_rows (loop_to_face r f) M.loops ≡ table.put M.loops r row_r
  to_f = map_one (loop_to_face r f) M.loops r (record { face = g; content = cycle (canonical rs) }) w.second (λ q row ne at. ap (λ b. cond b (record row { face = f }) row) (ne_eqb q r ne))
      ∙ ap (table.put M.loops r) (ap (λ b. cond b row_r (record { face = g; content = cycle (canonical rs) })) (eq-eqb r r refl))

  A_is : effect M1 (Kfmrh f g) ≡ A
  unfolding effect kfmrh merge
  A_is = λ i. record A { loops = ((λ j. table.map_rows (loop_to_face (merged.outers g j) f) M.loops) ∙ to_f) i }

  sound_A : Sound A
  sound_A = subst Sound A_is (effect_keeps_sound M1 (Kfmrh f g) (sound-merge w.sound merge_goes) kfmrh_ok)

  -- ---- mekr

  l_r : l ≢ r
  l_r = facing.loops_apart M f g partner_of hs x w

  from_least : canonical hs ≡ hs
  from_least = (w.sound.cycles l hs (ap is_some w.first) (facing.content_f M f g partner_of hs x w)).from_least

  around_l : Around A l f hs
  around_l = record { sound = sound_A; at = get-put_other M.loops r row_r l l_r ∙ w.first ∙ ap (λ q. Some (record { face = f; content = cycle q })) (sym from_least) }

  around_r : Around A r f (k ∷ back)
  around_r = record { sound = sound_A; at = get-put_here M.loops r row_r ∙ ap (λ q. Some (record { face = f; content = cycle (canonical q) })) rs_are }

  tail_A : (y : ℕ) → tail A y ≡ tail M y
  tail_A y = same_tail M A y refl

  first_corner : CornerAt A (At (half h)) l (tail M h) hs
  first_corner = corner_here A sound_A hs l (tail M h) (content_row A l _ around_l.at) (ap is_some around_l.at) (apart_xs A l f hs around_l)
      (λ y i. (loop_is A l f hs around_l y i, half_is A l f hs around_l y i)) (λ y ys e. tail_A y ∙ ap (tail M) (same_head _ _ _ _ e))

  second_corner : CornerAt A (At (half k)) r (tail M k) (k ∷ back)
  second_corner = corner_here A sound_A (k ∷ back) r (tail M k) (content_row A r _ around_r.at) (ap is_some around_r.at) (apart_xs A r f (k ∷ back) around_r)
      (λ y i. (loop_is A r f (k ∷ back) around_r y i, half_is A r f (k ∷ back) around_r y i)) (λ y ys e. tail_A y ∙ ap (tail M) (same_head _ _ _ _ e))

  outer_A : outer A f ≡ l
  unfolding merge
  outer_A = same_outer M1 A f (get-remove_other M1.faces g f (facing.faces_apart M f g partner_of hs x w)) ∙ merged.outers f

  mekr_goes : MekrGoes A (At (half h)) (At (half k)) (plus x) l r (tail M h) (tail M k) hs (k ∷ back)
  mekr_goes = record {
    first = first_corner;
    second = second_corner;
    edge_free = ap (table.get M.edges) (edge_plus x) ∙ w.edge_free;
    edge_fits = ap is_number (edge_plus x) ∙ w.edge_fits;
    loops_apart = l_r;
    one_face = face_row A l _ around_l.at ∙ sym (face_row A r _ around_r.at);
    ring_there = ap is_some around_r.at;
    no_outer = λ e. l_r (sym outer_A ∙ ap (outer A) (sym (face_row A r _ around_r.at)) ∙ e);
    ends_apart = λ e. facing.never_met M f g partner_of hs x w last h last_in h_in (sym e);
  }

  mekr_ok : first_false A (Mekr (At (half h)) (At (half k)) (half (plus x))) ≡ None
  mekr_ok = mekr_accepted A (At (half h)) (At (half k)) (half (plus x)) l r (tail M h) (tail M k) hs (k ∷ back)
      (subst (λ c. MekrGoes A (At (half h)) (At (half k)) c l r (tail M h) (tail M k) hs (k ∷ back)) (sym (code-half (plus x))) mekr_goes)

  abbrev zs : List ℕ
  zs = plus x ∷ rs ++ minus x ∷ hs

  abbrev new_edge : EdgeRow
  new_edge = record { plus_tail = tail M h; minus_tail = tail M k }

  abbrev B : Model
  B = record A {
    loops = table.remove (table.put A.loops l (record { face = f; content = cycle (canonical zs) })) r;
    edges = table.put M.edges x new_edge;
  }

  mekr_is : mekr A (At (half h)) (At (half k)) (plus x) ≡ B
  unfolding mekr
  mekr_is = λ i. record A {
    loops = table.remove (table.put A.loops (first_corner.loop i) (record {
      face = (ap (face_of A) first_corner.loop ∙ face_row A l _ around_l.at) i;
      content = cycle (canonical (plus x ∷ (second_corner.list ∙ sym rs_are) i ++ mate_plus x i ∷ first_corner.list i));
    })) (second_corner.loop i);
    edges = table.put M.edges (edge_plus x i) (((λ j. edge_row (plus x) (first_corner.vertex j) (second_corner.vertex j)) ∙ edge_row_plus x (tail M h) (tail M k)) i);
  }

  B_is : effect A (Mekr (At (half h)) (At (half k)) (half (plus x))) ≡ B
  unfolding effect
  B_is = ap (mekr A (At (half h)) (At (half k))) (code-half (plus x)) ∙ mekr_is

  sound_B : Sound B
  sound_B = subst Sound B_is (effect_keeps_sound A (Mekr (At (half h)) (At (half k)) (half (plus x))) sound_A mekr_ok)

  -- ---- kev

  around_B : Around B l f zs
  around_B = record { sound = sound_B; at = grind (arith, nat_tests, tables) }

  plus_in : IsIn (plus x) zs
  plus_in = omega (arith, tick_same (plus x))

  minus_in : IsIn (minus x) zs
  minus_in = omega (arith, count-append (minus x) (plus x ∷ rs) (minus x ∷ hs), tick_same (minus x))

  apart_zs : IsApart zs
  apart_zs = apart_xs B l f zs around_B

  minus_once : (count (minus x) rs ≡ 0) × (count (minus x) (plus x ∷ rs) ≡ 0)
  minus_once = grind (arith, apart_zs (minus x), count-append (minus x) (plus x ∷ rs) (minus x ∷ hs), tick_same (minus x))

  B_edge : table.get B.edges x ≡ Some new_edge
  B_edge = get-put_here M.edges x new_edge

  B_other : (y : ℕ) → edge_of y ≢ x → table.get B.edges (edge_of y) ≡ table.get M.edges (edge_of y)
  B_other y ne = get-put_other M.edges x new_edge (edge_of y) ne

  B_plus : tail B (plus x) ≡ tail M h
  B_plus = tail_row B (plus x) new_edge (ap (table.get B.edges) (plus_row x).0 ∙ B_edge) ∙ ap (tail_in new_edge) (plus_row x).1

  B_minus : tail B (minus x) ≡ tail M k
  B_minus = tail_row B (minus x) new_edge (ap (table.get B.edges) (minus_row x).0 ∙ B_edge) ∙ ap (tail_in new_edge) (minus_row x).1

  after_minus : model.after B (minus x) ≡ h
  unfolding model.after
  after_minus = ap (λ q. successor q (minus x)) (cycle_is B l f zs around_B (minus x) minus_in)
      ∙ sym (successor_same (minus x) zs (canonical zs) (canonical-rotates zs) apart_zs minus_in)
      ∙ successor_inner (minus x) h (plus x ∷ rs) (mid ++ last ∷ []) minus_once.1

  kev_goes : KevGoes B (plus x)
  kev_goes = record {
    h_there = half_is B l f zs around_B (plus x) plus_in;
    no_parallel = λ y there ne a b.
        let other : edge_of y ≢ x = λ e. ne (e ∙ sym (plus_row x).0) in
        let other_m : edge_of (mate y) ≢ x = λ e. other (sym (edge_of-mate y) ∙ e) in
        let y_M : HasHalf M y = ap is_some (sym (B_other y other)) ∙ there in
        let at_h : tail M h ≡ tail M y = sym B_plus ∙ sym a ∙ same_tail M B y (B_other y other) in
        let at_k : tail M k ≡ tail M (mate y) = sym B_minus ∙ ap (tail B) (sym (mate_plus x)) ∙ sym b ∙ same_tail M B (mate y) (B_other (mate y) other_m) in
        w.solids_apart (sym (facing.side_f M f g partner_of hs x w h h_in)
        ∙ sym (facing.side_vertex M f g partner_of hs x w h y (facing.half_f M f g partner_of hs x w h h_in) y_M at_h)
        ∙ sym (facing.side_mate M f g partner_of hs x w y y_M)
        ∙ facing.side_vertex M f g partner_of hs x w k (mate y) (facing.half_g M f g partner_of hs x w last last_in) (facing.mate_there M f g partner_of hs x w y y_M) at_k
        ∙ facing.side_g M f g partner_of hs x w last last_in);
    not_bare = λ e.
        let is : h ≡ plus x = sym after_minus ∙ ap (model.after B) (sym (mate_plus x)) ∙ e in
        absurd (true≢false (sym (facing.half_f M f g partner_of hs x w h h_in) ∙ ap (λ q. is_some (table.get M.edges q)) (ap edge_of is ∙ (plus_row x).0) ∙ ap is_some w.edge_free));
  }

  kev_ok : first_false B (Kev (half (plus x))) ≡ None
  kev_ok = kev_accepted B (half (plus x)) sound_B (subst (KevGoes B) (sym (code-half (plus x))) kev_goes)

  abbrev row_l : LoopRow
  row_l = record { face = f; content = cycle (canonical (seam partner_of hs)) }

  none_x : (y q : ℕ) (row : LoopRow) → edge_of y ≡ x → table.get A.loops q ≡ Some row → count y (items_of row.content) ≡ 0
  none_x y q row e at = not_held A sound_A y (ap (table.get M.edges) e ∙ w.edge_free) q row at

  joined_items : canonical (without (minus x) (without (plus x) (canonical zs))) ≡ canonical (seam partner_of hs)
  joined_items =
      let rest_is : rest (plus x) (canonical zs) ≡ rs ++ minus x ∷ hs = rest_canonical (plus x) (rs ++ minus x ∷ hs) apart_zs in
      both_out (canonical zs) (IsApart-canonical zs apart_zs) (plus x) (minus x) (omega (arith, plus_in, count-canonical (plus x) zs)) (omega (arith, minus_in, count-canonical (minus x) zs)) (λ e. omega (arith, e))
      ∙ (λ i. canonical ((ap (before (minus x)) rest_is ∙ before_at (minus x) rs hs minus_once.0) i ++ (ap (after (minus x)) rest_is ∙ after_at (minus x) rs hs minus_once.0) i))
      ∙ canonical_same (rs ++ hs) (seam partner_of hs) (record { front = rs; back = hs; here = refl; there = refl })
      (λ y. omega (arith, apart_zs y, count-append y (plus x ∷ rs) (minus x ∷ hs), count-append y rs hs))

  some_items : canonical (seam partner_of hs) ≢ []
  some_items e = let z : count h (canonical (seam partner_of hs)) ≡ 0 = ap (count h) e in omega (arith, z, count-canonical h (seam partner_of hs), count-append h hs rs, h_in)

  out_l : out_edge (plus x) (minus x) (tail M h) l (record { face = f; content = cycle (canonical zs) }) ≡ row_l
  out_l = grind (arith, out_here, in-holds, plus_in, count-canonical, as_cycle, joined_items, some_items)

  abbrev C : Model
  C = record A {
    loops = table.remove (table.put A.loops l row_l) r;
    edges = table.map_rows (moved_tail (tail M k) (tail M h)) M.edges;
    vertices = table.remove M.vertices (tail M k);
  }

  C_loops : table.map_rows (out_edge (plus x) (minus x) (tail M h)) B.loops ≡ C.loops
  C_loops = map_removed (out_edge (plus x) (minus x) (tail M h)) (table.put A.loops l (record { face = f; content = cycle (canonical zs) })) r
      ∙ ap (λ u. table.remove u r) (map-put (out_edge (plus x) (minus x) (tail M h)) A.loops l (record { face = f; content = cycle (canonical zs) })
      ∙ (λ j. table.put (map_same (out_edge (plus x) (minus x) (tail M h)) A.loops (λ q row at. out_none (plus x) (minus x) (tail M h) q row
      (holds-none (plus x) row.content (none_x (plus x) q row (plus_row x).0 at)) (holds-none (minus x) row.content (none_x (minus x) q row (minus_row x).0 at))) j) l (out_l j)))

  tail_mate : tail B (mate (plus x)) ≡ tail M k
  tail_mate = ap (tail B) (mate_plus x) ∙ B_minus

  kev_is : kev B (plus x) ≡ C
  unfolding kev
  kev_is = λ i. record B {
    loops = ((λ j. table.map_rows (out_edge (plus x) (mate_plus x j) (B_plus j)) B.loops) ∙ C_loops) i;
    edges = table.map_rows (moved_tail (tail_mate i) (B_plus i)) ((ap (table.remove B.edges) (plus_row x).0 ∙ remove-put M.edges x new_edge w.edge_free) i);
    vertices = table.remove M.vertices (tail_mate i);
  }

  C_is : effect B (Kev (half (plus x))) ≡ C
  unfolding effect
  C_is = ap (kev B) (code-half (plus x)) ∙ kev_is

  -- ---- the model then

  abbrev X : Model
  X = glued_part M f g partner_of last [] hs

  abbrev kept : Table LoopRow
  kept = table.remove (table.remove M.loops l) r

  kept_there : (q : ℕ) (row : LoopRow) → table.get kept q ≡ Some row → table.get M.loops q ≡ Some row
  kept_there q row at = grind (arith, nat_tests, tables)

  loops_then : C.loops ≡ X.loops
  unfolding glued_part
  loops_then = same_table _ _ (λ n. grind (arith, nat_tests, tables))
      ∙ ap (λ u. table.put u l row_l) (sym (map_same (rewritten_row (map (renamed []))) kept (λ q row at. row_unrenamed M w.sound q row (kept_there q row at))))

  move_on : (u : ℕ) → cond (nat_eq u (tail M k)) (tail M h) u ≡ renamed (paired (λ j. tail M (partner_of j)) (λ j. tail M (mate j)) (last ∷ [])) u
  move_on u = ap (λ v. cond (nat_eq u (tail M k)) v u) (facing.meets_round M f g partner_of hs x w h mid last refl)
      ∙ sym (renamed_more (λ j. tail M (partner_of j)) (λ j. tail M (mate j)) [] last (λ j i. absurd (omega (arith, i))) u)

  edges_then : C.edges ≡ X.edges
  unfolding glued_part
  edges_then = grind (arith, map_agree, move_on)

  C_X : C ≡ X
  unfolding glued_part
  C_X = λ i. record { solids = C.solids; faces = sym (map_removed to_s M.faces g) i; loops = loops_then i; edges = edges_then i; vertices = C.vertices }

  -- the four operators are accepted, and then no item is glued yet but the end of the last one
  pub opened : Leads M X (opening M f g h k x)
  opened = grind (arith, leads_first, merge_accepted M s t w.sound merge_goes, M1_is, kfmrh_ok, A_is, mekr_ok, B_is, leads_one, kev_ok, C_is, C_X)

  pub opening_accepted : AreAccepted M (opening M f g h k x)
  opening_accepted = opened.accepted

  pub opening_is : effects M (opening M f g h k x) ≡ X
  opening_is = opened.made
