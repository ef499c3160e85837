-- One item closed: mef, kev and kef, in a sound model of which one loop is known.
use Rattle.gluing_laws.proofs.Prelude.{◌≡◌, ◌≢◌, ℕ, true, false, cond, ◌||◌, List, [], ◌∷◌, ◌++◌, Some, None, is_some, unwrap_or, IsTrue, sym, ap, ◌∙◌, subst, arith, true≢false, inl, inr, rules, nat_tests, eqb_tells, count, IsIn, IsApart, canonical, rest, without, edge_of, plus, minus, mate, half, Table, tables, same_table, get-map_rows, Model, EdgeRow, LoopRow, LoopContent, cycle, items_of, holds, tail, tail_in, no_loop, no_face, loop_of, content, face_of, solid_of, outer, cycle_of, after, is_number, Sound, HasHalf, Has, face_at, first_false, effect, kev, kef, moved_tail, cycle_or_lone, count-append, tick_same, tick_other, canonical-rotates, count-canonical, rest_same, rest_head, rest_at, IsApart-canonical, rest_canonical, without_none, plus_row, minus_row, code-half, mate-mate, edge_of-mate, mate_minus, map-put, map_same, remove-put, get-put_here, get-put_other, tail_row, content_row, face_row, in-holds, holds-none, not_held, row_of, mate_there, or_true, Mef, Kev, Kef, taken_out, count_out, loop_after, mapped_some, same_tail, KevGoes, kev_accepted, KefGoes, kef_accepted, effect_keeps_sound, Leads, leads_one, leads_first, Around, apart_xs, loop_is, half_is, as_cycle, with_chord, mef_does, mef_fits, closing}
use Rattle.euler_operators.specs.Table as table
use Rattle.euler_laws.proofs.mef.KefSound as kill

-- an item taken out of a loop
pub taken_from : (e v : ℕ) (ps : List ℕ) (z : ℕ) (zs : List ℕ) → IsApart ps → IsIn e ps → rest e ps ≡ z ∷ zs → cycle_or_lone (without e (canonical ps)) v ≡ cycle (canonical (z ∷ zs))
taken_from e v ps z zs apart i r =
    let here : IsIn e (canonical ps) = omega (arith, i, count-canonical e ps) in
    let some : canonical (z ∷ zs) ≢ [] = λ q. let t : count z (canonical (z ∷ zs)) ≡ 0 = ap (count z) q in omega (arith, count-canonical z (z ∷ zs), tick_same z) in
    as_cycle (without e (canonical ps)) (canonical (z ∷ zs)) v
    (taken_out (canonical ps) (IsApart-canonical ps apart) e here ∙ ap canonical (sym (rest_same e ps (canonical ps) (canonical-rotates ps) apart i) ∙ r)) some

-- what kev makes of a loop's row, the two halves named apart
abbrev pub out_edge : ℕ → ℕ → ℕ → ℕ → LoopRow → LoopRow
out_edge e m v q row = cond (holds e row.content || holds m row.content) (record row { content = cycle_or_lone (without m (without e (items_of row.content))) v }) row

pub out_here : (e m v q f : ℕ) (c d : LoopContent) → (holds e c || holds m c) ≡ true → cycle_or_lone (without m (without e (items_of c))) v ≡ d → out_edge e m v q (record { face = f; content = c }) ≡ record { face = f; content = d }
out_here e m v q f c d t is = ap (λ b. cond b (record { face = f; content = cycle_or_lone (without m (without e (items_of c))) v }) (record { face = f; content = c })) t ∙ ap (λ x. record { face = f; content = x }) is

pub out_none : (e m v q : ℕ) (row : LoopRow) → holds e row.content ≡ false → holds m row.content ≡ false → out_edge e m v q row ≡ row
out_none e m v q row a b = ap (λ t. cond t (record row { content = cycle_or_lone (without m (without e (items_of row.content))) v }) row) (ap (λ t. t || holds m row.content) a ∙ b)

pub same_loop_row : (A N : Model) (q : ℕ) → table.get A.loops q ≡ table.get N.loops q → (content A q ≡ content N q) × (face_of A q ≡ face_of N q)
unfolding content face_of
same_loop_row A N q e = (ap (λ o. (unwrap_or o no_loop).content) e, ap (λ o. (unwrap_or o no_loop).face) e)

-- what is asked of the loop `g h k qs`, so that g and h are closed: x, s and r are free
pub record Closes (N : Model) (l f g h k : ℕ) (qs : List ℕ) (x s r : ℕ) : Type 0 where
  pub around : Around N l f ((g ∷ h ∷ []) ++ k ∷ qs)
  pub edge_free : table.get N.edges x ≡ None
  pub face_free : table.get N.faces s ≡ None
  pub loop_free : table.get N.loops r ≡ None
  pub edge_fits : IsTrue (is_number x)
  pub face_fits : IsTrue (is_number s)
  pub loop_fits : IsTrue (is_number r)
  pub ends_apart : tail N g ≢ tail N k
  pub no_parallel : (y : ℕ) → HasHalf N y → tail N y ≡ tail N k → tail N (mate y) ≢ tail N g
  pub mate_else : loop_of N (mate g) ≢ l

module _ {N : Model} {l f g h k : ℕ} {qs : List ℕ} {x s r : ℕ} (c : Closes N l f g h k qs x s r) where
  abbrev old_row : LoopRow
  old_row = record { face = f; content = cycle (canonical ((g ∷ h ∷ []) ++ k ∷ qs)) }

  abbrev new_edge : EdgeRow
  new_edge = record { plus_tail = tail N g; minus_tail = tail N k }

  -- ---- mef

  abbrev A : Model
  A = with_chord N l f (plus x ∷ k ∷ qs) x new_edge s r ((g ∷ h ∷ []) ++ minus x ∷ [])

  pub mef_ok : first_false N (Mef (half g) (half k) (half (plus x)) s r) ≡ None
  mef_ok = mef_fits N l f g k (h ∷ []) qs x s r c.around c.edge_free c.loop_free c.face_free c.ends_apart c.edge_fits c.face_fits c.loop_fits

  pub A_is : effect N (Mef (half g) (half k) (half (plus x)) s r) ≡ A
  A_is = mef_does N l f g k (h ∷ []) qs x s r c.around c.edge_free c.loop_free

  sound_A : Sound A
  sound_A = subst Sound A_is (effect_keeps_sound N (Mef (half g) (half k) (half (plus x)) s r) c.around.sound mef_ok)

  has_l : Has N.loops l
  has_l = ap is_some c.around.at

  not_r : (q : ℕ) → Has N.loops q → q ≢ r
  not_r q there e = true≢false (sym there ∙ ap (λ p. is_some (table.get N.loops p)) e ∙ ap is_some c.loop_free)

  l_r : l ≢ r
  l_r = not_r l has_l

  around_l : Around A l f (plus x ∷ k ∷ qs)
  around_l = record { sound = sound_A; at = (get-put_other _ r _ l l_r ∙ get-put_here N.loops l _) }

  around_r : Around A r s ((g ∷ h ∷ []) ++ minus x ∷ [])
  around_r = record { sound = sound_A; at = (get-put_here _ r _) }

  edge_plus : edge_of (plus x) ≡ x
  edge_plus = (plus_row x).0

  edge_minus : edge_of (minus x) ≡ x
  edge_minus = (minus_row x).0

  A_other : (y : ℕ) → edge_of y ≢ x → table.get A.edges (edge_of y) ≡ table.get N.edges (edge_of y)
  A_other y ne = get-put_other N.edges x new_edge (edge_of y) ne

  A_plus : tail A (plus x) ≡ tail N g
  A_plus = tail_row A (plus x) new_edge (ap (table.get A.edges) edge_plus ∙ get-put_here N.edges x new_edge) ∙ ap (tail_in new_edge) (plus_row x).1

  A_minus : tail A (minus x) ≡ tail N k
  A_minus = grind (arith, tail_row A (minus x) new_edge, edge_minus, get-put_here N.edges x new_edge, minus_row x)

  -- ---- kev

  minus_in : IsIn (minus x) ((g ∷ h ∷ []) ++ minus x ∷ [])
  minus_in = omega (arith, tick_same (minus x))

  plus_in : IsIn (plus x) (plus x ∷ k ∷ qs)
  plus_in = omega (arith, tick_same (plus x))

  kev_goes : KevGoes A (minus x)
  kev_goes = record {
    h_there = half_is A r s ((g ∷ h ∷ []) ++ minus x ∷ []) around_r (minus x) minus_in;
    no_parallel = λ y there ne t u.
        let other : edge_of y ≢ x = λ e. ne (e ∙ sym edge_minus) in
        let in_N : HasHalf N y = ap is_some (sym (A_other y other)) ∙ there in
        c.no_parallel y in_N (sym (same_tail N A y (A_other y other)) ∙ t ∙ A_minus)
        (sym (same_tail N A (mate y) (A_other (mate y) (λ e. other (sym (edge_of-mate y) ∙ e)))) ∙ u ∙ ap (tail A) (mate_minus x) ∙ A_plus);
    not_bare = λ e.
        let t : HasHalf A (plus x) = half_is A l f (plus x ∷ k ∷ qs) around_l (plus x) plus_in in
        absurd (l_r (sym (loop_is A l f (plus x ∷ k ∷ qs) around_l (plus x) plus_in) ∙ sym (loop_after A sound_A (plus x) t)
        ∙ ap (loop_of A) (ap (after A) (sym (mate_minus x)) ∙ e) ∙ loop_is A r s ((g ∷ h ∷ []) ++ minus x ∷ []) around_r (minus x) minus_in));
  }

  pub kev_ok : first_false A (Kev (half (minus x))) ≡ None
  kev_ok = kev_accepted A (half (minus x)) sound_A (subst (KevGoes A) (sym (code-half (minus x))) kev_goes)

  -- no loop holds the new edge yet
  none_x : (y q : ℕ) (row : LoopRow) → edge_of y ≡ x → table.get N.loops q ≡ Some row → count y (items_of row.content) ≡ 0
  none_x y q row e at = not_held N c.around.sound y (ap (table.get N.edges) e ∙ c.edge_free) q row at

  none_old : (y : ℕ) → edge_of y ≡ x → count y ((g ∷ h ∷ []) ++ k ∷ qs) ≡ 0
  none_old y e = sym (count-canonical y ((g ∷ h ∷ []) ++ k ∷ qs)) ∙ none_x y l old_row e c.around.at

  minus_else : count (minus x) (canonical (plus x ∷ k ∷ qs)) ≡ 0
  minus_else = count-canonical (minus x) (plus x ∷ k ∷ qs) ∙ omega (arith, none_old (minus x) edge_minus, count-append (minus x) (g ∷ h ∷ []) (k ∷ qs), tick_other (minus x) (plus x) (λ e. omega (arith, e)))

  plus_else : count (plus x) (canonical ((g ∷ h ∷ []) ++ minus x ∷ [])) ≡ 0
  plus_else = count-canonical (plus x) ((g ∷ h ∷ []) ++ minus x ∷ []) ∙ omega (arith, none_old (plus x) edge_plus, count-append (plus x) (g ∷ h ∷ []) (k ∷ qs), tick_other (plus x) (minus x) (λ e. omega (arith, e)))

  minus_none : count (minus x) (g ∷ h ∷ []) ≡ 0
  minus_none = omega (arith, none_old (minus x) edge_minus, count-append (minus x) (g ∷ h ∷ []) (k ∷ qs))

  out_l : out_edge (minus x) (plus x) (tail N k) l (record { face = f; content = cycle (canonical (plus x ∷ k ∷ qs)) }) ≡ record { face = f; content = cycle (canonical (k ∷ qs)) }
  out_l = search (rules, out_here, in-holds, plus_in, count-canonical, or_true, without_none, minus_else, taken_from, apart_xs, around_l, rest_head)

  out_r : out_edge (minus x) (plus x) (tail N k) r (record { face = s; content = cycle (canonical ((g ∷ h ∷ []) ++ minus x ∷ [])) }) ≡ record { face = s; content = cycle (canonical (g ∷ h ∷ [])) }
  out_r = out_here (minus x) (plus x) (tail N k) r s (cycle (canonical ((g ∷ h ∷ []) ++ minus x ∷ []))) (cycle (canonical (g ∷ h ∷ [])))
      (ap (λ t. t || holds (plus x) (cycle (canonical ((g ∷ h ∷ []) ++ minus x ∷ [])))) (in-holds (minus x) (cycle (canonical ((g ∷ h ∷ []) ++ minus x ∷ []))) (omega (arith, minus_in, count-canonical (minus x) ((g ∷ h ∷ []) ++ minus x ∷ [])))))
      (ap (λ t. cycle_or_lone t (tail N k)) (without_none (plus x) (without (minus x) (canonical ((g ∷ h ∷ []) ++ minus x ∷ [])))
      (count_out (plus x) (minus x) (canonical ((g ∷ h ∷ []) ++ minus x ∷ [])) (λ e. omega (arith, e)) ∙ plus_else))
      ∙ taken_from (minus x) (tail N k) ((g ∷ h ∷ []) ++ minus x ∷ []) g (h ∷ []) (apart_xs A r s ((g ∷ h ∷ []) ++ minus x ∷ []) around_r) minus_in (rest_at (minus x) (g ∷ h ∷ []) [] minus_none))

  abbrev B : Model
  B = record N {
    faces = table.put N.faces s (record { solid = solid_of N f; outer = r });
    loops = table.put (table.put N.loops l (record { face = f; content = cycle (canonical (k ∷ qs)) })) r (record { face = s; content = cycle (canonical (g ∷ h ∷ [])) });
    edges = table.map_rows (moved_tail (tail N g) (tail N k)) N.edges;
    vertices = table.remove N.vertices (tail N g);
  }

  B_loops : table.map_rows (out_edge (minus x) (plus x) (tail N k)) A.loops ≡ B.loops
  B_loops = search (rules, map-put, map_same, out_none, holds-none, none_x, edge_minus, edge_plus, out_l, out_r)

  B_edges : table.remove A.edges (edge_of (minus x)) ≡ N.edges
  B_edges = ap (table.remove A.edges) edge_minus ∙ remove-put N.edges x new_edge c.edge_free

  pub B_is : effect A (Kev (half (minus x))) ≡ B
  unfolding effect kev
  B_is = ap (kev A) (code-half (minus x)) ∙ (λ i. record A {
    loops = ((λ j. table.map_rows (out_edge (minus x) (mate_minus x j) (A_minus j)) A.loops) ∙ B_loops) i;
    edges = table.map_rows (moved_tail ((ap (tail A) (mate_minus x) ∙ A_plus) i) (A_minus i)) (B_edges i);
    vertices = table.remove N.vertices ((ap (tail A) (mate_minus x) ∙ A_plus) i);
  })

  sound_B : Sound B
  sound_B = subst Sound B_is (effect_keeps_sound A (Kev (half (minus x))) sound_A kev_ok)

  -- ---- kef

  abbrev q : ℕ
  q = loop_of N (mate g)

  m_there : HasHalf N (mate g)
  m_there = mate_there N g (half_is N l f ((g ∷ h ∷ []) ++ k ∷ qs) c.around g (omega (arith, tick_same g)))

  row_q : table.get N.loops q ≡ Some (record { face = face_of N q; content = cycle (cycle_of N (mate g)) })
  row_q = row_of N c.around.sound (mate g) m_there

  B_other : (p : ℕ) → p ≢ l → p ≢ r → table.get B.loops p ≡ table.get N.loops p
  B_other p a b = get-put_other _ r _ p b ∙ get-put_other N.loops l _ p a

  B_at_l : table.get B.loops l ≡ Some (record { face = f; content = cycle (canonical (k ∷ qs)) })
  B_at_l = get-put_other _ r _ l l_r ∙ get-put_here N.loops l _

  around_gh : Around B r s (g ∷ h ∷ [])
  around_gh = record { sound = sound_B; at = get-put_here _ r _ }

  loop_g : loop_of B (mate (mate g)) ≡ r
  loop_g = ap (loop_of B) (mate-mate g) ∙ loop_is B r s (g ∷ h ∷ []) around_gh g (omega (arith, tick_same g))

  B_at_q : table.get B.loops q ≡ Some (record { face = face_of N q; content = cycle (cycle_of N (mate g)) })
  B_at_q = B_other q c.mate_else (not_r q (ap is_some row_q)) ∙ row_q

  loop_m : loop_of B (mate g) ≡ q
  loop_m = sound_B.one_loop (mate g) q (ap (holds (mate g)) (content_row B q _ B_at_q ∙ sym (content_row N q _ row_q)) ∙ c.around.sound.stands (mate g) m_there)

  face_q : face_of B q ≡ face_of N q
  face_q = face_row B q (record { face = face_of N q; content = cycle (cycle_of N (mate g)) }) B_at_q

  not_s : (p : ℕ) → Has N.loops p → face_of N p ≢ s
  not_s p there e = true≢false (sym (c.around.sound.loops_of_faces p there) ∙ ap (λ t. is_some (table.get N.faces t)) e ∙ ap is_some c.face_free)

  only_r : (p : ℕ) → Has B.loops p → face_of B p ≡ s → r ≡ p
  only_r p there is = elim (eqb_tells p r) [
    | inl e ↦ sym e.1
    | inr a ↦ elim (eqb_tells p l) [
      | inl e ↦ absurd (not_s l has_l (face_row N l old_row c.around.at ∙ sym (face_row B l _ B_at_l) ∙ ap (face_of B) (sym e.1) ∙ is))
      | inr b ↦
          let same = B_other p b.1 a.1 in
          absurd (not_s p (ap is_some (sym same) ∙ there) (sym (same_loop_row B N p same).1 ∙ is))
    ]
  ]

  outer_s : outer B s ≡ r
  unfolding outer
  outer_s = ap (λ o. (unwrap_or o no_face).outer) (get-put_here N.faces s (record { solid = solid_of N f; outer = r }))

  face_g : face_at B (mate (mate g)) ≡ s
  face_g = ap (face_of B) loop_g ∙ face_row B r (record { face = s; content = cycle (canonical (g ∷ h ∷ [])) }) (get-put_here _ r _)

  kef_goes : KefGoes B (mate g)
  kef_goes = record {
    h_there = ap is_some (get-map_rows (moved_tail (tail N g) (tail N k)) N.edges (edge_of (mate g))) ∙ mapped_some _ _ ∙ m_there;
    faces_apart = λ e. not_s q (ap is_some row_q) (sym face_q ∙ ap (face_of B) (sym loop_m) ∙ e ∙ face_g);
    no_rings = λ p there is. ap (outer B) face_g ∙ outer_s ∙ only_r p there (is ∙ face_g);
  }

  pub kef_ok : first_false B (Kef (half (mate g))) ≡ None
  kef_ok = kef_accepted B (half (mate g)) sound_B (subst (KefGoes B) (sym (code-half (mate g))) kef_goes)

  -- the model with both closed
  abbrev pub closed : Model
  closed = record N {
    loops = table.put (table.put N.loops l (record { face = f; content = cycle (canonical (k ∷ qs)) })) (loop_of N (mate g))
        (record { face = face_of N (loop_of N (mate g)); content = cycle (canonical (h ∷ rest (mate g) (cycle_of N (mate g)))) });
    edges = table.remove (table.map_rows (moved_tail (tail N g) (tail N k)) N.edges) (edge_of g);
    vertices = table.remove N.vertices (tail N g);
  }

  cycle_m : cycle_of B (mate g) ≡ cycle_of N (mate g)
  cycle_m = ap (λ p. items_of (content B p)) loop_m ∙ ap items_of (content_row B q _ B_at_q)

  rest_g : rest (mate (mate g)) (cycle_of B (mate (mate g))) ≡ h ∷ []
  rest_g = (λ i. rest (mate-mate g i) ((ap (λ p. items_of (content B p)) loop_g ∙ ap items_of (content_row B r _ (get-put_here _ r _))) i))
      ∙ rest_canonical g (h ∷ []) (apart_xs B r s (g ∷ h ∷ []) around_gh)

  put_apart : {X : Type 0} (t : Table X) (a b d : ℕ) (u v w : X) → a ≢ b → d ≢ b → table.get t b ≡ None → table.remove (table.put (table.put (table.put t a u) b v) d w) b ≡ table.put (table.put t a u) d w
  put_apart t a b d u v w ab db free = same_table _ _ (λ n. grind (arith, nat_tests, tables))

  closed_loops : (kef B (mate g)).loops ≡ closed.loops
  closed_loops = kill.loops_are B sound_B (mate g) kef_goes
      ∙ (λ i. table.remove (table.put B.loops (loop_m i) (record { face = (ap (face_of B) loop_m ∙ face_q) i; content = cycle (canonical (rest_g i ++ rest (mate g) (cycle_m i))) })) (loop_g i))
      ∙ put_apart N.loops l r q _ _ _ l_r (not_r q (ap is_some row_q)) c.loop_free

  pub closed_is : effect B (Kef (half (mate g))) ≡ closed
  unfolding effect kef
  closed_is = ap (kef B) (code-half (mate g)) ∙ grind (arith, face_g, remove-put, c.face_free, closed_loops, edge_of-mate)

  -- the three operators
  pub closing_leads : Leads N closed (closing g k x s r)
  closing_leads = grind (arith, leads_first, mef_ok, A_is, kev_ok, B_is, leads_one, kef_ok, closed_is)
