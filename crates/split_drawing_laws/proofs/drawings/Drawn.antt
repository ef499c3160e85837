-- An edge drawn in a face, two loops joined, rings moved: none of the operators is refused, and what rows they make.
use Rattle.split_drawing_laws.proofs.Prelude.{◌≡◌, ◌≢◌, ℕ, List, [], ◌∷◌, fold, Some, None, is_some, IsTrue, refl, sym, ap, ◌∙◌, subst, arith, nat_tests, rotate_to, mef_old, mef_new, mekr_ring, At, plus, minus, half, Table, tables, same_table, Model, LoopRow, cycle, tail, loop_of, cycle_of, solid_of, outer, is_number, Sound, HasHalf, first_false, face_at, loop_to_face, effect, mef, mekr, ring_in, plus_row, code-half, edge_of-code, mate_plus, row_of, get-put_here, get-put_other, RingIn, of_half, edge_row_plus, loops-mef, mef_accepted, CornerAt, MekrGoes, mekr_accepted, effect_keeps_sound, with_rings, draw_edge, join_edge}
use Rattle.euler_operators.specs.Table as table

-- an edge drawn from u to k cuts off the new face f, and an edge from c to d joins their loops
abbrev pub face_drawn : Model → ℕ → ℕ → ℕ → ℕ → ℕ → Model
face_drawn M u k e f l = effect M (draw_edge u k e f l)

abbrev pub loops_joined : Model → ℕ → ℕ → ℕ → Model
loops_joined M c d e = effect M (join_edge c d e)

-- ---- the faces then

module _ (M : Model) (u k e f l : ℕ) where
  pub face_drawn_new : table.get (face_drawn M u k e f l).faces f ≡ Some (record { solid = solid_of M (face_at M u); outer = l })
  unfolding effect mef
  face_drawn_new = get-put_here M.faces f _ ∙ ap (λ x. Some (record { solid = solid_of M (face_at M x); outer = l })) (code-half u)

  pub face_drawn_else : (q : ℕ) → q ≢ f → table.get (face_drawn M u k e f l).faces q ≡ table.get M.faces q
  unfolding effect mef
  face_drawn_else q a = get-put_other M.faces f _ q a

pub loops_joined_faces : (M : Model) (c d e : ℕ) → (loops_joined M c d e).faces ≡ M.faces
unfolding effect mekr
loops_joined_faces M c d e = refl

-- ---- an edge drawn between two half-edges of a loop

-- u and k stand in one loop of a sound model and start at different vertices; the numbers are free
pub record CanDraw (M : Model) (u k e f l : ℕ) : Type 0 where
  pub sound : Sound M
  pub u_there : HasHalf M u
  pub k_there : HasHalf M k
  pub one_loop : loop_of M u ≡ loop_of M k
  pub apart : tail M u ≢ tail M k
  pub edge_free : table.get M.edges e ≡ None
  pub face_free : table.get M.faces f ≡ None
  pub loop_free : table.get M.loops l ≡ None
  pub edge_fits : IsTrue (is_number e)
  pub face_fits : IsTrue (is_number f)
  pub loop_fits : IsTrue (is_number l)

module _ (M : Model) (u k e f l : ℕ) (can : CanDraw M u k e f l) where
  put_new : ℕ → Table LoopRow
  put_new m = grind arith

  -- the loop A B, with A from u up to before k, becomes +e B, and A -e is the new loop
  pub draw_rows : face_drawn M u k e f l ≡ record M {
    faces = table.put M.faces f (record { solid = solid_of M (face_at M u); outer = l });
    loops = table.put (table.put M.loops (loop_of M u) (record { face = face_at M u; content = cycle (mef_old (plus e) u k (cycle_of M u)) }))
        l (record { face = f; content = cycle (mef_new (minus e) u k (cycle_of M u)) });
    edges = table.put M.edges e (record { plus_tail = tail M u; minus_tail = tail M k });
  }
  unfolding effect mef put_new
  draw_rows = (λ i. mef M (code-half u i) (code-half k i) (code-half (plus e) i) f l) ∙ grind (arith, loops-mef, put_new, mate_plus, plus_row, edge_row_plus)

  pub draw_accepted : first_false M (draw_edge u k e f l) ≡ None
  draw_accepted = grind (arith, mef_accepted, code-half, plus_row)

  pub draw_sound : Sound (face_drawn M u k e f l)
  draw_sound = effect_keeps_sound M (draw_edge u k e f l) can.sound draw_accepted

-- ---- an edge that joins two loops of a face

swapped : {X : Type 0} (t : Table X) (n k : ℕ) (x : X) → n ≢ k → table.remove (table.put t n x) k ≡ table.put (table.remove t k) n x
swapped t n k x apart = same_table _ _ (λ q. grind (arith, nat_tests, tables))

-- c and d stand in different loops of one face of a sound model, d in a ring, and start at different vertices; the edge is free
pub record CanJoin (M : Model) (c d e : ℕ) : Type 0 where
  pub sound : Sound M
  pub c_there : HasHalf M c
  pub d_there : HasHalf M d
  pub loops_apart : loop_of M c ≢ loop_of M d
  pub one_face : face_at M c ≡ face_at M d
  pub is_ring : outer M (face_at M d) ≢ loop_of M d
  pub apart : tail M c ≢ tail M d
  pub edge_free : table.get M.edges e ≡ None
  pub edge_fits : IsTrue (is_number e)

module _ (M : Model) (c d e : ℕ) (can : CanJoin M c d e) where
  corner_at : (x : ℕ) → HasHalf M x → CornerAt M (At (half x)) (loop_of M x) (tail M x) (rotate_to x (cycle_of M x))
  corner_at x there = grind (arith, code-half, of_half, edge_of-code)

  join_goes : MekrGoes M (At (half c)) (At (half d)) (plus e) (loop_of M c) (loop_of M d) (tail M c) (tail M d) (rotate_to c (cycle_of M c)) (rotate_to d (cycle_of M d))
  join_goes = record {
    first = corner_at c can.c_there;
    second = corner_at d can.d_there;
    edge_free = ap (table.get M.edges) (plus_row e).0 ∙ can.edge_free;
    edge_fits = ap is_number (plus_row e).0 ∙ can.edge_fits;
    loops_apart = can.loops_apart;
    one_face = can.one_face;
    ring_there = ap is_some (row_of M can.sound d can.d_there);
    no_outer = can.is_ring;
    ends_apart = can.apart;
  }

  pub join_accepted : first_false M (join_edge c d e) ≡ None
  join_accepted = mekr_accepted M (At (half c)) (At (half d)) (half (plus e)) (loop_of M c) (loop_of M d) (tail M c) (tail M d) (rotate_to c (cycle_of M c)) (rotate_to d (cycle_of M d))
      (subst (λ x. MekrGoes M (At (half c)) (At (half d)) x (loop_of M c) (loop_of M d) (tail M c) (tail M d) (rotate_to c (cycle_of M c)) (rotate_to d (cycle_of M d))) (sym (code-half (plus e))) join_goes)

  pub join_sound : Sound (loops_joined M c d e)
  join_sound = effect_keeps_sound M (join_edge c d e) can.sound join_accepted

  -- the loops Y, from c on, and X, from d on, become +e X -e Y, under the number of Y
  pub join_rows : loops_joined M c d e ≡ record M {
    loops = table.put (table.remove M.loops (loop_of M d)) (loop_of M c) (record { face = face_at M c; content = cycle (mekr_ring (plus e) (minus e) c d (cycle_of M c) (cycle_of M d)) });
    edges = table.put M.edges e (record { plus_tail = tail M c; minus_tail = tail M d });
  }
  unfolding effect mekr
  join_rows = grind (arith, code-half, mate_plus, swapped, can.loops_apart, plus_row, edge_row_plus)

-- ---- rings moved

pub ring_rows : (M : Model) (ls : List ℕ) (k : ℕ) → with_rings M ls k ≡ record M { loops = fold (λ t l. table.map_rows (loop_to_face l k) t) M.loops ls }
unfolding effect ring_in
ring_rows M [] k = refl
ring_rows M (l ∷ ls) k = ring_rows (effect M (RingIn l k)) ls k
