-- What stays as an edge is drawn, as two loops are joined, and as a ring is moved.
use Rattle.split_drawing_laws.proofs.Prelude.{◌≡◌, ◌≢◌, ℕ, ◌+◌, ◌≤◌, ◌<◌, List, ◌∷◌, ◌++◌, Some, None, is_some, unwrap_or, refl, sym, ap, ◌∙◌, subst, arith, ◌⊎◌, inl, inr, eqb_tells, count, IsIn, rotate_to, mef_old, mef_new, mekr_ring, edge_of, is_first, plus, minus, Model, cycle, no_edge, items_of, holds, tail, tail_in, loop_of, content, face_of, solid_of, cycle_of, point_of, no_point, Sound, Has, HasHalf, face_at, effect, mef, mekr, count-append, IsIn_or_not, count-canonical, count-rotate_to, plus_there, minus_there, content_row, face_row, plus_tail_row, minus_tail_row, in-holds, cycle_there, same_content, same_face, loop_there, row_elsewhere, get-put_here, get-put_other, get-remove_here, get-remove_other, count-halves, half_face, count-mef_old, count-mef_new, Taken, start, none_above, Stays, AreFreeForPairs}
use Rattle.euler_operators.specs.Table as table
use Rattle.split_drawing_laws.proofs.drawings.Drawn.{CanDraw, draw_rows, draw_sound, CanJoin, join_rows, join_sound, face_drawn_new, face_drawn_else, loops_joined_faces, face_drawn, loops_joined}

-- a half-edge stands where the content says so
pub stands_at : (N : Model) → Sound N → (x q : ℕ) (xs : List ℕ) → content N q ≡ cycle xs → IsIn x xs → loop_of N x ≡ q
stands_at N sound x q xs e i = sound.one_loop x q (ap (holds x) e ∙ in-holds x (cycle xs) i)

-- where the row of its loop stays, a half-edge keeps loop and face
kept_place : (M N : Model) → Sound M → Sound N → (x : ℕ) → HasHalf M x → table.get N.loops (loop_of M x) ≡ table.get M.loops (loop_of M x) → (loop_of N x ≡ loop_of M x) × (face_at N x ≡ face_at M x)
kept_place M N sound new x there e =
    let at : loop_of N x ≡ loop_of M x = new.one_loop x (loop_of M x) (ap (holds x) (same_content M N (loop_of M x) e) ∙ sound.stands x there) in
    (at, ap (face_of N) at ∙ same_face M N (loop_of M x) e)

pub stays_on : (M N K : Model) → Stays M N → Stays N K → Stays M K
stays_on M N K a b = grind arith

-- points stay, and half-edges start at theirs
module _ (M N : Model) (stays : Stays M N) where
  pub point_stays : (v : ℕ) → point_of N v ≡ point_of M v
  unfolding point_of
  point_stays v = ap (λ t. unwrap_or (table.get t v) no_point) stays.vertices

  pub start_stays : (h : ℕ) → HasHalf M h → start N h ≡ start M h
  start_stays h there = ap (point_of N) (stays.tails h there) ∙ point_stays (tail M h)

past : (a b : ℕ) → a < b → b ≢ a
past a b less s = absurd (omega arith)

-- ---- one edge more

module _ (M N : Model) (e a b : ℕ) (is : N.edges ≡ table.put M.edges e (record { plus_tail = a; minus_tail = b })) (free : table.get M.edges e ≡ None) where
  edge_stays : (h : ℕ) → HasHalf M h → table.get N.edges (edge_of h) ≡ table.get M.edges (edge_of h)
  edge_stays h there = ap (λ t. table.get t (edge_of h)) is ∙ get-put_other M.edges e _ (edge_of h) (row_elsewhere M.edges (edge_of h) e there free)

  tail_stays : (h : ℕ) → HasHalf M h → tail N h ≡ tail M h
  unfolding tail
  tail_stays h there = ap (λ o. tail_in (unwrap_or o no_edge) (is_first h)) (edge_stays h there)

  new_row : table.get N.edges e ≡ Some (record { plus_tail = a; minus_tail = b })
  new_row = ap (λ t. table.get t e) is ∙ get-put_here M.edges e _

  pub new_halves : HasHalf N (plus e) × HasHalf N (minus e)
  new_halves = (plus_there N e (ap is_some new_row), minus_there N e (ap is_some new_row))

  new_tails : (tail N (plus e) ≡ a) × (tail N (minus e) ≡ b)
  new_tails = (plus_tail_row N e _ new_row, minus_tail_row N e _ new_row)

-- ---- an edge drawn

module _ (M : Model) (u k e f l : ℕ) (can : CanDraw M u k e f l) where
  abbrev N : Model
  N = face_drawn M u k e f l

  pub second_in : IsIn k (cycle_of M u)
  second_in = subst (λ q. IsIn k (items_of (content M q))) (sym can.one_loop) (cycle_there M can.sound k can.k_there)

  old_loop_apart : loop_of M u ≢ l
  old_loop_apart = row_elsewhere M.loops (loop_of M u) l (loop_there M can.sound u can.u_there) can.loop_free

  pub row_old : table.get (face_drawn M u k e f l).loops (loop_of M u) ≡ Some (record { face = face_at M u; content = cycle (mef_old (plus e) u k (cycle_of M u)) })
  row_old = ap (λ X. table.get X.loops (loop_of M u)) (draw_rows M u k e f l can) ∙ get-put_other _ l _ (loop_of M u) old_loop_apart ∙ get-put_here M.loops (loop_of M u) _

  pub row_new : table.get (face_drawn M u k e f l).loops l ≡ Some (record { face = f; content = cycle (mef_new (minus e) u k (cycle_of M u)) })
  row_new = ap (λ X. table.get X.loops l) (draw_rows M u k e f l can) ∙ get-put_here _ l _

  pub row_else : (q : ℕ) → q ≢ loop_of M u → q ≢ l → table.get (face_drawn M u k e f l).loops q ≡ table.get M.loops q
  row_else q a b = ap (λ X. table.get X.loops q) (draw_rows M u k e f l can) ∙ get-put_other _ l _ q b ∙ get-put_other M.loops (loop_of M u) _ q a

  pub edges_are : (face_drawn M u k e f l).edges ≡ table.put M.edges e (record { plus_tail = tail M u; minus_tail = tail M k })
  edges_are = ap (λ X. X.edges) (draw_rows M u k e f l can)

  vertices_are : (face_drawn M u k e f l).vertices ≡ M.vertices
  unfolding effect mef
  vertices_are = refl

  pub draw_stays : Stays M (face_drawn M u k e f l)
  draw_stays = grind (arith, edges_are, tail_stays, vertices_are, face_drawn_else, row_elsewhere, edge_stays)

  pub draw_tails : (tail (face_drawn M u k e f l) (plus e) ≡ tail M u) × (tail (face_drawn M u k e f l) (minus e) ≡ tail M k)
  draw_tails = new_tails M N e (tail M u) (tail M k) edges_are can.edge_free

  -- what stands in another loop keeps loop and face
  pub draw_beside : (h : ℕ) → HasHalf M h → loop_of M h ≢ loop_of M u → (loop_of (face_drawn M u k e f l) h ≡ loop_of M h) × (face_at (face_drawn M u k e f l) h ≡ face_at M h)
  draw_beside h there ne = kept_place M N can.sound (draw_sound M u k e f l can) h there (row_else (loop_of M h) ne (row_elsewhere M.loops (loop_of M h) l (loop_there M can.sound h there) can.loop_free))

  in_two : (h : ℕ) → HasHalf M h → loop_of M h ≡ loop_of M u → IsIn h (mef_old (plus e) u k (cycle_of M u)) ⊎ IsIn h (mef_new (minus e) u k (cycle_of M u))
  in_two h there at = grind (arith, cycle_there, IsIn_or_not, count-mef_old, count-mef_new, count-halves)

  -- what stands in u's loop is then of its face or of the new one
  pub draw_within : (h : ℕ) → HasHalf M h → loop_of M h ≡ loop_of M u → (face_at (face_drawn M u k e f l) h ≡ face_at M h) ⊎ (face_at (face_drawn M u k e f l) h ≡ f)
  draw_within h there at = elim (in_two h there at) [
    | inl i ↦ inl (ap (face_of N) (stands_at N (draw_sound M u k e f l can) h (loop_of M u) _ (content_row N (loop_of M u) _ row_old) i) ∙ face_row N (loop_of M u) _ row_old ∙ ap (face_of M) (sym at))
    | inr i ↦ inr (ap (face_of N) (stands_at N (draw_sound M u k e f l can) h l _ (content_row N l _ row_new) i) ∙ face_row N l _ row_new)
  ]

  -- the new face is of the same solid
  pub draw_solid : solid_of (face_drawn M u k e f l) f ≡ solid_of (face_drawn M u k e f l) (face_at M u)
  unfolding solid_of
  draw_solid = grind (arith, face_drawn_new, face_drawn_else, row_elsewhere, half_face)

  pub draw_has : Has (face_drawn M u k e f l).faces f
  draw_has = ap is_some (face_drawn_new M u k e f l)

  -- the numbers above the new ones stay free
  pub draw_free : (c : Taken) → c.face < f → c.loop < l → c.edge < e → AreFreeForPairs M c → AreFreeForPairs (face_drawn M u k e f l) (record c { face = f; loop = l; edge = e })
  draw_free c next_face next_loop next_edge w = record {
    faces = λ q above. face_drawn_else M u k e f l q (past f q above) ∙ w.faces q (omega (arith, next_face, above));
    loops = λ q above.
        let none = w.loops q (omega (arith, next_loop, above)) in
        row_else q (λ s. row_elsewhere M.loops (loop_of M u) q (loop_there M can.sound u can.u_there) none (sym s)) (past l q above) ∙ none;
    edges = λ q above. ap (λ t. table.get t q) edges_are ∙ get-put_other M.edges e _ q (past e q above) ∙ w.edges q (omega (arith, next_edge, above));
    vertices = none_above (face_drawn M u k e f l).vertices;
  }

-- ---- two loops joined

module _ (M : Model) (c d e : ℕ) (can : CanJoin M c d e) where
  abbrev J : Model
  J = loops_joined M c d e

  pub row_joined : table.get (loops_joined M c d e).loops (loop_of M c) ≡ Some (record { face = face_at M c; content = cycle (mekr_ring (plus e) (minus e) c d (cycle_of M c) (cycle_of M d)) })
  row_joined = ap (λ X. table.get X.loops (loop_of M c)) (join_rows M c d e can) ∙ get-put_here _ (loop_of M c) _

  pub row_other : (q : ℕ) → q ≢ loop_of M c → q ≢ loop_of M d → table.get (loops_joined M c d e).loops q ≡ table.get M.loops q
  row_other q a b = ap (λ X. table.get X.loops q) (join_rows M c d e can) ∙ get-put_other _ (loop_of M c) _ q a ∙ get-remove_other M.loops (loop_of M d) q b

  pub row_gone : table.get (loops_joined M c d e).loops (loop_of M d) ≡ None
  row_gone = ap (λ X. table.get X.loops (loop_of M d)) (join_rows M c d e can) ∙ get-put_other _ (loop_of M c) _ (loop_of M d) (λ s. can.loops_apart (sym s)) ∙ get-remove_here M.loops (loop_of M d)

  row_free : (q : ℕ) → table.get M.loops q ≡ None → table.get (loops_joined M c d e).loops q ≡ None
  row_free q none = row_other q (λ s. row_elsewhere M.loops (loop_of M c) q (loop_there M can.sound c can.c_there) none (sym s)) (λ s. row_elsewhere M.loops (loop_of M d) q (loop_there M can.sound d can.d_there) none (sym s)) ∙ none

  pub joined_edges : (loops_joined M c d e).edges ≡ table.put M.edges e (record { plus_tail = tail M c; minus_tail = tail M d })
  joined_edges = ap (λ X. X.edges) (join_rows M c d e can)

  joined_vertices : (loops_joined M c d e).vertices ≡ M.vertices
  unfolding effect mekr
  joined_vertices = refl

  pub join_stays : Stays M (loops_joined M c d e)
  join_stays = grind (arith, joined_edges, tail_stays, joined_vertices, loops_joined_faces, edge_stays)

  pub join_tails : (tail (loops_joined M c d e) (plus e) ≡ tail M c) × (tail (loops_joined M c d e) (minus e) ≡ tail M d)
  join_tails = new_tails M J e (tail M c) (tail M d) joined_edges can.edge_free

  pub join_beside : (h : ℕ) → HasHalf M h → loop_of M h ≢ loop_of M c → loop_of M h ≢ loop_of M d → (loop_of (loops_joined M c d e) h ≡ loop_of M h) × (face_at (loops_joined M c d e) h ≡ face_at M h)
  join_beside h there a b = kept_place M J can.sound (join_sound M c d e can) h there (row_other (loop_of M h) a b)

  count_joined : (x : ℕ) → count x (cycle_of M c) + count x (cycle_of M d) ≤ count x (mekr_ring (plus e) (minus e) c d (cycle_of M c) (cycle_of M d))
  count_joined x = omega (arith, count-canonical x ((plus e ∷ rotate_to d (cycle_of M d)) ++ minus e ∷ rotate_to c (cycle_of M c)), count-append x (plus e ∷ rotate_to d (cycle_of M d)) (minus e ∷ rotate_to c (cycle_of M c)), count-rotate_to x d (cycle_of M d), count-rotate_to x c (cycle_of M c))

  joined_at : (h : ℕ) → IsIn h (mekr_ring (plus e) (minus e) c d (cycle_of M c) (cycle_of M d)) → face_at (loops_joined M c d e) h ≡ face_at M c
  joined_at h i = ap (face_of J) (stands_at J (join_sound M c d e can) h (loop_of M c) _ (content_row J (loop_of M c) _ row_joined) i)
      ∙ face_row J (loop_of M c) _ row_joined

  in_cycle : (h x : ℕ) → HasHalf M h → loop_of M h ≡ loop_of M x → IsIn h (cycle_of M x)
  in_cycle h x there at = subst (λ q. IsIn h (items_of (content M q))) at (cycle_there M can.sound h there)

  -- each half-edge keeps its face
  pub join_faces : (h : ℕ) → HasHalf M h → face_at (loops_joined M c d e) h ≡ face_at M h
  join_faces h there = elim (eqb_tells (loop_of M h) (loop_of M c)) [
    | inl a ↦ joined_at h (omega (arith, in_cycle h c there a.1, count_joined h)) ∙ sym (ap (face_of M) a.1)
    | inr a ↦ elim (eqb_tells (loop_of M h) (loop_of M d)) [
      | inl b ↦ joined_at h (omega (arith, in_cycle h d there b.1, count_joined h)) ∙ can.one_face ∙ sym (ap (face_of M) b.1)
      | inr b ↦ (join_beside h there a.1 b.1).1
    ]
  ]

  -- the numbers above the new edge stay free
  pub join_free : (t : Taken) → t.edge < e → AreFreeForPairs M t → AreFreeForPairs (loops_joined M c d e) (record t { edge = e })
  join_free t next_edge w = record {
    faces = λ q above. ap (λ x. table.get x q) (loops_joined_faces M c d e) ∙ w.faces q above;
    loops = λ q above. row_free q (w.loops q above);
    edges = λ q above. ap (λ x. table.get x q) joined_edges ∙ get-put_other M.edges e _ q (past e q above) ∙ w.edges q (omega (arith, next_edge, above));
    vertices = none_above (loops_joined M c d e).vertices;
  }
