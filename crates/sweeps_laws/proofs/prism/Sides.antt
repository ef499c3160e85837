-- One round of the sweep of a loop: the numbers that it takes, what the sides leave as it was, an item raised and the side before it closed.
use Rattle.sweeps_laws.proofs.Prelude.{◌≡◌, ◌≢◌, ℕ, suc, ◌+◌, ◌≤◌, ◌<◌, cond, List, [], ◌∷◌, length, is_some, IsTrue, refl, sym, ap, ◌∙◌, subst, arith, ◌++◌, Some, None, eq-eqb, ne_eqb, get_or, drop, append_assoc, nat_tests, Point, IsIn, canonical, successor, edge_of, plus, minus, Model, cycle, items_of, holds, tail, content, solid_of, loop_of, after, cycle_of, is_number, Has, HasHalf, Sound, moved, Table, tables, same_table, first_false, effect, tick_same, successor_head, content_row, face_row, in-holds, minus_tail_row, get-put_other, same_solid, in_use_within, get-put_here, put_turned, canonical_same, IsIn-get_or, start, Taken, riser, top_edge, next_place, with_side, with_sides, top_items, Ready, drop_more, AreAccepted, effects, effect_keeps_sound, same_tail, same_point, Around, apart_xs, lifted_part, prism_part, raise, close}
use Rattle.euler_operators.specs.Table as table
use Rattle.sweeps_laws.proofs.swept.Bounds.{HasFree, tail_within}
use Rattle.sweeps_laws.proofs.swept.Filled.{filled_other}
use Rattle.sweeps_laws.proofs.swept.Numbers.{riser_cases, riser_above, top_cases}
use Rattle.sweeps_laws.proofs.swept.Sides.{Keeps, start_kept, faces_grown, loops_grown, vertices_grown, edges_other, edges_kept, vertices_kept, keeps_grown}
use Rattle.sweeps_laws.proofs.prism.Steps.{with_spur, with_chord, mev_does, mev_fits, mef_does, mef_fits}

-- ---- numbers

pub fits : (n : ℕ) → 1 ≤ n → n ≤ 1000000 → IsTrue (is_number n)
fits n a b = grind (arith, nat_tests)

pub next_inner : (n i : ℕ) → i + 1 < n → next_place n i ≡ suc i
next_inner n i h = ap (λ b. cond b 0 (i + 1)) (ne_eqb (i + 1) n (λ s. omega arith)) ∙ omega arith

pub next_last : (n i : ℕ) → i + 1 ≡ n → next_place n i ≡ 0
next_last n i h = ap (λ b. cond b 0 (i + 1)) (eq-eqb (i + 1) n h)

-- ---- a loop to be swept

module _ (M : Model) (c : Taken) (f l : ℕ) (d : Point) (hs : List ℕ) (w : Ready M c f l d hs) where
  abbrev pub n : ℕ
  n = length hs

  pub content_is : content M l ≡ cycle hs
  content_is = content_row M l (record { face = f; content = cycle hs }) w.at

  pub half_there : (h : ℕ) → IsIn h hs → HasHalf M h
  half_there h i = w.sound.only_edges h l (ap (holds h) content_is ∙ in-holds h (cycle hs) i)

  pub from_least : canonical hs ≡ hs
  from_least = (w.sound.cycles l hs (ap is_some w.at) content_is).from_least

  pub face_there : Has M.faces f
  face_there = subst (Has M.faces) (face_row M l (record { face = f; content = cycle hs }) w.at) (w.sound.loops_of_faces l (ap is_some w.at))

  -- no loop has one item alone, since an edge has two ends
  not_one : (ks : List ℕ) → hs ≡ ks → 2 ≤ length ks
  unfolding after
  not_one [] e = absurd ((w.sound.cycles l hs (ap is_some w.at) content_is).some_item e)
  not_one (h ∷ []) e =
      let i : IsIn h hs = subst (IsIn h) (sym e) (omega (arith, tick_same h)) in
      let at : loop_of M h ≡ l = w.sound.one_loop h l (ap (holds h) content_is ∙ in-holds h (cycle hs) i) in
      let c : cycle_of M h ≡ h ∷ [] = ap (λ q. items_of (content M q)) at ∙ ap items_of content_is ∙ e in
      let next : after M h ≡ h = ap (λ xs. successor xs h) c ∙ successor_head h [] in
      absurd (w.sound.ends_differ h (half_there h i) (sym (ap (tail M) next) ∙ w.sound.ends_meet h (half_there h i)))
  not_one (h ∷ g ∷ ks) e = omega arith

  pub two_items : 2 ≤ length hs
  two_items = not_one hs refl

  -- ---- what the sides leave

  pub has_free : HasFree M c
  has_free = record { sound = w.sound; free = w.free }

  pub sides_edges : (i q : ℕ) → ((j : ℕ) → j < i → (q ≢ riser c.edge j) × (q ≢ top_edge c.edge (length hs) j)) → table.get (with_sides c (solid_of M f) d hs i M).edges q ≡ table.get M.edges q
  sides_edges = edges_other M c (solid_of M f) d hs

  pub sides_faces : (i q : ℕ) → ((j : ℕ) → j < i → q ≢ c.face + 1 + j) → table.get (with_sides c (solid_of M f) d hs i M).faces q ≡ table.get M.faces q
  sides_faces i q o = ap (λ t. table.get t q) (faces_grown M c (solid_of M f) d hs i) ∙ filled_other M.faces c.face _ i q o

  pub sides_loops : (i q : ℕ) → ((j : ℕ) → j < i → q ≢ c.loop + 1 + j) → table.get (with_sides c (solid_of M f) d hs i M).loops q ≡ table.get M.loops q
  sides_loops i q o = ap (λ t. table.get t q) (loops_grown M c (solid_of M f) d hs i) ∙ filled_other M.loops c.loop _ i q o

  pub sides_vertices : (i q : ℕ) → ((j : ℕ) → j < i → q ≢ c.vertex + 1 + j) → table.get (with_sides c (solid_of M f) d hs i M).vertices q ≡ table.get M.vertices q
  sides_vertices i q o = ap (λ t. table.get t q) (vertices_grown M c (solid_of M f) d hs i) ∙ filled_other M.vertices c.vertex _ i q o

  pub old_edge : (i q : ℕ) → Has M.edges q → table.get (with_sides c (solid_of M f) d hs i M).edges q ≡ table.get M.edges q
  old_edge i q there = edges_kept M c (solid_of M f) d hs i q (in_use_within M.edges c.edge w.free.edges q there)

  pub old_start : (i h : ℕ) → HasHalf M h → start (with_sides c (solid_of M f) d hs i M) h ≡ start M h
  old_start i h there = start_kept (keeps_grown M c (solid_of M f) d hs i) (tail_within has_free) h (in_use_within M.edges c.edge w.free.edges (edge_of h) there)

  pub old_solid : (i : ℕ) → solid_of (with_sides c (solid_of M f) d hs i M) f ≡ solid_of M f
  old_solid i = let b : f ≤ c.face = in_use_within M.faces c.face w.free.faces f face_there in
      same_solid M (with_sides c (solid_of M f) d hs i M) f (sides_faces i f (λ j lt s. omega arith))

-- ---- an item is raised, and the side before it closed

pub drop_next : (hs : List ℕ) (i : ℕ) → i < length hs → drop i hs ≡ get_or hs i 0 ∷ drop (suc i) hs
drop_next hs i h = drop_more hs i 0 h ∙ ap (λ k. get_or hs i 0 ∷ drop k hs) (let e : i + 1 ≡ suc i = omega arith in e)

-- loop l put three times and then row r
pub put_over : {X : Type 0} (t : Table X) (l r : ℕ) (a b x y : X) → l ≢ r → table.put (table.put (table.put (table.put t l a) l b) l x) r y ≡ table.put (table.put t r y) l x
put_over t l r a b x y ne = same_table _ _ (λ q. grind (arith, nat_tests, tables))

module _ {M : Model} {c : Taken} {f l : ℕ} {d : Point} {hs : List ℕ} (w : Ready M c f l d hs) where
  pub loop_within : l ≤ c.loop
  loop_within = in_use_within M.loops c.loop w.free.loops l (ap is_some w.at)

  pub part_loop : (i : ℕ) → table.get (prism_part c f l d hs i M).loops l ≡ Some (record { face = f; content = cycle (canonical (lifted_part c hs i)) })
  unfolding prism_part
  part_loop i = get-put_here _ l _

  pub part_edge_free : (i q : ℕ) → q ≢ riser c.edge i → ((j : ℕ) → j < i → (q ≢ riser c.edge j) × (q ≢ top_edge c.edge (length hs) j)) → c.edge < q → table.get (prism_part c f l d hs i M).edges q ≡ None
  unfolding prism_part
  part_edge_free i q ne o above = get-put_other _ _ _ q ne ∙ sides_edges M c f l d hs w i q o ∙ w.free.edges q above

  pub part_vertex_free : (i q : ℕ) → c.vertex + 1 + i < q → table.get (prism_part c f l d hs i M).vertices q ≡ None
  unfolding prism_part
  part_vertex_free i q above = get-put_other _ _ _ q (λ s. omega arith) ∙ sides_vertices M c f l d hs w i q (λ j lt s. omega arith) ∙ w.free.vertices q (omega arith)

  pub part_face_free : (i q : ℕ) → c.face + 1 + i ≤ q → table.get (prism_part c f l d hs i M).faces q ≡ None
  unfolding prism_part
  part_face_free i q above = sides_faces M c f l d hs w i q (λ j lt s. omega arith) ∙ w.free.faces q (omega arith)

  pub part_loop_free : (i q : ℕ) → c.loop + 1 + i ≤ q → table.get (prism_part c f l d hs i M).loops q ≡ None
  unfolding prism_part
  part_loop_free i q above = let b = loop_within in get-put_other _ _ _ q (λ s. omega arith) ∙ sides_loops M c f l d hs w i q (λ j lt s. omega arith) ∙ w.free.loops q (omega arith)

  pub part_keeps : (i : ℕ) → Keeps M (prism_part c f l d hs i M) c.edge c.vertex
  unfolding prism_part
  part_keeps i = record {
    tails = λ h m. same_tail M (prism_part c f l d hs i M) h (get-put_other _ _ _ (edge_of h) (λ e. omega (arith, m, e, riser_above c.edge i)) ∙ edges_kept M c (solid_of M f) d hs i (edge_of h) m);
    points = λ v m. same_point M (prism_part c f l d hs i M) v (get-put_other _ _ _ v (λ e. omega (arith, m, e)) ∙ vertices_kept M c (solid_of M f) d hs i v m);
  }

  pub part_riser : (i : ℕ) → table.get (prism_part c f l d hs i M).edges (riser c.edge i) ≡ Some (record { plus_tail = tail (with_sides c (solid_of M f) d hs i M) (get_or hs i 0); minus_tail = c.vertex + 1 + i })
  unfolding prism_part
  part_riser i = get-put_here _ _ _

  pub part_solid : (i : ℕ) → solid_of (prism_part c f l d hs i M) f ≡ solid_of M f
  unfolding prism_part solid_of
  part_solid i = old_solid M c f l d hs w i

  module _ (i : ℕ) (below : suc i < length hs) (sound : Sound (prism_part c f l d hs i M)) where
    abbrev P : Model
    P = prism_part c f l d hs i M

    abbrev T : List ℕ
    T = top_items c.edge (length hs) i

    abbrev a : ℕ
    a = plus (riser c.edge 0)

    abbrev b : ℕ
    b = minus (riser c.edge i)

    abbrev h : ℕ
    h = get_or hs i 0

    abbrev g : ℕ
    g = get_or hs (suc i) 0

    abbrev D : List ℕ
    D = drop (suc (suc i)) hs

    abbrev u : ℕ
    u = riser c.edge (suc i)

    abbrev t : ℕ
    t = top_edge c.edge (length hs) i

    abbrev v : ℕ
    v = c.vertex + 1 + suc i

    abbrev s : ℕ
    s = c.face + 1 + i

    abbrev r : ℕ
    r = c.loop + 1 + i

    abbrev X1 : List ℕ
    X1 = (a ∷ T ++ b ∷ h ∷ []) ++ plus u ∷ minus u ∷ g ∷ D

    abbrev X2 : List ℕ
    X2 = (b ∷ h ∷ plus u ∷ []) ++ minus u ∷ ((g ∷ D) ++ a ∷ T)

    abbrev X3 : List ℕ
    X3 = plus t ∷ minus u ∷ ((g ∷ D) ++ a ∷ T)

    abbrev X4 : List ℕ
    X4 = (b ∷ h ∷ plus u ∷ []) ++ minus t ∷ []

    abbrev N1 : Model
    N1 = with_spur P l f X1 u (record { plus_tail = tail P g; minus_tail = v }) v (moved (start M g) d)

    abbrev N2 : Model
    N2 = with_chord N1 l f X3 t (record { plus_tail = tail N1 b; minus_tail = tail N1 (minus u) }) s r X4

    g_in : IsIn g hs
    g_in = IsIn-get_or hs (suc i) 0 below

    list0 : lifted_part c hs i ≡ (a ∷ T ++ b ∷ h ∷ []) ++ g ∷ D
    list0 = ap (λ xs. a ∷ T ++ b ∷ xs) (drop_next hs i (omega arith) ∙ ap (λ xs. h ∷ xs) (drop_next hs (suc i) below)) ∙ ap (λ xs. a ∷ xs) (sym (append_assoc T (b ∷ h ∷ []) (g ∷ D)))

    around0 : Around P l f ((a ∷ T ++ b ∷ h ∷ []) ++ g ∷ D)
    around0 = record { sound = sound; at = part_loop i ∙ ap (λ xs. Some (record { face = f; content = cycle (canonical xs) })) list0 }

    -- the new edges
    u_new : (j : ℕ) → j < suc i → (u ≢ riser c.edge j) × (u ≢ top_edge c.edge (length hs) j)
    u_new j lt = ((λ e. omega (arith, riser_cases c.edge (suc i), riser_cases c.edge j)), (λ e. omega (arith, riser_cases c.edge (suc i), top_cases c.edge (length hs) j)))

    t_new : (j : ℕ) → j < i → (t ≢ riser c.edge j) × (t ≢ top_edge c.edge (length hs) j)
    t_new j lt = ((λ e. omega (arith, top_cases c.edge (length hs) i, riser_cases c.edge j)), (λ e. omega (arith, top_cases c.edge (length hs) i, top_cases c.edge (length hs) j)))

    t_riser : t ≢ riser c.edge i
    t_riser e = omega (arith, top_cases c.edge (length hs) i, riser_cases c.edge i)

    t_u : t ≢ u
    t_u e = omega (arith, top_cases c.edge (length hs) i, riser_cases c.edge (suc i))

    u_free : table.get P.edges u ≡ None
    u_free = part_edge_free i u (u_new i (omega arith)).0 (λ j lt. u_new j (omega arith)) (omega (arith, riser_cases c.edge (suc i)))

    accepted0 : first_false P (raise M c d hs (suc i)) ≡ None
    accepted0 = mev_fits P l f (a ∷ T ++ b ∷ h ∷ []) D g u v (moved (start M g) d) around0 u_free (part_vertex_free i v (omega arith))
        (fits u (omega (arith, riser_cases c.edge (suc i))) (omega (arith, riser_cases c.edge (suc i), w.left.edges, below)))
        (fits v (omega arith) (omega (arith, w.left.vertices, below)))
        (w.points_fit g g_in)

    first : effect P (raise M c d hs (suc i)) ≡ N1
    first = mev_does P l f (a ∷ T ++ b ∷ h ∷ []) D g u v (moved (start M g) d) around0 u_free

    sound1 : Sound N1
    sound1 = subst Sound first (effect_keeps_sound P (raise M c d hs (suc i)) sound accepted0)

    around1 : Around N1 l f X1
    around1 = record { sound = sound1; at = get-put_here _ l _ }

    turned1 : canonical X1 ≡ canonical X2
    turned1 = canonical_same X1 X2 (record { front = a ∷ T; back = b ∷ h ∷ plus u ∷ minus u ∷ g ∷ D; here = ap (λ xs. a ∷ xs) (append_assoc T (b ∷ h ∷ []) (plus u ∷ minus u ∷ g ∷ D)); there = refl }) (apart_xs N1 l f X1 around1)

    around2 : Around N1 l f X2
    around2 = record { sound = sound1; at = get-put_here _ l _ ∙ ap (λ xs. Some (record { face = f; content = cycle xs })) turned1 }

    t_free : table.get N1.edges t ≡ None
    t_free = get-put_other _ u _ t t_u ∙ part_edge_free i t t_riser t_new (omega (arith, top_cases c.edge (length hs) i))

    r_other : l ≢ r
    r_other e = omega (arith, loop_within)

    r_free : table.get N1.loops r ≡ None
    r_free = get-put_other _ l _ r (λ e. r_other (sym e)) ∙ part_loop_free i r (omega arith)

    tail_b : tail N1 b ≡ c.vertex + 1 + i
    tail_b = minus_tail_row N1 (riser c.edge i) _ (get-put_other _ u _ (riser c.edge i) (λ e. (u_new i (omega arith)).0 (sym e)) ∙ part_riser i)

    tail_u : tail N1 (minus u) ≡ c.vertex + 1 + suc i
    tail_u = minus_tail_row N1 u _ (get-put_here _ u _)

    accepted1 : first_false N1 (close c (length hs) i) ≡ None
    accepted1 = mef_fits N1 l f b (minus u) (h ∷ plus u ∷ []) ((g ∷ D) ++ a ∷ T) t s r around2 t_free r_free (part_face_free i s (omega arith))
        (λ e. let q : c.vertex + 1 + i ≡ c.vertex + 1 + suc i = sym tail_b ∙ e ∙ tail_u in omega arith)
        (fits t (omega (arith, top_cases c.edge (length hs) i)) (omega (arith, top_cases c.edge (length hs) i, w.left.edges, below)))
        (fits s (omega arith) (omega (arith, w.left.faces, below)))
        (fits r (omega arith) (omega (arith, w.left.loops, below)))

    second : effect N1 (close c (length hs) i) ≡ N2
    second = mef_does N1 l f b (minus u) (h ∷ plus u ∷ []) ((g ∷ D) ++ a ∷ T) t s r around2 t_free r_free

    sound2 : Sound N2
    sound2 = subst Sound second (effect_keeps_sound N1 (close c (length hs) i) sound1 accepted1)

    -- the two loops that the chord leaves
    kept_there : Around N2 l f X3
    kept_there = record { sound = sound2; at = get-put_other _ r _ l r_other ∙ get-put_here _ l _ }

    side_there : Around N2 r s X4
    side_there = record { sound = sound2; at = get-put_here _ r _ }

    kept_is : canonical X3 ≡ canonical (lifted_part c hs (suc i))
    kept_is = canonical_same X3 (lifted_part c hs (suc i))
        (record {
          front = plus t ∷ minus u ∷ g ∷ D;
          back = a ∷ T;
          here = refl;
          there = ap (λ xs. a ∷ (T ++ plus t ∷ []) ++ minus u ∷ xs) (drop_next hs (suc i) below) ∙ ap (λ xs. a ∷ xs) (append_assoc T (plus t ∷ []) (minus u ∷ g ∷ D));
        }) (apart_xs N2 l f X3 kept_there)

    next_is : next_place (length hs) i ≡ suc i
    next_is = next_inner (length hs) i (omega (arith, below))

    side_is : canonical X4 ≡ canonical (h ∷ plus (riser c.edge (next_place (length hs) i)) ∷ minus t ∷ b ∷ [])
    side_is = canonical_same X4 (h ∷ plus u ∷ minus t ∷ b ∷ []) (record { front = b ∷ []; back = h ∷ plus u ∷ minus t ∷ []; here = refl; there = refl }) (apart_xs N2 r s X4 side_there)
        ∙ ap (λ k. canonical (h ∷ plus (riser c.edge k) ∷ minus t ∷ b ∷ [])) (sym next_is)

    loops_are : N2.loops ≡ (prism_part c f l d hs (suc i) M).loops
    unfolding prism_part with_side
    loops_are = put_over _ l r _ _ _ _ r_other
        ∙ (λ j. table.put (table.put (with_sides c (solid_of M f) d hs i M).loops r (record { face = s; content = cycle (side_is j) })) l (record { face = f; content = cycle (kept_is j) }))

    edges_are : N2.edges ≡ (prism_part c f l d hs (suc i) M).edges
    unfolding prism_part with_side
    edges_are =
        let m : edge_of g ≤ c.edge = in_use_within M.edges c.edge w.free.edges (edge_of g) (half_there M c f l d hs w g g_in) in
        put_turned _ u t _ _ (λ e. t_u (sym e))
        ∙ (λ j. table.put (table.put P.edges t (record { plus_tail = tail_b j; minus_tail = (tail_u ∙ ap (λ k. c.vertex + 1 + k) (sym next_is)) j })) u
        (record { plus_tail = ((part_keeps i).tails g m ∙ sym ((keeps_grown M c (solid_of M f) d hs (suc i)).tails g m)) j; minus_tail = v }))

    pub round_accepted : AreAccepted (prism_part c f l d hs i M) (raise M c d hs (suc i) ∷ close c (length hs) i ∷ [])
    round_accepted = (accepted0, (subst (λ X. first_false X (close c (length hs) i) ≡ None) (sym first) accepted1, tt))

    pub round_is : effects (prism_part c f l d hs i M) (raise M c d hs (suc i) ∷ close c (length hs) i ∷ []) ≡ prism_part c f l d hs (suc i) M
    unfolding prism_part with_side solid_of
    round_is = ap (λ X. effect X (close c (length hs) i)) first ∙ second ∙ (λ j. record {
      solids = P.solids;
      faces = ap (λ q. table.put (with_sides c (solid_of M f) d hs i M).faces s (record { solid = q; outer = r })) (old_solid M c f l d hs w i) j;
      loops = loops_are j;
      edges = edges_are j;
      vertices = table.put P.vertices v (moved (sym (old_start M c f l d hs w (suc i) g (half_there M c f l d hs w g g_in)) j) d);
    })
