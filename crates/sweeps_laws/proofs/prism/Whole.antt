-- The loops of a face swept one after the other.
use Rattle.sweeps_laws.proofs.Prelude.{◌≡◌, ◌≢◌, ℕ, zero, suc, ◌+◌, ◌-◌, ◌≤◌, ◌<◌, List, [], ◌∷◌, ◌++◌, length, Some, is_some, refl, sym, ap, ◌∙◌, subst, arith, get_or, map, length-append, length-map, Point, IsInRange, moved, count, IsIn, IsApart, At, edge_of, half, plus, face_of, Model, cycle, items_of, content, tail, point_of, solid_of, Sound, HasHalf, tick_same, IsIn-get_or, content_row, face_row, IsIn_rest, IsIn_head, get-put_other, in_use_within, Mev, effects, Leads, leads_none, leads_on, leads_sound, AreFree, AreLeft, start, vertices_on, vertices_in, Taken, riser, top_items, with_sides, lifted, raised, raised_over, prism_from, close, close_last, rounds, loop_ops, taken_after, ops_from, Ready, needed_for_sides}
use Rattle.euler_operators.specs.Table as table
use Rattle.euler_operators.specs.declared.Op.{Op}
use Rattle.sweeps_laws.proofs.prism.Sides.{old_edge, old_start, sides_edges, sides_faces, sides_loops, sides_vertices, two_items, loop_within}
use Rattle.sweeps_laws.proofs.prism.Loops.{loop_leads}
use Rattle.sweeps_laws.proofs.swept.Numbers.{riser_cases, top_cases}

-- N has grown out of M by sweeping some loops of face f along d; ls are the other ones
pub record Going (M N : Model) (c : Taken) (f : ℕ) (d : Point) (ls : List ℕ) : Type 0 where
  pub sound : Sound N
  pub free : AreFree N c
  pub left : AreLeft c (needed_for_sides (length (vertices_in M ls)))
  pub halves : (h : ℕ) → HasHalf M h → HasHalf N h
  pub starts : (h : ℕ) → HasHalf M h → start N h ≡ start M h
  pub apart : IsApart ls
  pub rows : (l : ℕ) → IsIn l ls → table.get N.loops l ≡ Some (record { face = f; content = cycle (items_of (content M l)) })
  pub items_there : (l : ℕ) → IsIn l ls → (h : ℕ) → IsIn h (items_of (content M l)) → HasHalf M h
  pub contents : (l : ℕ) → IsIn l ls → content M l ≡ cycle (items_of (content M l))
  pub points_fit : (l : ℕ) → IsIn l ls → (h : ℕ) → IsIn h (items_of (content M l)) → IsInRange (moved (start M h) d)

-- the operators of a loop are told from its points alone
same_rounds : (M N : Model) (c : Taken) (d : Point) (hs : List ℕ) → ((i : ℕ) → i < length hs → start M (get_or hs i 0) ≡ start N (get_or hs i 0)) → (i : ℕ) → i < length hs → rounds M c d hs i ≡ rounds N c d hs i
same_rounds M N c d hs same zero lt = ap (λ p. Mev (At (half (get_or hs 0 0))) (At (half (get_or hs 0 0))) (half (plus (riser c.edge 0))) (c.vertex + 1 + 0) (moved p d) ∷ []) (same 0 lt)
same_rounds M N c d hs same (suc i) lt = λ k. same_rounds M N c d hs same i (omega arith) k ++
    Mev (At (half (get_or hs (suc i) 0))) (At (half (get_or hs (suc i) 0))) (half (plus (riser c.edge (suc i)))) (c.vertex + 1 + suc i) (moved (same (suc i) lt k) d) ∷ close c (length hs) i ∷ []

module _ (M N : Model) (c : Taken) (f l : ℕ) (d : Point) (ls : List ℕ) (g : Going M N c f d (l ∷ ls)) where
  abbrev hs : List ℕ
  hs = items_of (content M l)

  not_l : (k : ℕ) → IsIn k ls → k ≢ l
  not_l k i e = let z : count k ls ≡ 0 = ap (λ q. count q ls) e ∙ omega (arith, g.apart l, tick_same l) in omega (arith, i, z)

  corners_are : length (vertices_in M (l ∷ ls)) ≡ length hs + length (vertices_in M ls)
  corners_are = ap (λ q. length (vertices_on M q ++ vertices_in M ls)) (g.contents l (IsIn_head l ls)) ∙ length-append (map (tail M) hs) (vertices_in M ls) ∙ ap (λ q. q + length (vertices_in M ls)) (length-map hs (tail M))

  ready : Ready N c f l d hs
  ready = record {
    sound = g.sound;
    at = g.rows l (IsIn_head l ls);
    free = g.free;
    left = grind (arith, corners_are, g.left);
    points_fit = λ h i. subst (λ p. IsInRange (moved p d)) (sym (g.starts h (g.items_there l (IsIn_head l ls) h i))) (g.points_fit l (IsIn_head l ls) h i);
  }

  -- the model with this loop swept
  abbrev N' : Model
  N' = lifted (with_sides c (solid_of N f) d hs (length hs) N) f l (top_items c.edge (length hs) (length hs))

  some_items : 0 < length hs
  some_items = let t = two_items N c f l d hs ready in omega arith

  ops_are : loop_ops M c d hs ≡ loop_ops N c d hs
  ops_are = ap (λ ops. ops ++ close_last c (length hs) (length hs - 1) ∷ [])
      (same_rounds M N c d hs (λ i lt. sym (g.starts (get_or hs i 0) (g.items_there l (IsIn_head l ls) (get_or hs i 0) (IsIn-get_or hs i 0 lt)))) (length hs - 1) (let s = some_items in omega arith))

  led : Leads N N' (loop_ops M c d hs)
  led = subst (Leads N N') (sym ops_are) (loop_leads N c f l d hs ready)

  loop_after : (k : ℕ) → IsIn k ls → table.get N'.loops k ≡ table.get N.loops k
  loop_after k i =
      let b : k ≤ c.loop = in_use_within N.loops c.loop g.free.loops k (ap is_some (g.rows k (IsIn_rest k l ls i))) in
      get-put_other _ l _ k (not_l k i) ∙ sides_loops N c f l d hs ready (length hs) k (λ j lt s. omega arith)

  pub next : Going M N' (taken_after c (length hs)) f d ls
  unfolding tail point_of
  next = record {
    sound = leads_sound N N' (loop_ops M c d hs) g.sound led;
    free = record {
      faces = λ q a. sides_faces N c f l d hs ready (length hs) q (λ j lt s. omega arith) ∙ g.free.faces q (omega arith);
      loops = λ q a. get-put_other _ l _ q (λ s. omega (arith, loop_within ready)) ∙ sides_loops N c f l d hs ready (length hs) q (λ j lt s. omega arith) ∙ g.free.loops q (omega arith);
      edges = λ q a. sides_edges N c f l d hs ready (length hs) q (λ j lt. ((λ s. omega (arith, riser_cases c.edge j)), (λ s. omega (arith, top_cases c.edge (length hs) j)))) ∙ g.free.edges q (omega arith);
      vertices = λ q a. sides_vertices N c f l d hs ready (length hs) q (λ j lt s. omega arith) ∙ g.free.vertices q (omega arith);
    };
    left = grind (arith, corners_are, g.left);
    halves = λ h there. ap is_some (old_edge N c f l d hs ready (length hs) (edge_of h) (g.halves h there)) ∙ g.halves h there;
    starts = λ h there. old_start N c f l d hs ready (length hs) h (g.halves h there) ∙ g.starts h there;
    apart = λ x. omega (arith, g.apart x);
    rows = λ k i. loop_after k i ∙ g.rows k (IsIn_rest k l ls i);
    items_there = λ k i. g.items_there k (IsIn_rest k l ls i);
    contents = λ k i. g.contents k (IsIn_rest k l ls i);
    points_fit = λ k i. g.points_fit k (IsIn_rest k l ls i);
  }

  pub raised_is : raised f d (record { model = N; taken = c }) l ≡ record { model = N'; taken = taken_after c (length hs) }
  unfolding raised
  raised_is = ap (λ q. raised_over f d (record { model = N; taken = c }) l (items_of q)) (content_row N l (record { face = f; content = cycle hs }) (g.rows l (IsIn_head l ls)))

  -- the same, told from the model then
  pub same_items : items_of (content N l) ≡ hs
  same_items = ap items_of (content_row N l (record { face = f; content = cycle hs }) (g.rows l (IsIn_head l ls)))

  pub turn_ready : Ready N c (face_of N l) l d (items_of (content N l))
  turn_ready = subst (λ k. Ready N c k l d (items_of (content N l))) (sym (face_row N l (record { face = f; content = cycle hs }) (g.rows l (IsIn_head l ls)))) (subst (Ready N c f l d) (sym same_items) ready)

  pub turn_ops : loop_ops N c d (items_of (content N l)) ≡ loop_ops M c d hs
  turn_ops = ap (loop_ops N c d) same_items ∙ sym ops_are

  module _ (X : Model) (x : X ≡ effects N (loop_ops N c d (items_of (content N l)))) where
    is_swept : X ≡ N'
    is_swept = x ∙ ap (λ ks. effects N (loop_ops N c d ks)) same_items ∙ (loop_leads N c f l d hs ready).made

    pub turn_next : Going M X (taken_after c (length (items_of (content N l)))) f d ls
    turn_next = subst (λ Y. Going M Y (taken_after c (length (items_of (content N l)))) f d ls) (sym is_swept) (subst (λ ks. Going M N' (taken_after c (length ks)) f d ls) (sym same_items) next)

-- the same, told from the model then
module _ (M N : Model) (c : Taken) (f : ℕ) (d : Point) (ls : List ℕ) (g : Going M N c f d ls) where
  items_same : (l : ℕ) → IsIn l ls → items_of (content N l) ≡ items_of (content M l)
  items_same l i = ap items_of (content_row N l _ (g.rows l i))

  as_many : (ks : List ℕ) → ((l : ℕ) → IsIn l ks → IsIn l ls) → length (vertices_in N ks) ≡ length (vertices_in M ks)
  as_many [] within = refl
  as_many (k ∷ ks) within =
      let hs = items_of (content M k) in
      let i = within k (IsIn_head k ks) in
      let now = ap (λ q. length (vertices_on N q)) (content_row N k _ (g.rows k i)) ∙ length-map hs (tail N) in
      let first = ap (λ q. length (vertices_on M q)) (g.contents k i) ∙ length-map hs (tail M) in
      length-append (vertices_on N (content N k)) (vertices_in N ks) ∙ (λ j. (now ∙ sym first) j + as_many ks (λ l at. within l (IsIn_rest l k ks at)) j) ∙ sym (length-append (vertices_on M (content M k)) (vertices_in M ks))

  pub rebased : Going N N c f d ls
  rebased = record {
    sound = g.sound;
    free = g.free;
    left = subst (λ n. AreLeft c (needed_for_sides n)) (sym (as_many ls (λ l i. i))) g.left;
    halves = λ h there. there;
    starts = λ h there. refl;
    apart = g.apart;
    rows = λ l i. g.rows l i ∙ ap (λ hs. Some (record { face = f; content = cycle hs })) (sym (items_same l i));
    items_there = λ l i h j. g.halves h (g.items_there l i h (subst (IsIn h) (items_same l i) j));
    contents = λ l i. content_row N l _ (g.rows l i) ∙ ap cycle (sym (items_same l i));
    points_fit = λ l i h j. let at = subst (IsIn h) (items_same l i) j in subst (λ p. IsInRange (moved p d)) (sym (g.starts h (g.items_there l i h at))) (g.points_fit l i h at);
  }

-- the operators of the loops are accepted, and sweep them
pub loops_swept : (M N : Model) (c : Taken) (f : ℕ) (d : Point) (ls : List ℕ) → Going M N c f d ls → Leads N (prism_from f d (record { model = N; taken = c }) ls).model (ops_from M d c ls)
loops_swept M N c f d [] g = leads_none N
loops_swept M N c f d (l ∷ ls) g =
    let hs : List ℕ = items_of (content M l) in
    let more : List Op = ops_from M d (taken_after c (length hs)) ls in
    leads_on N (N' M N c f l d ls g) (prism_from f d (record { model = N; taken = c }) (l ∷ ls)).model (loop_ops M c d hs) more (led M N c f l d ls g)
    (subst (λ X. Leads (N' M N c f l d ls g) X more) (ap (λ q. (prism_from f d q ls).model) (sym (raised_is M N c f l d ls g))) (loops_swept M (N' M N c f l d ls g) (taken_after c (length hs)) f d ls (next M N c f l d ls g)))
