-- An operator changes only rows of the solids that it touches.
use Rattle.untouched_solids.proofs.Prelude.{◌≡◌, ◌≢◌, ℕ, Bool, ◌||◌, true, false, cond, nat_eq, nat_lt, List, Option, Some, None, option_map, is_some, refl, sym, ap, subst, ◌∙◌, ◌⊎◌, inl, inr, arith, true≢false, ne_eqb, eqb_tells, IsIn, count, lone_vertex, mate, edge_of, plus, minus, Point, Model, LoopContent, LoopRow, FaceRow, EdgeRow, lone, cycle, items_of, tail, arc, content, face_of, loop_of, outer, solid_of, face_at, Sound, Has, HasHalf, lists, get-map_rows, where_held, with_before, cycle_or_lone, canonical, insert_before, without, with_tails, moved_tail, loop_to_face, face_to_outer, faces_to_solid, kev, kef, kemr, kfmrh, kvfs_at, mef, merge, mev_at, mev_lone, mfkrh, mvfs, part, ring_in, ring_out, take_outer, without_edge, get-put_here, get-put_other, get-remove_here, get-remove_other, row_elsewhere, other_loop, loop_there, mate_there, same_edge, same_solid, solid_row, plus_row, minus_row, plus_tail_row, minus_tail_row, IsIn_or_not, where_held_none, one_solid_round, solid_at-same, row_else, row_second, face_same, row_other, MvfsGoes, KvfsGoes, MevGoes, LoneGoes, KevGoes, MefGoes, KefGoes, KemrGoes, join_loops, JoinGoes, KillGoes, MakeGoes, RingGoes, LoopMoves, OuterSet, face_moved, solid_same, MergeGoes, PartGoes}
use Rattle.euler_operators.specs.Table as table
use Rattle.euler_laws.proofs.faces.OneSolid as one_more
use Rattle.euler_laws.proofs.mev.MevSound as with_edge
use Rattle.euler_laws.proofs.mev.MevLoneSound as with_first
use Rattle.euler_laws.proofs.kev.KevSound as less_edge
use Rattle.euler_laws.proofs.mef.MefSound as more_face
use Rattle.euler_laws.proofs.mef.KefSound as less_face
use Rattle.euler_laws.proofs.kemr.KemrSound as less_ring
use Rattle.euler_laws.proofs.mekr.MekrSound as joined
use Rattle.euler_laws.proofs.faces.Kfmrh as rings
use Rattle.euler_laws.proofs.faces.RingIn as into
use Rattle.euler_laws.proofs.merge.Merge as solids
use Rattle.euler_laws.proofs.merge.Part as parts
use Rattle.untouched_solids.specs.Alone.{solid_at}
use Rattle.untouched_solids.proofs.Stands.{Frame}

-- a row that isn't there
never : {X A : Type 0} {o : Option X} → o ≡ None → is_some o ≡ true → A
never none there = absurd (true≢false (sym there ∙ ap is_some none))

-- face f is of solid u neither in M nor in N, and so is loop l
abbrev FaceOff : Model → Model → ℕ → ℕ → Type 0
FaceOff M N u f = (Has M.faces f → solid_of M f ≢ u) × (Has N.faces f → solid_of N f ≢ u)

abbrev LoopOff : Model → Model → ℕ → ℕ → Type 0
LoopOff M N u l = (Has M.loops l → solid_at M l ≢ u) × (Has N.loops l → solid_at N l ≢ u)

-- all rows of a table but one or two
module _ (Same Off : ℕ → Type 0) where
  but_one : (n : ℕ) → Off n → ((q : ℕ) → q ≢ n → Same q) → (q : ℕ) → Same q ⊎ Off q
  but_one n off same q = elim (eqb_tells q n) [ inl e ↦ inr (subst Off (sym e.1) off) | inr e ↦ inl (same q e.1) ]

  but_two : (n m : ℕ) → Off n → Off m → ((q : ℕ) → q ≢ n → q ≢ m → Same q) → (q : ℕ) → Same q ⊎ Off q
  but_two n m off also same q = elim (eqb_tells q n) [
    | inl e ↦ inr (subst Off (sym e.1) off)
    | inr e ↦ elim (eqb_tells q m) [ inl d ↦ inr (subst Off (sym d.1) also) | inr d ↦ inl (same q e.1 d.1) ]
  ]

module _ (M N : Model) (u : ℕ) where
  faces_but : (n : ℕ) → FaceOff M N u n → ((q : ℕ) → q ≢ n → table.get N.faces q ≡ table.get M.faces q) → (q : ℕ) →
      (table.get N.faces q ≡ table.get M.faces q) ⊎ FaceOff M N u q
  faces_but = but_one (λ q. table.get N.faces q ≡ table.get M.faces q) (FaceOff M N u)

  loops_but : (n : ℕ) → LoopOff M N u n → ((q : ℕ) → q ≢ n → table.get N.loops q ≡ table.get M.loops q) → (q : ℕ) →
      (table.get N.loops q ≡ table.get M.loops q) ⊎ LoopOff M N u q
  loops_but = but_one (λ q. table.get N.loops q ≡ table.get M.loops q) (LoopOff M N u)

  loops_but_two : (n m : ℕ) → LoopOff M N u n → LoopOff M N u m → ((q : ℕ) → q ≢ n → q ≢ m → table.get N.loops q ≡ table.get M.loops q) →
      (q : ℕ) → (table.get N.loops q ≡ table.get M.loops q) ⊎ LoopOff M N u q
  loops_but_two = but_two (λ q. table.get N.loops q ≡ table.get M.loops q) (LoopOff M N u)

-- a value that is another than u, seen from one that is equal
off_as : {u a b : ℕ} → b ≡ a → a ≢ u → b ≢ u
off_as e a z = a (sym e ∙ z)

-- ---- rows that a rewriting leaves alone

no_tails : (hs : List ℕ) (v e : ℕ) (o : Option EdgeRow) → count (plus e) hs ≡ 0 → count (minus e) hs ≡ 0 → option_map (with_tails hs v e) o ≡ o
no_tails hs v e None a b = refl
no_tails hs v e (Some row) a b = λ i. Some (record { plus_tail = cond (nat_lt 0 (a i)) v row.plus_tail; minus_tail = cond (nat_lt 0 (b i)) v row.minus_tail })

unmoved : (v w e : ℕ) (o : Option EdgeRow) → ((row : EdgeRow) → o ≡ Some row → (row.plus_tail ≢ v) × (row.minus_tail ≢ v)) → option_map (moved_tail v w e) o ≡ o
unmoved v w e None away = refl
unmoved v w e (Some row) away = let a = away row refl in λ i. Some
    (record { plus_tail = cond (ne_eqb _ _ a.0 i) w row.plus_tail; minus_tail = cond (ne_eqb _ _ a.1 i) w row.minus_tail })

loop_else : (l f q : ℕ) → q ≢ l → (o : Option LoopRow) → option_map (loop_to_face l f q) o ≡ o
loop_else l f q a None = refl
loop_else l f q a (Some row) = ap (λ b. Some (cond b (record row { face = f }) row)) (ne_eqb q l a)

outer_else : (f l q : ℕ) → q ≢ f → (o : Option FaceRow) → option_map (face_to_outer f l q) o ≡ o
outer_else f l q a None = refl
outer_else f l q a (Some row) = ap (λ b. Some (cond b (record row { outer = l }) row)) (ne_eqb q f a)

unpicked : (pick : ℕ → FaceRow → Bool) (s q : ℕ) (o : Option FaceRow) → ((row : FaceRow) → o ≡ Some row → pick q row ≡ false) →
    option_map (faces_to_solid pick s q) o ≡ o
unpicked pick s q None none = refl
unpicked pick s q (Some row) none = ap (λ b. Some (cond b (record row { solid = s }) row)) (none row refl)

module _ {M : Model} (sound : Sound M) where
  held_else : (g : ℕ) (new : List ℕ → LoopContent) (q : ℕ) → q ≢ loop_of M g → (o : Option LoopRow) → table.get M.loops q ≡ o →
      option_map (where_held g new q) o ≡ o
  held_else g new q a None at = refl
  held_else g new q a (Some row) at = ap Some (where_held_none g new q row (other_loop M sound g q row a at))

  unheld : (h v q : ℕ) → q ≢ loop_of M h → q ≢ loop_of M (mate h) → (o : Option LoopRow) → table.get M.loops q ≡ o → option_map (without_edge h v q) o ≡ o
  unheld h v q a b None at = refl
  unheld h v q a b (Some row) at = λ i. Some (cond (other_loop M sound h q row a at i || other_loop M sound (mate h) q row b at i)
      (record row { content = cycle_or_lone (without (mate h) (without h (items_of row.content))) v }) row)

  -- the other half of an edge is of the solid of the one
  other_half : (x y : ℕ) → HasHalf M x → edge_of y ≡ edge_of x → solid_at M (loop_of M y) ≡ solid_at M (loop_of M x)
  other_half x y t e = elim (same_edge y x e) [
    | inl z ↦ ap (λ h. solid_at M (loop_of M h)) z
    | inr z ↦ ap (λ h. solid_at M (loop_of M h)) z
        ∙ sym (sound.one_solid x t)
  ]

module _ {M : Model} (sound : Sound M) {u : ℕ} where
  -- ---- mvfs and kvfs

  pub frame-mvfs : {s f l v : ℕ} {p : Point} → MvfsGoes M s f l v p → s ≢ u → Frame M (mvfs M s f l v p) u
  frame-mvfs {s} {f} {l} {v} {p} goes a = record {
    solids = row_other (one_more.solids_put goes) u (λ e. a (sym e));
    faces = faces_but M (mvfs M s f l v p) u f (never goes.face_free, λ t. off_as (one_more.solid_of_new goes) a) (row_other (one_more.faces_put goes).rows);
    loops = loops_but M (mvfs M s f l v p) u l (
      never goes.loop_free,
      λ t. off_as (ap (solid_of (mvfs M s f l v p)) (one_more.face_of_new goes) ∙ one_more.solid_of_new goes) a,
    ) (row_other (one_more.loops_put goes));
    edges = λ h t. inl (ap (λ y. table.get y (edge_of h)) (one_more.edges_same goes));
    lones = λ q w is. inl (row_other (one_more.vertices_put goes) w (one_more.not_v goes w (sound.lone_at_vertex q w is)));
    tails = λ h t. inl (row_other (one_more.vertices_put goes) (tail M h) (one_more.not_v goes (tail M h) (sound.tails_there h t)));
  }

  pub frame-kvfs : {s f : ℕ} → KvfsGoes M s f → s ≢ u → Frame M (kvfs_at M s f) u
  unfolding kvfs_at
  frame-kvfs {s} {f} goes a = record {
    solids = get-remove_other M.solids s u (λ e. a (sym e));
    faces = faces_but M (kvfs_at M s f) u f (λ t. off_as goes.of_s a, never (get-remove_here M.faces f)) (get-remove_other M.faces f);
    loops = loops_but M (kvfs_at M s f) u (outer M f) (λ t. off_as of_s a, never (get-remove_here M.loops (outer M f))) (get-remove_other M.loops (outer M f));
    edges = λ x t. inl refl;
    lones = λ q w is. elim (eqb_tells w v) [
      | inl e ↦ inr (off_as (ap (solid_at M) (sound.one_lone q (outer M f) w is (goes.is_bare ∙ ap lone (sym e.1))) ∙ of_s) a)
      | inr e ↦ inl (get-remove_other M.vertices v w e.1)
    ];
    tails = λ x t. inl (get-remove_other M.vertices v (tail M x) (λ e. sound.lone_is_no_tail (outer M f) x t (goes.is_bare ∙ ap lone (sym e))));
  } where
    v : ℕ
    v = lone_vertex (content M (outer M f))

    of_s : solid_at M (outer M f) ≡ s
    of_s = ap (solid_of M) (sound.outers_there f goes.f_there).1 ∙ goes.of_s

  -- ---- mev

  pub frame-mev_at : {g k h v : ℕ} {p : Point} → MevGoes M g k h v p → solid_at M (loop_of M g) ≢ u → Frame M (mev_at M g k h v p) u
  unfolding mev_at
  frame-mev_at {g} {k} {h} {v} {p} goes a = record {
    solids = refl;
    faces = λ f. inl refl;
    loops = loops_but_two M N u (loop_of M g) (loop_of M k) (off (loop_of M g) a) (off (loop_of M k) (off_as (at_g k goes.k_there goes.one_tail) a))
        (λ q b c. get-map_rows _ _ q ∙ ap (option_map (with_before k (mate h) q))
        (get-map_rows _ M.loops q ∙ held_else sound g (λ hs. cycle (canonical (insert_before g h hs))) q b _ refl)
        ∙ held_else sound k (λ hs. cycle (canonical (insert_before k (mate h) hs))) q c _ refl);
    edges = λ x t. elim (IsIn_or_not (plus (edge_of x)) (arc M g k)) [
      | inl i ↦ inr (moved x (plus (edge_of x)) (plus_row (edge_of x)).0 i)
      | inr b ↦ elim (IsIn_or_not (minus (edge_of x)) (arc M g k)) [
        | inl i ↦ inr (moved x (minus (edge_of x)) (minus_row (edge_of x)).0 i)
        | inr c ↦ inl (with_edge.edge_mapped M sound g k h v p goes (edge_of x) (row_elsewhere M.edges (edge_of x) (edge_of h) t goes.edge_free)
            ∙ no_tails (arc M g k) v (edge_of x) _ b c)
      ]
    ];
    lones = λ q w is. inl (get-put_other M.vertices v p w (row_elsewhere M.vertices w v (sound.lone_at_vertex q w is) goes.vertex_free));
    tails = λ x t. inl (get-put_other M.vertices v p (tail M x) (row_elsewhere M.vertices (tail M x) v (sound.tails_there x t) goes.vertex_free));
  } where
    N : Model
    N = mev_at M g k h v p

    at_g : (x : ℕ) → HasHalf M x → tail M x ≡ tail M g → solid_at M (loop_of M x) ≡ solid_at M (loop_of M g)
    at_g x t e = one_solid_round M sound g x goes.g_there t (sym e)

    off : (q : ℕ) → solid_at M q ≢ u → LoopOff M N u q
    off q b = (λ t. b, λ t. off_as (solid_at-same M N (with_edge.same M sound g k h v p goes) q) b)

    -- what an edge with a half in the arc is of
    moved : (x y : ℕ) → edge_of y ≡ edge_of x → IsIn y (arc M g k) → solid_at M (loop_of M x) ≢ u
    moved x y e i =
        let j : IsIn y (with_edge.moved M sound g k h v p goes) = subst (IsIn y) (with_edge.arc_moved M sound g k h v p goes) i in
        let o = (with_edge.fan M sound g k h v p goes).of_it y (omega (arith, j, with_edge.parts M sound g k h v p goes y)) in
        off_as (other_half sound y x o.0 (sym e) ∙ at_g y o.0 o.1) a

  pub frame-mev_lone : {l h v w : ℕ} {p : Point} → LoneGoes M l h v w p → solid_at M l ≢ u → Frame M (mev_lone M l h v p) u
  unfolding mev_lone
  frame-mev_lone {l} {h} {v} {w} {p} goes a = record {
    solids = refl;
    faces = λ f. inl refl;
    loops = loops_but M (mev_lone M l h v p) u l (λ t. a, λ t. off_as (solid_at-same M (mev_lone M l h v p) (with_first.same sound goes) l) a)
        (get-put_other M.loops l _);
    edges = λ x t. inl (get-put_other M.edges (edge_of h) _ (edge_of x) (row_elsewhere M.edges (edge_of x) (edge_of h) t goes.edge_free));
    lones = λ q y is. inl (get-put_other M.vertices v p y (row_elsewhere M.vertices y v (sound.lone_at_vertex q y is) goes.vertex_free));
    tails = λ x t. inl (get-put_other M.vertices v p (tail M x) (row_elsewhere M.vertices (tail M x) v (sound.tails_there x t) goes.vertex_free));
  }

  -- ---- kev

  pub frame-kev : {h : ℕ} → KevGoes M h → solid_at M (loop_of M h) ≢ u → Frame M (kev M h) u
  unfolding kev
  frame-kev {h} goes a = record {
    solids = refl;
    faces = λ f. inl refl;
    loops = loops_but_two M N u (loop_of M h) (loop_of M m) (off (loop_of M h) a) (off (loop_of M m) (off_as at_m a))
        (λ q b c. get-map_rows _ M.loops q ∙ unheld sound h (tail M h) q b c _ refl);
    edges = λ x t. elim (eqb_tells (edge_of x) (edge_of h)) [
      | inl e ↦ inr (off_as (other_half sound h x goes.h_there e.1) a)
      | inr e ↦ elim (eqb_tells (tail M (plus (edge_of x))) (tail M m)) [
        | inl b ↦ inr (off_as (of_other x (plus (edge_of x)) t (plus_row (edge_of x)).0 b.1) a)
        | inr b ↦ elim (eqb_tells (tail M (minus (edge_of x))) (tail M m)) [
          | inl c ↦ inr (off_as (of_other x (minus (edge_of x)) t (minus_row (edge_of x)).0 c.1) a)
          | inr c ↦ inl (less_edge.edge_mapped M sound h goes (edge_of x) e.1 ∙ unmoved (tail M m) (tail M h) (edge_of x) (table.get M.edges (edge_of x))
              (λ row at. (λ z. b.1 (plus_tail_row M (edge_of x) row at ∙ z), λ z. c.1 (minus_tail_row M (edge_of x) row at ∙ z))))
        ]
      ]
    ];
    lones = λ q w is. inl (get-remove_other M.vertices (tail M m) w (λ e. sound.lone_is_no_tail q m m_there (is ∙ ap lone e)));
    tails = λ x t. elim (eqb_tells (tail M x) (tail M m)) [
      | inl e ↦ inr (off_as (at_tail x t e.1) a)
      | inr e ↦ inl
          (get-remove_other M.vertices (tail M m) (tail M x) e.1)
    ];
  } where
    N : Model
    N = kev M h

    m : ℕ
    m = mate h

    m_there : HasHalf M m
    m_there = mate_there M h goes.h_there

    at_m : solid_at M (loop_of M m) ≡ solid_at M (loop_of M h)
    at_m = sym (sound.one_solid h goes.h_there)

    off : (q : ℕ) → solid_at M q ≢ u → LoopOff M N u q
    off q b = (λ t. b, λ t. off_as (solid_at-same M N (less_edge.same M sound h goes) q) b)

    at_tail : (x : ℕ) → HasHalf M x → tail M x ≡ tail M m → solid_at M (loop_of M x) ≡ solid_at M (loop_of M h)
    at_tail x t e = one_solid_round M sound m x m_there t (sym e) ∙ at_m

    -- an edge with a half that starts at the killed vertex
    of_other : (x y : ℕ) → HasHalf M x → edge_of y ≡ edge_of x → tail M y ≡ tail M m → solid_at M (loop_of M x) ≡ solid_at M (loop_of M h)
    of_other x y t e at = sym (other_half sound x y t e) ∙ at_tail y (subst (Has M.edges) (sym e) t) at

  -- ---- mef and kef

  pub frame-mef : {g k h f l : ℕ} → MefGoes M g k h f l → solid_at M (loop_of M g) ≢ u → Frame M (mef M g k h f l) u
  unfolding mef
  frame-mef {g} {k} {h} {f} {l} goes a = record {
    solids = refl;
    faces = faces_but M N u f (never goes.face_free, λ t. off_as solid_f a) (get-put_other M.faces f _);
    loops = loops_but_two M N u r l (
      λ t. a,
      λ t. off_as (ap (solid_of N) (face_same (more_face.set sound goes) r ((more_face.set sound goes).apart))
          ∙ solid_r) a,
    )
        (never goes.loop_free, λ t. off_as (ap (solid_of N) (more_face.face_l sound goes) ∙ solid_f) a) (row_else (more_face.set sound goes));
    edges = λ x t. inl (get-put_other M.edges (edge_of h) _ (edge_of x) (row_elsewhere M.edges (edge_of x) (edge_of h) t goes.edge_free));
    lones = λ q w is. inl refl;
    tails = λ x t. inl refl;
  } where
    N : Model
    N = mef M g k h f l

    r : ℕ
    r = loop_of M g

    solid_f : solid_of N f ≡ solid_at M r
    solid_f = solid_row N f _ (get-put_here M.faces f (record { solid = solid_of M (face_at M g); outer = l }))

    solid_r : solid_of N (face_of M r) ≡ solid_at M r
    solid_r = same_solid M N (face_of M r) (get-put_other M.faces f _ (face_of M r)
        (more_face.not_f sound goes (face_of M r) (sound.loops_of_faces r (loop_there M sound g goes.g_there))))

  pub frame-kef : {h : ℕ} → KefGoes M h → solid_at M (loop_of M h) ≢ u → Frame M (kef M h) u
  unfolding kef
  frame-kef {h} goes a = record {
    solids = refl;
    faces = faces_but M (kef M h) u (face_at M (mate h)) (λ t. off_as other_side a, never (get-remove_here M.faces (face_at M (mate h))))
        (get-remove_other M.faces (face_at M (mate h)));
    loops = loops_but_two M (kef M h) u (loop_of M h) (loop_of M (mate h))
        (λ t. a, λ t. off_as (less_face.solid_loop M sound h goes (loop_of M h) (less_face.has_r M sound h goes) (less_face.r_s M sound h goes)) a)
        (λ t. off_as other_side a, never (row_second (less_face.set M sound h goes))) (row_else (less_face.set M sound h goes));
    edges = λ x t. elim (eqb_tells (edge_of x) (edge_of h)) [
      | inl e ↦ inr (off_as (other_half sound h x goes.h_there e.1) a)
      | inr e ↦ inl
          (get-remove_other M.edges (edge_of h) (edge_of x) e.1)
    ];
    lones = λ q w is. inl refl;
    tails = λ x t. inl refl;
  } where
    other_side : solid_at M (loop_of M (mate h)) ≡ solid_at M (loop_of M h)
    other_side = sym (sound.one_solid h goes.h_there)

  -- ---- kemr and mekr

  pub frame-kemr : {h l : ℕ} → KemrGoes M h l → solid_at M (loop_of M h) ≢ u → Frame M (kemr M h l) u
  unfolding kemr
  frame-kemr {h} {l} goes a = record {
    solids = refl;
    faces = λ f. inl refl;
    loops = loops_but_two M (kemr M h l) u (loop_of M h) l (
      λ t. a,
      λ t. off_as (now (loop_of M h) (face_same (less_ring.set M sound h l goes) (loop_of M h) (less_ring.set M sound h l goes).apart)) a,
    )
        (never goes.loop_free, λ t. off_as (now l (less_ring.face_l M sound h l goes)) a) (row_else (less_ring.set M sound h l goes));
    edges = λ x t. elim (eqb_tells (edge_of x) (edge_of h)) [
      | inl e ↦ inr (off_as (other_half sound h x goes.h_there e.1) a)
      | inr e ↦ inl
          (get-remove_other M.edges (edge_of h) (edge_of x) e.1)
    ];
    lones = λ q w is. inl refl;
    tails = λ x t. inl refl;
  } where
    now : (q : ℕ) → face_of (kemr M h l) q ≡ face_of M (loop_of M h) → solid_at (kemr M h l) q ≡ solid_at M (loop_of M h)
    now q e = ap (solid_of (kemr M h l)) e ∙ same_solid M (kemr M h l) (face_of M (loop_of M h)) refl

  pub frame-join : {h q l v w : ℕ} {Y X : List ℕ} → JoinGoes M h q l v w Y X → solid_at M q ≢ u → Frame M (join_loops M h q l v w Y X) u
  unfolding join_loops
  frame-join {h} {q} {l} {v} {w} {Y} {X} goes a = record {
    solids = refl;
    faces = λ f. inl refl;
    loops = loops_but_two M N u q l (
      λ t. a,
      λ t. off_as (ap (solid_of N) (face_same (joined.set sound goes) q (joined.set sound goes).apart)
          ∙ same_solid M N (face_of M q) refl) a,
    )
        (λ t. off_as (ap (solid_of M) (sym goes.one_face)) a, never (row_second (joined.set sound goes))) (row_else (joined.set sound goes));
    edges = λ x t. inl (get-put_other M.edges (edge_of h) _ (edge_of x) (row_elsewhere M.edges (edge_of x) (edge_of h) t goes.edge_free));
    lones = λ k y is. inl refl;
    tails = λ x t. inl refl;
  } where
    N : Model
    N = join_loops M h q l v w Y X

  -- ---- loops that go to another face

  pub frame-kfmrh : {f g : ℕ} → KillGoes M f g → solid_of M f ≢ u → Frame M (kfmrh M f g) u
  unfolding kfmrh
  frame-kfmrh {f} {g} goes a = record {
    solids = refl;
    faces = faces_but M (kfmrh M f g) u g (λ t. off_as (sym goes.one_solid) a, never (get-remove_here M.faces g)) (get-remove_other M.faces g);
    loops = loops_but M (kfmrh M f g) u (outer M g) (
      λ t. off_as (ap (solid_of M) (rings.l_face M sound f g goes) ∙ sym goes.one_solid) a,
      λ t. off_as (ap (solid_of (kfmrh M f g)) (rings.kill_face_l M sound f g goes) ∙ rings.kill_solid M sound f g goes f goes.apart) a,
    )
        (λ q b. get-map_rows _ M.loops q ∙ loop_else (outer M g) f q b _);
    edges = λ x t. inl refl;
    lones = λ q w is. inl refl;
    tails = λ x t. inl refl;
  }

  pub frame-mfkrh : {l f : ℕ} → MakeGoes M l f → solid_at M l ≢ u → Frame M (mfkrh M l f) u
  unfolding mfkrh
  frame-mfkrh {l} {f} goes a = record {
    solids = refl;
    faces = faces_but M (mfkrh M l f) u f (never goes.face_free, λ t. off_as solid_f a) (get-put_other M.faces f _);
    loops = loops_but M (mfkrh M l f) u l (λ t. a, λ t. off_as (ap (solid_of (mfkrh M l f)) (face_moved moves) ∙ solid_f) a)
        (λ q b. get-map_rows _ M.loops q ∙ loop_else l f q b _);
    edges = λ x t. inl refl;
    lones = λ q w is. inl refl;
    tails = λ x t. inl refl;
  } where
    moves : LoopMoves M (mfkrh M l f) l f
    moves = record { there = goes.l_there; loops = refl; solids = refl; edges = refl; vertices = refl }

    solid_f : solid_of (mfkrh M l f) f ≡ solid_at M l
    solid_f = solid_row (mfkrh M l f) f _ (get-put_here M.faces f (record { solid = solid_of M (face_of M l); outer = l }))

  pub frame-ring_in : {l f : ℕ} → RingGoes M l f → solid_of M f ≢ u → Frame M (ring_in M l f) u
  unfolding ring_in
  frame-ring_in {l} {f} goes a = record {
    solids = refl;
    faces = λ q. inl refl;
    loops = loops_but M (ring_in M l f) u l (
      λ t. off_as goes.one_solid a,
      λ t. off_as (ap (solid_of (ring_in M l f)) (into.face_l M sound l f goes) ∙ into.solid_same M sound l f goes f) a,
    )
        (λ q b. get-map_rows _ M.loops q ∙ loop_else l f q b _);
    edges = λ x t. inl refl;
    lones = λ q w is. inl refl;
    tails = λ x t. inl refl;
  }

  pub frame-ring_out : {l f : ℕ} → RingGoes M l f → solid_of M f ≢ u → Frame M (ring_out M l f) u
  unfolding ring_out
  frame-ring_out {l} {f} goes a = record {
    solids = refl;
    faces = faces_but M (ring_out M l f) u f (λ t. a, λ t. off_as (solid_same swaps f) a) (λ q b. get-map_rows _ M.faces q ∙ outer_else f l q b _);
    loops = loops_but M (ring_out M l f) u l (
      λ t. off_as goes.one_solid a,
      λ t. off_as (ap (solid_of (ring_out M l f)) (face_moved moves) ∙ solid_same swaps f) a,
    )
        (λ q b. get-map_rows _ M.loops q ∙ loop_else l f q b _);
    edges = λ x t. inl refl;
    lones = λ q w is. inl refl;
    tails = λ x t. inl refl;
  } where
    moves : LoopMoves M (ring_out M l f) l f
    moves = record { there = goes.l_there; loops = refl; solids = refl; edges = refl; vertices = refl }

    swaps : OuterSet M (ring_out M l f) f l
    swaps = record { there = goes.f_there; faces = refl }

  pub frame-take_outer : {l f : ℕ} → RingGoes M l f → solid_of M f ≢ u → Frame M (take_outer M l f) u
  unfolding take_outer
  frame-take_outer {l} {f} goes a = record {
    solids = refl;
    faces = faces_but M (take_outer M l f) u g (λ t. off_as goes.one_solid a, λ t. off_as (solid_same swaps g ∙ goes.one_solid) a)
        (λ q b. get-map_rows _ M.faces q ∙ outer_else g l q b _);
    loops = loops_but M (take_outer M l f) u (outer M g) (
      λ t. off_as (ap (solid_of M) there.1 ∙ goes.one_solid) a,
      λ t. off_as (ap (solid_of (take_outer M l f)) (face_moved moves) ∙ solid_same swaps f) a,
    )
        (λ q b. get-map_rows _ M.loops q ∙ loop_else (outer M g) f q b _);
    edges = λ x t. inl refl;
    lones = λ q w is. inl refl;
    tails = λ x t. inl refl;
  } where
    g : ℕ
    g = face_of M l

    there : Has M.loops (outer M g) × (face_of M (outer M g) ≡ g)
    there = sound.outers_there g (sound.loops_of_faces l goes.l_there)

    moves : LoopMoves M (take_outer M l f) (outer M g) f
    moves = record { there = there.0; loops = refl; solids = refl; edges = refl; vertices = refl }

    swaps : OuterSet M (take_outer M l f) g l
    swaps = record { there = sound.loops_of_faces l goes.l_there; faces = refl }

  -- ---- faces that go to another solid

  pub frame-merge : {s t : ℕ} → MergeGoes M s t → s ≢ u → t ≢ u → Frame M (merge M s t) u
  unfolding merge
  frame-merge {s} {t} goes a b = record {
    solids = get-remove_other M.solids t u (λ e. b (sym e));
    faces = λ q. elim (eqb_tells (solid_of M q) t) [
      | inl e ↦ inr (
        λ there. off_as e.1 b,
        λ there. off_as
            (solids.solid_new sound goes q (sym ((solids.merge_other sound goes).has_face q) ∙ there) ∙ ap (solids.joined s t) e.1
            ∙ solids.joined_t sound goes) a,
      )
      | inr e ↦ inl (get-map_rows _ M.faces q ∙ unpicked (λ _ row. nat_eq row.solid t) s q (table.get M.faces q)
          (λ row at. ne_eqb row.solid t (λ z. e.1 (solid_row M q row at ∙ z))))
    ];
    loops = λ q. inl refl;
    edges = λ x t. inl refl;
    lones = λ q w is. inl refl;
    tails = λ x t. inl refl;
  }

  pub frame-part : {s t : ℕ} {fs : List ℕ} → PartGoes M s t fs → s ≢ u → t ≢ u → Frame M (part M s t fs) u
  unfolding part
  frame-part {s} {t} {fs} goes a b = record {
    solids = get-put_other M.solids t tt u (λ e. b (sym e));
    faces = λ q. by_list q (lists fs q) refl;
    loops = λ q. inl refl;
    edges = λ x t. inl refl;
    lones = λ q w is. inl refl;
    tails = λ x t. inl refl;
  } where
    by_list : (q : ℕ) (c : Bool) → lists fs q ≡ c → (table.get (part M s t fs).faces q ≡ table.get M.faces q) ⊎ FaceOff M (part M s t fs) u q
    by_list q true l = let o = goes.each q l in inr (
      λ there. off_as o.1 a,
      λ there. off_as (parts.solid_new sound goes q o.0 ∙ ap (λ c. cond c t (solid_of M q)) l) b,
    )
    by_list q false l = inl (get-map_rows _ M.faces q ∙ unpicked (λ f _. lists fs f) t q (table.get M.faces q) (λ row at. l))
