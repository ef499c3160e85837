-- kev is taken back by mev: at two half-edges where others leave the kept vertex, else at the lone loop that is left.
use Rattle.euler_laws.proofs.Prelude.{◌≡◌, ◌≢◌, ℕ, ◌+◌, cond, nat_eq, List, [], ◌∷◌, ◌++◌, Some, refl, sym, ap, ◌∙◌, subst, arith, ◌⊎◌, inl, inr, is_some, eqb_tells, count, tick, IsIn, IsApart, head_or, canonical, rotate_to, rest, between, beyond, successor, IsRing, IsRotation, IsPath, without, kev_ring, take_ring, mate, edge_of, Model, LoopContent, lone, cycle, items_of, tail, loop_of, content, after, round, point_of, cycle_of, Sound, Has, HasHalf, IsCycle, mev_at, kev, mev_lone, count-append, tick_same, tick_other, IsIn_or_not, count-before, count-canonical, IsApart-canonical, canonical-rotates, rotate_to_same, rotate_to_head, count-rotate_to, IsIn_successor, count_at, IsRing-same, rotation_at, IsPath-agree, ring_split, upto_once, canonical_from, mev-kev, put-take, apart_left, without_none, count-insert_before, mate_other, same_edge, mate-mate, put-remove, in-holds, cycle_there, mate_there, cycle_sound, content_cycle, row_of}
use Rattle.euler_operators.specs.Table as table
use Rattle.euler_laws.proofs.shared.Fans.{half_after, loop_after}
use Rattle.euler_laws.proofs.shared.Loops.{put_before, put_there, put_none, put_lone, after-walks, count_out, light, none_else}
use Rattle.euler_laws.proofs.shared.Arcs.{arc_is}
use Rattle.euler_laws.proofs.shared.Undo.{same_edges, edge_again, same_model, taken_out, both_out, put_in, both_in, after_first}
use Rattle.euler_laws.proofs.shared.EdgeMore.{EdgeComes, tail-h, tail-m, OneMore, comes, tail_old}
use Rattle.euler_laws.proofs.shared.EdgeLess.{of_edge}
use Rattle.euler_laws.proofs.mev.MevSound as put
use Rattle.euler_laws.proofs.kev.KevSound as kill
use Rattle.euler_laws.proofs.kev.KevSound.{KevGoes, without_both, back_none, back_h, back_m}
use Rattle.euler_laws.proofs.kev.MevUndo.{as_cycle, loops_again}
use Rattle.euler_laws.proofs.shared.Rows.{point_row, after_second}
use Rattle.euler_laws.proofs.mev.MevLoneSound as lones
use Rattle.euler_laws.proofs.shared.Counted.{none_in}

-- ---- lists

module _ (hs : List ℕ) (cy : IsCycle hs) (h m : ℕ) (hm : h ≢ m) where
  -- both in one loop
  module _ (i : IsIn h hs) (j : IsIn m hs) where
    abbrev pub xs' : List ℕ
    xs' = between h m hs

    abbrev pub ys' : List ℕ
    ys' = beyond h m hs

    pub corners_in : (ys' ≢ []) → IsIn (head_or m ys') (kev_ring h m hs) × IsIn (head_or (head_or m ys') xs') (kev_ring h m hs)
    corners_in ne = grind (arith, count-canonical, tick_same, count-append)

    gone : (x : ℕ) → count x (kev_ring h m hs) + tick x h + tick x m ≡ count x hs
    gone x = grind (arith, count-canonical, count-append, ring_split h m hs i j hm, count-rotate_to)

    pub both_back : ys' ≢ [] → (c d : ℕ) → d ≡ head_or m ys' → c ≡ head_or (head_or m ys') xs' →
        put_before d m (put_before c h (cycle (kev_ring h m hs))) ≡ cycle hs
    both_back ne c d de ce =
        let one = cy.from_least in let two = cy.apart in let three = count-insert_before in let four = corners_in in
        grind (arith, one, two, three, four, ce, IsApart-canonical, apart_left, hm, gone, tick_same, put_there, count-canonical, both_in, mev-kev)

  -- one in this loop
  pub one_back : IsIn h hs → successor hs h ≢ h → put_before (successor hs h) h (cycle (take_ring h hs)) ≡ cycle hs
  one_back i ne =
      let ys : List ℕ = take_ring h hs in
      let c : ℕ = successor hs h in
      let k : (x : ℕ) → tick x h + count x ys ≡ count x hs = λ x. omega (arith, count-canonical x (rest h hs), count_at x h hs i) in
      let d : IsApart ys = λ x. omega (arith, k x, cy.apart x) in
      let ci : IsIn c ys = omega (arith, k c, tick_other c h ne, IsIn_successor h hs i) in
      let n : count h ys ≡ 0 = omega (arith, k h, tick_same h, cy.apart h) in
      put_there c h (cycle ys) ci ∙ ap cycle (put_in ys d c h ci n ∙ put-take h hs cy.apart i ∙ cy.from_least)

  pub take_none : (x : ℕ) → IsIn h hs → count x hs ≡ 0 → count x (take_ring h hs) ≡ 0
  take_none x i n = omega (arith, count-canonical x (rest h hs), count_at x h hs i)

-- a ring of two
pair_of : (next : ℕ → ℕ) (h m : ℕ) (rs : List ℕ) → IsPath next (h ∷ rs) h → next h ≡ m → next m ≡ h → h ≢ m → count h rs ≡ 0 → rs ≡ m ∷ []
pair_of next h m [] p a b ne n = absurd (ne (sym p.0 ∙ a))
pair_of next h m (x ∷ []) p a b ne n = ap (λ y. y ∷ []) (sym p.0 ∙ a)
pair_of next h m (x ∷ y ∷ zs) p a b ne n = grind arith

module _ {M : Model} (sound : Sound M) {h : ℕ} (goes : KevGoes M h) where
  abbrev pub m : ℕ
  m = mate h

  abbrev pub N : Model
  N = kev M h

  abbrev pub w : ℕ
  w = tail M m

  pub sound-N : Sound N
  sound-N = kill.sound-kev M sound h goes

  m_there : HasHalf M m
  m_there = mate_there M h goes.h_there

  pub point_there : table.get M.vertices w ≡ Some (point_of M w)
  point_there = point_row M w (sound.tails_there m m_there)

  -- an edge that stands alone is taken back by mev at the lone loop that it leaves
  module _ (bare : after M (mate h) ≡ h) where
    abbrev u : ℕ
    u = tail M h

    abbrev l : ℕ
    l = loop_of M h

    to_m : after M h ≡ m
    to_m = goes.not_bare bare

    pub lone_goes : lones.LoneGoes N l h w u (point_of M w)
    lone_goes = record {
      is_lone = kill.lone_new M sound h goes bare;
      loop_there = (kill.same M sound h goes).loop l ∙ ap is_some (row_of M sound h goes.h_there);
      edge_free = kill.edge_gone M sound h goes;
      vertex_free = kill.vertex_gone M sound h goes;
      edge_fits = sound.edges_fit (edge_of h) goes.h_there;
      vertex_fits = sound.vertices_fit w (sound.tails_there m m_there);
      point_fits = sound.points_fit w (point_of M w) point_there;
    }

    abbrev L : Model
    L = mev_lone N l h w (point_of M w)

    edge : OneMore N L h u w
    edge = lones.edge sound-N lone_goes

    abbrev hs : List ℕ
    hs = cycle_of M h

    loop_m : loop_of M m ≡ l
    loop_m = ap (loop_of M) (sym to_m) ∙ loop_after M sound h goes.h_there

    h_held : IsIn h hs
    h_held = cycle_there M sound h goes.h_there

    pair : canonical (h ∷ m ∷ []) ≡ hs
    pair =
        let cy : IsCycle hs = cycle_sound M sound h goes.h_there in
        let r : IsRing (after M) (h ∷ rest h hs) = IsRing-same (after M) hs (h ∷ rest h hs) (rotation_at h hs h_held) (light M sound l).1 in
        let n : count h (rest h hs) ≡ 0 = omega (arith, count_at h h hs h_held, tick_same h, cy.apart h) in
        ap (λ q. canonical (h ∷ q)) (sym (pair_of (after M) h m (rest h hs) r to_m bare (mate_other h) n))
        ∙ canonical_from h hs cy.apart h_held ∙ cy.from_least

    bare_contents : (q : ℕ) → Has M.loops q → content L q ≡ content M q
    bare_contents q there = elim (eqb_tells q l) [
      | inl e ↦ ap (content L) e.1 ∙ lones.content_new sound-N lone_goes ∙ ap cycle pair ∙ sym (ap (content M) e.1 ∙ content_cycle M sound h goes.h_there)
      | inr e ↦ lones.content_other sound-N lone_goes q e.1 ∙ kill.content-N M sound h goes q
          ∙ back_none h (tail M h) (content M q) (none_else M sound h q e.1) (none_else M sound m q (λ s. e.1 (s ∙ loop_m)))
    ]

    bare_loops : L.loops ≡ M.loops
    bare_loops = loops_again (kill.same M sound h goes) (lones.same sound-N lone_goes) bare_contents

    bare_tails : (x : ℕ) → HasHalf M x → tail L x ≡ tail M x
    bare_tails x there =
        let one = tail-h (comes edge) in let two = tail-m (comes edge) in let three = kill.half_old M sound h goes x there in
        let four = kill.tail_kept M sound h goes x there in let five = kill.bare M sound h goes bare x there in
        grind (arith, eqb_tells (edge_of x) (edge_of h), same_edge x h, one, two, three, four, five, tail_old edge x)

    pub mev_lone-kev : mev_lone (kev M h) l h w (point_of M w) ≡ M
    unfolding kev mev_lone
    mev_lone-kev = same_model L M refl refl bare_loops (same_edges L M (edge_again (kill.edge_goes M sound h goes) goes.h_there (comes edge)) bare_tails) (put-remove M.vertices w (point_of M w) point_there)

  -- and another by mev at two half-edges
  module _ (open_end : after M (mate h) ≢ h) where
    abbrev pub d : ℕ
    d = after M m

    abbrev pub c : ℕ
    c = cond (nat_eq (after M h) m) d (after M h)

    pub c_cases : ((after M h ≡ m) × (c ≡ d)) ⊎ ((after M h ≢ m) × (c ≡ after M h))
    c_cases = grind (arith, eqb_tells)

    d_there : HasHalf M d
    d_there = half_after M sound m m_there

    d_tail : tail M d ≡ tail M h
    d_tail = sound.ends_meet m m_there ∙ ap (tail M) (mate-mate h)

    u_w : tail M h ≢ w
    u_w = sound.ends_differ h goes.h_there

    d_edge : edge_of d ≢ edge_of h
    d_edge = kill.other_edge M sound h goes d open_end (kill.m_on M sound h goes)

    pub d_new : HasHalf N d × (tail N d ≡ tail M h)
    d_new = (kill.half_old M sound h goes d d_there d_edge, kill.tail_kept M sound h goes d d_there d_edge (λ e. u_w (sym d_tail ∙ e)) ∙ d_tail)

    pub c_new : HasHalf N c × (tail N c ≡ tail M h)
    c_new = elim c_cases [
      | inl e ↦ (subst (HasHalf N) (sym e.1) d_new.0, ap (tail N) e.1 ∙ d_new.1)
      | inr e ↦
          let t = half_after M sound h goes.h_there in let a = kill.other_edge M sound h goes (after M h) (kill.h_on M sound h goes) e.0 in
          grind (arith, e, kill.half_old M sound h goes (after M h) t a, kill.tail_moved M sound h goes (after M h) t a, sound.ends_meet h goes.h_there)
    ]

    pub put_goes : put.MevGoes N c d h w (point_of M w)
    put_goes =
        let one = sound.vertices_fit in let two = sound.tails_there in
        grind (arith, one, two, c_new, d_new, kill.edge_gone, kill.vertex_gone, sound.edges_fit, goes.h_there, m_there, sound.points_fit, point_there)

    abbrev pub K : Model
    K = mev_at N c d h w (point_of M w)

    -- ---- loops

    after_in : (q x : ℕ) (hs : List ℕ) → content M q ≡ cycle hs → IsIn x hs → after M x ≡ successor hs x
    unfolding after
    after_in q x hs e i = ap (λ l. successor (items_of (content M l)) x) (sound.one_loop x q (in-holds x (content M q) (subst (λ c. IsIn x (items_of c)) (sym e) i))) ∙ ap (λ c. successor (items_of c) x) e

    -- what follows an item of another loop isn't in this one
    after_out : (q x : ℕ) (hs : List ℕ) → content M q ≡ cycle hs → HasHalf M x → count x hs ≡ 0 → count (after M x) hs ≡ 0
    after_out q x hs e t n = none_in (after M x) hs (λ i.
        let l : loop_of M x ≡ q = sym (loop_after M sound x t) ∙ sound.one_loop (after M x) q (in-holds (after M x) (content M q) (subst (λ c. IsIn (after M x) (items_of c)) (sym e) i)) in
        let j : IsIn x hs = subst (λ c. IsIn x (items_of c)) (ap (content M) l ∙ e) (cycle_there M sound x t) in
        omega arith)

    mate_apart : h ≢ m
    mate_apart = mate_other h

    abbrev back : LoopContent → LoopContent
    back x = put_before d m (put_before c h (without_both h (tail M h) x))

    content_of : (q : ℕ) (x : LoopContent) → Has M.loops q → content M q ≡ x → back x ≡ x
    content_of q (lone v) there e = ap (λ y. put_before d m (put_before c h y)) (back_none h (tail M h) (lone v) refl refl) ∙ ap (put_before d m) (put_lone c h v) ∙ put_lone d m v
    content_of q (cycle hs) there e =
        let cy : IsCycle hs = sound.cycles q hs there e in
        elim (IsIn_or_not h hs) [
          | inl i ↦ elim (IsIn_or_not m hs) [
            | inl j ↦
                let ah : after M h ≡ head_or m (between h m hs) = after_in q h hs e i ∙ after_first hs cy.apart h m i j mate_apart in
                let am : after M m ≡ head_or h (beyond h m hs) = after_in q m hs e j ∙ after_second hs cy h m mate_apart i j in
                let ne : beyond h m hs ≢ [] = λ z. open_end (am ∙ ap (head_or h) z) in
                let de : d ≡ head_or m (beyond h m hs) = am ∙ same_head (beyond h m hs) ne in
                let ce : c ≡ head_or (head_or m (beyond h m hs)) (between h m hs) = elim c_cases [
                  | inl s ↦ s.1 ∙ de ∙ sym (empty_head (between h m hs) (head_or m (beyond h m hs)) (sym ah ∙ s.0) (count-before m (rest h hs)))
                  | inr s ↦ s.1 ∙ ah ∙ full_head (between h m hs) (head_or m (beyond h m hs)) (λ t. s.0 (ah ∙ t))
                ] in
                let t = corners_in hs cy h m mate_apart i j ne in
                ap (λ y. put_before d m (put_before c h y))
                (back_h h (tail M h) (cycle hs) i ∙ as_cycle (without m (without h hs)) (kev_ring h m hs) (tail M h) (both_out hs cy.apart h m i j mate_apart) (some_item (head_or m (beyond h m hs)) (kev_ring h m hs) t.0))
                ∙ both_back hs cy h m mate_apart i j ne c d de ce
            | inr j ↦
                let ah : after M h ≡ successor hs h = after_in q h hs e i in
                let ne : successor hs h ≢ h = λ s. kill.h_on M sound h goes (ah ∙ s) in
                let one = after_out q m hs e m_there j in let two = taken_out hs cy.apart h i in let three = without_none m (without h hs) in
                let four = one_back hs cy h m mate_apart i ne in let five = some_item (successor hs h) (take_ring h hs) (in_take hs cy h i ne) in
                let six = back_h h (tail M h) (cycle hs) i in let seven = count_out m h hs (λ s. mate_apart (sym s)) in
                grind (arith, ah, one, two, three, four, five, six, seven, c_cases, IsIn_successor h hs i, as_cycle, put_none d m (cycle hs))
          ]
          | inr i ↦
              let ch : count (after M h) hs ≡ 0 = after_out q h hs e goes.h_there i in
              elim (IsIn_or_not m hs) [
                | inl j ↦
                    let am : after M m ≡ successor hs m = after_in q m hs e j in
                    let ne : successor hs m ≢ m = λ s. kill.m_on M sound h goes (am ∙ s) in
                    let one = taken_out hs cy.apart m j in let two = without_none h hs i in let three = take_none hs cy m h (λ s. mate_apart (sym s)) c j in
                    let four = one_back hs cy m h (λ s. mate_apart (sym s)) j ne in
                    let five = some_item (successor hs m) (take_ring m hs) (in_take hs cy m j ne) in let six = back_m h (tail M h) (cycle hs) j in
                    grind (arith, am, ch, one, two, three, four, five, six, c_cases, as_cycle, put_none c h (cycle (take_ring m hs)))
                | inr j ↦
                    let dn : count d hs ≡ 0 = after_out q m hs e m_there j in
                    grind (arith, dn, ch, c_cases, back_none h (tail M h) (cycle hs) i j, put_none c h (cycle hs), put_none d m (cycle hs))
              ]
        ] where
          same_head : (ys : List ℕ) → ys ≢ [] → head_or h ys ≡ head_or m ys
          same_head [] ne = absurd (ne refl)
          same_head (y ∷ ys) ne = refl

          empty_head : (xs : List ℕ) (k : ℕ) → head_or m xs ≡ m → count m xs ≡ 0 → head_or k xs ≡ k
          empty_head [] k e n = refl
          empty_head (x ∷ xs) k e n = absurd (omega (arith, n, ap (tick m) e, tick_same m))

          full_head : (xs : List ℕ) (k : ℕ) → head_or m xs ≢ m → head_or m xs ≡ head_or k xs
          full_head [] k ne = absurd (ne refl)
          full_head (x ∷ xs) k ne = refl

          some_item : (x : ℕ) (xs : List ℕ) → IsIn x xs → xs ≢ []
          some_item x xs i z = let t : count x xs ≡ 0 = ap (count x) z in omega arith

          in_take : (xs : List ℕ) → IsCycle xs → (k : ℕ) → IsIn k xs → successor xs k ≢ k → IsIn (successor xs k) (take_ring k xs)
          in_take xs cy k i ne = omega (arith, count-canonical (successor xs k) (rest k xs), count_at (successor xs k) k xs i, tick_other (successor xs k) k ne, IsIn_successor k xs i)

    contents : (q : ℕ) → Has M.loops q → content K q ≡ content M q
    contents q there = put.content-N N sound-N c d h w (point_of M w) put_goes q
        ∙ ap (λ y. put_before d m (put_before c h y)) (kill.content-N M sound h goes q) ∙ content_of q (content M q) there refl

    loops-back : K.loops ≡ M.loops
    loops-back = loops_again (kill.same M sound h goes) (put.same N sound-N c d h w (point_of M w) put_goes) contents

    -- ---- what moves back: all but m that started at the killed vertex

    abbrev ws : List ℕ
    ws = kill.ws M sound h goes

    abbrev vs : List ℕ
    vs = kill.vs M sound h goes

    m_in : IsIn m vs
    m_in = kill.m_in M sound h goes

    abbrev both : List ℕ
    both = rest h ws ++ rest m vs

    kept_ring : round M h ≡ head_or h (rest h ws)
    kept_ring = (IsRing-same (round M) ws (h ∷ rest h ws) (rotation_at h ws (kill.h_in M sound h goes)) (kill.fan M sound h goes).ring).0

    killed_ring : round M m ≡ head_or m (rest m vs)
    killed_ring = (IsRing-same (round M) vs (m ∷ rest m vs) (rotation_at m vs m_in) (kill.fan_killed M sound h goes).ring).0

    others : (ts : List ℕ) × (rest h ws ≡ d ∷ ts)
    others = grind (arith, kept_ring)

    -- c is the first of what moved, or d where nothing did
    c_first : (ts : List ℕ) → c ≡ head_or d (rest m vs)
    c_first ts = c_leads (rest m vs) killed_ring (omega (arith, count_at m m vs m_in, tick_same m, (kill.fan_killed M sound h goes).apart m)) where
      c_leads : (xs : List ℕ) → round M m ≡ head_or m xs → count m xs ≡ 0 → c ≡ head_or d xs
      c_leads [] e n = grind (arith, c_cases, mate-mate h)
      c_leads (x ∷ xs) e n = grind (arith, c_cases, mate-mate h, tick_same m)

    pub moved_is : put.moved N sound-N c d h w (point_of M w) put_goes ≡ rest m vs
    moved_is =
        let f = kill.fan_u M sound h goes open_end in
        let all : List ℕ = canonical both in
        let ts : List ℕ = others.0 in
        let back_to : List ℕ = rest m vs ++ rest h ws in
        let r : IsRotation both back_to = record { front = rest h ws; back = rest m vs; here = refl; there = refl } in
        let ab : IsApart both = λ x. omega (arith, f.apart x, count-canonical x both) in
        let ci : IsIn c all = f.all c c_new.0 c_new.1 in
        let di : IsIn d all = f.all d d_new.0 d_new.1 in
        let cb : IsIn c both = omega (arith, ci, count-canonical c both) in
        let ring : IsRing (round N) all = IsPath-agree (λ x. kill.F M sound h goes (mate x)) (round N) all (head_or 0 all)
        (λ x i. sym (after-walks N (kill.F M sound h goes) (kill.walks M sound h goes) (mate x) (mate_there N x (f.of_it x i).0))) f.ring in
        let e : rotate_to c all ≡ rest m vs ++ d ∷ ts =
        sym (rotate_to_same c both all (canonical-rotates both) ab cb) ∙ rotate_to_same c both back_to r ab cb
        ∙ ap (λ y. rotate_to c (rest m vs ++ y)) others.1 ∙ first_is (rest m vs) ts (c_first ts) in
        sym (put.arc_moved N sound-N c d h w (point_of M w) put_goes)
        ∙ arc_is N all c d f.apart ring (λ x i. (f.of_it x i).0) ci di
        ∙ (upto_once c d all (rest m vs) ts f.apart e).0 where
          first_is : (xs ts : List ℕ) → c ≡ head_or d xs → rotate_to c (xs ++ d ∷ ts) ≡ xs ++ d ∷ ts
          first_is [] ts e = ap (λ y. rotate_to y (d ∷ ts)) e ∙ rotate_to_head d ts
          first_is (x ∷ xs) ts e = ap (λ y. rotate_to y (x ∷ (xs ++ d ∷ ts))) e ∙ rotate_to_head x (xs ++ d ∷ ts)

    -- ---- edges and vertices

    new_edge : EdgeComes N K h (tail N c) w
    new_edge = put.new_edge N sound-N c d h w (point_of M w) put_goes

    tails_old : (x : ℕ) → HasHalf M x → edge_of x ≢ edge_of h → tail K x ≡ tail M x
    tails_old x there a =
        let f = kill.fan_killed M sound h goes in let o = kill.half_old M sound h goes x there a in let stays = kill.tail_kept M sound h goes x there a in
        let back = put.tail_moved N sound-N c d h w (point_of M w) put_goes x o in let still = put.tail_kept N sound-N c d h w (point_of M w) put_goes x o in
        let other = tick_other x m (kill.not_m M sound h goes x a) in let either = eqb_tells (tail M x) w in
        grind (arith, either, stays, back, still, other, moved_is, IsIn_or_not x (rest m vs), count_at x m vs m_in, f.all x there, f.of_it x)

    tails : (x : ℕ) → HasHalf M x → tail K x ≡ tail M x
    tails x there = elim (eqb_tells (edge_of x) (edge_of h)) [
      | inl e ↦ of_edge (λ y. tail K y ≡ tail M y) h x (tail-h new_edge ∙ c_new.1) (tail-m new_edge) e.1
      | inr e ↦ tails_old x there e.1
    ]

    -- mev takes kev back
    pub mev_at-kev : mev_at (kev M h) c d h w (point_of M w) ≡ M
    unfolding kev mev_at
    mev_at-kev = same_model K M refl refl loops-back (same_edges K M (edge_again (kill.edge_goes M sound h goes) goes.h_there new_edge) tails) (put-remove M.vertices w (point_of M w) point_there)
