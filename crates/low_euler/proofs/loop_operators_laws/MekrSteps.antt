-- What mekr's writers make of a store, one after another.
use Rattle.low_euler.proofs.Prelude.{◌≡◌, ◌≢◌, ℕ, ◌+◌, true, false, List, [], ◌∷◌, ◌++◌, Some, is_some, refl, sym, ap, ◌∙◌, subst, arith, true≢false, count, tick, IsIn, IsApart, canonical, rotate_to, joined, HalfEdge, Corner, At, Lone, code, edge_of, Table, Model, LoopContent, lone, cycle, items_of, content, face_of, loop_of, cycle_of, has_half, corner_known, corner_lone, corner_loop, corner_tail, corner_list, is_lone, effect, mekr, edge_row, count-append, tick_same, count-canonical, canonical_one, apart_front, rest_canonical, mate_other, edge_of-code, cycle_there, Mekr, Accepts, after, half_of, loop_row, JoinGoes, MekrHolds, mekr_holds, count_spot, Store, with_loop, fill, join, take_loop, IsStanding, IsUnused, IsCorner, CanTake, with_edge, put_before, put_at, make_edge}
use Rattle.euler_operators.specs.Table as table
use Rattle.low_euler.proofs.steps_laws.Spots.{spots}
use Rattle.low_euler.proofs.steps_laws.TwoLoops as two
use Rattle.low_euler.proofs.steps_laws.TwoLoops.{TwoLoops, Fits, CanJoin}
use Rattle.low_euler.proofs.steps_laws.LooseRings.{AreSingles, pair, pair_singles, get_first, left_second, pair_gone, singles_remove, key_is, ring_is}
use Rattle.low_euler.proofs.steps_laws.SoundLoops.{edged_loops}
use Rattle.low_euler.proofs.steps_laws.LoopsApart.{placed_of, unused_of}

-- the two corners, by the conditions
corner_there : (M : Model) (c : Corner) → (corner_known M c).holds ≡ true → (corner_lone M c).holds ≡ true → IsCorner M c
corner_there M (At g) known bare = half_of M g known
corner_there M (Lone l) known bare = (known, bare)

none_in_lone : (c : LoopContent) → is_lone c ≡ true → items_of c ≡ []
none_in_lone (lone v) e = refl
none_in_lone (cycle hs) e = absurd (true≢false (sym e))

module _ (s : Store) (first second : Corner) (half : HalfEdge) (ok : Accepts s (Mekr first second half)) where
  open s use {model as M}
  open ok.ready use {sound, bare}
  open spots s (code half) use {h, m}

  abbrev r : ℕ
  r = corner_loop M first

  abbrev l : ℕ
  l = corner_loop M second

  abbrev u : ℕ
  u = corner_tail M first

  abbrev w : ℕ
  w = corner_tail M second

  abbrev Y : List ℕ
  Y = corner_list M first

  abbrev X : List ℕ
  X = corner_list M second

  holds : MekrHolds M first second half
  holds = mekr_holds M first second half sound ok.holds

  pub goes : JoinGoes M h r l u w Y X
  goes = holds.joins

  pub first_there : IsCorner M first
  first_there = corner_there M first holds.first_known holds.first_lone

  pub second_there : IsCorner M second
  second_there = corner_there M second holds.second_known holds.second_lone

  -- the steps
  abbrev pub edged : Store
  edged = with_edge s h u w

  abbrev pub first_in : Store
  first_in = put_at edged first h

  abbrev pub second_in : Store
  second_in = put_at first_in second m

  abbrev pub one : Store
  one = join second_in h m

  abbrev pub made : Store
  made = take_loop one l

  -- what the call leaves
  pub was_second : (q : Store) (a b : ℕ) → a ≡ u → b ≡ w → q ≡ make_edge s first second h a b → q ≡ second_in
  was_second q a b ea eb d = d ∙ (λ i. put_at (put_at (with_edge s h (ea i) (eb i)) first h) second m)

  -- the two loops, and the half-edges in them
  abbrev C : LoopContent
  C = content M r

  abbrev D : LoopContent
  D = content M l

  abbrev N : Model
  N = record M { edges = table.put M.edges (edge_of h) (edge_row h u w) }

  abbrev all : List ℕ
  all = h ∷ m ∷ (items_of C ++ items_of D)

  pub unused : IsUnused s h
  unused = unused_of s (placed_of M sound) bare h u w goes.edge_free

  loops : TwoLoops N r l (face_of M r) (face_of M l) all
  loops = edged_loops M (placed_of M sound) r l goes.loops_apart (sound.loops_fit r goes.first.there) (sound.loops_fit l goes.second.there)
      h (edge_row h u w) unused.first unused.second

  count_all : (x : ℕ) → count x all ≡ tick x h + tick x m + count x (items_of C) + count x (items_of D)
  count_all x = omega (arith, count-append x (items_of C) (items_of D))

  count_C : (x : ℕ) → count x (items_of C) ≡ count x Y
  count_C = count_spot M sound r u Y goes.first

  count_D : (x : ℕ) → count x (items_of D) ≡ count x X
  count_D = count_spot M sound l w X goes.second

  abbrev state : LoopContent → LoopContent → Table (List ℕ) → Store
  state c d z = two.state loops s.room c d z

  mate_apart : h ≢ m
  mate_apart = mate_other h

  abbrev loose : Table (List ℕ)
  loose = pair h m mate_apart

  edged_is : edged ≡ state C D loose
  unfolding with_edge
  edged_is = ap (λ z. record s { model = N; loose = table.put (table.put z h (h ∷ [])) m (m ∷ []) }) bare
      ∙ ap (λ t. record { model = record N { loops = t }; loose = loose; room = s.room }) (sym (two.held_before loops C D (loop_row M r goes.first.there) (loop_row M l goes.second.there)))

  fits_one : Fits all C D
  fits_one = record { some = λ x. omega (arith, count_all x) }

  pub edge_free : table.has M.edges half.edge ≡ false
  edge_free = ap (table.has M.edges) (sym (edge_of-code half)) ∙ ap is_some goes.edge_free

  -- ---- the first corner

  in_corner : (g : HalfEdge) (q : ℕ) → loop_of M (code g) ≡ q → has_half M (code g) ≡ true → IsIn (code g) (items_of (content M q))
  in_corner g q e t = subst (λ k. IsIn (code g) (items_of (content M k))) e (cycle_there M sound (code g) t)

  -- a corner of loop k of the model, in another one
  takes_at : (Q : Model) (k : ℕ) → table.has Q.loops k ≡ true → content Q k ≡ content M k → ((x : ℕ) → IsIn x (items_of (content M k)) → IsStanding Q x) → (c : Corner) → corner_loop M c ≡ k → IsCorner M c → CanTake Q c
  takes_at Q k there same stands (At g) e t = stands (code g) (in_corner g k e t)
  takes_at Q k there same stands (Lone q) e t = (
    ap (table.has Q.loops) e ∙ there,
    ap (λ i. items_of (content Q i)) e ∙ ap items_of same ∙ none_in_lone (content M k) (ap (λ i. is_lone (content M i)) (sym e) ∙ t.1),
  )

  -- x, which is alone in its ring, put at such a corner
  put_corner : (t : Store) (k x : ℕ) → content t.model k ≡ content M k → ((g : ℕ) → IsIn g (items_of (content M k)) → loop_of t.model g ≡ k) → AreSingles t.loose → table.get t.loose x ≡ Some (x ∷ []) →
      (c : Corner) → corner_loop M c ≡ k → IsCorner M c → put_at t c x ≡ record t { model = with_loop t.model k (cycle (canonical (x ∷ corner_list M c))); loose = table.remove t.loose x }
  unfolding put_before fill
  put_corner t k x same in_k each at (At g) e there =
      let near : loop_of t.model (code g) ≡ k = in_k (code g) (in_corner g k e there) in
      let ring : cycle_of t.model (code g) ≡ cycle_of M (code g) = ap (λ q. items_of (content t.model q)) near ∙ ap items_of same ∙ ap (λ q. items_of (content M q)) (sym e) in
      λ i. record t { model = with_loop t.model (near i) (cycle (canonical (x ∷ rotate_to (code g) (ring i)))); loose = table.remove t.loose (key_is t x each at i) }
  put_corner t k x same in_k each at (Lone q) e there =
      (λ i. record t { model = with_loop t.model (e i) (cycle (ring_is t x each at i)); loose = table.remove t.loose (key_is t x each at i) })
      ∙ ap (λ hs. record t { model = with_loop t.model k (cycle hs); loose = table.remove t.loose x }) (sym (canonical_one x))

  pub first_takes : CanTake edged.model first
  first_takes = subst (λ (t : Store). CanTake t.model first) (sym edged_is)
      (takes_at (state C D loose).model r (ap is_some (two.get_r loops N.loops (record { face = face_of M r; content = C }) (record { face = face_of M l; content = D })))
      (two.content_r loops C D) (two.standing_r loops fits_one) first refl first_there)

  -- h and what the first corner's loop reads from there on
  abbrev ys : List ℕ
  ys = canonical (h ∷ Y)

  abbrev left : Table (List ℕ)
  left = table.remove loose h

  first_is : first_in ≡ state (cycle ys) D left
  first_is = ap (λ t. put_at t first h) edged_is
      ∙ put_corner (state C D loose) r h (two.content_r loops C D) (two.loop_r loops fits_one)
      (pair_singles h m mate_apart) (get_first h m mate_apart) first refl first_there
      ∙ two.new_r loops s.room C D (cycle ys) left r refl

  count_ys : (x : ℕ) → count x ys ≡ tick x h + count x (items_of C)
  count_ys x = count-canonical x (h ∷ Y) ∙ omega (arith, count_C x)

  fits_two : Fits all (cycle ys) D
  fits_two = record { some = λ x. omega (arith, count_all x, count_ys x) }

  -- ---- the second corner

  pub second_takes : CanTake first_in.model second
  second_takes = subst (λ (t : Store). CanTake t.model second) (sym first_is)
      (takes_at (state (cycle ys) D left).model l (ap is_some (two.get_l loops N.loops (record { face = face_of M r; content = cycle ys }) (record { face = face_of M l; content = D })))
      (two.content_l loops (cycle ys) D) (two.standing_l loops fits_two) second refl second_there)

  abbrev xs : List ℕ
  xs = canonical (m ∷ X)

  second_is : second_in ≡ state (cycle ys) (cycle xs) table.empty
  second_is = ap (λ t. put_at t second m) first_is
      ∙ put_corner (state (cycle ys) D left) l m (two.content_l loops (cycle ys) D) (two.loop_l loops fits_two)
      (singles_remove loose h (pair_singles h m mate_apart)) (left_second h m mate_apart) second refl second_there
      ∙ two.new_l loops s.room (cycle ys) D (cycle xs) (table.remove left m) l refl
      ∙ ap (state (cycle ys) (cycle xs)) (pair_gone h m mate_apart)

  count_xs : (x : ℕ) → count x xs ≡ tick x m + count x (items_of D)
  count_xs x = count-canonical x (m ∷ X) ∙ omega (arith, count_D x)

  fits_three : Fits all (cycle ys) (cycle xs)
  fits_three = record { some = λ x. omega (arith, count_all x, count_ys x, count_xs x) }

  h_in : IsIn h ys
  h_in = omega (arith, count_ys h, tick_same h)

  m_in : IsIn m xs
  m_in = omega (arith, count_xs m, tick_same m)

  -- ---- the join

  pub join_asks : (p : Store) (n : ℕ) → p ≡ second_in → n ≡ m → CanJoin p h n
  join_asks p n e en = two.join_asks loops s.room table.empty fits_three h m h_in m_in p n (e ∙ second_is) en

  abbrev ring : List ℕ
  ring = canonical ((h ∷ X) ++ m ∷ Y)

  ring_joined : joined h m ys xs ≡ ring
  ring_joined = (λ i. canonical ((h ∷ rest_canonical m X apart_X i) ++ m ∷ rest_canonical h Y apart_Y i)) where
    apart_X : IsApart (m ∷ X)
    apart_X = apart_front m X (sym (count_D m) ∙ unused.second l) goes.second.apart

    apart_Y : IsApart (h ∷ Y)
    apart_Y = apart_front h Y (sym (count_C h) ∙ unused.first r) goes.first.apart

  one_is : one ≡ state (cycle ring) (cycle []) table.empty
  one_is = ap (λ t. join t h m) second_is
      ∙ two.join_parts loops s.room table.empty fits_three h m h_in m_in
      ∙ ap (λ hs. state (cycle hs) (cycle []) table.empty) ring_joined

  -- ---- the loop that goes

  pub ring_bare : (p : Store) (n : ℕ) → n ≡ l → p ≡ one → (table.has p.model.loops n ≡ true) × (items_of (content p.model n) ≡ [])
  ring_bare p n en e = two.emptied_l loops (cycle ring) p.model n en (ap (λ (t : Store). t.model.loops) (e ∙ one_is))

  -- together they are mekr
  pub made_is : made ≡ after s (Mekr first second half)
  unfolding effect mekr
  made_is = ap (λ t. take_loop t l) one_is
      ∙ ap (λ t. record { model = record N { loops = t }; loose = table.empty; room = s.room }) (two.gone_l loops (cycle ring) (cycle []))
      ∙ ap (λ z. record { model = record N { loops = table.remove (table.put M.loops r (record { face = face_of M r; content = cycle ring })) l }; loose = z; room = s.room }) (sym bare)
