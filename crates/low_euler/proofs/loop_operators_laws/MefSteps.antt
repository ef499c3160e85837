-- What mef's writers make of a store, one after another.
use Rattle.low_euler.proofs.Prelude.{◌≡◌, ◌≢◌, ℕ, true, false, cond, List, [], ◌∷◌, Some, is_some, sym, ap, ◌∙◌, subst, arith, ne_eqb, nat_tests, count, IsIn, IsApart, cut_right, put_ring, mef_old, mef_new, HalfEdge, At, code, edge_of, Table, tables, Model, LoopRow, cycle, items_of, content, face_of, solid_of, before, tail, face_at, effect, mef, edge_row, tick_same, mate_other, edge_of-code, put_same, row_elsewhere, row_of, cycle_there, cycle_sound, Mef, Accepts, after, MefGoes, mef_goes, loops-mef, Store, Extents, within, put_loop, cut, cut_loose, cut_to, put_face, IsStanding, IsUnused, with_edge, put_before, make_edge}
use Rattle.euler_operators.specs.Table as table
use Rattle.low_euler.proofs.steps_laws.RingSteps.{cut_old, cut_new, count_put}
use Rattle.low_euler.proofs.steps_laws.Spots.{spots}
use Rattle.low_euler.proofs.steps_laws.TwoLoops as two
use Rattle.low_euler.proofs.steps_laws.TwoLoops.{TwoLoops, Fits, CanCut}
use Rattle.low_euler.proofs.steps_laws.LooseRings.{pair, pair_singles, get_first, left_second, pair_gone, singles_remove}
use Rattle.low_euler.proofs.steps_laws.SoundLoops.{edged_loops, with_none}
use Rattle.low_euler.proofs.steps_laws.LoopsApart.{placed_of, unused_of}

module _ (s : Store) (first second half : HalfEdge) (f l : ℕ) (ok : Accepts s (Mef first second half f l)) where
  open s use {model as M}
  open ok.ready use {sound, bare}
  open spots s (code first) use {h as g, r, xs}
  open spots s (code second) use {h as k}
  open spots s (code half) use {h, m}

  pub goes : MefGoes M g k h f l
  goes = mef_goes M first second half f l ok.holds

  -- what the readers ask
  pub loop_there : table.has M.loops r ≡ true
  loop_there = ap is_some (row_of M sound g goes.g_there)

  pub face_there : table.has M.faces (face_at M g) ≡ true
  face_there = sound.loops_of_faces r loop_there

  pub solid_there : table.has M.solids (solid_of M (face_at M g)) ≡ true
  solid_there = sound.faces_of_solids (face_at M g) face_there

  -- the steps
  abbrev pub looped : Store
  looped = put_loop s l f

  abbrev pub edged : Store
  edged = with_edge looped h (tail M g) (tail M k)

  abbrev pub first_in : Store
  first_in = put_before edged g h

  abbrev pub second_in : Store
  second_in = put_before first_in k m

  abbrev pub parted : Store
  parted = cut second_in h m l

  abbrev pub made : Store
  made = put_face parted f (solid_of M (face_at M g)) l

  -- what the call leaves
  pub was_second : (p q : Store) (a b : ℕ) → p ≡ looped → a ≡ tail M g → b ≡ tail M k → q ≡ make_edge p (At first) (At second) h a b → q ≡ second_in
  was_second p q a b e ea eb d = d ∙ (λ i. put_before (put_before (with_edge (e i) h (ea i) (eb i)) g h) k m)

  -- the two loops, and the half-edges in them
  r_row : table.get M.loops r ≡ Some (record { face = face_of M r; content = cycle xs })
  r_row = row_of M sound g goes.g_there

  abbrev N : Model
  N = record M { edges = table.put M.edges (edge_of h) (edge_row h (tail M g) (tail M k)) }

  abbrev all : List ℕ
  all = h ∷ m ∷ xs

  -- neither half-edge of the new edge stands anywhere
  free : IsUnused s h
  free = unused_of s (placed_of M sound) bare h (tail M g) (tail M k) goes.edge_free

  pub loops : TwoLoops N r l (face_of M r) f all
  loops = subst (λ ys. TwoLoops N r l (face_of M r) f (h ∷ m ∷ ys)) (with_none M r l goes.loop_free)
      (edged_loops M (placed_of M sound) r l (row_elsewhere M.loops r l loop_there goes.loop_free) (sound.loops_fit r loop_there) goes.loop_fits
      h (edge_row h (tail M g) (tail M k)) free.first free.second)

  g_in : IsIn g xs
  g_in = cycle_there M sound g goes.g_there

  k_in : IsIn k xs
  k_in = subst (λ q. IsIn k (items_of (content M q))) goes.one_loop (cycle_there M sound k goes.k_there)

  pub g_k : g ≢ k
  g_k e = goes.ends_apart (ap (tail M) e)

  abbrev pair_h : Table (List ℕ)
  pair_h = pair h m (mate_other h)

  abbrev state : List ℕ → List ℕ → Table (List ℕ) → Store
  state ys zs z = two.state loops s.room (cycle ys) (cycle zs) z

  abbrev ys : List ℕ
  ys = put_ring h g xs

  abbrev zs : List ℕ
  zs = put_ring m k ys

  -- the new loop is empty
  loops_looped : table.put M.loops l (record { face = f; content = cycle [] }) ≡ (state xs [] pair_h).model.loops
  loops_looped = ap (λ t. table.put t l (record { face = f; content = cycle [] })) (sym (put_same M.loops r (record { face = face_of M r; content = cycle xs }) r_row))

  edged_is : edged ≡ state xs [] pair_h
  unfolding with_edge put_loop
  edged_is = ap (λ t. record s { model = record N { loops = t }; loose = table.put (table.put s.loose h (h ∷ [])) m (m ∷ []) }) loops_looped
      ∙ ap (λ z. state xs [] (table.put (table.put z h (h ∷ [])) m (m ∷ []))) bare

  fits_one : Fits all (cycle xs) (cycle [])
  fits_one = record { some = λ x. omega arith }

  fits_two : Fits all (cycle ys) (cycle [])
  fits_two = record { some = λ x. omega (arith, count_put x h g xs) }

  fits_three : Fits all (cycle zs) (cycle [])
  fits_three = record { some = λ x. omega (arith, count_put x h g xs, count_put x m k ys) }

  -- what the new edge asks
  nothing_new : (x q : ℕ) → count x (items_of (content M q)) ≡ 0 → count x (items_of (content looped.model q)) ≡ 0
  unfolding put_loop content
  nothing_new x q none = grind (arith, nat_tests, tables, none)

  pub unused : IsUnused looped h
  unfolding put_loop
  unused = record { bare = bare; first = λ q. nothing_new h q (free.first q); second = λ q. nothing_new m q (free.second q) }

  pub edge_room : table.has looped.room.edges half.edge ≡ true
  unfolding put_loop
  edge_room = ok.room.0

  pub edge_free : table.has looped.model.edges half.edge ≡ false
  unfolding put_loop
  edge_free = ap (table.has M.edges) (sym (edge_of-code half)) ∙ ap is_some goes.edge_free

  pub g_stands : IsStanding edged.model g
  g_stands = subst (λ (t : Store). IsStanding t.model g) (sym edged_is) (two.standing_r loops fits_one g g_in)

  -- what stands before the first corner stays there
  pub before_first : (n : ℕ) → n ≡ before M g → n ≡ before edged.model g
  unfolding before
  before_first n e = e ∙ sym (ap (λ (t : Store). before t.model g) edged_is ∙ two.before_r loops fits_one g g_in)

  first_is : first_in ≡ state ys [] (table.remove pair_h h)
  first_is = ap (λ t. put_before t g h) edged_is
      ∙ two.put_before_r loops s.room pair_h fits_one g h g_in (pair_singles h m (mate_other h)) (get_first h m (mate_other h))

  k_in_two : IsIn k ys
  k_in_two = omega (arith, k_in, count_put k h g xs)

  pub k_stands : IsStanding first_in.model k
  k_stands = subst (λ (t : Store). IsStanding t.model k) (sym first_is) (two.standing_r loops fits_two k k_in_two)

  second_is : second_in ≡ state zs [] table.empty
  second_is = ap (λ t. put_before t k m) first_is
      ∙ two.put_before_r loops s.room (table.remove pair_h h) fits_two k m k_in_two
      (singles_remove pair_h h (pair_singles h m (mate_other h))) (left_second h m (mate_other h))
      ∙ ap (λ z. state zs [] z) (pair_gone h m (mate_other h))

  h_in : IsIn h zs
  h_in = omega (arith, count_put h m k ys, count_put h h g xs, tick_same h)

  m_in : IsIn m zs
  m_in = omega (arith, count_put m m k ys, tick_same m)

  pub cut_asks : (p : Store) (n : ℕ) → p ≡ second_in → n ≡ m → CanCut p h n l
  cut_asks p n e en = two.cut_asks loops s.room table.empty fits_three h m h_in m_in (mate_other h) p n (e ∙ second_is) en

  parted_is : parted ≡ state (mef_old h g k xs) (mef_new m g k xs) table.empty
  parted_is = ap (λ b. cond b (cut_loose second_in h m) (cut_to second_in h m l)) (ne_eqb l 0 loops.second_real)
      ∙ ap (λ t. cut_to t h m l) second_is
      ∙ two.cut_parts loops s.room table.empty fits_three h m h_in
      ∙ ap (λ q. state q (cut_right h m zs) table.empty) (cut_old h m g k xs apart_xs g_in k_in g_k (mate_other h) (free.first r) (free.second r))
      ∙ ap (λ q. state (mef_old h g k xs) q table.empty) (cut_new h m g k xs apart_xs g_in k_in g_k (mate_other h) (free.first r) (free.second r)) where
        apart_xs : IsApart xs
        apart_xs = (cycle_sound M sound g goes.g_there).apart

  abbrev with_loops : Table LoopRow → Store
  with_loops t = record s { model = record M { faces = table.put M.faces f (record { solid = solid_of M (face_at M g); outer = l }); loops = t; edges = N.edges } }

  -- together they are mef
  pub made_is : made ≡ after s (Mef first second half f l)
  unfolding effect mef
  made_is = ap (λ t. put_face t f (solid_of M (face_at M g)) l) parted_is
      ∙ ap (λ z. put_face (state (mef_old h g k xs) (mef_new m g k xs) z) f (solid_of M (face_at M g)) l) (sym bare)
      ∙ ap with_loops (sym (loops-mef M sound g k h f l goes.g_there goes.edge_free goes.loop_free))

  -- what the new face asks
  parted_room : (p : Store) → p ≡ parted → p.room ≡ s.room
  parted_room p e = ap (λ (t : Store). t.room) (e ∙ parted_is)

  pub face_room : (p : Store) → p ≡ parted → within f p.room.faces ≡ true
  face_room p e = ap (λ (q : Extents). within f q.faces) (parted_room p e) ∙ ok.room.1.0

  pub solid_room : (p : Store) (n : ℕ) → p ≡ parted → within n s.room.solids ≡ true → within n p.room.solids ≡ true
  solid_room p n e t = ap (λ (q : Extents). within n q.solids) (parted_room p e) ∙ t

  pub face_free : (p : Store) → p ≡ parted → table.has p.model.faces f ≡ false
  face_free p e = ap (λ (t : Store). table.has t.model.faces f) (e ∙ parted_is) ∙ ap is_some goes.face_free
