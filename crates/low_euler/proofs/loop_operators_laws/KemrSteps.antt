-- What kemr's writers make of a store, one after another.
use Rattle.low_euler.proofs.Prelude.{◌≡◌, ◌≢◌, ℕ, ◌+◌, true, cond, List, [], ◌∷◌, is_some, sym, ap, ◌∙◌, subst, arith, ne_eqb, count, tick, IsIn, IsApart, between, beyond, cut_left, cut_right, HalfEdge, code, edge_of, Table, LoopContent, LoopRow, cycle, face_of, tail, face_at, effect, kemr, cycle_or_lone, count-canonical, count-cut, IsIn-cut, mate_other, put_same, row_of, Kemr, Accepts, after, count_or_lone, KemrGoes, kemr_goes, Store, put_loop, cut, cut_loose, cut_to, take_edge, IsStanding, take_out, kill_edge}
use Rattle.euler_operators.specs.Table as table
use Rattle.euler_laws.proofs.kemr.KemrSound as laws
use Rattle.low_euler.proofs.steps_laws.RingSteps.{rest_left, rest_right}
use Rattle.low_euler.proofs.steps_laws.Spots.{spots}
use Rattle.low_euler.proofs.steps_laws.TwoLoops as two
use Rattle.low_euler.proofs.steps_laws.TwoLoops.{TwoLoops, Fits, CanCut}
use Rattle.low_euler.proofs.steps_laws.LooseRings.{pair, edge_gone}
use Rattle.low_euler.proofs.steps_laws.SoundLoops.{two_loops, with_none}
use Rattle.low_euler.proofs.steps_laws.LoopsApart.{placed_of}

module _ (s : Store) (half : HalfEdge) (l : ℕ) (ok : Accepts s (Kemr half l)) where
  open s use {model as M}
  open ok.ready use {sound, bare}
  open spots s (code half) use {h, m, r, xs}

  abbrev X : List ℕ
  X = between h m xs

  abbrev Y : List ℕ
  Y = beyond h m xs

  pub goes : KemrGoes M h l
  goes = kemr_goes M half l ok.holds

  -- what the readers ask
  pub loop_there : table.has M.loops r ≡ true
  loop_there = ap is_some (row_of M sound h goes.h_there)

  pub face_there : table.has M.faces (face_at M h) ≡ true
  face_there = sound.loops_of_faces r loop_there

  -- the steps
  abbrev pub looped : Store
  looped = put_loop s l (face_at M h)

  abbrev pub parted : Store
  parted = cut looped h m l

  abbrev pub made : Store
  made = kill_edge parted h

  -- the two loops, and the half-edges in them
  h_in : IsIn h xs
  h_in = laws.h_in M sound h l goes

  m_in : IsIn m xs
  m_in = laws.m_in M sound h l goes

  once : IsApart xs
  once = (laws.cyc M sound h l goes).apart

  m_h : m ≢ h
  m_h e = mate_other h (sym e)

  loops : TwoLoops M r l (face_of M r) (face_of M r) xs
  loops = subst (TwoLoops M r l (face_of M r) (face_of M r)) (with_none M r l goes.loop_free)
      (two_loops M (placed_of M sound) r l (laws.r_l M sound h l goes) (sound.loops_fit r loop_there) goes.loop_fits)

  abbrev state : LoopContent → LoopContent → Table (List ℕ) → Store
  state c d z = two.state loops s.room c d z

  abbrev left : List ℕ
  left = cut_left h m xs

  abbrev right : List ℕ
  right = cut_right h m xs

  looped_is : looped ≡ state (cycle xs) (cycle []) table.empty
  unfolding put_loop
  looped_is = ap (λ t. record s { model = record M { loops = table.put t l (record { face = face_of M r; content = cycle [] }) } })
      (sym (put_same M.loops r (record { face = face_of M r; content = cycle xs }) (row_of M sound h goes.h_there)))
      ∙ ap (state (cycle xs) (cycle [])) bare

  fits_one : Fits xs (cycle xs) (cycle [])
  fits_one = record { some = λ x. omega arith }

  fits_two : Fits xs (cycle left) (cycle right)
  fits_two = record { some = λ x. omega (arith, count-cut h m xs once h_in m_in (mate_other h) x) }

  pub cut_asks : (p : Store) (n : ℕ) → p ≡ looped → n ≡ m → CanCut p h n l
  cut_asks p n e en = two.cut_asks loops s.room table.empty fits_one h m h_in m_in (mate_other h) p n (e ∙ looped_is) en

  parted_is : parted ≡ state (cycle left) (cycle right) table.empty
  parted_is = ap (λ b. cond b (cut_loose looped h m) (cut_to looped h m l)) (ne_eqb l 0 loops.second_real)
      ∙ ap (λ t. cut_to t h m l) looped_is
      ∙ two.cut_parts loops s.room table.empty fits_one h m h_in

  h_left : IsIn h left
  h_left = (IsIn-cut h m xs once h_in m_in (mate_other h)).0

  m_right : IsIn m right
  m_right = (IsIn-cut h m xs once h_in m_in (mate_other h)).1

  -- what the edge that is killed asks
  pub m_parted : IsStanding parted.model m
  m_parted = subst (λ (t : Store). IsStanding t.model m) (sym parted_is) (two.standing_l loops fits_two m m_right)

  first_is : take_out parted m ≡ state (cycle left) (cycle_or_lone X (tail M m)) (table.put table.empty m (m ∷ []))
  first_is = ap (λ t. take_out t m) parted_is
      ∙ two.take_out_l loops s.room table.empty fits_two m m_right (rest_right h m xs once h_in m_in (mate_other h))

  fits_three : Fits xs (cycle left) (cycle_or_lone X (tail M m))
  fits_three = record { some = λ x. omega (arith, count_or_lone x X (tail M m), fits_two.some x, count_right x) } where
    count_right : (x : ℕ) → count x right ≡ tick x m + count x X
    count_right x = count-canonical x (m ∷ X)

  pub h_first : IsStanding (take_out parted m).model h
  h_first = subst (λ (t : Store). IsStanding t.model h) (sym first_is) (two.standing_r loops fits_three h h_left)

  second_is : take_out (take_out parted m) h ≡ state (cycle_or_lone Y (tail M h)) (cycle_or_lone X (tail M m)) (pair m h m_h)
  second_is = ap (λ t. take_out t h) first_is
      ∙ two.take_out_r loops s.room (table.put table.empty m (m ∷ [])) fits_three h h_left (rest_left h m xs once h_in m_in (mate_other h))

  abbrev with_loops : Table LoopRow → Store
  with_loops t = record s { model = record M { loops = t; edges = table.remove M.edges (edge_of h) } }

  -- together they are kemr
  pub made_is : made ≡ after s (Kemr half l)
  unfolding effect kemr take_edge
  made_is = ap (λ t. take_edge t (edge_of h)) second_is
      ∙ ap (λ z. record s { model = record (two.holding loops (cycle_or_lone Y (tail M h)) (cycle_or_lone X (tail M m))) { edges = table.remove M.edges (edge_of h) }; loose = z }) (edge_gone h m_h ∙ sym bare)
      ∙ ap with_loops (sym (laws.loops_are M sound h l goes))
