-- What kef's writers make of a store, one after another.
use Rattle.low_euler.proofs.Prelude.{◌≡◌, ◌≢◌, ℕ, ◌+◌, true, List, [], ◌∷◌, ◌++◌, Some, is_some, sym, ap, ◌∙◌, subst, arith, count, IsIn, IsApart, head_or, canonical, rest, joined, HalfEdge, code, mate, edge_of, Table, LoopContent, LoopRow, cycle, items_of, content, face_of, tail, has_half, face_at, effect, kef, count-append, tick_same, count-canonical, count_at, count-joined, no_cons, both_empty, mate_other, row_of, Kef, Accepts, after, KefGoes, kef_goes, cycle_filled, Store, join, take_edge, take_loop, take_face, IsStanding, take_out, kill_edge}
use Rattle.euler_operators.specs.Common.{after as after_half}
use Rattle.euler_operators.specs.Table as table
use Rattle.euler_laws.proofs.mef.KefSound as laws
use Rattle.low_euler.proofs.steps_laws.RingSteps.{rest_joined, rest_both}
use Rattle.low_euler.proofs.steps_laws.Spots.{spots}
use Rattle.low_euler.proofs.steps_laws.TwoLoops as two
use Rattle.low_euler.proofs.steps_laws.TwoLoops.{TwoLoops, Fits, CanJoin}
use Rattle.low_euler.proofs.steps_laws.LooseRings.{pair, edge_gone}
use Rattle.low_euler.proofs.steps_laws.SoundLoops.{two_loops}
use Rattle.low_euler.proofs.steps_laws.LoopsApart.{placed_of}

module _ (s : Store) (half : HalfEdge) (ok : Accepts s (Kef half)) where
  open s use {model as M}
  open ok.ready use {sound, bare}
  open spots s (code half) use {h, m, r, l, xs, ys}

  pub goes : KefGoes M h
  goes = kef_goes M half ok.holds

  r_row : table.get M.loops r ≡ Some (record { face = face_of M r; content = cycle xs })
  r_row = row_of M sound h goes.h_there

  l_row : table.get M.loops l ≡ Some (record { face = face_of M l; content = cycle ys })
  l_row = row_of M sound m (laws.m_there M sound h goes)

  -- the steps
  abbrev pub one : Store
  one = join s h m

  abbrev pub edgeless : Store
  edgeless = kill_edge one h

  abbrev pub loopless : Store
  loopless = take_loop edgeless l

  abbrev pub made : Store
  made = take_face loopless (face_at M m)

  -- what the readers ask
  pub mate_there : (n : ℕ) → n ≡ m → has_half M n ≡ true
  mate_there n e = ap (has_half M) e ∙ laws.m_there M sound h goes

  pub gone_there : (n : ℕ) → n ≡ l → table.has M.loops n ≡ true
  gone_there n e = ap (table.has M.loops) e ∙ ap is_some l_row

  -- the two loops, and the half-edges in them
  mate_is_other : m ≢ h
  mate_is_other e = mate_other h (sym e)

  abbrev all : List ℕ
  all = xs ++ ys

  loops : TwoLoops M r l (face_of M r) (face_of M l) all
  loops = two_loops M (placed_of M sound) r l (laws.r_s M sound h goes) (sound.loops_fit r (ap is_some r_row)) (sound.loops_fit l (ap is_some l_row))

  abbrev state : LoopContent → LoopContent → Table (List ℕ) → Store
  state c d z = two.state loops s.room c d z

  abbrev as_join : List ℕ
  as_join = joined h m xs ys

  -- what follows the mate in its loop, and h in its
  abbrev A : List ℕ
  A = rest m ys

  abbrev B : List ℕ
  B = rest h xs

  h_in : IsIn h xs
  h_in = laws.h_in M sound h goes

  m_in : IsIn m ys
  m_in = laws.m_in M sound h goes

  once : IsApart all
  once = laws.apart_both M sound h goes

  before_is : s ≡ state (cycle xs) (cycle ys) table.empty
  before_is = ap (λ z. record s { loose = z }) bare
      ∙ ap (λ t. record { model = record M { loops = t }; loose = table.empty; room = s.room }) (sym (two.held_before loops (cycle xs) (cycle ys) r_row l_row))

  fits_one : Fits all (cycle xs) (cycle ys)
  fits_one = record { some = λ x. omega (arith, count-append x xs ys) }

  pub join_asks : (n : ℕ) → n ≡ m → CanJoin s h n
  join_asks n e = two.join_asks loops s.room table.empty fits_one h m h_in m_in s n before_is e

  fits_two : Fits all (cycle as_join) (cycle [])
  fits_two = record { some = λ x. omega (arith, count-append x xs ys, count-joined h m xs ys once h_in m_in x) }

  one_is : one ≡ state (cycle as_join) (cycle []) table.empty
  one_is = ap (λ t. join t h m) before_is ∙ two.join_parts loops s.room table.empty fits_one h m h_in m_in

  m_joined : IsIn m as_join
  m_joined = omega (arith, count-joined h m xs ys once h_in m_in m, m_in)

  -- what the edge that is killed asks
  pub m_stands : IsStanding one.model m
  m_stands = subst (λ (t : Store). IsStanding t.model m) (sym one_is)
      (two.standing_r loops fits_two m m_joined)

  abbrev kept : List ℕ
  kept = canonical (B ++ h ∷ A)

  first_is : take_out one m ≡ state (cycle kept) (cycle []) (table.put table.empty m (m ∷ []))
  first_is = ap (λ t. take_out t m) one_is
      ∙ two.take_out_r loops s.room table.empty fits_two m m_joined (rest_joined h m xs ys once h_in m_in)
      ∙ ap (λ c. state c (cycle []) (table.put table.empty m (m ∷ []))) (cycle_filled (B ++ h ∷ A) (tail M m) (λ e. no_cons h A (both_empty B _ e).1))

  count_kept : (x : ℕ) → count x kept ≡ count x B + count x (h ∷ A)
  count_kept x = count-canonical x (B ++ h ∷ A) ∙ count-append x B (h ∷ A)

  fits_three : Fits all (cycle kept) (cycle [])
  fits_three = record { some = λ x. omega (arith, count_kept x, count_at x h xs h_in, count_at x m ys m_in, count-append x xs ys) }

  h_kept : IsIn h kept
  h_kept = omega (arith, count_kept h, tick_same h)

  pub h_stands : IsStanding (take_out one m).model h
  h_stands = subst (λ (t : Store). IsStanding t.model h) (sym first_is)
      (two.standing_r loops fits_three h h_kept)

  some_follow : A ++ B ≢ []
  unfolding after_half
  some_follow e = laws.m_on M sound h goes (ap (head_or m) (both_empty A B e).0)

  second_is : take_out (take_out one m) h ≡ state (cycle (canonical (A ++ B))) (cycle []) (pair m h mate_is_other)
  second_is = ap (λ t. take_out t h) first_is
      ∙ two.take_out_r loops s.room (table.put table.empty m (m ∷ [])) fits_three h h_kept (rest_both h m xs ys once h_in m_in)
      ∙ ap (λ c. state c (cycle []) (pair m h mate_is_other)) (cycle_filled (A ++ B) (tail M h) some_follow)

  -- what the loop that goes asks
  abbrev less : Table LoopRow → Table (List ℕ) → Store
  less t z = record s { model = record M { loops = t; edges = table.remove M.edges (edge_of h) }; loose = z }

  abbrev joined_loops : Table LoopRow
  joined_loops = (two.holding loops (cycle (canonical (A ++ B))) (cycle [])).loops

  edgeless_is : edgeless ≡ less joined_loops table.empty
  unfolding take_edge
  edgeless_is = ap (λ t. take_edge t (edge_of h)) second_is ∙ ap (less joined_loops) (edge_gone h mate_is_other)

  pub gone_bare : (p : Store) (n : ℕ) → n ≡ l → p ≡ edgeless → (table.has p.model.loops n ≡ true) × (items_of (content p.model n) ≡ [])
  gone_bare p n en e = two.emptied_l loops (cycle (canonical (A ++ B))) p.model n en (ap (λ (t : Store). t.model.loops) (e ∙ edgeless_is))

  loopless_is : loopless ≡ less (table.remove (table.put M.loops r (record { face = face_of M r; content = cycle (canonical (A ++ B)) })) l) table.empty
  loopless_is = ap (λ t. take_loop t l) edgeless_is
      ∙ ap (λ t. less t table.empty) (two.gone_l loops (cycle (canonical (A ++ B))) (cycle []))

  face_there : table.has M.faces (face_at M m) ≡ true
  face_there = sound.loops_of_faces l (ap is_some l_row)

  pub face_still : (p : Store) (n : ℕ) → n ≡ face_at M m → p ≡ loopless → table.has p.model.faces n ≡ true
  face_still p n en e = ap (table.has p.model.faces) en ∙ ap (λ (t : Store). table.has t.model.faces (face_at M m)) (e ∙ loopless_is) ∙ face_there

  abbrev with_loops : Table LoopRow → Table (List ℕ) → Store
  with_loops t z = record s { model = record M { faces = table.remove M.faces (face_at M m); loops = t; edges = table.remove M.edges (edge_of h) }; loose = z }

  -- together they are kef
  pub made_is : made ≡ after s (Kef half)
  unfolding effect kef
  made_is = ap (λ t. take_face t (face_at M m)) loopless_is
      ∙ ap (with_loops (table.remove (table.put M.loops r (record { face = face_of M r; content = cycle (canonical (A ++ B)) })) l)) (sym bare)
      ∙ ap (λ t. with_loops t s.loose) (sym (laws.loops_are M sound h goes))
