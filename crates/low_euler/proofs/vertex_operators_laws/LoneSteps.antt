-- An edge made at a lone loop by the writers of an arena.
use Rattle.low_euler.proofs.Prelude.{◌≡◌, ◌≢◌, ℕ, ◌+◌, true, false, List, [], ◌∷◌, is_some, refl, sym, ap, subst, ◌∙◌, arith, true≢false, Point, count, tick, canonical, put_ring, HalfEdge, At, Lone, code, cycle, items_of, loop_of, cycle_of, face_of, content, is_number, StandsIn, lone_vertex, is_lone, effect, mev_lone, tick_other, tick_le, apart_front, rotate_to_head, canonical_same, mate_other, edge_of-code, Mev, lone_goes, Store, put_vertex, fill, with_loop, Accepts, after, LoopsStandApart, IsStanding, IsLoose, IsUnused, CanTake, with_edge, put_before, make_edge}
use Rattle.euler_operators.specs.Table as table
use Rattle.euler_laws.proofs.mev.MevLoneSound.{LoneGoes}
use Rattle.low_euler.proofs.steps_laws.Spots.{spots}
use Rattle.low_euler.proofs.steps_laws.StoreSteps.{content_written, written_again}
use Rattle.low_euler.proofs.steps_laws.LoopsApart.{placed_of, placed-same, placed-edge, placed_with, stands_there, standing_of, unused_of}
use Rattle.low_euler.proofs.steps_laws.EdgeSteps.{first_key, first_ring, first_loose, second_key, none_loose}

module _ (s : Store) (l : ℕ) (half : HalfEdge) (v : ℕ) (p : Point) (ok : Accepts s (Mev (Lone l) (Lone l) half v p)) where
  open s use {model as M}
  open ok.ready use {sound, bare}
  open spots s (code half) use {h, m}

  pub goes : LoneGoes s.model l (code half) v (lone_vertex (content s.model l)) p
  goes = lone_goes s.model l l half v p ok.holds

  abbrev u : ℕ
  u = lone_vertex (content s.model l)

  pub is_lone_there : is_lone (content s.model l) ≡ true
  is_lone_there = ap is_lone goes.is_lone

  -- the steps
  abbrev pub begun : Store
  begun = put_vertex s v p

  abbrev edged : Store
  edged = with_edge begun h u v

  abbrev first_in : Store
  first_in = fill edged l h

  -- what the new edge asks
  pub edge_free : table.has begun.model.edges half.edge ≡ false
  edge_free = ap is_some (ap (table.get M.edges) (sym (edge_of-code half)) ∙ goes.edge_free)

  placed : LoopsStandApart begun.model
  placed = placed-same M begun.model refl (λ x t. t) (placed_of M sound)

  pub unused : IsUnused begun h
  unused = unused_of begun placed bare h u v goes.edge_free

  pub lone_takes : CanTake edged.model (Lone l)
  unfolding with_edge content
  lone_takes = (goes.loop_there, ap items_of goes.is_lone)

  -- the loop holds h alone then
  abbrev filled : Store
  filled = record edged { model = with_loop edged.model l (cycle (h ∷ [])); loose = table.remove edged.loose h }

  first_is : first_in ≡ filled
  unfolding fill
  first_is = λ i. record edged { model = with_loop edged.model l (cycle (first_ring begun h u v unused i)); loose = table.remove edged.loose (first_key begun h u v unused i) }

  l_real : l ≢ 0
  l_real e = true≢false (sym (sound.loops_fit l goes.loop_there) ∙ ap is_number e)

  alone : IsLoose edged h
  alone = first_loose begun h u v unused

  placed_edged : LoopsStandApart edged.model
  placed_edged = placed-edge begun placed bare h u v goes.edge_free

  count_filled : (x : ℕ) → count x (h ∷ []) ≡ tick x h + count x (items_of (content edged.model l))
  count_filled x = omega (arith, ap (count x) lone_takes.1)

  placed_filled : LoopsStandApart filled.model
  placed_filled = placed_with edged.model placed_edged l h (h ∷ []) l_real alone.there alone.nowhere count_filled

  h_there : StandsIn filled.model h l
  h_there = stands_there edged.model placed_edged l h (h ∷ []) l_real alone.there alone.nowhere count_filled

  loop_h : loop_of filled.model h ≡ l
  loop_h = placed_filled.one_loop h l h_there

  pub half_stands : IsStanding first_in.model h
  half_stands = subst (λ (t : Store). IsStanding t.model h) (sym first_is) (standing_of filled.model placed_filled h (subst (StandsIn filled.model h) (sym loop_h) h_there))

  -- and then both
  turned : canonical (m ∷ h ∷ []) ≡ canonical (h ∷ m ∷ [])
  turned = canonical_same (m ∷ h ∷ []) (h ∷ m ∷ []) (record { front = m ∷ []; back = h ∷ []; here = refl; there = refl })
      (apart_front m (h ∷ []) (omega (arith, tick_other m h (λ e. mate_other h (sym e)))) (λ x. omega (arith, tick_le x h)))

  abbrev as_put : Store → ℕ → List ℕ → ℕ → Store
  as_put t q ring k = record t { model = with_loop t.model q (cycle ring); loose = table.remove t.loose k }

  pub made_is : make_edge begun (Lone l) (At half) h u v ≡ after s (Mev (Lone l) (Lone l) half v p)
  unfolding effect mev_lone with_edge put_before face_of
  made_is =
      ap (λ k. as_put first_in (loop_of first_in.model h) (put_ring m h (cycle_of first_in.model h)) k) (second_key begun h u v unused (Lone l))
      ∙ ap (λ (t : Store). as_put t (loop_of t.model h) (put_ring m h (cycle_of t.model h)) m) first_is
      ∙ ap (λ q. as_put filled q (put_ring m h (items_of (content filled.model q))) m) loop_h
      ∙ ap (λ c. as_put filled l (put_ring m h (items_of c)) m) (content_written edged.model l (cycle (h ∷ [])))
      ∙ ap (λ hs. as_put filled l (canonical (m ∷ hs)) m) (rotate_to_head h [])
      ∙ ap (λ ring. as_put filled l ring m) turned
      ∙ (λ i. record edged { model = written_again edged.model l (cycle (h ∷ [])) (cycle (canonical (h ∷ m ∷ []))) i; loose = none_loose begun h u v unused i })
