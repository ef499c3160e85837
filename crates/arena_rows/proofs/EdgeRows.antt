-- A half-edge starts elsewhere; an edge is put, and one goes.
use Rattle.arena_rows.proofs.Prelude.{◌≡◌, ℕ, true, [], ◌∷◌, Some, is_some, refl, sym, ap, ◌∙◌, arith, inl, inr, or_zero, of_spot, plus, minus, ArenaRows, Store, Spots, codes, live, label, ring, AreRings, store_of, RowsAreTied, AreLoops, loose_row, put_edge, take_edge, woken, asleep, get, tabulate}
use Rattle.arena_rows.specs.Common.{set_tail}
use Rattle.arena_rows.specs.ring_spots.Spots as ring_spots
use Rattle.arena_rows.proofs.ring_spots_laws.SpotTables.{loose_alike, loose_same}
use Rattle.arena_rows.proofs.Tellings.{loops_same, loops_kept, Makes, store_is, tied_as}
use Rattle.arena_rows.proofs.ring_spots_laws.SpotLaws.{AreRings-set_tail, live-set_tail, label-set_tail, ring-set_tail}
use Rattle.arena_rows.proofs.ring_spots_laws.EdgeSpots.{IsFree, edges_tail, w_plus, w_minus, w_other, w_old, w_cases, old_ring, w_rings, w_label, w_loose, w_edges, s_other, s_left, s_ring, s_rings, s_label, s_named, s_loose, s_edges, alone_ring}

module _ (arena : ArenaRows) (tied : RowsAreTied arena) where
  open arena use {spots}
  open tied use {rings, loops_tied as are}

  abbrev store : Store
  store = store_of arena

  module _ (h v : ℕ) (a : live spots h ≡ true) where
    abbrev moved : Spots
    moved = ring_spots.set_tail spots h v

    m_rings : AreRings moved
    m_rings = AreRings-set_tail spots rings h v

    m_loops : AreLoops moved arena.loops
    m_loops = loops_kept spots moved arena.loops are tied.loops_fit.no_zero (λ c a n. (live-set_tail spots h v c ∙ a, label-set_tail spots h v c, ring-set_tail spots rings h v c)) (λ c a n. (sym (live-set_tail spots h v c) ∙ a, λ z. n (label-set_tail spots h v c ∙ z)))

    pub tail_as : Makes arena moved arena.loops (set_tail store h v)
    unfolding set_tail
    tail_as = tied_as arena tied moved arena.loops (set_tail store h v) m_rings (λ t. sym (live-set_tail spots h v 0) ∙ t) m_loops tied.loops_fit
        (store_is arena moved arena.loops _ _ _ refl (edges_tail spots rings h v a) (loops_same spots moved arena.loops are (λ c _ _. ring-set_tail spots rings h v c) tied.loops_fit.no_zero)
        (loose_same spots moved (λ k. loose_alike spots moved k (live-set_tail spots h v k) (label-set_tail spots h v k) (ring-set_tail spots rings h v k))))

  -- an edge whose two codes were asleep
  module _ (e u v : ℕ) (g : IsFree spots arena.known e) where
    abbrev wide : Spots
    wide = woken (woken spots (plus e) u) (minus e) v

    w_loops : AreLoops wide arena.loops
    w_loops = loops_kept spots wide arena.loops are tied.loops_fit.no_zero
        (λ c a n. (ap is_some (w_old spots rings e u v g.limit g.dead_plus g.dead_minus c a) ∙ a, w_label spots rings e u v g.limit g.dead_plus g.dead_minus c a, (old_ring spots rings e u v g.limit g.dead_plus g.dead_minus c a).0))
        (λ c a n. elim (w_cases spots rings e u v g.limit g.dead_plus g.dead_minus c a) [
          | inl p ↦ absurd (n (ap (label wide) p ∙ ap (λ o. or_zero (of_spot (λ s. s.label) o)) (w_plus spots rings e u v g.limit g.dead_plus g.dead_minus)))
          | inr (inl p) ↦ absurd (n (ap (label wide) p ∙ ap (λ o. or_zero (of_spot (λ s. s.label) o)) (w_minus spots rings e u v g.limit g.dead_plus g.dead_minus)))
          | inr (inr b) ↦ (b, λ z. n (w_label spots rings e u v g.limit g.dead_plus g.dead_minus c b ∙ z))
        ])

    pub edge_as : Makes arena wide arena.loops (put_edge store e u v)
    unfolding put_edge
    edge_as = tied_as arena tied wide arena.loops (put_edge store e u v) (w_rings spots rings e u v g.limit g.dead_plus g.dead_minus)
        (λ t. sym (ap is_some (w_other spots rings e u v g.limit g.dead_plus g.dead_minus 0 (λ z. g.some (omega arith)) (λ z. g.some (omega arith)))) ∙ t) w_loops tied.loops_fit
        (store_is arena wide arena.loops _ _ _ refl (w_edges spots rings e u v g.limit g.dead_plus g.dead_minus)
        (loops_same spots wide arena.loops are (λ c a _. (old_ring spots rings e u v g.limit g.dead_plus g.dead_minus c a).0) tied.loops_fit.no_zero) (w_loose spots rings e u v g.limit g.dead_plus g.dead_minus))

  -- an edge whose two half-edges are loose, each alone
  module _ (e : ℕ) (at_plus : get (tabulate (loose_row spots) codes) (plus e) ≡ Some (plus e ∷ [])) (at_minus : get (tabulate (loose_row spots) codes) (minus e) ≡ Some (minus e ∷ [])) where
    abbrev less : Spots
    less = asleep (asleep spots (plus e)) (minus e)

    one_plus : ring spots (plus e) ≡ plus e ∷ []
    one_plus = alone_ring spots rings (plus e) at_plus

    one_minus : ring spots (minus e) ≡ minus e ∷ []
    one_minus = alone_ring spots rings (minus e) at_minus

    s_loops : AreLoops less arena.loops
    s_loops = loops_kept spots less arena.loops are tied.loops_fit.no_zero
        (λ c a n. let m = s_named spots rings e at_plus at_minus c n in (ap is_some (s_other spots rings e one_plus one_minus c m.0 m.1) ∙ a, s_label spots rings e at_plus at_minus c m.0 m.1, (s_ring spots rings e one_plus one_minus c a m.0 m.1).0))
        (λ c a n. let l = s_left spots rings e one_plus one_minus c a in (l.2, λ z. n (s_label spots rings e at_plus at_minus c l.0 l.1 ∙ z)))

    pub gone_as : Makes arena less arena.loops (take_edge store e)
    unfolding take_edge
    gone_as = tied_as arena tied less arena.loops (take_edge store e) (s_rings spots rings e one_plus one_minus) (λ h. (s_left spots rings e one_plus one_minus 0 h).2) s_loops tied.loops_fit
        (store_is arena less arena.loops _ _ _ refl (s_edges spots rings e at_plus at_minus)
        (loops_same spots less arena.loops are (λ c a n. let m = s_named spots rings e at_plus at_minus c n in (s_ring spots rings e one_plus one_minus c a m.0 m.1).0) tied.loops_fit.no_zero) (s_loose spots rings e at_plus at_minus))
