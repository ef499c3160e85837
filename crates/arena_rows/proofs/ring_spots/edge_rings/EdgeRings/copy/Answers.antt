use Rattle.arena_rows.proofs.Prelude.{◌≡◌, ℕ, List, refl, sym, ap, ◌∙◌, subst, arith, contains_key, RingMap, spot, Labels, map_in_loops, AreEdges, AreEdgeRings, HaveMoreRoom}
use Rattle.arena_rows.proofs.ring_spots_laws.LabelEdges.{labelled-room}
use Rattle.arena_rows.proofs.ring_spots.edge_rings.EdgeRings.copy.Goals as goal

-- what is so of edge rings is so of their copies
copied : (m new : RingMap) (t copy : Labels) (words more : List ℕ) → AreEdgeRings m t words → new ≡ m → copy.loops.items ≡ t.loops.items → HaveMoreRoom t copy → more ≡ words → AreEdgeRings new copy more
copied m new t copy words more A is rows M same = subst (λ (k : RingMap). AreEdgeRings k copy more) (sym is) (record {
  labelled = labelled-room (spot m) (contains_key m) t A.labelled copy M (spot m) refl (contains_key m) (λ c k. k) (λ c k. omega (arith, A.labelled.room.room c k, M.room));
  edges = subst (λ (xs : List ℕ). AreEdges (map_in_loops xs m) more) (sym rows) (subst (AreEdges (map_in_loops t.loops.items m)) (sym same) A.edges);
})

pub invariant_of-result : goal.invariant_of-result
invariant_of-result c = copied _ _ _ _ _ _ c.self.invariant c.in_ok-copy.ensures c.in_ok-copy-2.ensures.rows c.in_ok-copy-2.ensures.room c.in_ok-copy-3.ensures

pub returns : goal.returns
returns c = ap (λ (xs : List ℕ). map_in_loops xs c.in_ok-copy.field-0) c.in_ok-copy-2.ensures.rows ∙ ap (map_in_loops c.self.inside.labels.loops.items) c.in_ok-copy.ensures ∙ c.self.view_is
