use Rattle.halfedge_arena.proofs.Prelude.{◌∙◌, ap, is_some, Some, refl, spot, or_zero, At, label, next_some, edge_fits, IsRefilled, refilled_at, CutFacts, cut_facts, row_of, next_before, cut_loose_as, indexed_refilled}
use Rattle.halfedge_arena.proofs.arena.Arena.cut_alone.Goals as goal
use Rattle.halfedge_arena.proofs.arena.Arena.cut_alone.Goals.{After-code-goes, After-set}

pub code-stays-requires : goal.code-stays-requires
code-stays-requires c = edge_fits _ c.self.invariant.tied _ (rw (← c.self.view_is) at c.requires.a_there)

pub code-goes-requires : goal.code-goes-requires
code-goes-requires c = edge_fits _ c.self.invariant.tied _ (rw (← c.self.view_is) at c.requires.b_there)

-- where the two half-edges live
facts : (c : After-code-goes) → CutFacts (spot c.self.inside.rings) c.self.inside.loops c.code-stays.result c.code-goes.result 0
facts c =
    let is = rw (← c.self.view_is) at c.requires in
    rw (c.code-stays.ensures, c.code-goes.ensures) (cut_facts _ c.self.invariant.tied _ _ 0
    (record { a_there = is.a_there; b_there = is.b_there; looped = is.looped; together = is.together; apart = is.apart; free = λ n. absurd (n refl) }))

pub label-kept-requires : goal.label-kept-requires
label-kept-requires c = (facts (goal.at.label-kept-requires c).After-code-goes).a_there

pub known-face-requires : goal.known-face-requires
known-face-requires c =
    let g = facts (goal.at.known-face-requires c).After-code-goes in
    row_of _ c.self.invariant.tied _ _ g.a_there g.looped (ap or_zero c.label-kept.ensures)

pub cut_alone-requires-clause-follows : goal.cut_alone-requires-clause-follows
cut_alone-requires-clause-follows c =
    let g = facts (goal.at.cut_alone-requires-clause-follows c).After-code-goes in
    next_some _ _ g.a_there ∙ ap Some (next_before _ c.self.invariant.tied _ _ 0 g (rw (c.code-stays.ensures, c.code-goes.ensures) (rw (← c.self.view_is) at c.requires.before)))

pub cut_alone-requires-clause-apart : goal.cut_alone-requires-clause-apart
cut_alone-requires-clause-apart c = (facts (goal.at.cut_alone-requires-clause-apart c).After-code-goes).apart

pub set-requires : goal.set-requires
set-requires c = ap is_some c.known-face.ensures

-- the row of the loop
written : (c : After-set) → IsRefilled c.self.inside.loops c.set.new.self (label (spot c.self.inside.rings) c.code-stays.result) (At c.code-stays.result)
written c = refilled_at _ (ap or_zero c.label-kept.ensures) c.known-face.ensures c.set.ensures

pub invariant_of-self : goal.invariant_of-self
invariant_of-self c =
    let w = goal.at.invariant_of-self c in record {
      tied = (cut_loose_as _ c.self.invariant.tied _ _ _ (facts w.After-code-goes) _ (written w.After-set) refl _ c.cut_alone.ensures.known _ c.cut_alone.ensures.spots).tied;
      indexed = indexed_refilled _ _ _ _ _ c.self.invariant.indexed _ _ _ (written w.After-set);
    }

pub returns : goal.returns
returns c =
    let w = goal.at.returns c in
    rw (← c.self.view_is, ← c.code-stays.ensures, ← c.code-goes.ensures) (cut_loose_as _ c.self.invariant.tied _ _ _ (facts w.After-code-goes) _ (written w.After-set) refl _ c.cut_alone.ensures.known _ c.cut_alone.ensures.spots).is
