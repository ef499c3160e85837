use Rattle.halfedge_arena.proofs.Prelude.{sym, ◌∙◌, ap, ◌≡◌, Some, spot, label, next_some, edge_fits, loop_of_is, JoinFacts, join_facts, next_alone, join_kept_as}
use Rattle.halfedge_arena.proofs.arena.Arena.join_alone.Goals as goal
use Rattle.halfedge_arena.proofs.arena.Arena.join_alone.Goals.{After-code-second}

pub code-first-requires : goal.code-first-requires
code-first-requires c = edge_fits _ c.self.invariant.tied _ (rw (← c.self.view_is) at c.requires.a_there)

pub code-second-requires : goal.code-second-requires
code-second-requires c = edge_fits _ c.self.invariant.tied _ (rw (← c.self.view_is) at c.requires.b_there)

-- where the two half-edges live
facts : (c : After-code-second) → JoinFacts (spot c.self.inside.rings) c.code-first.result c.code-second.result
facts c =
    let is = rw (← c.self.view_is) at c.requires in
    rw (c.code-first.ensures, c.code-second.ensures) (join_facts _ c.self.invariant.tied _ _
    (record { a_there = is.a_there; b_there = is.b_there; looped = is.looped; apart = λ e. is.looped (sym e ∙ is.loose) }))

loose : (c : After-code-second) → label (spot c.self.inside.rings) c.code-second.result ≡ 0
loose c = sym (loop_of_is _ c.self.invariant.tied _ (facts c).b_there) ∙ rw (c.code-second.ensures) (rw (← c.self.view_is) at c.requires.loose)

pub join_alone-requires : goal.join_alone-requires
join_alone-requires c =
    let w = (goal.at.join_alone-requires c).After-code-second in
    let g = facts w in
    record {
      a = g.a_there;
      alone = next_some _ _ g.b_there ∙ ap Some (next_alone _ c.self.invariant.tied _ _ g (loose w) (rw (c.code-second.ensures) (rw (← c.self.view_is) at c.requires.alone)));
      apart = g.other;
    }

pub invariant_of-self : goal.invariant_of-self
invariant_of-self c =
    let w = (goal.at.invariant_of-self c).After-code-second in
    record { tied = (join_kept_as _ c.self.invariant.tied _ _ (facts w) (loose w) _ c.join_alone.ensures.known _ c.join_alone.ensures.spots).tied; indexed = c.self.invariant.indexed }

pub returns : goal.returns
returns c =
    let w = (goal.at.returns c).After-code-second in
    rw (← c.self.view_is, ← c.code-first.ensures, ← c.code-second.ensures) (join_kept_as _ c.self.invariant.tied _ _ (facts w) (loose w) _ c.join_alone.ensures.known _ c.join_alone.ensures.spots).is
