use Rattle.block_machining.proofs.Prelude.{◌+◌, pos, refl, ap, subst, ◌∙◌, arith, block, block_refusal, held, origin, IsFaceOf, last_face, alone, near_side, standing}
use Rattle.block_machining.proofs.Known.{never_refused}
use Rattle.block_machining.proofs.Computed.{alone_free, alone_last, alone_left}
use Rattle.block_machining.proofs.standing.Goals as goal

pub but_for_memory-requires : goal.but_for_memory-requires
but_for_memory-requires c refusal is =
    let fits = c.blocks_fit.ensures alone 1 origin (pos 4) (pos 3) (pos 2) refl alone_free refl refl refl refl refl alone_left in
    never_refused (λ m. block_refusal m 1 origin (pos 4) (pos 3) (pos 2)) c.in_ok-session.ensures.made fits refusal ((c.block-session.ensures.refused refusal).0 is)

pub returns-clause-first : goal.returns-clause-first
returns-clause-first c =
    let made = rw c.in_ok-but_for_memory.ensures at c.block-session.ensures.ok in
    c.block_measures.ensures.solid c.in_ok-session.session.machine c.block-session.result.0.machine 1 _ _ _ _ c.block-session.ensures.sound made.0 made.1

pub returns-clause-third : goal.returns-clause-third
returns-clause-third c =
    let made = rw c.in_ok-but_for_memory.ensures at c.block-session.ensures.ok in
    c.block_measures.ensures.others c.in_ok-session.session.machine c.block-session.result.0.machine 1 _ _ _ _ 3 c.block-session.ensures.sound made.0 made.1 (λ e. omega (arith, e)) ∙ c.in_ok-session.ensures.third

pub returns-clause-near : goal.returns-clause-near
returns-clause-near c =
    let made = rw c.in_ok-but_for_memory.ensures at c.block-session.ensures.ok in
    let face = c.blocks_make_faces.ensures.sides c.in_ok-session.session.machine c.block-session.result.0.machine 1 _ _ _ _ 1 c.block-session.ensures.sound made (omega arith) in
    subst (λ g. IsFaceOf (held c.block-session.result.0.machine) (g + 3 + 1) 1 near_side) (ap last_face c.in_ok-session.ensures.made ∙ alone_last) face

pub returns-clause-flat : goal.returns-clause-flat
returns-clause-flat c = c.faces_lie_flat.ensures.block c.in_ok-session.session.machine c.block-session.result.0.machine 1 _ _ _ _ c.block-session.ensures.sound (rw c.in_ok-but_for_memory.ensures at c.block-session.ensures.ok)

pub returns-clause-made : goal.returns-clause-made
unfolding standing
returns-clause-made c =
    let made = rw c.in_ok-but_for_memory.ensures at c.block-session.ensures.ok in
    made.1 ∙ ap (λ m. block m 1 origin (pos 4) (pos 3) (pos 2)) c.in_ok-session.ensures.made
