use Rattle.block_machining.proofs.Prelude.{◌+◌, pos, refl, ap, sym, subst, ◌∙◌, arith, block, block_refusal, held, IsFaceOf, last_face, HasSolids, at, far_side, near_side, three_blocks, standing}
use Rattle.block_machining.proofs.Known.{never_refused}
use Rattle.block_machining.proofs.Computed.{three_blocks_there, standing_free, standing_last, standing_left}
use Rattle.block_machining.proofs.three_blocks.Goals as goal

pub but_for_memory-requires : goal.but_for_memory-requires
but_for_memory-requires c refusal is =
    let fits = c.blocks_fit.ensures standing 2 (at (pos 0) (pos 0)) (pos 1) (pos 3) (pos 2) refl standing_free refl refl refl refl refl standing_left in
    never_refused (λ m. block_refusal m 2 (at (pos 0) (pos 0)) (pos 1) (pos 3) (pos 2)) c.in_ok-session.ensures.made fits refusal ((c.block-session.ensures.refused refusal).0 is)

pub returns-clause-made : goal.returns-clause-made
unfolding three_blocks
returns-clause-made c =
    let made = rw c.in_ok-but_for_memory.ensures at c.block-session.ensures.ok in
    made.1 ∙ ap (λ m. block m 2 (at (pos 0) (pos 0)) (pos 1) (pos 3) (pos 2)) c.in_ok-session.ensures.made

pub returns-clause-there : goal.returns-clause-there
returns-clause-there c = subst (λ m. HasSolids (held m) 1 2 3) (sym (returns-clause-made c)) three_blocks_there

pub returns-clause-first : goal.returns-clause-first
returns-clause-first c =
    let made = rw c.in_ok-but_for_memory.ensures at c.block-session.ensures.ok in
    c.block_measures.ensures.others c.in_ok-session.session.machine c.block-session.result.0.machine 2 _ _ _ _ 1 c.block-session.ensures.sound made.0 made.1 (λ e. omega (arith, e)) ∙ c.in_ok-session.ensures.first

pub returns-clause-second : goal.returns-clause-second
returns-clause-second c =
    let made = rw c.in_ok-but_for_memory.ensures at c.block-session.ensures.ok in
    c.block_measures.ensures.solid c.in_ok-session.session.machine c.block-session.result.0.machine 2 _ _ _ _ c.block-session.ensures.sound made.0 made.1

pub returns-clause-third : goal.returns-clause-third
returns-clause-third c =
    let made = rw c.in_ok-but_for_memory.ensures at c.block-session.ensures.ok in
    c.block_measures.ensures.others c.in_ok-session.session.machine c.block-session.result.0.machine 2 _ _ _ _ 3 c.block-session.ensures.sound made.0 made.1 (λ e. omega (arith, e)) ∙ c.in_ok-session.ensures.third

-- the side of the first block stands as it did
pub returns-clause-near : goal.returns-clause-near
returns-clause-near c =
    let made = rw c.in_ok-but_for_memory.ensures at c.block-session.ensures.ok in
    let side = c.in_ok-session.ensures.near in
    c.faces_stand.ensures (held c.in_ok-session.session.machine) (held c.block-session.result.0.machine) 10 1 near_side
    (c.blocks_leave_alone.ensures.shapes c.in_ok-session.session.machine c.block-session.result.0.machine 2 _ _ _ _ c.block-session.ensures.sound made 10 side.there tt) side

pub returns-clause-far : goal.returns-clause-far
returns-clause-far c =
    let made = rw c.in_ok-but_for_memory.ensures at c.block-session.ensures.ok in
    let face = c.blocks_make_faces.ensures.sides c.in_ok-session.session.machine c.block-session.result.0.machine 2 _ _ _ _ 3 c.block-session.ensures.sound made (omega arith) in
    subst (λ g. IsFaceOf (held c.block-session.result.0.machine) (g + 3 + 3) 2 far_side) (ap last_face c.in_ok-session.ensures.made ∙ standing_last) face

pub returns-clause-flat : goal.returns-clause-flat
returns-clause-flat c =
    let before = c.in_ok-session.session.machine in
    let after = c.block-session.result.0.machine in
    let made = rw c.in_ok-but_for_memory.ensures at c.block-session.ensures.ok in (
      c.faces_lie_flat.ensures.kept before after 2 _ _ _ _ 1 c.block-session.ensures.sound made (λ e. omega (arith, e)) c.in_ok-session.ensures.flat,
      c.faces_lie_flat.ensures.block before after 2 _ _ _ _ c.block-session.ensures.sound made,
    )
