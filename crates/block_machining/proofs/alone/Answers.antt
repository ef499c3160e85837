use Rattle.block_machining.proofs.Prelude.{pos, refl, ap, ◌∙◌, block, block_refusal, start, Point, alone}
use Rattle.block_machining.proofs.Known.{begins, never_refused}
use Rattle.block_machining.proofs.Computed.{start_free, start_left}
use Rattle.block_machining.proofs.alone.Goals as goal

abbrev corner : Point
corner = record { x = pos 10; y = pos 0; z = pos 0 }

pub but_for_memory-requires : goal.but_for_memory-requires
but_for_memory-requires c refusal is =
    let fits = c.blocks_fit.ensures start 3 corner (pos 2) (pos 2) (pos 2) refl start_free refl refl refl refl refl start_left in
    never_refused (λ m. block_refusal m 3 corner (pos 2) (pos 2) (pos 2)) (begins c.in_ok-session.session c.in_ok-session.ensures) fits refusal ((c.block-session.ensures.refused refusal).0 is)

pub returns-clause-third : goal.returns-clause-third
returns-clause-third c =
    let made = rw c.in_ok-but_for_memory.ensures at c.block-session.ensures.ok in
    c.block_measures.ensures.solid c.in_ok-session.session.machine c.block-session.result.0.machine 3 _ _ _ _ c.block-session.ensures.sound made.0 made.1

pub returns-clause-made : goal.returns-clause-made
unfolding alone
returns-clause-made c =
    let made = rw c.in_ok-but_for_memory.ensures at c.block-session.ensures.ok in
    made.1 ∙ ap (λ m. block m 3 corner (pos 2) (pos 2) (pos 2)) (begins c.in_ok-session.session c.in_ok-session.ensures)
