use Rattle.undo_journal.proofs.Prelude.{ap, subst, sym, ◌∙◌, ◌≡◌, Accepts, after, block_steps}
use Rattle.euler_operators.specs.declared.Op.TheVariants.{Mev}
use Rattle.undo_journal.proofs.BlockSteps.{read_is}
use Rattle.undo_journal.proofs.blocks.make_step.Goals as goal

pub mev-requires : goal.mev-requires
mev-requires c =
    let corners : Mev c.corner.result c.corner-in-Mev.result c.in-Mev.half c.in-Mev.vertex c.in-Mev.point ≡ Mev c.in-Mev.from c.in-Mev.to c.in-Mev.half c.in-Mev.vertex c.in-Mev.point = λ i. Mev (c.corner.ensures i) (c.corner-in-Mev.ensures i) c.in-Mev.half c.in-Mev.vertex c.in-Mev.point in
    subst (Accepts c.args.arena.now) (read_is (block_steps c.args.block.now) c.args.index _ _ c.block_step.ensures c.requires.inside c.in-Mev.is ∙ sym corners) c.requires.accepted

pub returns-in-Mev : goal.returns-in-Mev
returns-in-Mev c =
    let corners : Mev c.corner.result c.corner-in-Mev.result c.in-Mev.half c.in-Mev.vertex c.in-Mev.point ≡ Mev c.in-Mev.from c.in-Mev.to c.in-Mev.half c.in-Mev.vertex c.in-Mev.point = λ i. Mev (c.corner.ensures i) (c.corner-in-Mev.ensures i) c.in-Mev.half c.in-Mev.vertex c.in-Mev.point in
    c.mev.ensures ∙ ap (after c.args.arena.now) (corners ∙ sym (read_is (block_steps c.args.block.now) c.args.index _ _ c.block_step.ensures c.requires.inside c.in-Mev.is))
