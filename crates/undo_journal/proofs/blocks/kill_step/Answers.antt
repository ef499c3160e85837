use Rattle.undo_journal.proofs.Prelude.{refl, ap, subst, sym, ◌∙◌, [], Accepts, after, taken_back, block_steps}
use Rattle.undo_journal.proofs.BlockSteps.{read_is}
use Rattle.undo_journal.proofs.blocks.kill_step.Goals as goal

pub replay-requires : goal.replay-requires
replay-requires c = subst (Accepts c.args.arena.now) (read_is (taken_back (block_steps c.args.block.now) []) c.args.index _ _ c.block_step_back.ensures c.requires.inside refl) c.requires.accepted

pub returns-in_default : goal.returns-in_default
returns-in_default c = c.replay.ensures.effect ∙ ap (after c.args.arena.now) (sym (read_is (taken_back (block_steps c.args.block.now) []) c.args.index _ _ c.block_step_back.ensures c.requires.inside refl))
