use Rattle.std.specs.Prelude.{◌≡◌, ◌≤◌, ◌-◌, take}
use Rattle.undo_journal.proofs.Prelude.{IsReady, all_after, block_steps}
use Rattle.undo_journal.proofs.blocks.replay_block.Given as goal

abbrev pub invariant-steps : goal.invariant-steps
invariant-steps l = record { effects : l.arena ≡ all_after l.fn.arena (take l.index (block_steps l.block)); ready : IsReady l.arena; within : l.index ≤ 13 }

abbrev pub decreases-steps : goal.decreases-steps
decreases-steps l = 13 - l.index
