use Rattle.undo_journal.proofs.Turns.{accepts_at, after_next}
use Rattle.std.proofs.Common.{◌∙◌}
use Rattle.undo_journal.proofs.steps.replay_all.Goals as goal

pub replay-requires : goal.replay-requires
replay-requires c = accepts_at c.args.arena.now c.loop-op.arena c.args.ops.now c.loop-op.op-index _ c.loop-op-test.true c.op-item.is c.requires.accepted c.requires.room c.loop-op.invariant.effects c.loop-op.invariant.ready

pub loop-op-preserved : goal.loop-op-preserved
loop-op-preserved c = record {
  effects = c.replay.ensures.effect ∙ after_next c.args.arena.now c.loop-op.arena c.args.ops.now c.loop-op.op-index _ c.loop-op-test.true c.op-item.is c.loop-op.invariant.effects;
  ready = c.replay.ensures.ready;
}
