use Rattle.std.specs.Prelude.{◌≡◌, take}
use Rattle.undo_journal.proofs.Prelude.{IsReady, all_after}
use Rattle.undo_journal.proofs.steps.replay_all.Given as goal

abbrev pub invariant-loop-op : goal.invariant-loop-op
invariant-loop-op l = record { effects : l.arena ≡ all_after l.fn.arena (take l.op-index l.ops); ready : IsReady l.arena }
