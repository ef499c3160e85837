use Rattle.std.specs.Prelude.{◌≡◌, ◌≤◌, length}
use Rattle.undo_journal.proofs.Prelude.{AreAccepted, IsReady, AllHaveRoom, all_after, taken_back}
use Rattle.undo_journal.proofs.told.replay_back.Given as goal

abbrev pub invariant-ops : goal.invariant-ops
invariant-ops l = record {
  accepted : AreAccepted l.arena.model (taken_back l.rest l.kept);
  room : AllHaveRoom l.arena (taken_back l.rest l.kept);
  effects : all_after l.arena (taken_back l.rest l.kept) ≡ all_after l.fn.arena (taken_back l.ops l.untold);
  ready : IsReady l.arena;
  within : length l.rest ≤ length l.ops;
}

abbrev pub decreases-ops : goal.decreases-ops
decreases-ops l = length l.rest
