use Rattle.undo_journal.proofs.Prelude.{sym, subst, ap, ◌∙◌, AreAccepted, Record, all_after}
use Rattle.undo_journal.specs.Records.{forward_of}
use Rattle.undo_journal.proofs.record.Record.replay.Goals as goal

pub replay_block-requires-clause-accepted : goal.replay_block-requires-clause-accepted
replay_block-requires-clause-accepted c =
    let kept = sym (ap forward_of c.in-Block.is) ∙ ap (λ (r : Record). r.forward) c.self.view_is in
    subst (AreAccepted c.args.arena.now.model) (sym kept) c.requires.accepted

pub returns-in-Block-clause-effects : goal.returns-in-Block-clause-effects
returns-in-Block-clause-effects c =
    let kept = sym (ap forward_of c.in-Block.is) ∙ ap (λ (r : Record). r.forward) c.self.view_is in
    c.replay_block.ensures.effects ∙ ap (all_after c.args.arena.now) kept
