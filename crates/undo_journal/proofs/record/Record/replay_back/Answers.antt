use Rattle.undo_journal.proofs.Prelude.{sym, subst, ap, ◌∙◌, AreAccepted, Record, all_after}
use Rattle.undo_journal.specs.Records.{back_of}
use Rattle.undo_journal.proofs.record.Record.replay_back.Goals as goal

pub replay_block_back-requires-clause-accepted : goal.replay_block_back-requires-clause-accepted
replay_block_back-requires-clause-accepted c =
    let kept = sym (ap back_of c.in-Block.is) ∙ ap (λ (r : Record). r.back) c.self.view_is in
    subst (AreAccepted c.args.arena.now.model) (sym kept) c.requires.accepted

pub returns-in-Block-clause-effects : goal.returns-in-Block-clause-effects
returns-in-Block-clause-effects c =
    let kept = sym (ap back_of c.in-Block.is) ∙ ap (λ (r : Record). r.back) c.self.view_is in
    c.replay_block_back.ensures.effects ∙ ap (all_after c.args.arena.now) kept
