use Rattle.undo_journal.proofs.Prelude.{sym, subst, ◌∙◌, arith, ◌≡◌, length, vec_len, IsMark}
use Rattle.undo_journal.proofs.Seen.{mark_seen}
use Rattle.undo_journal.proofs.draft.Draft.mark.Goals as goal

pub returns : goal.returns
returns c =
    let forward = c.self.inside.steps in
    let is : vec_len forward ≡ length forward.items = omega (arith, forward.ok.0) in
    subst (IsMark c.args.self.now) (sym (c.len.ensures ∙ is)) (mark_seen _ _ _ _ _ _ c.self.invariant.1 c.self.view_is)
