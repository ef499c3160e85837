use Rattle.undo_journal.proofs.Prelude.{sym, subst, ap, ◌∙◌, ◌≡◌, ◌+◌, ◌++◌, List, [], ◌∷◌, take, Op, Record, journal_of, command_of, IsKept, step_inverses, block_steps, DraftJournal}
use Rattle.undo_journal.proofs.Inverses.{turned}
use Rattle.undo_journal.proofs.BlockSteps.{none_kept}
use Rattle.undo_journal.proofs.Kept.{kept_commit}
use Rattle.undo_journal.proofs.Seen.{commit_seen}
use Rattle.undo_journal.proofs.draft.Draft.commit_block.Goals as goal

abbrev inverses : (c : goal.After-push_reserved) → List Op
inverses c = step_inverses c.self.inside.steps.items c.self.inside.untold.items

abbrev steps : (c : goal.After-push_reserved) → block_steps c.args.block ≡ c.self.inside.steps.items
steps c = c.requires.steps ∙ sym (ap (λ (d : DraftJournal). d.forward) c.self.view_is)

abbrev command : (c : goal.After-push_reserved) → c.of_block.result ≡ command_of c.self.inside.steps.items (inverses c)
command c =
    let back = c.of_block.ensures.back ∙ none_kept c.args.block _ c.self.inside.untold.items (steps c) ∙ sym (turned c.self.inside.steps.items c.self.inside.untold.items) in
    let forward = c.of_block.ensures.forward ∙ steps c in
    λ i. record { forward = forward i; back = back i }

abbrev records : (c : goal.After-push_reserved) → c.push_reserved.new.self.items ≡ take c.self.inside.place c.self.inside.records.items ++ command_of c.self.inside.steps.items (inverses c) ∷ []
records c =
    c.push_reserved.ensures.items
    ∙ ap (λ (rs : List Record). rs ++ c.of_block.result ∷ []) c.reuse_ahead.ensures.items
    ∙ ap (λ (r : Record). take c.self.inside.place c.self.inside.records.items ++ r ∷ []) (command c)

pub invariant_of-result : goal.invariant_of-result
invariant_of-result c =
    subst (λ (rs : List Record). IsKept c.self.inside.arena.value rs (c.self.inside.place + 1)) (sym (records c)) (kept_commit _ _ _ _ _ c.self.invariant.1)

pub returns : goal.returns
returns c =
    ap (λ (rs : List Record). journal_of c.self.inside.arena.value.model rs (c.self.inside.place + 1)) (records c)
    ∙ commit_seen _ _ _ _ _ _ c.self.invariant.1 c.self.view_is
