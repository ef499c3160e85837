use Rattle.undo_journal.proofs.Prelude.{ap, ◌∙◌, List, [], Op, Record, draft_of, step_inverses}
use Rattle.undo_journal.proofs.Seen.{open_seen}
use Rattle.undo_journal.proofs.draft.Draft.open.Goals as goal

pub returns-clause-ok : goal.returns-clause-ok
returns-clause-ok c =
    ap (λ (rs : List Record). draft_of c.session.inside.arena.value.model rs c.session.inside.place c.clear.new.self.items (step_inverses c.clear.new.self.items c.clear-2.new.self.items)) c.place_for_one.ensures.items
    ∙ ap (λ (ops : List Op). draft_of c.session.inside.arena.value.model c.session.inside.records.items c.session.inside.place ops (step_inverses ops c.clear-2.new.self.items)) c.clear.ensures.items
    ∙ ap (λ (ops : List Op). draft_of c.session.inside.arena.value.model c.session.inside.records.items c.session.inside.place [] (step_inverses [] ops)) c.clear-2.ensures.items
    ∙ open_seen _ _ _ _ c.session.invariant c.session.view_is
