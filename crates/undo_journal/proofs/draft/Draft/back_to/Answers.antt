use Rattle.undo_journal.proofs.Prelude.{sym, subst, ap, ◌∙◌, ◌≡◌, List, take, drop, reverse, Op, AreAccepted, Store, AllHaveRoom, draft_of, IsDrafted, all_after, step_inverses}
use Rattle.undo_journal.proofs.Inverses.{whole}
use Rattle.undo_journal.proofs.Kept.{back_goes, back_room, drafted_back}
use Rattle.undo_journal.proofs.Seen.{back_seen}
use Rattle.undo_journal.proofs.draft.Draft.back_to.Goals as goal

pub take_back-requires-clause-whole : goal.take_back-requires-clause-whole
take_back-requires-clause-whole c = whole _ c.self.inside.steps.items c.self.inside.untold.items c.self.invariant.1.paired

pub take_back-requires-clause-accepted : goal.take_back-requires-clause-accepted
take_back-requires-clause-accepted c =
    subst (λ (s : Store). AreAccepted s.model (reverse (drop c.args.mark (step_inverses c.self.inside.steps.items c.self.inside.untold.items)))) (sym c.deref_mut.ensures.value) (back_goes _ _ _ _ _ c.self.invariant.1 c.args.mark)

pub take_back-requires-clause-room : goal.take_back-requires-clause-room
take_back-requires-clause-room c =
    subst (λ (s : Store). AllHaveRoom s (reverse (drop c.args.mark (step_inverses c.self.inside.steps.items c.self.inside.untold.items)))) (sym c.deref_mut.ensures.value) (back_room _ _ _ _ _ c.self.invariant.1 c.args.mark)

abbrev inverses : (c : goal.After-self-1) → List Op
inverses c = step_inverses c.self.inside.steps.items c.self.inside.untold.items

abbrev arena : (c : goal.After-self-1) → c.take_back.new.arena ≡ all_after c.self.inside.arena.value (reverse (drop c.args.mark (inverses c)))
arena c = c.take_back.ensures.effects ∙ ap (λ (s : Store). all_after s (reverse (drop c.args.mark (inverses c)))) c.deref_mut.ensures.value

pub invariant_of-self : goal.invariant_of-self
invariant_of-self c = (
  c.self.invariant.0,
  subst (λ (x : List Op). IsDrafted c.take_back.new.arena c.self.inside.records.items c.self.inside.place c.take_back.new.steps.items x) (sym c.take_back.ensures.inverses)
      (subst (λ (x : List Op). IsDrafted c.take_back.new.arena c.self.inside.records.items c.self.inside.place x (take c.args.mark (inverses c))) (sym c.take_back.ensures.steps)
      (drafted_back _ _ _ _ _ c.self.invariant.1 c.args.mark c.take_back.new.arena (arena c) c.take_back.ensures.ready)),
)

pub returns : goal.returns
returns c =
    ap (draft_of c.take_back.new.arena.model c.self.inside.records.items c.self.inside.place c.take_back.new.steps.items) c.take_back.ensures.inverses
    ∙ ap (λ (x : List Op). draft_of c.take_back.new.arena.model c.self.inside.records.items c.self.inside.place x (take c.args.mark (inverses c))) c.take_back.ensures.steps
    ∙ back_seen _ _ _ _ _ _ c.self.invariant.1 c.self.view_is c.args.mark c.take_back.new.arena (arena c) c.take_back.ensures.ready
