use Rattle.std.proofs.Common.{◌∷◌, sym, ◌∙◌}
use Rattle.solid_walks.proofs.face_walks_laws.HalfCodes.{coded}
use Rattle.solid_walks.proofs.face_walks_laws.CycleWalks.{item_there, items_left_is}
use Rattle.solid_walks.proofs.face_walks.items.ItemsIterator.next.Goals as goal

pub returns-clause-steps : goal.returns-clause-steps
returns-clause-steps c =
    let w = c.self.inside in let i = c.self.invariant in
    sym c.self.view_is ∙ items_left_is w.arena.now.model i.sound w.first w.next (item_there w.arena.now.model i.sound w.first i.there w.next (i.inside c.if-item-eq0.false))
    ∙ (λ k. sym (coded c.of_code.result w.next c.of_code.ensures) k ∷ sym c.item_after-self-inside.ensures.left k)
