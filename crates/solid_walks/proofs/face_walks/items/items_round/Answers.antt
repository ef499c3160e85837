use Rattle.solid_walks.proofs.Prelude.{sym, ap, ◌∙◌, rotate_to, cycle_of, has_half}
use Rattle.solid_walks.proofs.face_walks_laws.HalfCodes.{edge_fits}
use Rattle.solid_walks.proofs.face_walks_laws.CycleWalks.{start_is, cycle_apart, item_in, items_left_is}
use Rattle.solid_walks.proofs.face_walks.items.items_round.Goals as goal

pub code-first-requires : goal.code-first-requires
code-first-requires c = edge_fits c.args.arena.now.model c.requires.sound c.args.h c.requires.there

pub invariant_of-result : goal.invariant_of-result
invariant_of-result c =
    let M = c.args.arena.now.model in let there = ap (has_half M) c.code-first.ensures ∙ c.requires.there in
    record { sound = c.requires.sound; there = there; inside = λ _. item_in M c.requires.sound c.code-first.result there }

pub returns : goal.returns
returns c =
    let M = c.args.arena.now.model in let h = c.code-first.result in
    let there = ap (has_half M) c.code-first.ensures ∙ c.requires.there in
    items_left_is M c.requires.sound h h there ∙ sym (start_is h (cycle_of M h) (cycle_apart M c.requires.sound h there) (item_in M c.requires.sound h there))
    ∙ ap (λ x. rotate_to x (cycle_of M x)) c.code-first.ensures
