use Rattle.plane_split.proofs.Prelude.{◌≡◌, ◌∙◌, ap, subst, OnOk, first_false, after_step, taken_of}
use Rattle.plane_split.proofs.solid_opening_laws.Items.{strip_op, next_there}
use Rattle.plane_split.proofs.solid_opening.strips.cut_strip.Goals as goal

pub next-next-requires-clause-there : goal.next-next-requires-clause-there
next-next-requires-clause-there c = next_there c.arena.result.now.model c.args.draft.now.model c.arena.ensures.model (taken_of c.args.from.now) c.args.halves.now c.args.at c.requires.inside _ c.mate-mate.result c.mate-mate.ensures c.requires.there

pub step_accepted-requires : goal.step_accepted-requires
step_accepted-requires c = ap (first_false c.args.draft.now.model) (strip_op c.arena.result.now.model c.args.draft.now.model c.arena.ensures.model (taken_of c.args.from.now) c.args.halves.now c.args.at c.requires.inside _
    c.mate-mate.result c.next-next.result c.plus-edge.result c.mate-mate.ensures c.next-next.ensures.next c.plus-edge.ensures) ∙ c.requires.accepted

pub returns-clause-ok : goal.returns-clause-ok
returns-clause-ok c = subst (λ op. OnOk c.step_accepted.result (c.step_accepted.new.self ≡ after_step c.args.draft.now op))
    (strip_op c.arena.result.now.model c.args.draft.now.model c.arena.ensures.model (taken_of c.args.from.now) c.args.halves.now c.args.at c.requires.inside _
    c.mate-mate.result c.next-next.result c.plus-edge.result c.mate-mate.ensures c.next-next.ensures.next c.plus-edge.ensures) c.step_accepted.ensures.ok
