use Rattle.split_checks.proofs.Prelude.{◌∙◌, ◌%◌, ap, refl, height, sign_of, Below, Noted}
use Rattle.split_checks.proofs.cut_places_laws.NotedSides.{noted_at, one_noted, told_of}
use Rattle.split_checks.proofs.cut_places.noted.vertex_side.Goals as goal

abbrev none : Noted
none = record { vertex = 0; side = Below }

pub returns-then-noted-v-clause-is : goal.returns-then-noted-v-clause-is
returns-then-noted-v-clause-is c =
    let M = c.args.arena.now.model in let p = c.args.plane in
    told_of M p c.requires.ready.sound _ c.args.v (noted_at M p c.args.sides.now.noted (c.args.v % 32) none refl c.requires.sides) c.if-noted-v.true c.requires.there

pub returns-clause-sides : goal.returns-clause-sides
returns-clause-sides c =
    let M = c.args.arena.now.model in let p = c.args.plane in
    one_noted M p c.args.sides.now.noted (c.args.v % 32) _ c.requires.sides (record { there = c.requires.there; side = c.side_of-side.ensures ∙ ap (λ q. sign_of (height p q)) c.point.ensures.point })
