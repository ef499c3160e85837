use Rattle.gluing.proofs.Prelude.{◌≡◌, None, ◌∙◌, ap, sym, subst, on_ok_weaker, head_or, last_or, code, half, before, after, outer, point_of, Sound, Has, HasHalf, half-code, Kef, start, rim, partner, glue_refusal, fresh_edge, DraftJournal, further_on, steps_make, glue_is_glued}
use Rattle.solid_walks.proofs.face_walks_laws.HalfCodes.{codes_same, codes_differ}
use Rattle.gluing.proofs.Opened as opened
use Rattle.gluing.proofs.Joined as joined
use Rattle.gluing.proofs.joining.take_steps.Goals as goal
use Rattle.gluing.proofs.joining.take_steps.Goals.{After-arena-arena, After-spare_of-spare, After-item_at-across, After-neighbours}

-- the glue isn't refused on the arena either
goes : (c : After-arena-arena) → glue_refusal c.arena-arena.result.now.model c.args.f c.args.other ≡ None
goes c = ap (λ X. glue_refusal X c.args.f c.args.other) c.arena-arena.ensures.model ∙ c.requires

pub spare_of-spare-requires : goal.spare_of-spare-requires
spare_of-spare-requires c =
    let e = goes (goal.at.spare_of-spare-requires c).After-arena-arena in
    let S = c.arena-arena.ensures.ready.sound in
    record { there = opened.second_there _ c.args.f c.args.other S e; left = opened.edge_left _ c.args.f c.args.other S e }

pub first_item-first-requires : goal.first_item-first-requires
first_item-first-requires c =
    let e = goes (goal.at.first_item-first-requires c).After-arena-arena in
    let S = c.arena-arena.ensures.ready.sound in
    record { ready = c.arena-arena.ensures.ready; there = opened.first_there _ c.args.f c.args.other S e; held = opened.first_held _ c.args.f c.args.other S e }

pub point-start-requires : goal.point-start-requires
point-start-requires c = subst (Has c.arena-arena.result.now.model.vertices) (sym c.tail.ensures) (c.arena-arena.ensures.ready.sound.tails_there (code c.first_item-first.result) c.first_item-first.ensures.there)

pub item_at-across-requires : goal.item_at-across-requires
item_at-across-requires c =
    let e = goes (goal.at.item_at-across-requires c).After-arena-arena in
    let S = c.arena-arena.ensures.ready.sound in
    let N = c.arena-arena.result.now.model in
    let at = c.point-start.ensures.point ∙ ap (point_of N) c.tail.ensures ∙ ap (start N) c.first_item-first.ensures.first in
    record { ready = c.arena-arena.ensures.ready; there = opened.second_there _ c.args.f c.args.other S e; inside = opened.across_in _ c.args.f c.args.other S e _ at; starts = opened.across_starts _ c.args.f c.args.other S e _ at }

-- what is read off the arena is that of the draft's model: the first item, the one across from it, and the numbers that are spare
seam : (c : After-item_at-across) → let M = c.args.draft.now.model in (code c.first_item-first.result ≡ head_or 0 (rim M c.args.f)) × (code c.item_at-across.result ≡ partner M (rim M c.args.other) (last_or 0 (rim M c.args.f)))
seam c =
    let N = c.arena-arena.result.now.model in
    let at = c.point-start.ensures.point ∙ ap (point_of N) c.tail.ensures ∙ ap (start N) c.first_item-first.ensures.first in (
      c.first_item-first.ensures.first ∙ ap (λ X. head_or 0 (rim X c.args.f)) c.arena-arena.ensures.model,
      c.item_at-across.ensures ∙ opened.across_is N c.args.f c.args.other c.arena-arena.ensures.ready.sound (ap (λ X. glue_refusal X c.args.f c.args.other) c.arena-arena.ensures.model ∙ c.requires) c.point-start.result at
          ∙ ap (λ X. partner X (rim X c.args.other) (last_or 0 (rim X c.args.f))) c.arena-arena.ensures.model,
    )

spare : (c : After-spare_of-spare) → let M = c.args.draft.now.model in (c.spare_of-spare.result.edge ≡ fresh_edge M) × (c.spare_of-spare.result.ring ≡ outer M c.args.other)
spare c = (c.spare_of-spare.ensures.edge ∙ ap fresh_edge c.arena-arena.ensures.model, c.spare_of-spare.ensures.ring ∙ ap (λ X. outer X c.args.other) c.arena-arena.ensures.model)

pub open_seam-requires : goal.open_seam-requires
open_seam-requires c =
    let w = goal.at.open_seam-requires c in
    let s = seam w.After-item_at-across in
    let S = subst Sound c.arena-arena.ensures.model c.arena-arena.ensures.ready.sound in
    record {
      first_there = opened.first_there _ c.args.f c.args.other S c.requires;
      second_there = opened.second_there _ c.args.f c.args.other S c.requires;
      accepted = opened.opening_goes _ c.args.f c.args.other S c.requires _ _ _ s.0 s.1 (spare w.After-spare_of-spare).0;
    }

pub items-init : goal.items-init
items-init c =
    let w = goal.at.items-init c in
    let s = seam w.After-item_at-across in
    record {
      halfway = opened.opening_makes c.args.draft.now c.args.f c.args.other (subst Sound c.arena-arena.ensures.model c.arena-arena.ensures.ready.sound) c.requires _ _ _ s.0 s.1 (spare w.After-spare_of-spare).0 c.open_seam.new.draft c.in_ok-open_seam.ensures.steps;
      further = c.in_ok-open_seam.ensures.further;
    }

pub neighbours-requires-clause-there : goal.neighbours-requires-clause-there
neighbours-requires-clause-there c = subst (λ X. HasHalf X (code c.items.item)) (sym c.arena.ensures.model) (joined.item_there _ _ _ _ _ c.items.invariant.halfway.joining)

-- what stands beside the item in the draft's model
beside : (c : After-neighbours) → let N = c.items.draft.model in (code c.neighbours.result.0 ≡ before N (code c.items.item)) × (code c.neighbours.result.1 ≡ after N (code c.items.item))
beside c = (c.neighbours.ensures.previous ∙ ap (λ X. before X (code c.items.item)) c.arena.ensures.model, c.neighbours.ensures.next ∙ ap (λ X. after X (code c.items.item)) c.arena.ensures.model)

pub step_accepted-requires : goal.step_accepted-requires
step_accepted-requires c =
    let b = beside (goal.at.step_accepted-requires c).After-neighbours in
    let same = codes_same c.neighbours.result.1 c.neighbours.result.0 (sym c.eq.ensures ∙ c.if-eq.true) in
    joined.last_goes _ _ _ _ _ c.items.invariant.halfway.joining _ _ b.0 b.1 same (Kef c.mate.result) (ap Kef (sym (half-code c.mate.result) ∙ ap half c.mate.ensures))

pub returns-then-eq-clause-steps : goal.returns-then-eq-clause-steps
returns-then-eq-clause-steps c =
    let b = beside (goal.at.returns-then-eq-clause-steps c).After-neighbours in
    let same = codes_same c.neighbours.result.1 c.neighbours.result.0 (sym c.eq.ensures ∙ c.if-eq.true) in
    let all = joined.all_steps _ _ _ _ _ c.items.invariant.halfway _ _ b.0 b.1 same (Kef c.mate.result) (ap Kef (sym (half-code c.mate.result) ∙ ap half c.mate.ensures)) in
    on_ok_weaker c.step_accepted.result (all _) c.step_accepted.ensures.ok

pub returns-then-eq-clause-model : goal.returns-then-eq-clause-model
returns-then-eq-clause-model c =
    let sound = subst Sound c.arena-arena.ensures.model c.arena-arena.ensures.ready.sound in
    on_ok_weaker c.step_accepted.result (λ steps. steps_make c.args.draft.now c.step_accepted.new.self _ steps ∙ glue_is_glued c.args.draft.now.model c.args.f c.args.other sound c.requires) (returns-then-eq-clause-steps c)

pub returns-then-eq-clause-further : goal.returns-then-eq-clause-further
returns-then-eq-clause-further c = further_on _ _ _ c.items.invariant.further c.step_accepted.ensures.further

pub close_item-requires : goal.close_item-requires
close_item-requires c =
    let w = goal.at.close_item-requires c in
    let b = beside w.After-neighbours in
    let s = spare w.After-spare_of-spare in
    let other = codes_differ c.neighbours.result.1 c.neighbours.result.0 (sym c.eq.ensures ∙ c.if-eq.false) in
    joined.closing_goes _ _ _ _ _ c.items.invariant.halfway.joining _ _ b.0 b.1 other _ _ _ s.0 c.spare_of-spare.ensures.face s.1

pub items-smaller : goal.items-smaller
items-smaller c =
    let w = goal.at.items-smaller c in
    let b = beside w.After-neighbours in
    let s = spare w.After-spare_of-spare in
    let other = codes_differ c.neighbours.result.1 c.neighbours.result.0 (sym c.eq.ensures ∙ c.if-eq.false) in
    joined.closing_shortens _ _ _ _ _ c.items.invariant.halfway.joining _ _ b.0 b.1 other _ _ _ s.0 c.spare_of-spare.ensures.face s.1 c.close_item.new.draft.model (ap (λ (x : DraftJournal). x.model) c.in_ok-close_item.ensures.steps)

pub items-preserved : goal.items-preserved
items-preserved c =
    let w = goal.at.items-preserved c in
    let b = beside w.After-neighbours in
    let s = spare w.After-spare_of-spare in
    let other = codes_differ c.neighbours.result.1 c.neighbours.result.0 (sym c.eq.ensures ∙ c.if-eq.false) in
    record {
      halfway = joined.closing_goes_on _ _ _ _ _ c.items.invariant.halfway _ _ b.0 b.1 other _ _ _ s.0 c.spare_of-spare.ensures.face s.1 c.close_item.new.draft c.in_ok-close_item.ensures.steps;
      further = further_on _ _ _ c.items.invariant.further c.in_ok-close_item.ensures.further;
    }
