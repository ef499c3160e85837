use Rattle.split_checks.proofs.Prelude.{◌∙◌, [], ◌∷◌, ap, sym, subst, ℕ, List, length, arith, least, height, sign_of, cycle_of, has_half, tail, coded, edge_fits, finish, start, to_come, item_there, item_in, from_least, goes_on, comes_back, IsMet, IsRound}
use Rattle.split_checks.proofs.cut_places_laws.PlaceWalks.{next_starts}
use Rattle.split_checks.proofs.cut_places_laws.Met.{Walked, walk_begins, walk_on, walk_ends}
use Rattle.split_checks.proofs.cut_places.looking.look_round.Goals as goal

pub code-first-requires : goal.code-first-requires
code-first-requires c = edge_fits c.args.arena.now.model c.requires.ready.sound c.least_item-least.result c.least_item-least.ensures.there

pub side_of_code-from-requires-clause-there : goal.side_of_code-from-requires-clause-there
side_of_code-from-requires-clause-there c = ap (has_half c.args.arena.now.model) c.code-first.ensures ∙ c.least_item-least.ensures.there

pub round-init : goal.round-init
round-init c =
    let M = c.args.arena.now.model in let sound = c.requires.ready.sound in let first = c.code-first.result in let l = c.least_item-least.ensures in
    let there = ap (has_half M) c.code-first.ensures ∙ l.there in
    let same = ap (cycle_of M) c.code-first.ensures ∙ l.same_loop in
    record {
      at_in = item_in M sound first there;
      side = c.side_of_code-from.ensures.is;
      sides = c.side_of_code-from.ensures.sides;
      walked = subst (λ (hs : List ℕ). Walked M c.args.plane.now c.args.looked.now c.args.looked.now hs (cycle_of M first)) (from_least M sound first there (c.code-first.ensures ∙ l.least ∙ ap least (sym same))) (walk_begins M c.args.plane.now c.args.looked.now (cycle_of M first));
    }

pub next_code-next-requires-clause-there : goal.next_code-next-requires-clause-there
next_code-next-requires-clause-there c =
    let M = c.args.arena.now.model in
    item_there M c.requires.ready.sound c.code-first.result (ap (has_half M) c.code-first.ensures ∙ c.least_item-least.ensures.there) c.round.at c.round.invariant.at_in

pub look_at-requires-clause-there : goal.look_at-requires-clause-there
look_at-requires-clause-there c =
    let M = c.args.arena.now.model in
    ap (has_half M) (coded c.of_code.result c.round.at c.of_code.ensures)
    ∙ item_there M c.requires.ready.sound c.code-first.result (ap (has_half M) c.code-first.ensures ∙ c.least_item-least.ensures.there) c.round.at c.round.invariant.at_in

pub look_at-requires-clause-from : goal.look_at-requires-clause-from
look_at-requires-clause-from c =
    let M = c.args.arena.now.model in
    c.round.invariant.side ∙ ap (λ k. sign_of (height c.args.plane.now (start M k))) (sym (coded c.of_code.result c.round.at c.of_code.ensures))

pub look_at-requires-clause-to : goal.look_at-requires-clause-to
look_at-requires-clause-to c =
    let M = c.args.arena.now.model in let first = c.code-first.result in
    let there = ap (has_half M) c.code-first.ensures ∙ c.least_item-least.ensures.there in
    c.side_of_code-to.ensures.is
    ∙ ap (λ q. sign_of (height c.args.plane.now q)) (next_starts M c.requires.ready.sound first there c.round.at c.next_code-next.result c.round.invariant.at_in (λ _. c.next_code-next.ensures.next))
    ∙ ap (λ k. sign_of (height c.args.plane.now (finish M k))) (sym (coded c.of_code.result c.round.at c.of_code.ensures))

pub returns-then-next-first-clause-met : goal.returns-then-next-first-clause-met
returns-then-next-first-clause-met c =
    let M = c.args.arena.now.model in let p = c.args.plane.now in let first = c.code-first.result in let l = c.least_item-least.ensures in
    let there = ap (has_half M) c.code-first.ensures ∙ l.there in
    let left = to_come first (cycle_of M first) c.round.at in
    let back = comes_back M c.requires.ready.sound first there c.round.at c.next_code-next.result c.round.invariant.at_in (λ _. c.next_code-next.ensures.next) c.if-next-first.true in
    let met = subst (λ x. IsMet M p c.round.looked c.look_at.new.looked (x ∷ []) (tail M x ∷ [])) (coded c.of_code.result c.round.at c.of_code.ensures) c.in_ok-look_at.ensures.met in
    let walked = walk_on M p c.args.looked.now c.round.looked c.look_at.new.looked c.round.at left (cycle_of M first) c.round.invariant.walked met in
    subst (IsRound M p c.args.looked.now c.look_at.new.looked) (ap (cycle_of M) c.code-first.ensures ∙ l.same_loop) (walk_ends M p c.args.looked.now c.look_at.new.looked left (cycle_of M first) walked back.0)

pub round-smaller : goal.round-smaller
round-smaller c =
    let M = c.args.arena.now.model in let there = ap (has_half M) c.code-first.ensures ∙ c.least_item-least.ensures.there in
    let on = goes_on M c.requires.ready.sound c.code-first.result there c.round.at c.next_code-next.result c.round.invariant.at_in (λ _. c.next_code-next.ensures.next) c.if-next-first.false in
    omega (arith, ap length on.1)

pub round-preserved : goal.round-preserved
round-preserved c =
    let M = c.args.arena.now.model in let p = c.args.plane.now in let first = c.code-first.result in
    let there = ap (has_half M) c.code-first.ensures ∙ c.least_item-least.ensures.there in
    let left = to_come first (cycle_of M first) c.round.at in
    let on = goes_on M c.requires.ready.sound first there c.round.at c.next_code-next.result c.round.invariant.at_in (λ _. c.next_code-next.ensures.next) c.if-next-first.false in
    let met = subst (λ x. IsMet M p c.round.looked c.look_at.new.looked (x ∷ []) (tail M x ∷ [])) (coded c.of_code.result c.round.at c.of_code.ensures) c.in_ok-look_at.ensures.met in
    let walked = walk_on M p c.args.looked.now c.round.looked c.look_at.new.looked c.round.at left (cycle_of M first) c.round.invariant.walked met in
    record {
      at_in = on.0;
      side = c.side_of_code-to.ensures.is;
      sides = c.look_at.ensures.sides;
      walked = subst (λ (hs : List ℕ). Walked M p c.args.looked.now c.look_at.new.looked hs (cycle_of M first)) on.1 walked;
    }
