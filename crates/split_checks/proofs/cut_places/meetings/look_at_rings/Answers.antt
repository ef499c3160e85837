use Rattle.split_checks.proofs.Prelude.{◌∙◌, ap, sym, subst, ℕ, List, ◌&&◌, length, arith, list_all, rings_of, loop_is_cut, above, next_ring, no_ring, rings_from_zero}
use Rattle.split_checks.proofs.cut_places_laws.Met.{LoopsWalked, loops_begin, loops_on, loops_end, and_joined, and_true}
use Rattle.split_checks.proofs.cut_places.meetings.look_at_rings.Goals as goal

pub rings-init : goal.rings-init
rings-init c =
    let M = c.args.arena.now.model in let f = c.args.f in let p = c.args.plane.now in let from = rings_from_zero M f c.requires.ready.sound in
    record {
      cut = ap (list_all (loop_is_cut M p)) from;
      sides = c.requires.sides;
      walked = subst (λ (ls : List ℕ). LoopsWalked M p c.args.looked.now c.args.looked.now ls (rings_of M f)) (sym from) (loops_begin M p c.args.looked.now (rings_of M f));
    }

pub rings-smaller : goal.rings-smaller
rings-smaller c = let next = next_ring c.args.arena.now.model c.args.f c.rings.last c.in-Some.l c.in-Some.ensures in omega (arith, ap length next)

pub rings-preserved : goal.rings-preserved
rings-preserved c =
    let M = c.args.arena.now.model in let f = c.args.f in let p = c.args.plane.now in let l = c.in-Some.l in let test = loop_is_cut M p in
    let rest = above l (rings_of M f) in let next = next_ring M f c.rings.last l c.in-Some.ensures in
    record {
      cut = and_joined c.rings.all _ (list_all test rest) ∙ (λ i. c.rings.all && (c.in_ok-all.ensures.cut i && list_all test rest)) ∙ ap (λ (ls : List ℕ). c.rings.all && list_all test ls) (sym next) ∙ c.rings.invariant.cut;
      sides = c.look_at_loop.ensures.sides;
      walked = loops_on M p c.args.looked.now c.rings.looked c.look_at_loop.new.looked l rest (rings_of M f)
          (subst (λ (ls : List ℕ). LoopsWalked M p c.args.looked.now c.rings.looked ls (rings_of M f)) next c.rings.invariant.walked) c.in_ok-all.ensures.met;
    }

pub returns-clause-met : goal.returns-clause-met
returns-clause-met c =
    let M = c.args.arena.now.model in let f = c.args.f in
    loops_end M c.args.plane.now c.args.looked.now c.rings.looked (above c.rings.last (rings_of M f)) (rings_of M f) c.rings.invariant.walked (no_ring M f c.rings.last c.in_default.ensures)

pub returns-clause-cut : goal.returns-clause-cut
returns-clause-cut c =
    let M = c.args.arena.now.model in let f = c.args.f in let test = loop_is_cut M c.args.plane.now in
    and_true c.rings.all ∙ ap (λ (ls : List ℕ). c.rings.all && list_all test ls) (sym (no_ring M f c.rings.last c.in_default.ensures)) ∙ c.rings.invariant.cut
