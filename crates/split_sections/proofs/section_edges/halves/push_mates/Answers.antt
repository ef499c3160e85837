use Rattle.split_sections.proofs.Prelude.{◌∙◌, ap, sym, subst, ℕ, List, ◌++◌, map, length, arith, append-nil, count, SameItems, code, content, items_of, outer, rings_of, items_in, above, low_mates}
use Rattle.solid_walks.proofs.face_walks_laws.RingWalks.{next_ring}
use Rattle.split_checks.proofs.cut_places_laws.Rings.{outer_items, ring_items, no_items}
use Rattle.split_sections.proofs.section_edges_laws.Mates.{mates_joined, more_met}
use Rattle.split_sections.proofs.section_edges.halves.push_mates.Goals as goal

pub rings-init : goal.rings-init
rings-init c =
    let M = c.args.arena.now.model in let f = c.args.f in let p = c.args.plane in let had = map code c.args.mates.now.items in
    let first = items_of (content M (outer M f)) in let rest = items_in M (above 0 (rings_of M f)) in
    let met = subst (λ l. SameItems (map code c.push_mates_of_loop.new.mates.items) (had ++ low_mates M p (items_of (content M l)))) c.outer.ensures c.in_ok-push_mates_of_loop.ensures.mates in
    let whole = sym (mates_joined M p first rest) ∙ ap (low_mates M p) (outer_items M f c.requires.ready.sound) in
    record {
      sides = c.push_mates_of_loop.ensures.sides;
      mates = more_met _ had (low_mates M p first) (low_mates M p rest) _ met (λ x. ap (λ (hs : List ℕ). count x (had ++ hs)) whole);
    }

pub rings-smaller : goal.rings-smaller
rings-smaller c = let next = next_ring c.args.arena.now.model c.args.f c.rings.last c.in-Some.l c.in-Some.ensures in omega (arith, ap length next)

pub rings-preserved : goal.rings-preserved
rings-preserved c =
    let M = c.args.arena.now.model in let f = c.args.f in let l = c.in-Some.l in let p = c.args.plane in
    let had = map code c.rings.mates.items in let more = items_of (content M l) in let rest = items_in M (above l (rings_of M f)) in
    let parted = sym (mates_joined M p more rest) ∙ ap (low_mates M p) (sym (ring_items M f c.rings.last l c.in-Some.ensures)) in
    record {
      sides = c.push_mates_of_loop-in-Some.ensures.sides;
      mates = more_met _ had (low_mates M p more) (low_mates M p rest) _ c.in_ok-push_mates_of_loop-2.ensures.mates (λ x. ap (λ (hs : List ℕ). count x (had ++ hs)) parted ∙ c.rings.invariant.mates x);
    }

pub returns-clause-mates : goal.returns-clause-mates
returns-clause-mates c =
    let M = c.args.arena.now.model in let had = map code c.rings.mates.items in
    let none = sym (append-nil had) ∙ ap (λ (hs : List ℕ). had ++ low_mates M c.args.plane hs) (sym (no_items M c.args.f c.rings.last c.in_default.ensures)) in
    λ x. ap (count x) none ∙ c.rings.invariant.mates x
