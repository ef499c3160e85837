use Rattle.split_sections.proofs.Prelude.{◌≡◌, ◌∙◌, ℕ, ◌≤◌, ◌||◌, List, length, map, vec_len, refl, sym, ap, subst, arith, nat_cmp, is_eq, contains, IsIn, lists, HalfEdge, code, next_below, halves_of, Cycle, no_half}
use Rattle.std.specs.List.{list_any}
use Rattle.solid_walks.proofs.face_walks_laws.HalfCodes.{edge_fits}
use Rattle.split_sections.proofs.section_cycles_laws.Found.{Finding, none_found, found_before, found_now, now_in}
use Rattle.split_sections.proofs.section_cycles_laws.Meetings.{first_code, no_more}
use Rattle.split_sections.proofs.section_cycles_laws.Whole.{AreTold, holes_pushed, cycle_low, listed_cycles, halves_pushed, whole_cycle}
use Rattle.split_sections.proofs.section_cycles.finding.cycles.Goals as goal

pub halves-init : goal.halves-init
halves-init c =
    let M = c.args.arena.now.model in let bs : List ℕ = map code c.args.halves.now in
    record {
      found = subst (λ (found : List Cycle). Finding (next_below M bs) bs bs (map halves_of found) (contains nat_cmp c.new-met.result)) (sym c.new-cycles.ensures.items)
          (none_found (next_below M bs) bs (contains nat_cmp c.new-met.result) (λ x. ap (list_any (λ k. is_eq (nat_cmp x k))) c.new-met.ensures.empty));
      holes = subst (AreTold M c.args.plane) (sym c.new-cycles.ensures.items) refl;
    }

pub code-requires : goal.code-requires
code-requires c =
    let M = c.args.arena.now.model in let bs : List ℕ = map code c.args.halves.now in
    edge_fits M c.requires.ready.sound _ (c.requires.there _ (now_in (next_below M bs) bs c.requires.next c.requires.rising _ _ _ c.halves.invariant.found (code _) _ (first_code c.halves.rest.now no_half c.in-len1-up.len_at_least)))

pub cycle_with_hole-requires-clause-first : goal.cycle_with_hole-requires-clause-first
cycle_with_hole-requires-clause-first c =
    let M = c.args.arena.now.model in let bs : List ℕ = map code c.args.halves.now in
    now_in (next_below M bs) bs c.requires.next c.requires.rising _ _ _ c.halves.invariant.found _ _ (first_code c.halves.rest.now no_half c.in-len1-up.len_at_least)

pub meet-requires : goal.meet-requires
meet-requires c =
    let M = c.args.arena.now.model in let bs : List ℕ = map code c.args.halves.now in
    subst (λ (hs : List HalfEdge). (b : ℕ) → IsIn b (map code hs) → b ≤ 2000001) (sym c.as_slice.ensures.value)
    (cycle_low M c.requires.ready.sound bs c.requires.there c.requires.next _
    (now_in (next_below M bs) bs c.requires.next c.requires.rising _ _ _ c.halves.invariant.found _ _ (first_code c.halves.rest.now no_half c.in-len1-up.len_at_least)) (halves_of c.in_ok-cycle.cycle) c.in_ok-cycle.ensures.halves)

pub returns-then-len-halves-clause-halves : goal.returns-then-len-halves-clause-halves
returns-then-len-halves-clause-halves c =
    let M = c.args.arena.now.model in let bs : List ℕ = map code c.args.halves.now in
    let held : vec_len c.in_ok-cycle.cycle.halves ≡ length c.in_ok-cycle.cycle.halves.items = omega (arith, c.in_ok-cycle.cycle.halves.ok.0) in
    whole_cycle M c.args.halves.now c.requires.next c.requires.rising _ _ _ c.halves.invariant.found _ _ (first_code c.halves.rest.now no_half c.in-len1-up.len_at_least)
    (ap (contains nat_cmp c.halves.met) (sym c.code.ensures) ∙ sym c.contains.ensures ∙ c.if-not-contains.true)
    c.in_ok-cycle.cycle c.in_ok-cycle.ensures.halves (sym held ∙ sym c.len.ensures ∙ c.if-len-halves.true) (map halves_of c.push.new.self.items) (halves_pushed c.halves.cycles.items c.in_ok-cycle.cycle c.push.new.self.items c.in_ok-push.ensures.items)

pub returns-then-len-halves-clause-holes : goal.returns-then-len-halves-clause-holes
returns-then-len-halves-clause-holes c = holes_pushed c.args.arena.now.model c.args.plane c.halves.cycles.items c.in_ok-cycle.cycle c.push.new.self.items c.in_ok-push.ensures.items c.halves.invariant.holes c.in_ok-cycle.ensures.hole

pub halves-preserved-in_ok-push-2 : goal.halves-preserved-in_ok-push-2
halves-preserved-in_ok-push-2 c =
    let M = c.args.arena.now.model in let bs : List ℕ = map code c.args.halves.now in
    record {
      found = found_now (next_below M bs) bs c.requires.next c.requires.rising _ _ _ c.halves.invariant.found _ _ (first_code c.halves.rest.now no_half c.in-len1-up.len_at_least)
          (ap (contains nat_cmp c.halves.met) (sym c.code.ensures) ∙ sym c.contains.ensures ∙ c.if-not-contains.true)
          (halves_of c.in_ok-cycle.cycle) c.in_ok-cycle.ensures.halves (map halves_of c.push-then-not-contains.new.self.items) (halves_pushed c.halves.cycles.items c.in_ok-cycle.cycle c.push-then-not-contains.new.self.items c.in_ok-push-2.ensures.items) (contains nat_cmp c.meet.new.met)
          (λ x. c.in_ok-meet.ensures x ∙ ap (λ (hs : List HalfEdge). lists (map code hs) x || contains nat_cmp c.halves.met x) c.as_slice.ensures.value);
      holes = holes_pushed M c.args.plane c.halves.cycles.items c.in_ok-cycle.cycle c.push-then-not-contains.new.self.items c.in_ok-push-2.ensures.items c.halves.invariant.holes c.in_ok-cycle.ensures.hole;
    }

pub halves-preserved : goal.halves-preserved
halves-preserved c =
    let M = c.args.arena.now.model in let bs : List ℕ = map code c.args.halves.now in
    record {
      found = found_before (next_below M bs) bs c.requires.next c.requires.rising _ _ _ c.halves.invariant.found _ _ (first_code c.halves.rest.now no_half c.in-len1-up.len_at_least)
          (ap (contains nat_cmp c.halves.met) (sym c.code.ensures) ∙ sym c.contains.ensures ∙ c.if-not-contains.false);
      holes = c.halves.invariant.holes;
    }

pub returns-clause-halves : goal.returns-clause-halves
returns-clause-halves c = listed_cycles c.args.arena.now.model (map code c.args.halves.now) (map code c.halves.rest.now) (map halves_of c.halves.cycles.items) (contains nat_cmp c.halves.met) c.halves.invariant.found (no_more c.halves.rest.now c.in_default.len_below)
