use Rattle.split_sections.proofs.Prelude.{◌≡◌, ◌∙◌, ℕ, ◌+◌, ◌-◌, ◌==◌, List, [], ◌∷◌, map, length, sym, ap, subst, arith, length-map, map-append, HalfEdge, code, next_below}
use Rattle.split_sections.proofs.section_cycles_laws.Rounds.{Going, set_out, back, onward, out_of_steps}
use Rattle.split_sections.proofs.section_cycles_laws.Leads.{is_next, leads_on, of_themselves}
use Rattle.split_sections.proofs.section_cycles.finding.cycle_from.Goals as goal

pub round-init : goal.round-init
round-init c =
    let M = c.args.arena.now.model in let bs : List ℕ = map code c.args.halves.now in
    subst (λ (hs : List HalfEdge). Going (next_below M bs) bs (code c.args.first) (code c.args.first) (length c.args.halves.now - 0) (map code hs)) (sym c.new-cycle.ensures.items)
    (set_out (next_below M bs) bs (code c.args.first) (length c.args.halves.now - 0) c.requires.first (omega (arith, length-map c.args.halves.now code)))

pub next_half-half-requires-clause-there : goal.next_half-half-requires-clause-there
next_half-half-requires-clause-there c = c.requires.there (code c.round.half) c.round.invariant.here

pub next_half-half-requires-clause-starts : goal.next_half-half-requires-clause-starts
next_half-half-requires-clause-starts c =
    of_themselves c.args.arena.now.model c.requires.ready.sound (map code c.args.halves.now) c.args.starts.now c.requires.there c.requires.starts

pub next_half-half-requires-clause-leads : goal.next_half-half-requires-clause-leads
next_half-half-requires-clause-leads c =
    let M = c.args.arena.now.model in
    leads_on M c.requires.ready.sound (map code c.args.halves.now) c.args.starts.now c.requires.there c.requires.starts c.requires.stays (code c.round.half) c.round.invariant.here

pub returns-then-same : goal.returns-then-same
returns-then-same c =
    let M = c.args.arena.now.model in let bs : List ℕ = map code c.args.halves.now in
    let is : code c.next_half-half.result ≡ next_below M bs (code c.round.half) = is_next M c.requires.ready.sound bs c.args.starts.now c.requires.there c.requires.starts (code c.round.half) (code c.next_half-half.result) c.next_half-half.ensures.listed c.next_half-half.ensures.follows in
    back (next_below M bs) bs (code c.args.first) (code c.round.half) (length c.args.halves.now - c.round.counter) (length c.args.halves.now - (c.round.counter + 1)) (map code c.round.cycle.items) c.round.invariant (omega arith)
    (sym (ap (λ n. n == code c.args.first) is) ∙ sym c.same.ensures ∙ c.if-same.true)
    (map code c.push.new.self.items) (ap (λ (hs : List HalfEdge). map code hs) c.in_ok-push.ensures.items ∙ map-append code c.round.cycle.items (c.round.half ∷ []))

pub round-preserved : goal.round-preserved
round-preserved c =
    let M = c.args.arena.now.model in let bs : List ℕ = map code c.args.halves.now in
    let is : code c.next_half-half.result ≡ next_below M bs (code c.round.half) = is_next M c.requires.ready.sound bs c.args.starts.now c.requires.there c.requires.starts (code c.round.half) (code c.next_half-half.result) c.next_half-half.ensures.listed c.next_half-half.ensures.follows in
    subst (λ h. Going (next_below M bs) bs (code c.args.first) h (length c.args.halves.now - (c.round.counter + 1)) (map code c.push.new.self.items)) (sym is)
    (onward (next_below M bs) bs (code c.args.first) (code c.round.half) (length c.args.halves.now - c.round.counter) (length c.args.halves.now - (c.round.counter + 1)) (map code c.round.cycle.items) c.round.invariant (omega arith)
    (sym (ap (λ n. n == code c.args.first) is) ∙ sym c.same.ensures ∙ c.if-same.false) (c.requires.stays (code c.round.half) c.round.invariant.here)
    (map code c.push.new.self.items) (ap (λ (hs : List HalfEdge). map code hs) c.in_ok-push.ensures.items ∙ map-append code c.round.cycle.items (c.round.half ∷ [])))

pub returns : goal.returns
returns c =
    let M = c.args.arena.now.model in let bs : List ℕ = map code c.args.halves.now in
    out_of_steps (next_below M bs) bs (code c.args.first) (code c.round.half) (length c.args.halves.now - c.round.counter) 0 (map code c.round.cycle.items) c.round.invariant (omega arith)
