use Rattle.split_sections.proofs.Prelude.{◌∙◌, ℕ, List, map, ap, HalfEdge, code, is_hole}
use Rattle.split_sections.proofs.section_cycles_laws.Whole.{round_there, round_apart}
use Rattle.split_sections.proofs.section_cycles.finding.cycle_with_hole.Goals as goal

pub is_hole-hole-requires-clause-there : goal.is_hole-hole-requires-clause-there
is_hole-hole-requires-clause-there c =
    let M = c.args.arena.now.model in let bs : List ℕ = map code c.args.halves.now in
    round_there M bs c.requires.there c.requires.next (code c.args.first) c.requires.first (map code c.as_slice.result.now) (ap (λ (hs : List HalfEdge). map code hs) c.as_slice.ensures.value ∙ c.in_ok-round.ensures)

pub is_hole-hole-requires-clause-apart : goal.is_hole-hole-requires-clause-apart
is_hole-hole-requires-clause-apart c =
    let M = c.args.arena.now.model in let bs : List ℕ = map code c.args.halves.now in
    round_apart M bs c.requires.next (code c.args.first) c.requires.first (map code c.as_slice.result.now) (ap (λ (hs : List HalfEdge). map code hs) c.as_slice.ensures.value ∙ c.in_ok-round.ensures)

pub returns-clause-hole : goal.returns-clause-hole
returns-clause-hole c = c.is_hole-hole.ensures ∙ ap (λ (hs : List HalfEdge). is_hole c.args.arena.now.model c.args.plane (map code hs)) c.as_slice.ensures.value
