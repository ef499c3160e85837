use Rattle.split_sections.proofs.Prelude.{◌∙◌, ℕ, List, ◌++◌, OnOk, map, subst, sym, ap, append-nil, count, SameItems, code, content, low_mates}
use Rattle.euler_conditions.proofs.Known.{filled}
use Rattle.split_checks.proofs.cut_places_laws.Walks.{ring_there, ring_cycle, lone_items}
use Rattle.split_sections.proofs.section_edges.halves.push_mates_of_loop.Goals as goal

pub content-requires-clause-filled : goal.content-requires-clause-filled
content-requires-clause-filled c = filled c.args.arena.now.model c.requires.ready.sound c.args.l c.requires.there

pub push_mates_round-requires-clause-there : goal.push_mates_round-requires-clause-there
push_mates_round-requires-clause-there c = ring_there c.args.arena.now.model c.requires.ready.sound c.args.l c.in-Ring.h c.in-Ring.ensures

pub returns-in-Lone-clause-mates : goal.returns-in-Lone-clause-mates
returns-in-Lone-clause-mates c =
    let M = c.args.arena.now.model in let had = map code c.args.mates.now.items in
    λ x. ap (count x) (sym (append-nil had) ∙ ap (λ (hs : List ℕ). had ++ low_mates M c.args.plane hs) (sym (lone_items (content M c.args.l) c.in-Lone.field-0 c.in-Lone.ensures)))

pub returns-in-Ring-clause-mates : goal.returns-in-Ring-clause-mates
returns-in-Ring-clause-mates c =
    let M = c.args.arena.now.model in
    subst (λ hs. OnOk c.push_mates_round.result (SameItems (map code c.push_mates_round.new.mates.items) (map code c.args.mates.now.items ++ low_mates M c.args.plane hs)))
    (ring_cycle M c.requires.ready.sound c.args.l c.in-Ring.h c.in-Ring.ensures) c.push_mates_round.ensures.mates
