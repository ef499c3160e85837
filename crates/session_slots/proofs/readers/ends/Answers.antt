use Rattle.session_slots.proofs.Prelude.{◌≡◌, ◌∙◌, ap, plus, minus, tail, has_half, mate_there, code_plus, mate_plus, plus_there}
use Rattle.session_slots.proofs.readers.ends.Goals as goal

pub tail-requires : goal.tail-requires
tail-requires c = plus_there c.args.arena.now.model c.args.e c.requires

pub tail-requires-2 : goal.tail-requires-2
tail-requires-2 c = ap (has_half c.args.arena.now.model) c.mate.ensures ∙ mate_there c.args.arena.now.model _ (plus_there c.args.arena.now.model c.args.e c.requires)

pub returns : goal.returns
returns c =
    let M = c.args.arena.now.model in
    let first : c.tail.result ≡ tail M (plus c.args.e) = c.tail.ensures ∙ ap (tail M) (code_plus c.args.e) in
    let second : c.tail-2.result ≡ tail M (minus c.args.e) = c.tail-2.ensures ∙ ap (tail M) (c.mate.ensures ∙ mate_plus c.args.e) in
    λ i. record { from = first i; to = second i }
