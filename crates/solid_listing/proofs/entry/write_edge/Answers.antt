use Rattle.solid_listing.proofs.Prelude.{◌≡◌, ◌∙◌, ap, subst, List, ℕ, [], ◌∷◌, map, decimal, codes, plus, minus, tail, has_half, mate_there, line_text, outgoing, Tells, code_plus, mate_plus, plus_there}
use Rattle.solid_listing.proofs.entry.write_edge.Goals as goal

pub tail-requires : goal.tail-requires
tail-requires g c = plus_there c.args.arena.now.model c.args.e c.requires

pub tail-requires-2 : goal.tail-requires-2
tail-requires-2 g c = ap (has_half c.args.arena.now.model) c.mate.ensures ∙ mate_there c.args.arena.now.model _ (plus_there c.args.arena.now.model c.args.e c.requires)

pub returns : goal.returns
returns g c =
    let M = c.args.arena.now.model in
    let first : c.tail.result ≡ tail M (plus c.args.e) = c.tail.ensures ∙ ap (tail M) (code_plus c.args.e) in
    let second : c.tail-2.result ≡ tail M (minus c.args.e) = c.tail-2.ensures ∙ ap (tail M) (c.mate.ensures ∙ mate_plus c.args.e) in
    subst (λ (t : List ℕ). Tells (outgoing (g.W.Write.contents c.args.writer.now) c.args.text.now) (outgoing (g.W.Write.contents c.put_line.new.writer) c.put_line.new.text) t c.put_line.result)
    (λ i. line_text (codes "edge" ∷ map decimal (c.args.e ∷ first i ∷ second i ∷ []))) c.put_line.ensures
