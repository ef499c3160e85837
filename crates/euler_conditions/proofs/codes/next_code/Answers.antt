use Rattle.euler_conditions.proofs.Prelude.{◌≡◌, ap, sym, subst, ◌∙◌, code, after, has_half, HasHalf, half_after}
use Rattle.euler_conditions.proofs.Known.{in_a_loop}
use Rattle.euler_conditions.proofs.Coded.{coded, edge_fits}
use Rattle.euler_conditions.proofs.codes.next_code.Goals as goal

-- what the arena tells is the next item, and it is there
leads : (c : goal.After-next) → code c.next.result ≡ after c.args.arena.now.model c.args.code
leads c =
    let M = c.args.arena.now.model in let is = coded c.of_code.result c.args.code c.of_code.ensures in
    c.next.ensures.in_loop (in_a_loop M c.requires.sound (code c.of_code.result) (ap (has_half M) is ∙ c.requires.there)) ∙ ap (after M) is

goes : (c : goal.After-next) → HasHalf c.args.arena.now.model (code c.next.result)
goes c = let M = c.args.arena.now.model in subst (HasHalf M) (sym (leads c)) (half_after M c.requires.sound c.args.code c.requires.there)

pub code-requires : goal.code-requires
code-requires c = edge_fits c.args.arena.now.model c.requires.sound c.next.result (goes c)

pub returns-clause-there : goal.returns-clause-there
returns-clause-there c = ap (has_half c.args.arena.now.model) c.code.ensures ∙ goes c.before
