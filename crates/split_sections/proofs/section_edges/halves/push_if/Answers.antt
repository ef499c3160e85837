use Rattle.split_sections.proofs.Prelude.{◌∙◌, [], ◌∷◌, ◌++◌, cond, map, ap, sym, map-append, code}
use Rattle.split_sections.proofs.section_edges.halves.push_if.Goals as goal

pub returns-in_ok-push : goal.returns-in_ok-push
returns-in_ok-push c =
    let old = c.args.found.now.items in
    ap (map code) c.in_ok-push.ensures.items ∙ map-append code old (c.args.h ∷ []) ∙ ap (λ b. map code old ++ cond b (code c.args.h ∷ []) []) (sym c.if-wanted.true)
