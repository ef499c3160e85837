use Rattle.split_sections.proofs.Prelude.{◌∙◌, ap, not, code, has_half, is_above, Above, same_sign, start, coded}
use Rattle.split_checks.proofs.cut_places_laws.Signs.{sign_lies}
use Rattle.split_sections.proofs.section_edges.halves.starts_low.Goals as goal

pub start_side-side-requires-clause-there : goal.start_side-side-requires-clause-there
start_side-side-requires-clause-there c = ap (has_half c.args.arena.now.model) (coded c.of_code.result c.args.at c.of_code.ensures) ∙ c.requires.there

pub returns-clause-is : goal.returns-clause-is
returns-clause-is c =
    let M = c.args.arena.now.model in let p = c.args.plane in let h = c.of_code.result in
    ap not (c.same.ensures ∙ ap (λ s. same_sign s Above) c.start_side-side.ensures.is ∙ sign_lies Above p (start M (code h)) ∙ ap (λ k. is_above p (start M k)) (coded h c.args.at c.of_code.ensures))
