use Rattle.split_sections.proofs.Prelude.{rules, map, ap, subst, sym, ◌∙◌, IsNonDecreasingBy-from_sort_by_key, code, AreSectionHalves, lies_below}
use Rattle.split_sections.proofs.section_edges_laws.Kept.{kept_codes}
use Rattle.split_sections.proofs.section_edges_laws.Sorted.{sorted_met}
use Rattle.split_sections.proofs.section_edges.halves.below_halves.Goals as goal

pub returns : goal.returns
returns c = λ s met.
    let M = c.args.arena.now.model in let above = c.args.above.now in
    let kept = ap (map code) c.keep_below.ensures ∙ kept_codes (lies_below M above) c.args.mates.items in
    sorted_met M above s c.requires.ready.sound c.keep_below.new.halves.items c.sort_by_key.new.self.items (subst (AreSectionHalves M above s) (sym kept) met) c.sort_by_key.ensures.permutation
    (IsNonDecreasingBy-from_sort_by_key (λ h. h.edge) _ c.in_ok-sort_by_key.ensures.sorted (λ a r q k. search rules))
