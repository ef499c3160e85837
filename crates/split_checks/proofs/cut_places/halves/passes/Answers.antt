use Rattle.split_checks.proofs.Prelude.{◌∙◌, ap, code, before, height, sign_of, finish, start, opposite_signs}
use Rattle.split_checks.proofs.cut_places_laws.Signs.{signs_opposite}
use Rattle.split_checks.proofs.cut_places.halves.passes.Goals as goal

pub returns-clause-is : goal.returns-clause-is
returns-clause-is c =
    let M = c.args.arena.now.model in let p = c.args.plane in let h = code c.args.h in
    let from = c.start_side.ensures.is ∙ ap (λ k. sign_of (height p (start M k))) c.previous.ensures.previous in
    c.opposite.ensures ∙ (λ i. opposite_signs (from i) (c.requires.to i)) ∙ signs_opposite (height p (start M (before M h))) (height p (finish M h))
