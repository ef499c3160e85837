use Rattle.std.proofs.Common.{rules, arith}
use Rattle.std.proofs.lemmas.Grind.{common_steps}
use Rattle.std.proofs.lemmas.Result.{on_ok_weaker}
use Rattle.undo_journal.proofs.Prelude.{ap, ◌∙◌, ◌≡◌, ◌++◌, ◌∷◌, [], Op, inverse, told_inverse, kept_inverse, step_inverses}
use Rattle.undo_journal.proofs.Inverses.{one_more}
use Rattle.undo_journal.proofs.steps.step.Goals as goal

pub returns-else-is_err-clause-inverses : goal.returns-else-is_err-clause-inverses
returns-else-is_err-clause-inverses c =
    let same : c.index.result.now ≡ c.args.op = grind (arith, common_steps) in
    let steps : c.push_reserved.new.self.items ≡ c.args.steps.now.items ++ c.args.op ∷ [] = search rules in
    let told = ap (λ (o : Op). step_inverses (c.args.steps.now.items ++ c.args.op ∷ []) (c.args.untold.now.items ++ kept_inverse (told_inverse o) (inverse c.args.arena.now.model o))) same in
    let more = one_more c.args.arena.now.model c.args.steps.now.items c.args.untold.now.items c.args.op in
    on_ok_weaker c.advance_step-ended.result (λ kept. (λ i. step_inverses (steps i) (kept i)) ∙ told ∙ more) c.advance_step-ended.ensures.kept
