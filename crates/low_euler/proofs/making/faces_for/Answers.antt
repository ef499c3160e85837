use Rattle.low_euler.proofs.Prelude.{ℕ, ap, sym, subst, ◌∙◌, ◌≡◌, List, IfOk, Op, faces_for}
use Rattle.low_euler.proofs.making.faces_for.Goals as goal

pub returns-in-Merge-clause-listed : goal.returns-in-Merge-clause-listed
returns-in-Merge-clause-listed c = subst (λ (o : Op). IfOk c.faces_of.result (λ (faces : List ℕ). faces ≡ faces_for c.args.arena.now.model o)) (sym c.in-Merge.is) c.faces_of.ensures.listed

pub returns-in-Merge-clause-none : goal.returns-in-Merge-clause-none
returns-in-Merge-clause-none c = λ none. c.faces_of.ensures.none (sym (ap (faces_for c.args.arena.now.model) c.in-Merge.is) ∙ none)
