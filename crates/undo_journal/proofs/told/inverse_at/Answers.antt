use Rattle.undo_journal.proofs.Prelude.{sym, ap, ◌∙◌, arith, ◌+◌, ◌-◌, length, get_or, take_rest, untold_in}
use Rattle.undo_journal.proofs.Inverses.{told_there, kept_enough, kept_there}
use Rattle.undo_journal.proofs.told.inverse_at.Goals as goal

pub overflow_sub-result : goal.overflow_sub-result
overflow_sub-result c =
    omega (arith, kept_enough c.args.ops.now c.args.untold.now c.args.index c.index-ops-place.result c.requires.whole c.requires.inside c.index-ops-place.is (sym c.told_inverse.ensures ∙ c.in-None.is))

pub overflow_sub-result-in-None : goal.overflow_sub-result-in-None
overflow_sub-result-in-None c =
    let used = c.untold_in.ensures ∙ ap untold_in (take_rest c.args.ops.now (length c.args.ops.now - 1 - c.args.index + 1)) in
    omega (arith, used, kept_enough c.args.ops.now c.args.untold.now c.args.index c.index-ops-place.result c.requires.whole c.requires.inside c.index-ops-place.is (sym c.told_inverse.ensures ∙ c.in-None.is))

pub bounds-untold-untold : goal.bounds-untold-untold
bounds-untold-untold c =
    omega (arith, kept_enough c.args.ops.now c.args.untold.now c.args.index c.index-ops-place.result c.requires.whole c.requires.inside c.index-ops-place.is (sym c.told_inverse.ensures ∙ c.in-None.is))

pub returns-in-Some : goal.returns-in-Some
returns-in-Some c = told_there c.args.ops.now c.args.untold.now c.args.index c.index-ops-place.result c.requires.whole c.requires.inside c.index-ops-place.is _ (sym c.told_inverse.ensures ∙ c.in-Some.is)

pub returns-in-None : goal.returns-in-None
returns-in-None c =
    let used = c.untold_in.ensures ∙ ap untold_in (take_rest c.args.ops.now (length c.args.ops.now - 1 - c.args.index + 1)) in
    c.index-untold-untold.is
    ∙ ap (λ n. get_or c.args.untold.now (length c.args.untold.now - 1 - n) c.index-untold-untold.result) used
    ∙ kept_there c.args.ops.now c.args.untold.now c.args.index c.index-ops-place.result c.requires.whole c.requires.inside c.index-ops-place.is (sym c.told_inverse.ensures ∙ c.in-None.is) c.index-untold-untold.result
