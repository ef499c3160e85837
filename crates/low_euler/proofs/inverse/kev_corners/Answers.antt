use Rattle.low_euler.proofs.Prelude.{true, false, refl, sym, ◌∙◌}
use Rattle.low_euler.proofs.Inverses.{corners}
use Rattle.low_euler.proofs.inverse.kev_corners.Goals as goal

pub returns-then-not-same : goal.returns-then-not-same
returns-then-not-same c =
    let k = corners c.args.arena.now.model c.args.h c.mate-mate.result c.next-following.result c.next-back.result c.mate-mate.ensures c.next-following.ensures.next c.next-back.ensures.next
    false _ _ (sym c.same.ensures ∙ c.if-not-same.true) refl refl in
    record { first = k.0; second = k.1 }

pub returns-then-same : goal.returns-then-same
returns-then-same c =
    let k = corners c.args.arena.now.model c.args.h c.mate-mate.result c.next-following.result c.next-back.result c.mate-mate.ensures c.next-following.ensures.next c.next-back.ensures.next
    true true _ (sym c.same.ensures ∙ c.if-not-same.false) (sym c.same-else-not-same.ensures ∙ c.if-same.true) c.loop_of.ensures.is in
    record { first = k.0; second = k.1 }

pub returns-else-same : goal.returns-else-same
returns-else-same c =
    let k = corners c.args.arena.now.model c.args.h c.mate-mate.result c.next-following.result c.next-back.result c.mate-mate.ensures c.next-following.ensures.next c.next-back.ensures.next
    true false _ (sym c.same.ensures ∙ c.if-not-same.false) (sym c.same-else-not-same.ensures ∙ c.if-same.false) refl in
    record { first = k.0; second = k.1 }
