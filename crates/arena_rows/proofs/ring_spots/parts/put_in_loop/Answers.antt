use Rattle.arena_rows.proofs.Prelude.{sym, ap, subst, refl, ◌∙◌, arith, or_zero, StandsFor}
use Rattle.arena_rows.proofs.ring_spots_laws.LabelLaws.{label_row, but_loose, labelled-stands, loops-stands}
use Rattle.arena_rows.proofs.ring_spots.parts.put_in_loop.Goals as goal

pub give_label-requires-clause-whole : goal.give_label-requires-clause-whole
give_label-requires-clause-whole c = but_loose _ _ _ c.requires.whole c.args.from c.requires.there (ap or_zero c.label-label.ensures ∙ c.if-label-eq0.true)

pub stand_for-requires : goal.stand_for-requires
stand_for-requires c = let below = label_row _ _ _ _ c.requires.whole c.args.from c.requires.there refl in omega (arith, below, ap or_zero c.label-label.ensures)

pub returns-else-label-eq0-clause-whole : goal.returns-else-label-eq0-clause-whole
returns-else-label-eq0-clause-whole c =
    let e = ap or_zero c.label-label.ensures in
    labelled-stands _ _ _ _ c.requires.whole _ c.args.from c.args.l c.requires.there refl (λ z. c.if-label-eq0.false (sym e ∙ z)) (subst (λ n. StandsFor c.args.labels.now c.stand_for.new.labels n c.args.l) (sym e) c.stand_for.ensures)

pub returns-else-label-eq0-clause-spots : goal.returns-else-label-eq0-clause-spots
returns-else-label-eq0-clause-spots c =
    let e = ap or_zero c.label-label.ensures in
    loops-stands _ _ _ c.requires.whole _ c.args.from c.args.l c.requires.there (λ z. c.if-label-eq0.false (sym e ∙ z)) (subst (λ n. StandsFor c.args.labels.now c.stand_for.new.labels n c.args.l) (sym e) c.stand_for.ensures)
