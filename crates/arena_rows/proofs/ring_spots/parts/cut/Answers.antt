use Rattle.arena_rows.proofs.Prelude.{sym, ap, subst, ◌∙◌, arith, or_zero, StandsFor}
use Rattle.arena_rows.proofs.ring_spots_laws.LabelLaws.{label_row, is_cut, labelled-stands, seen_cut_first, seen_cut_second}
use Rattle.arena_rows.proofs.ring_spots.parts.cut.Goals as goal

pub is_shorter-requires : goal.is_shorter-requires
is_shorter-requires c =
    let cut = is_cut _ _ _ c.requires.whole c.args.a c.args.b c.requires.a c.requires.together c.requires.apart _ _ c.splice.ensures.spots c.splice.ensures.known in
    record { rings = cut.rings; a = cut.a_there; b = cut.b_there }

pub label-requires : goal.label-requires
label-requires c = (is_cut _ _ _ c.requires.whole c.args.a c.args.b c.requires.a c.requires.together c.requires.apart _ _ c.splice.ensures.spots c.splice.ensures.known).b_there

pub stand_for-requires : goal.stand_for-requires
stand_for-requires c =
    let cut = is_cut _ _ _ c.requires.whole c.args.a c.args.b c.requires.a c.requires.together c.requires.apart _ _ c.splice.ensures.spots c.splice.ensures.known in
    let below = label_row _ _ _ _ cut.first c.args.b cut.b_there cut.beside in
    omega (arith, below, ap or_zero c.label.ensures)

pub give_label-requires : goal.give_label-requires
give_label-requires c =
    let cut = is_cut _ _ _ c.requires.whole c.args.a c.args.b c.requires.a c.requires.together c.requires.apart _ _ c.splice.ensures.spots c.splice.ensures.known in
    let stands = subst (λ n. StandsFor c.args.labels.now c.stand_for.new.labels n c.args.l) (sym (ap or_zero c.label.ensures)) c.stand_for.ensures in
    record { whole = labelled-stands _ _ _ _ cut.first _ c.args.b c.args.l cut.b_there cut.beside cut.named stands; there = cut.a_there }

pub give_label-requires-else-is_shorter : goal.give_label-requires-else-is_shorter
give_label-requires-else-is_shorter c =
    let cut = is_cut _ _ _ c.requires.whole c.args.a c.args.b c.requires.a c.requires.together c.requires.apart _ _ c.splice.ensures.spots c.splice.ensures.known in
    record { whole = cut.second; there = cut.b_there }

pub returns-then-is_shorter-clause-spots : goal.returns-then-is_shorter-clause-spots
returns-then-is_shorter-clause-spots c =
    let stands = subst (λ n. StandsFor c.args.labels.now c.stand_for.new.labels n c.args.l) (sym (ap or_zero c.label.ensures)) c.stand_for.ensures in
    c.give_label.ensures.spots ∙ seen_cut_first _ _ _ c.requires.whole c.args.a c.args.b c.requires.a c.requires.together c.requires.apart _ c.splice.ensures.spots _ c.args.l c.args.kept stands c.requires.kept

pub returns-else-is_shorter-clause-spots : goal.returns-else-is_shorter-clause-spots
returns-else-is_shorter-clause-spots c = c.give_label-else-is_shorter.ensures.spots ∙ seen_cut_second _ _ _ c.requires.whole c.args.a c.args.b c.requires.a c.requires.together c.requires.apart _ c.splice.ensures.spots c.args.l
