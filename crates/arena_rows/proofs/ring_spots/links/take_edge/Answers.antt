use Rattle.arena_rows.proofs.Prelude.{ap, ◌∙◌, subst, sym, refl, arith, spot, or_zero, IsLive-next, plus, minus, label, in_loops, IsTakenBack}
use Rattle.arena_rows.proofs.ring_spots_laws.LabelLaws.{labelled_is, label_row}
use Rattle.arena_rows.proofs.ring_spots_laws.LabelTables.{len_taken_back}
use Rattle.arena_rows.proofs.ring_spots_laws.LabelEdges.{labelled-asleep, loops-asleep_both}
use Rattle.arena_rows.proofs.ring_spots.links.take_edge.Goals as goal

pub take_back-requires : goal.take_back-requires
take_back-requires c = let below = label_row _ _ _ _ c.requires.whole (plus c.args.e) (IsLive-next _ _ _ c.requires.first) refl in omega (arith, below, ap or_zero c.label.ensures)

pub take_back-requires-2 : goal.take_back-requires-2
take_back-requires-2 c = let below = label_row _ _ _ _ c.requires.whole (minus c.args.e) (IsLive-next _ _ _ c.requires.second) refl in omega (arith, below, ap or_zero c.label-2.ensures, len_taken_back _ _ _ c.take_back.ensures)

pub returns : goal.returns
returns c =
    let m = c.args.rings.now in
    let h : IsTakenBack c.args.labels.now c.take_back.new.labels (label (spot m) (plus c.args.e)) = subst (IsTakenBack c.args.labels.now c.take_back.new.labels) (sym (ap or_zero c.label.ensures)) c.take_back.ensures in
    let g : IsTakenBack c.take_back.new.labels c.take_back-2.new.labels (label (spot m) (minus c.args.e)) = subst (IsTakenBack c.take_back.new.labels c.take_back-2.new.labels) (sym (ap or_zero c.label-2.ensures)) c.take_back-2.ensures in
    let p = IsLive-next _ _ _ c.requires.first in
    let q = IsLive-next _ _ _ c.requires.second in
    record {
      whole = labelled_is _ _ _ _ _ (labelled-asleep _ _ _ c.requires.whole c.args.e p q (ap or_zero c.requires.first) (ap or_zero c.requires.second) _ _ h g) c.put_to_sleep.ensures.spots c.put_to_sleep.ensures.known;
      spots = ap (in_loops c.take_back-2.new.labels.loops.items) c.put_to_sleep.ensures.spots ∙ loops-asleep_both _ _ _ c.requires.whole c.args.e p q (ap or_zero c.requires.first) (ap or_zero c.requires.second) _ _ h g;
      known = c.put_to_sleep.ensures.known;
    }
