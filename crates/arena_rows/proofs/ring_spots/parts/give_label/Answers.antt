use Rattle.arena_rows.proofs.Prelude.{ap, ◌∙◌, in_loops}
use Rattle.arena_rows.proofs.ring_spots_laws.LabelLaws.{labelled_is, spare, labelled-given, loops-given}
use Rattle.arena_rows.proofs.ring_spots.parts.give_label.Goals as goal

pub hand_out-label-requires : goal.hand_out-label-requires
hand_out-label-requires c = spare _ _ _ _ c.requires.whole c.args.code (c.requires.whole.room.live_known _ c.requires.there)

pub returns-clause-whole : goal.returns-clause-whole
returns-clause-whole c = labelled_is _ _ _ _ _ (labelled-given _ _ _ c.args.code c.requires.whole c.requires.there _ _ c.args.l c.hand_out-label.ensures) c.set_labels.ensures.spots c.set_labels.ensures.known

pub returns-clause-spots : goal.returns-clause-spots
returns-clause-spots c = ap (in_loops c.hand_out-label.new.labels.loops.items) c.set_labels.ensures.spots ∙ loops-given _ _ _ c.args.code c.requires.whole c.requires.there _ _ c.args.l c.hand_out-label.ensures
