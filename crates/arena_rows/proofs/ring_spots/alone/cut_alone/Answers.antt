use Rattle.arena_rows.proofs.Prelude.{ap, sym, ◌∙◌, or_zero, spot, IsLive-next, ring, labelled, in_loops}
use Rattle.arena_rows.proofs.ring_spots_laws.LabelLaws.{labelled_is, labelled-loose, loops-loose, seen_cut_second}
use Rattle.arena_rows.proofs.ring_spots_laws.Alone.{cut_off, is_cut_alone}
use Rattle.arena_rows.proofs.ring_spots.alone.cut_alone.Goals as goal

pub splice-requires-clause-b : goal.splice-requires-clause-b
splice-requires-clause-b c = (cut_off _ c.requires.whole.rings c.args.a c.args.b (IsLive-next _ _ _ c.requires.follows) (ap or_zero c.requires.follows) c.requires.apart).b_there

pub set_label-requires : goal.set_label-requires
set_label-requires c =
    let off = is_cut_alone _ _ _ c.requires.whole c.args.a c.args.b (IsLive-next _ _ _ c.requires.follows) (ap or_zero c.requires.follows) c.requires.apart _ _ c.splice.ensures.spots c.splice.ensures.known in
    record { there = off.cut.b_there; alone = off.alone }

pub returns-then-l-eq0-clause-whole : goal.returns-then-l-eq0-clause-whole
returns-then-l-eq0-clause-whole c =
    let off = is_cut_alone _ _ _ c.requires.whole c.args.a c.args.b (IsLive-next _ _ _ c.requires.follows) (ap or_zero c.requires.follows) c.requires.apart _ _ c.splice.ensures.spots c.splice.ensures.known in
    labelled_is _ _ _ _ _ (labelled-loose _ _ _ c.args.b off.cut.second off.cut.b_there off.alone) c.set_label.ensures.spots c.set_label.ensures.known

pub returns-then-l-eq0-clause-spots : goal.returns-then-l-eq0-clause-spots
returns-then-l-eq0-clause-spots c =
    let off = is_cut_alone _ _ _ c.requires.whole c.args.a c.args.b (IsLive-next _ _ _ c.requires.follows) (ap or_zero c.requires.follows) c.requires.apart _ _ c.splice.ensures.spots c.splice.ensures.known in
    let together = (cut_off _ c.requires.whole.rings c.args.a c.args.b (IsLive-next _ _ _ c.requires.follows) (ap or_zero c.requires.follows) c.requires.apart).together in
    ap (in_loops c.args.labels.now.loops.items) c.set_label.ensures.spots ∙ loops-loose _ _ _ c.args.b off.cut.second off.cut.b_there off.alone
    ∙ ap (λ n. labelled (in_loops c.args.labels.now.loops.items (spot c.splice.new.rings)) n (ring (spot c.splice.new.rings) c.args.b)) (sym c.if-l-eq0.true)
    ∙ seen_cut_second _ _ _ c.requires.whole c.args.a c.args.b (IsLive-next _ _ _ c.requires.follows) together c.requires.apart _ c.splice.ensures.spots c.args.l
