use Rattle.arena_rows.proofs.Prelude.{◌≡◌, ◌≢◌, ap, sym, ◌∙◌, or_zero, spot, Spots, live, label, ring, labelled, spliced, loop_at, in_loops}
use Rattle.arena_rows.proofs.ring_spots_laws.SpotLaws.{live-labelled}
use Rattle.arena_rows.proofs.ring_spots_laws.LabelTables.{none_taken_back}
use Rattle.arena_rows.proofs.ring_spots_laws.LabelLaws.{labelled_is}
use Rattle.arena_rows.proofs.ring_spots_laws.LabelJoins.{labelled-first, loops-first}
use Rattle.arena_rows.proofs.ring_spots.alone.join_alone.Goals as goal

pub splice-requires-clause-a : goal.splice-requires-clause-a
splice-requires-clause-a c = ap (λ (s : Spots). live s c.args.a) c.set_label.ensures.spots ∙ live-labelled (spot c.args.rings.now) _ (ring (spot c.args.rings.now) c.args.b) c.args.a ∙ c.requires.a

pub splice-requires-clause-b : goal.splice-requires-clause-b
splice-requires-clause-b c = ap (λ (s : Spots). live s c.args.b) c.set_label.ensures.spots ∙ live-labelled (spot c.args.rings.now) _ (ring (spot c.args.rings.now) c.args.b) c.args.b ∙ c.requires.b

pub returns-then-label-eq0-clause-whole : goal.returns-then-label-eq0-clause-whole
returns-then-label-eq0-clause-whole c =
    let sp = spot c.args.rings.now in
    let none : label sp c.args.b ≡ 0 = ap or_zero c.label.ensures ∙ c.if-label-eq0.true in
    let ne : label sp c.args.b ≢ label sp c.args.a = λ e. c.requires.apart (ap (loop_at c.args.labels.now.loops.items) e) in
    labelled_is _ _ _ _ _ (labelled-first _ _ _ c.requires.whole c.args.a c.args.b c.requires.a c.requires.b ne (λ z. ne (none ∙ sym z)) c.args.labels.now (none_taken_back c.args.labels.now _ none))
    (c.splice.ensures.spots ∙ ap (λ (s : Spots). spliced s c.args.a c.args.b) (c.set_label.ensures.spots ∙ ap (λ n. labelled sp n (ring sp c.args.b)) (sym (ap or_zero c.label-then-label-eq0.ensures))))
    (c.splice.ensures.known ∙ c.set_label.ensures.known)

pub returns-then-label-eq0-clause-spots : goal.returns-then-label-eq0-clause-spots
returns-then-label-eq0-clause-spots c =
    let sp = spot c.args.rings.now in
    let none : label sp c.args.b ≡ 0 = ap or_zero c.label.ensures ∙ c.if-label-eq0.true in
    let ne : label sp c.args.b ≢ label sp c.args.a = λ e. c.requires.apart (ap (loop_at c.args.labels.now.loops.items) e) in
    ap (in_loops c.args.labels.now.loops.items)
    (c.splice.ensures.spots ∙ ap (λ (s : Spots). spliced s c.args.a c.args.b) (c.set_label.ensures.spots ∙ ap (λ n. labelled sp n (ring sp c.args.b)) (sym (ap or_zero c.label-then-label-eq0.ensures))))
    ∙ loops-first _ _ _ c.requires.whole c.args.a c.args.b c.requires.a c.requires.b ne (λ z. ne (none ∙ sym z)) c.args.labels.now (none_taken_back c.args.labels.now _ none)
