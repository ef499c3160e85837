use Rattle.arena_rows.proofs.Prelude.{◌≡◌, ◌≢◌, ℕ, List, true, sym, ap, subst, refl, ◌∙◌, arith, contains_key, RingMap, spot, or_zero, Labels, Spots, live, label, ring, labelled, spliced, loop_at, in_loops, AreLabelled, StandsFor, IsTakenBack}
use Rattle.arena_rows.proofs.ring_spots_laws.SpotLaws.{live-labelled}
use Rattle.arena_rows.proofs.ring_spots_laws.LabelTables.{len_stands}
use Rattle.arena_rows.proofs.ring_spots_laws.LabelLaws.{label_row, labelled_is}
use Rattle.arena_rows.proofs.ring_spots_laws.LabelJoins.{labelled-first, loops-first, labelled-second, loops-second}
use Rattle.arena_rows.proofs.ring_spots.parts.join.Goals.{then-keeps_first, else-keeps_first}
use Rattle.arena_rows.proofs.ring_spots.parts.join.Goals as goal

pub take_back-requires : goal.take_back-requires
take_back-requires c = let below = label_row _ _ _ _ c.requires.whole c.args.b c.requires.b refl in omega (arith, below, ap or_zero c.label.ensures)

pub stand_for-requires : goal.stand_for-requires
stand_for-requires c = let below = label_row _ _ _ _ c.requires.whole c.args.b c.requires.b refl in omega (arith, below, ap or_zero c.label-shared.ensures)

pub take_back-requires-else-keeps_first : goal.take_back-requires-else-keeps_first
take_back-requires-else-keeps_first c = let below = label_row _ _ _ _ c.requires.whole c.args.a c.requires.a refl in omega (arith, below, ap or_zero c.label-else-keeps_first.ensures, len_stands _ _ _ _ c.stand_for.ensures)

-- a code is live still where a ring got a label
live_still : (m new : RingMap) (l : ℕ) (hs : List ℕ) (c : ℕ) → spot new ≡ labelled (spot m) l hs → live (spot m) c ≡ true → live (spot new) c ≡ true
live_still m new l hs c is a = ap (λ (s : Spots). live s c) is ∙ live-labelled (spot m) l hs c ∙ a

pub splice-requires : goal.splice-requires
splice-requires c = elim c.if-keeps_first.branch [
  | then-keeps_first w ↦ subst (λ (m : RingMap). record { a : live (spot m) c.args.a ≡ true; b : live (spot m) c.args.b ≡ true }) (sym w.rings-is)
      (record { a = live_still _ _ _ _ c.args.a w.set_labels.ensures.spots c.requires.a; b = live_still _ _ _ _ c.args.b w.set_labels.ensures.spots c.requires.b })
  | else-keeps_first w ↦ subst (λ (m : RingMap). record { a : live (spot m) c.args.a ≡ true; b : live (spot m) c.args.b ≡ true }) (sym w.rings-is)
      (record { a = live_still _ _ _ _ c.args.a w.set_labels-else-keeps_first.ensures.spots c.requires.a; b = live_still _ _ _ _ c.args.b w.set_labels-else-keeps_first.ensures.spots c.requires.b })
]

-- the label of the joint ring is told
joint_is : (sp mid new : Spots) (a b n x : ℕ) (hs : List ℕ) → new ≡ spliced mid a b → mid ≡ labelled sp n hs → x ≡ n → new ≡ spliced (labelled sp x hs) a b
joint_is sp mid new a b n x hs is set e = is ∙ ap (λ (s : Spots). spliced s a b) (set ∙ ap (λ k. labelled sp k hs) (sym e))

pub returns-clause-whole : goal.returns-clause-whole
returns-clause-whole c =
    let ne : label (spot c.args.rings.now) c.args.b ≢ label (spot c.args.rings.now) c.args.a = λ e. c.requires.apart (ap (loop_at c.args.labels.now.loops.items) e) in
    elim c.if-keeps_first.branch [
      | then-keeps_first w ↦
          let back = subst (IsTakenBack c.args.labels.now w.take_back.new.labels) (sym (ap or_zero w.label.ensures)) w.take_back.ensures in
          subst (λ (t : Labels). AreLabelled (spot c.splice.new.rings) (contains_key c.splice.new.rings) t) (sym w.labels-is)
          (labelled_is _ _ _ _ _ (labelled-first _ _ _ c.requires.whole c.args.a c.args.b c.requires.a c.requires.b ne (c.keeps_first.ensures.first w.if-keeps_first.true) _ back)
          (joint_is (spot c.args.rings.now) _ _ c.args.a c.args.b _ _ (ring (spot c.args.rings.now) c.args.b) (c.splice.ensures.spots ∙ ap (λ (m : RingMap). spliced (spot m) c.args.a c.args.b) w.rings-is) w.set_labels.ensures.spots (ap or_zero w.label-then-keeps_first.ensures))
          (c.splice.ensures.known ∙ ap (λ (m : RingMap). contains_key m) w.rings-is ∙ w.set_labels.ensures.known))
      | else-keeps_first w ↦
          let stands = subst (λ n. StandsFor c.args.labels.now w.stand_for.new.labels n c.args.kept) (sym (ap or_zero w.label-shared.ensures)) w.stand_for.ensures in
          let back = subst (IsTakenBack w.stand_for.new.labels w.take_back-else-keeps_first.new.labels) (sym (ap or_zero w.label-else-keeps_first.ensures)) w.take_back-else-keeps_first.ensures in
          subst (λ (t : Labels). AreLabelled (spot c.splice.new.rings) (contains_key c.splice.new.rings) t) (sym w.labels-is)
          (labelled_is _ _ _ _ _ (labelled-second _ _ _ c.requires.whole c.args.a c.args.b c.requires.a c.requires.b ne (c.keeps_first.ensures.second w.if-keeps_first.false) _ _ c.args.kept stands back c.requires.kept)
          (joint_is (spot c.args.rings.now) _ _ c.args.a c.args.b _ _ (ring (spot c.args.rings.now) c.args.a) (c.splice.ensures.spots ∙ ap (λ (m : RingMap). spliced (spot m) c.args.a c.args.b) w.rings-is) w.set_labels-else-keeps_first.ensures.spots (ap or_zero w.label-shared.ensures))
          (c.splice.ensures.known ∙ ap (λ (m : RingMap). contains_key m) w.rings-is ∙ w.set_labels-else-keeps_first.ensures.known))
    ]

pub returns-clause-spots : goal.returns-clause-spots
returns-clause-spots c =
    let ne : label (spot c.args.rings.now) c.args.b ≢ label (spot c.args.rings.now) c.args.a = λ e. c.requires.apart (ap (loop_at c.args.labels.now.loops.items) e) in
    elim c.if-keeps_first.branch [
      | then-keeps_first w ↦
          let back = subst (IsTakenBack c.args.labels.now w.take_back.new.labels) (sym (ap or_zero w.label.ensures)) w.take_back.ensures in
          ap (λ (t : Labels). in_loops t.loops.items (spot c.splice.new.rings)) w.labels-is
          ∙ ap (in_loops w.take_back.new.labels.loops.items) (joint_is (spot c.args.rings.now) _ _ c.args.a c.args.b _ _ (ring (spot c.args.rings.now) c.args.b) (c.splice.ensures.spots ∙ ap (λ (m : RingMap). spliced (spot m) c.args.a c.args.b) w.rings-is) w.set_labels.ensures.spots (ap or_zero w.label-then-keeps_first.ensures))
          ∙ loops-first _ _ _ c.requires.whole c.args.a c.args.b c.requires.a c.requires.b ne (c.keeps_first.ensures.first w.if-keeps_first.true) _ back
      | else-keeps_first w ↦
          let stands = subst (λ n. StandsFor c.args.labels.now w.stand_for.new.labels n c.args.kept) (sym (ap or_zero w.label-shared.ensures)) w.stand_for.ensures in
          let back = subst (IsTakenBack w.stand_for.new.labels w.take_back-else-keeps_first.new.labels) (sym (ap or_zero w.label-else-keeps_first.ensures)) w.take_back-else-keeps_first.ensures in
          ap (λ (t : Labels). in_loops t.loops.items (spot c.splice.new.rings)) w.labels-is
          ∙ ap (in_loops w.take_back-else-keeps_first.new.labels.loops.items) (joint_is (spot c.args.rings.now) _ _ c.args.a c.args.b _ _ (ring (spot c.args.rings.now) c.args.a) (c.splice.ensures.spots ∙ ap (λ (m : RingMap). spliced (spot m) c.args.a c.args.b) w.rings-is) w.set_labels-else-keeps_first.ensures.spots (ap or_zero w.label-shared.ensures))
          ∙ loops-second _ _ _ c.requires.whole c.args.a c.args.b c.requires.a c.requires.b ne (c.keeps_first.ensures.second w.if-keeps_first.false) _ _ c.args.kept stands back c.requires.kept
    ]
