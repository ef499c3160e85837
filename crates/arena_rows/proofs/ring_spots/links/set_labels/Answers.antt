use Rattle.arena_rows.proofs.Prelude.{arith, ap, ◌∙◌, refl, subst, ◌-◌, ◌+◌, contains_key, RingMap, spot, IsIn, codes, ring}
use Rattle.arena_rows.proofs.ring_spots_laws.RingMaps.{known-with}
use Rattle.arena_rows.proofs.ring_spots_laws.SpotTables.{codes_are}
use Rattle.arena_rows.proofs.ring_spots_laws.Relabelling.{partly_start, partly_next, partly_live, partly_last, partly_more, partly_over, step_in, label_step, known_step, next_step}
use Rattle.arena_rows.proofs.ring_spots.links.set_labels.Goals as goal

pub round-init : goal.round-init
round-init c = record {
  done = partly_start (spot c.args.rings.now) c.requires.rings c.args.from c.args.l (codes - 0) c.requires.there (omega arith);
  here = (c.requires.rings.rings c.args.from c.requires.there).item;
  known = refl;
}

pub set_label-requires : goal.set_label-requires
set_label-requires c =
    partly_live _ _ _ _ _ c.round.invariant.done c.round.h ∙ (c.requires.rings.rings c.args.from c.requires.there).awake c.round.h c.round.invariant.here

pub next-h-requires : goal.next-h-requires
next-h-requires c =
    label_step c.round.rings c.set_label.new.self c.round.h _ c.round.h c.set_label.ensures
    ∙ partly_live _ _ _ _ _ c.round.invariant.done c.round.h ∙ (c.requires.rings.rings c.args.from c.requires.there).awake c.round.h c.round.invariant.here

pub returns-then-h-from : goal.returns-then-h-from
returns-then-h-from c =
    let goes = next_step c.round.rings c.set_label.new.self c.round.h c.args.l c.set_label.ensures (partly_next _ _ _ _ _ c.round.invariant.done c.round.h) c.next-h.result c.next-h.ensures.next in
    record {
      spots = partly_last (spot c.args.rings.now) (spot c.round.rings) (spot c.set_label.new.self) c.args.l c.args.from c.round.h c.next-h.result (codes - c.round.counter) (ring (spot c.args.rings.now) c.args.from) (omega (arith, codes_are)) c.round.invariant.done
          (known_step c.round.rings c.set_label.new.self c.round.h c.args.l c.set_label.ensures) goes c.if-h-from.true;
      known = ap (λ (m : RingMap). contains_key m) c.set_label.ensures ∙ (λ i q. known-with c.round.rings c.round.h (λ s. record s { label = c.args.l }) q i) ∙ c.round.invariant.known;
    }

pub round-preserved : goal.round-preserved
round-preserved c = record {
  done = partly_more (spot c.args.rings.now) (spot c.round.rings) (spot c.set_label.new.self) c.args.l c.args.from c.round.h c.next-h.result (codes - c.round.counter) (codes - (c.round.counter + 1)) (ring (spot c.args.rings.now) c.args.from) (omega (arith, codes_are)) c.round.invariant.done
      (known_step c.round.rings c.set_label.new.self c.round.h c.args.l c.set_label.ensures)
      (next_step c.round.rings c.set_label.new.self c.round.h c.args.l c.set_label.ensures (partly_next _ _ _ _ _ c.round.invariant.done c.round.h) c.next-h.result c.next-h.ensures.next) c.if-h-from.false;
  here = subst (λ z. IsIn z (ring (spot c.args.rings.now) c.args.from)) (next_step c.round.rings c.set_label.new.self c.round.h c.args.l c.set_label.ensures (partly_next _ _ _ _ _ c.round.invariant.done c.round.h) c.next-h.result c.next-h.ensures.next)
      (step_in (spot c.args.rings.now) c.requires.rings c.args.from c.round.h c.requires.there c.round.invariant.here);
  known = ap (λ (m : RingMap). contains_key m) c.set_label.ensures ∙ (λ i q. known-with c.round.rings c.round.h (λ s. record s { label = c.args.l }) q i) ∙ c.round.invariant.known;
}

pub returns : goal.returns
returns c = record {
  spots = partly_over (spot c.args.rings.now) (spot c.round.rings) c.args.l c.args.from c.round.h (codes - c.round.counter) (ring (spot c.args.rings.now) c.args.from) (omega (arith, codes_are)) c.round.invariant.done;
  known = c.round.invariant.known;
}
