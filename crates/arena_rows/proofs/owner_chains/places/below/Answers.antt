use Rattle.arena_rows.proofs.Prelude.{◌≡◌, ◌≢◌, true, subst, sym, ap, arith, Head, IsBelow, items, is_of}
use Rattle.arena_rows.proofs.owner_chains_laws.Placing.{clear_one, none_below}
use Rattle.arena_rows.proofs.owner_chains.places.below.Goals as goal

pub sides-init : goal.sides-init
sides-init c = record {
  item = subst (λ (h : Head). h.finger ≢ 0 → items c.args.links.now c.args.owner h.finger ≡ true) (sym c.head_of-at.ensures) (c.requires.chained.fingers c.args.owner);
  clear = clear_one (items c.args.links.now c.args.owner) c.args.number c.requires.free;
}

pub sides-preserved : goal.sides-preserved
sides-preserved c = record { item = c.toward-next.ensures.item; clear = c.in_default.ensures }

pub returns-then-next-at : goal.returns-then-next-at
returns-then-next-at c = subst (IsBelow (items c.args.links.now c.args.owner) c.args.number) c.if-next-at.true (c.toward-next.ensures.place c.if-next-at.true)

pub returns-in-Some : goal.returns-in-Some
returns-in-Some c = c.in-Some.ensures

pub returns : goal.returns
returns c = none_below (items c.args.links.now c.args.owner) c.args.number (ap (is_of c.args.owner) c.requires.chained.no_zero) (λ k low high. c.sides.invariant.clear k (omega arith) (omega arith))
