use Rattle.raw_ring.proofs.Prelude.{refl, ap, ◌∙◌, set, is_some, woken}
use Rattle.raw_ring.proofs.Mapping.{row_known, asleep_is}
use Rattle.raw_ring.proofs.Tying.{node_there, IsTied-set, IsTied-set_tail, ring_map-woken}
use Rattle.raw_ring.proofs.rings.Rings.wake_as.Goals as goal

pub place-at-requires : goal.place-at-requires
place-at-requires c = row_known _ c.self.inside.nodes _ _ (asleep_is _ _ (rw (← c.self.view_is) at c.requires))

pub set_tail-requires : goal.set_tail-requires
set_tail-requires c = node_there _ _ c.self.invariant.places _ _ c.place-at.ensures.2

pub wake-requires : goal.wake-requires
wake-requires c = ap is_some c.place-at.ensures.2

pub invariant_of-self : goal.invariant_of-self
invariant_of-self c =
    let found = c.place-at.ensures.2 in
    rw (c.wake.ensures ∙ ap (λ o. set c.self.inside.slots c.args.code (woken c.args.label o)) found) (IsTied-set _ _ _ _ _ (IsTied-set_tail _ _ _ _ _ _ c.self.invariant found c.set_tail.ensures) found refl (λ off. cc))

pub returns : goal.returns
returns c =
    let found = c.place-at.ensures.2 in
    rw (c.wake.ensures ∙ ap (λ o. set c.self.inside.slots c.args.code (woken c.args.label o)) found, ← c.self.view_is)
    (ring_map-woken _ _ _ _ _ _ c.args.label c.self.invariant found c.set_tail.ensures (asleep_is _ _ (rw (← c.self.view_is) at c.requires)))
