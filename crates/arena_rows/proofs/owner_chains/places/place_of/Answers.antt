use Rattle.arena_rows.proofs.Prelude.{◌≡◌, ◌≢◌, true, ◌<◌, sym, subst, inl, inr, Head, items}
use Rattle.arena_rows.proofs.owner_chains_laws.Following.{ends_below, next_above, owner_is}
use Rattle.arena_rows.proofs.owner_chains_laws.Placing.{place_less}
use Rattle.arena_rows.proofs.owner_chains.places.place_of.Goals as goal

pub returns-clause-below : goal.returns-clause-below
returns-clause-below c =
    let there : c.args.head.finger ≢ 0 → items c.args.links.now c.args.owner c.args.head.finger ≡ true =
    subst (λ (h : Head). h.finger ≢ 0 → items c.args.links.now c.args.owner h.finger ≡ true) (sym c.requires.head) (c.requires.chained.fingers c.args.owner) in
    let less : c.args.head.finger < c.args.number = place_less (items c.args.links.now c.args.owner) c.args.number c.args.head.finger c.if-head-number.false c.requires.some c.requires.free there in
    let own = owner_is c.args.links.now c.args.owner c.args.head.finger c.known-next.result c.known-next.ensures (there c.if-head-eq0.false) in
    let above = next_above c.args.heads.now c.args.links.now c.requires.chained c.args.owner c.args.head.finger c.known-next.result c.known-next.ensures own in
    ends_below _ _ _ _ less there above (λ some. elim c.else-next-ne0.either [ inl up ↦ up.1 | inr none ↦ absurd (some none) ])
