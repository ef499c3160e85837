use Rattle.arena_rows.proofs.Prelude.{◌+◌, sym, subst, ◌∙◌, IsBelow, items}
use Rattle.arena_rows.proofs.owner_chains_laws.Placing.{high_below}
use Rattle.arena_rows.proofs.owner_chains.places.beside.Goals as goal

pub returns-in-Some : goal.returns-in-Some
returns-in-Some c = high_below (items c.args.links.now c.args.owner) c.args.number c.args.distance c.in-Some.high.previous c.requires.apart c.requires.clear
    (subst (λ o. IsBelow (items c.args.links.now o) (c.args.number + c.args.distance) c.in-Some.high.previous) c.if-high-owner.true (c.requires.back (c.args.number + c.args.distance) c.in-Some.high (sym c.find.ensures ∙ c.in-Some.is)))
