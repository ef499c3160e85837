use Rattle.arena_rows.proofs.Prelude.{◌≢◌, ◌≡◌, ℕ, true, List, Option, Some, arith, subst, sym, ◌∙◌, inl, inr, Head, Link, AreChained, IsAbove, IsBelow, follower, items, link_at}
use Rattle.arena_rows.proofs.owner_chains_laws.Following.{ends_below, follower_above, owner_is, previous_below}
use Rattle.arena_rows.proofs.owner_chains_laws.Order.{below_less}
use Rattle.arena_rows.proofs.owner_chains_laws.Placing.{place_less}
use Rattle.arena_rows.proofs.owner_chains.places.toward.Goals as goal

previous_here : (c : goal.In-Some) → IsBelow (items c.args.links.now c.args.owner) c.args.at c.in-Some.link.previous
previous_here c =
    let some : c.args.at ≢ 0 = omega arith in
    let here : link_at c.args.links.now c.args.at ≡ Some c.in-Some.link = sym c.find.ensures ∙ c.in-Some.is in
    previous_below c.args.heads.now c.args.links.now c.requires.chained c.args.owner c.args.at c.in-Some.link here (owner_is c.args.links.now c.args.owner c.args.at c.in-Some.link here (c.requires.item some))

next_above : (heads : List (Option Head)) (links : List (Option Link)) (o m next : ℕ) → AreChained heads links → (m ≢ 0 → items links o m ≡ true) → next ≡ follower heads links o m → IsAbove (items links o) m next
next_above heads links o m next are there e = subst (IsAbove (items links o) m) (sym e) (follower_above heads links are o m there)

pub returns-in-Some-clause-item : goal.returns-in-Some-clause-item
returns-in-Some-clause-item c h = ((previous_here c).found h).1

pub returns-in-Some-clause-place : goal.returns-in-Some-clause-place
returns-in-Some-clause-place c e = absurd (let less = below_less _ _ _ (omega arith) (previous_here c) in omega (arith, less, e))

pub returns-then-next-number-clause-place : goal.returns-then-next-number-clause-place
returns-then-next-number-clause-place c e =
    let less = place_less (items c.args.links.now c.args.owner) c.args.number c.args.at c.if-at-number.false c.requires.some c.requires.free c.requires.item in
    ends_below _ _ _ _ less c.requires.item (next_above _ _ _ _ _ c.requires.chained c.requires.item c.follower-next.ensures) (λ h. elim c.if-next-number.either [ inl z ↦ absurd (h z) | inr more ↦ omega (arith, more.1) ])

pub returns-else-next-number-clause-item : goal.returns-else-next-number-clause-item
returns-else-next-number-clause-item c h = ((next_above _ _ _ _ _ c.requires.chained c.requires.item c.follower-next.ensures).found h).1

pub returns-else-next-number-clause-place : goal.returns-else-next-number-clause-place
returns-else-next-number-clause-place c e = absurd (let more = ((next_above _ _ _ _ _ c.requires.chained c.requires.item c.follower-next.ensures).found c.if-next-number.false.0).0 in omega (arith, more, e))
