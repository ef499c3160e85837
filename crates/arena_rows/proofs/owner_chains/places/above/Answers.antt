use Rattle.arena_rows.proofs.Prelude.{sym, subst, ◌∙◌, IsAbove, items}
use Rattle.arena_rows.proofs.owner_chains_laws.Following.{follower_above}
use Rattle.arena_rows.proofs.owner_chains_laws.Order.{between}
use Rattle.arena_rows.proofs.owner_chains.places.above.Goals as goal
use Rattle.arena_rows.proofs.owner_chains.places.above.Goals.{then-number-eq0-via-then-number-eq0, then-number-eq0-via-else-number-eq0+then-is_item}

pub returns-then-number-eq0 : goal.returns-then-number-eq0
returns-then-number-eq0 c = subst (IsAbove (items c.args.links.now c.args.owner) c.args.number) (sym c.follower.ensures)
    (follower_above _ _ c.requires c.args.owner c.args.number (λ some. elim c.then-number-eq0.branch [
      | then-number-eq0-via-then-number-eq0 w ↦ absurd (some w.if-number-eq0.true)
      | then-number-eq0-via-else-number-eq0+then-is_item w ↦ sym w.is_item.ensures ∙ w.if-is_item.true
    ]))

pub returns : goal.returns
returns c = between _ _ _ _ c.if-number-eq0.false (rw c.is_item.ensures at c.if-is_item.false) c.search.ensures.below c.search.ensures.next
