use Rattle.arena_rows.proofs.Prelude.{sym, subst, IsAbove, items}
use Rattle.arena_rows.proofs.owner_chains_laws.Following.{follower_above}
use Rattle.arena_rows.proofs.owner_chains.places.search.Goals as goal

pub returns-clause-next : goal.returns-clause-next
returns-clause-next c = subst (IsAbove (items c.args.links.now c.args.owner) c.below-previous.result) (sym c.follower.ensures)
    (follower_above _ _ c.requires.chained c.args.owner _ (λ some. (c.below-previous.ensures.found some).1))
