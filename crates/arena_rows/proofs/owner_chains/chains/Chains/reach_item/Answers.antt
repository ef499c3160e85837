use Rattle.std.proofs.Common.{arith, refl}
use Rattle.arena_rows.proofs.owner_chains_laws.Whole.{still_chained, grown}
use Rattle.arena_rows.proofs.owner_chains.chains.Chains.reach_item.Goals as goal

pub invariant_of-self : goal.invariant_of-self
invariant_of-self c = still_chained _ _ _ _ c.self.invariant (λ q. refl) c.reach.ensures.same (c.reach.ensures.limit 1000001 (omega (arith, c.requires)) c.self.invariant.within) (omega arith)

pub returns-clause-grown : goal.returns-clause-grown
returns-clause-grown c = rw (← c.self.view_is) (grown _ _ _ _ c.self.invariant (λ q. refl) c.reach.ensures.same (omega arith) c.reach.ensures.grows)
