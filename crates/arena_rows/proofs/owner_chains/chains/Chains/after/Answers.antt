use Rattle.arena_rows.proofs.owner_chains_laws.Whole.{none_above, one_above}
use Rattle.arena_rows.proofs.owner_chains.chains.Chains.after.Goals as goal

pub returns-then-next-eq0 : goal.returns-then-next-eq0
returns-then-next-eq0 c = rw (← c.self.view_is) (none_above c.self.inside.links c.args.owner c.args.number c.above-next.result c.if-next-eq0.true c.above-next.ensures)

pub returns-else-next-eq0 : goal.returns-else-next-eq0
returns-else-next-eq0 c = rw (← c.self.view_is) (one_above c.self.inside.links c.args.owner c.args.number c.above-next.result c.if-next-eq0.false c.above-next.ensures)
