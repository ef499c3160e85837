use Rattle.arena_rows.proofs.Prelude.{refl, leading_on}
use Rattle.arena_rows.proofs.owner_chains_laws.Linking.{led_row, led_none}
use Rattle.arena_rows.proofs.owner_chains.rows.lead_on.Goals as goal

pub returns-then-item-eq0-clause-rows : goal.returns-then-item-eq0-clause-rows
returns-then-item-eq0-clause-rows c = led_none (leading_on c.args.to) c.args.links.now c.args.item refl c.requires.zero c.if-item-eq0.true

pub returns-clause-rows : goal.returns-clause-rows
returns-clause-rows c = led_row (leading_on c.args.to) _ _ _ _ _ c.known-old.ensures refl c.set.ensures.rows
