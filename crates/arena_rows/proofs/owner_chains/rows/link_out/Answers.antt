use Rattle.arena_rows.proofs.Prelude.{refl, ◌∙◌, leading_on}
use Rattle.arena_rows.proofs.owner_chains_laws.Linking.{led_there, on_there, zero_led}
use Rattle.arena_rows.proofs.owner_chains.rows.link_out.Goals as goal

pub lead_back-requires-clause-zero : goal.lead_back-requires-clause-zero
lead_back-requires-clause-zero c = zero_led (leading_on c.args.old.next) _ _ _ refl c.lead_on.ensures.rows c.requires.zero

pub lead_back-requires-clause-there : goal.lead_back-requires-clause-there
lead_back-requires-clause-there c = λ some. led_there (leading_on c.args.old.next) _ _ _ (on_there c.args.old.next) c.lead_on.ensures.rows _ ∙ c.requires.next some
