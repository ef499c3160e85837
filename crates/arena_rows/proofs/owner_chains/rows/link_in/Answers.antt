use Rattle.arena_rows.proofs.Prelude.{cond, nat_eq, Some, refl, ap, ◌∙◌, leading_on, leading_back, linked_in}
use Rattle.arena_rows.proofs.owner_chains_laws.Linking.{led_there, on_there, zero_led}
use Rattle.arena_rows.proofs.owner_chains.rows.link_in.Goals as goal

pub lead_back-requires-clause-zero : goal.lead_back-requires-clause-zero
lead_back-requires-clause-zero c = zero_led (leading_on c.args.item) _ _ _ refl c.lead_on.ensures.rows c.requires.zero

pub lead_back-requires-clause-there : goal.lead_back-requires-clause-there
lead_back-requires-clause-there c = λ some. led_there (leading_on c.args.item) _ _ _ (on_there c.args.item) c.lead_on.ensures.rows _ ∙ c.requires.next some

pub returns-clause-rows : goal.returns-clause-rows
unfolding linked_in
returns-clause-rows c = λ q. c.put.ensures.rows q
    ∙ ap (cond (nat_eq q c.args.item) (Some c.args.new)) (c.lead_back.ensures.rows q ∙ ap (λ row. cond (nat_eq q c.args.new.next) (leading_back c.args.item row) row) (c.lead_on.ensures.rows q))
