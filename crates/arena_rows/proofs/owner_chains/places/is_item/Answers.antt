use Rattle.arena_rows.proofs.Prelude.{sym, ap, ◌∙◌, is_of}
use Rattle.arena_rows.proofs.owner_chains.places.is_item.Goals as goal

pub returns-in-Some : goal.returns-in-Some
returns-in-Some c = ap (is_of c.args.owner) (sym c.in-Some.is ∙ c.find.ensures)

pub returns-in-None : goal.returns-in-None
returns-in-None c = ap (is_of c.args.owner) (sym c.in-None.is ∙ c.find.ensures)
