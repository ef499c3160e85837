use Rattle.raw_cells.proofs.numbers_laws.Summed.{last_found, last_nowhere}
use Rattle.raw_cells.proofs.numbers.last.Goals as goal

pub returns-in-Some : goal.returns-in-Some
returns-in-Some c = last_found _ _ c.requires c.in-Some.summary c.last_of.result c.last_of-in-Some.result c.in-Some.ensures c.last_of.ensures c.last_of-in-Some.ensures

pub returns-in-None : goal.returns-in-None
returns-in-None c = last_nowhere _ _ c.requires c.in-None.ensures
