use Rattle.script_reader.proofs.Prelude.{ap, opening_of, words}
use Rattle.script_reader.proofs.NameLaws.{begins_four}
use Rattle.script_reader.proofs.line.quick_name.Goals as goal

-- kev
pub returns-in-107 : goal.returns-in-107
returns-in-107 c = ap (λ xs. opening_of (words xs)) (begins_four c.args.line.now 107 101 118 32 c.in-107.len_at_least (assumption) (assumption) (assumption) (assumption))
