use Rattle.script_reader.proofs.EndLaws.{stays}
use Rattle.script_reader.proofs.laws.the_end_stays.Goals as goal

pub returns : goal.returns
returns g c = λ old mid new answer again. stays g.R.Read.remaining old mid new answer again
