use Rattle.script_reader.proofs.LineLaws.{line_ok, ok_line, line_err, err_line}
use Rattle.script_reader.proofs.laws.reading_is_spelling.Goals as goal

pub returns : goal.returns
returns c = record {
  command = λ line d. (line_ok line d, ok_line line d);
  fault = λ line f. (line_err line f, err_line line f);
}
