use Rattle.script_reader.proofs.LinedLaws.{lined_lines, lines_are_lined}
use Rattle.script_reader.proofs.PartLaws.{parted_words, words_are_parts}
use Rattle.script_reader.proofs.laws.lines_and_words_are_parts.Goals as goal

pub returns : goal.returns
returns c = record {
  lines = λ text ls. (lines_are_lined ls text, lined_lines ls text);
  words = λ line ws. (words_are_parts ws line, parted_words ws line);
}
