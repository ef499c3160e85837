use Rattle.std.proofs.Common.{◌∙◌, Some, ap}
use Rattle.clap.specs.Words.{found_of}
use Rattle.command_line.proofs.CommandLine.{file_in_rows}
use Rattle.command_line.proofs.words.named_file.Goals as goal

pub returns-in_ok-from_str-in-Some-clause-file : goal.returns-in_ok-from_str-in-Some-clause-file
returns-in_ok-from_str-in-Some-clause-file c = ap Some c.in_ok-from_str-in-Some.ensures.ok ∙ c.in-Some.ensures ∙ file_in_rows (found_of c.args.matches.now)
