use Rattle.std.proofs.Common.{◌∙◌, ap, sym, option_map}
use Rattle.clap.specs.Words.{found_of}
use Rattle.command_line.proofs.CommandLine.{stop_in_rows, some_is}
use Rattle.command_line.proofs.words.is_stop_set.Goals as goal

pub returns-in-Some : goal.returns-in-Some
returns-in-Some c = some_is _ _ _ _ (sym (stop_in_rows (found_of c.args.matches.now)) ∙ sym c.get_str.ensures ∙ ap (option_map (λ s. s.now)) c.in-Some.is) (c.eq.ensures)
