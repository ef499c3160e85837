-- The command line of the program.
use Rattle.std.specs.Prelude.{◌≡◌, ◌≢◌, ◌↔◌, true, codes, List, [], Some, None, Result, MatchResult, option_map, string_bytes}
use Rattle.clap.specs.Words.{App, Row, Rule, Text, first_of, matches_of, new_app, new_rule, with_rule}
use Rattle.clap.specs.Simple.{on_top}
use Rattle.clap.specs.Kinds.{HasKind}
use Rattle.clap.specs.Faults.{fault_of}
use Rattle.clap.specs.declared.builder.ArgAction.TheVariants.{SetTrue}
use Rattle.command_line.specs.declared.words.Choice.{Choice}
use Rattle.command_line.specs.declared.words.WordsFault.{WordsFault}
use Rattle.command_line.specs.declared.words.WordsFault.TheVariants.{Line, Memory}

-- the flag --stop
abbrev pub stop_flag : Rule
stop_flag = record (new_rule (codes "stop")) { long = Some (codes "stop"); action = Some SetTrue }

-- the value FILE
abbrev pub file_value : Rule
file_value = new_rule (codes "FILE")

-- the program gwb, with the flags --help and --version that clap adds
abbrev pub program : App
program = on_top (λ s. record s { has_version = true }) (new_app (codes "gwb"))

-- gwb [--stop] [FILE]
unfoldable pub command_line : App
command_line = with_rule (with_rule program stop_flag) file_value

-- the choice is the flag --stop and the value FILE, as clap's matches have them
abbrev pub Chosen : List Row → Choice → Type 0
Chosen rows c = ((c.stop ≡ true) ↔ (first_of (codes "stop") rows ≡ Some (codes "true")))
    × (option_map string_bytes c.file ≡ first_of (codes "FILE") rows)

-- clap has a cause to refuse the words, or lacked memory; or it has no cause, and the memory for a copy of FILE was refused
abbrev pub IsCaused : App → List Text → WordsFault → Type 0
IsCaused app words (Line e) = HasKind (fault_of app words) e
IsCaused app words (Memory e) = (fault_of app words ≡ []) × (first_of (codes "FILE") (matches_of app words) ≢ None)

-- the words are read only if clap has no cause to refuse them
abbrev pub Fails : App → List Text → Result Choice WordsFault → Type 0
Fails app words r = MatchResult r (λ c. fault_of app words ≡ []) (IsCaused app words)
