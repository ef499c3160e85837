-- What the program does with its words, standard input and the file that the words name.
use Rattle.std.specs.Prelude.{◌≡◌, ℕ, ◌⊎◌, Bool, List, [], Option, Some, None, Result, Err, option_map, string_bytes, Ok, ⊤}
use Rattle.clap.specs.Words.{Text, matches_of}
use Rattle.clap.specs.Faults.{fault_of}
use Rattle.script_running.specs.Reaching.{AsksAnswers, HandsOn}
use Rattle.script_running.specs.script_judging.Consoles.{IsNew}
use Rattle.script_running.specs.declared.script_judging.calls.Console.{Console}
use Rattle.script_running.specs.declared.script_judging.judging.Summary.{Summary}
use Rattle.command_line.specs.Words.{command_line, Chosen, IsCaused}
use Rattle.command_line.specs.Endings.{trouble_of, Answered}
use Rattle.command_line.specs.declared.serving.Outcome.{Outcome}
use Rattle.command_line.specs.declared.words.Choice.{Choice}
use Rattle.command_line.specs.declared.words.WordsFault.{WordsFault}
use Rattle.command_line.specs.declared.ending.Trouble.{Trouble}
use Rattle.command_line.specs.declared.ending.Trouble.TheVariants as trouble

-- a file that is opened asks for no more than the answers to the whole lines that it gave
abbrev pub OpensAsking : {F : Type 0} → (opens : Text → Option F → Type 0) (remaining : F → Option (List ℕ)) (asks : F → Option (List ℕ) → Type 0) → Option (List ℕ) → Type 0
OpensAsking {F} opens remaining asks old = (name : Text) (script : F) (stop : Bool) → opens name (Some script) → AsksAnswers remaining asks script old stop

-- what was opened is run; if nothing could be opened, nothing is written, and the console keeps its new session
abbrev pub RunsOpened : {F : Type 0} → (F → Option (List ℕ)) → Option (List ℕ) → Option (List ℕ) → Bool → Result Summary Trouble → Console → Option F → Type 0
RunsOpened {F} remaining old new stop ended console None = (ended ≡ Err trouble.Open) × (new ≡ old) × IsNew console
RunsOpened {F} remaining old new stop ended console (Some script) = Answered (remaining script) old new stop ended console

-- If no file is named, standard input is run and no file is opened; else the file that opening this name gave is run, and standard input is handed back.
-- opens name r: opening name may give r; remaining: what is left to read of a file that was opened; has: what standard input has.
abbrev pub RunsFile : {R O F : Type 0} → R → O → (Text → Option F → Type 0) → (F → Option (List ℕ)) → (has old new : Option (List ℕ)) → Bool → Outcome R O → Console → Option Text → Type 0
RunsFile {R} {O} {F} input opening opens remaining has old new stop r console None = Answered has old new stop r.ended console × (r.opening ≡ Some opening)
RunsFile {R} {O} {F} input opening opens remaining has old new stop r console (Some name) = (opened : Option F) × opens name opened × RunsOpened remaining old new stop r.ended console opened
    × (r.input ≡ Some input)

-- the words gave no choice, no file is opened, nothing is written, standard input is handed back, and the console keeps its new session
abbrev pub Refuses : {R O : Type 0} → R → O → List Text → (old new : Option (List ℕ)) → Outcome R O → Console → Type 0
Refuses {R} {O} input opening words old new r console = (fault : WordsFault) × IsCaused command_line words fault × (r.ended ≡ Err (trouble_of fault)) × (r.opening ≡ Some opening)
    × (r.input ≡ Some input) × (new ≡ old) × IsNew console

-- clap has no cause to refuse the words, and the script that they choose is run
abbrev pub Follows : {R O F : Type 0} → R → O → (Text → Option F → Type 0) → (F → Option (List ℕ)) → (has old new : Option (List ℕ)) → List Text → Outcome R O → Console → Type 0
Follows {R} {O} {F} input opening opens remaining has old new words r console = (c : Choice) × (fault_of command_line words ≡ []) × Chosen (matches_of command_line words) c
    × RunsFile input opening opens remaining has old new c.stop r console (option_map string_bytes c.file)

abbrev pub Serves : {R O F : Type 0} → R → O → (Text → Option F → Type 0) → (F → Option (List ℕ)) → (has old new : Option (List ℕ)) → List Text → Outcome R O → Console → Type 0
Serves {R} {O} {F} input opening opens remaining has old new words r console = Refuses input opening words old new r console ⊎ Follows input opening opens remaining has old new words r console

-- the answers of a run are handed on
abbrev pub AllHandedOn : Option (List ℕ) → Option (List ℕ) → Result Summary Trouble → Type 0
AllHandedOn reached contents (Ok summary) = HandsOn reached contents (Ok summary)
AllHandedOn reached contents (Err (trouble.Run fault)) = HandsOn reached contents (Err fault)
AllHandedOn reached contents (Err other) = ⊤
