-- How the program ends.
use Rattle.std.specs.Prelude.{◌≡◌, ℕ, Bool, true, false, List, Option, Some, None, codes, if◌then◌else◌, Result, Ok, Err}
use Rattle.std.specs.Process.{exit_status}
use Rattle.clap.specs.Words.{kind_of}
use Rattle.clap.specs.declared.error.Error.{Error}
use Rattle.clap.specs.declared.error.kind.ErrorKind.{ErrorKind}
use Rattle.clap.specs.declared.error.kind.ErrorKind.TheVariants as kind
use Rattle.script_running.specs.Outs.{is_clean}
use Rattle.script_running.specs.Leaving.{RunsTo}
use Rattle.script_running.specs.declared.script_judging.calls.Console.{Console}
use Rattle.script_running.specs.declared.script_judging.judging.Summary.{Summary}
use Rattle.script_running.specs.declared.running.RunFault.{RunFault}
use Rattle.script_running.specs.declared.running.RunFault.TheVariants as fault
use Rattle.command_line.specs.declared.words.WordsFault.{WordsFault}
use Rattle.command_line.specs.declared.words.WordsFault.TheVariants as words
use Rattle.command_line.specs.declared.ending.Trouble.{Trouble}
use Rattle.command_line.specs.declared.ending.Ended.{Ended}
use Rattle.command_line.specs.declared.ending.Trouble.TheVariants as trouble

-- 0 if clap was asked for a text, 2 if it refused the words
abbrev pub line_status : ErrorKind → ℕ
line_status kind.DisplayHelp = 0
line_status kind.DisplayVersion = 0
line_status _ = 2

-- 0 for a clean run, 1 for a run with complaints
abbrev pub run_status : Summary → ℕ
run_status s = if is_clean s then 0 else 1

-- the status after a whole run, after refused words, and after a run that couldn't begin or broke off
abbrev pub status : Result Summary Trouble → ℕ
status (Ok s) = run_status s
status (Err (trouble.Words e)) = line_status (kind_of e)
status (Err trouble.Open) = 3
status (Err (trouble.Run f)) = 3

-- why words gave no choice: if memory was refused, the words aren't to blame
abbrev pub line_trouble : Error → ErrorKind → Trouble
line_trouble e kind.OutOfMemory = trouble.Run fault.Memory
line_trouble e _ = trouble.Words e

abbrev pub trouble_of : WordsFault → Trouble
trouble_of (words.Line e) = line_trouble e (kind_of e)
trouble_of (words.Memory _) = trouble.Run fault.Memory

-- if a text was asked for and can't be written, this is a write fault
abbrev pub text_trouble : Error → ErrorKind → Trouble
text_trouble e kind.DisplayHelp = trouble.Run fault.Write
text_trouble e kind.DisplayVersion = trouble.Run fault.Write
text_trouble e _ = trouble.Words e

abbrev pub trouble_told : Error → Bool → Trouble
trouble_told e true = trouble.Words e
trouble_told e false = text_trouble e (kind_of e)

-- the line on standard error; there is none if clap's text already says why the program ends
abbrev pub complaint : Result Summary Trouble → Option (List ℕ)
complaint (Ok s) = None
complaint (Err (trouble.Words e)) = None
complaint (Err trouble.Open) = Some (codes "gwb: cannot open the script")
complaint (Err (trouble.Run fault.Read)) = Some (codes "gwb: read fault")
complaint (Err (trouble.Run fault.Write)) = Some (codes "gwb: write fault")
complaint (Err (trouble.Run fault.TooLong)) = Some (codes "gwb: script too long")
complaint (Err (trouble.Run fault.Memory)) = Some (codes "gwb: out of memory")

-- if there is a text of clap's, it is printed; else `print` is handed back. prints e b: printing e may answer b, whether all of it was written
abbrev pub Printed : {P : Type 0} → P → (Error → Bool → Type 0) → Result Summary Trouble → Result Summary Trouble → Option P → Type 0
Printed {P} print prints (Ok s) told unused = (told ≡ Ok s) × (unused ≡ Some print)
Printed {P} print prints (Err (trouble.Words e)) told unused = (b : Bool) × prints e b × (told ≡ Err (trouble_told e b))
Printed {P} print prints (Err trouble.Open) told unused = (told ≡ Err trouble.Open) × (unused ≡ Some print)
Printed {P} print prints (Err (trouble.Run f)) told unused = (told ≡ Err (trouble.Run f)) × (unused ≡ Some print)

-- if there is a line, it is told; else `tell` is handed back
abbrev pub IsTold : {T : Type 0} → T → (List ℕ → Type 0) → Option (List ℕ) → Option T → Type 0
IsTold {T} tell tells None unused = unused ≡ Some tell
IsTold {T} tell tells (Some line) unused = tells line

-- clap's text is printed, standard error is told the complaint and nothing else, and the process ends with the status of the ending
abbrev pub Ends : {P T : Type 0} → P → (Error → Bool → Type 0) → T → (List ℕ → Type 0) → Result Summary Trouble → Ended P T → Type 0
Ends {P} {T} print prints tell tells ended e = (told : Result Summary Trouble) × Printed print prints ended told e.print
    × IsTold tell tells (complaint told) e.tell × (exit_status e.code ≡ status told)

-- the program ends as the run did
abbrev pub ending_of : Result Summary RunFault → Result Summary Trouble
ending_of (Ok s) = Ok s
ending_of (Err f) = Err (trouble.Run f)

-- the script was run from what the reader gives to what the writer takes, and its session is left in the console
abbrev pub Answered : Option (List ℕ) → Option (List ℕ) → Option (List ℕ) → Bool → Result Summary Trouble → Console → Type 0
Answered reader old new stop ended console = (ran : Result Summary RunFault) × RunsTo reader old new stop ran console.stage × (ended ≡ ending_of ran)
