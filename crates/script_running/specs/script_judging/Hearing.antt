-- What a line does to a console: it is a call, or it has an answer of its own.
use Rattle.std.specs.Prelude.{◌≡◌, ℕ, cond, List, Some, Result, Ok, Err}
use Rattle.call_types.specs.declared.command.{Call.Call, Change.Change, Command.Command}
use Rattle.commands.specs.declared.stage.Stage.{Stage}
use Rattle.script_reader.specs.Grammar.{is_ascii, request_of}
use Rattle.script_reader.specs.Polygon.{over}
use Rattle.script_reader.specs.declared.command.{Fault.Fault, Request.Request}
use Rattle.undo_journal.specs.Journal.{Journal}
use Rattle.script_running.specs.declared.script_judging.calls.Console.{Console}
use Rattle.solid_listing.specs.declared.told.Told.{Told}
use Rattle.script_running.specs.script_judging.Judging.{Judges, faulty}
use Rattle.script_running.specs.script_judging.Consoles.{Asked, ConsoleHeeds, calls, keeps}

-- a command is asked for
abbrev pub gives : Command → Asked
gives c = calls (Call.Give c)

abbrev pub changes : Change → Asked
changes c = gives (Command.Change c)

-- the call that a line asks for, or its own answer
abbrev pub said : Request → Asked
said Request.Nothing = keeps Told.Silent
said Request.List = keeps Told.Listing
said (Request.Over o ps) = changes (over o ps)
said (Request.Give c) = gives c

-- a line with a fault is answered with this fault
abbrev pub read : Result Request Fault → Asked
read (Ok r) = said r
read (Err f) = keeps (faulty f)

-- a line within the limit has this answer if it is ASCII, and else the fault that says so
abbrev pub unless_not_ascii : List ℕ → Told → Told
unless_not_ascii line a = cond (is_ascii line) a (faulty Fault.NotAscii)

-- what a line within the limit comes to, given what its words ask for: only if they ask for nothing, or are wrong, can the line be other than ASCII
abbrev pub said_of : List ℕ → Result Request Fault → Asked
said_of line (Ok Request.Nothing) = keeps (unless_not_ascii line Told.Silent)
said_of line (Ok r) = said r
said_of line (Err f) = keeps (unless_not_ascii line (faulty f))

abbrev pub spoken : List ℕ → Asked
spoken line = read (request_of line)

-- a session that hears a line goes on, and is answered, as the plain machine may when it is given the line in a script
abbrev pub LinesAreJudged : Type 0
LinesAreJudged = (old new : Console) (line : List ℕ) (kind : ℕ) (s : Journal) → old.stage ≡ Some (Stage.Session s) → ConsoleHeeds old (spoken line) new kind
    → (t : Journal) × (new.stage ≡ Some (Stage.Session t)) × Judges s line new.answer t
