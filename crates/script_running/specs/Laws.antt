-- How lines are answered: as the calls that they spell, and, if no reply is `memory`, by one text.
use Rattle.std.specs.Prelude.{◌≡◌, ◌↔◌, ℕ, Bool, List, Option, Some, None, Ok}
use Rattle.script_running.specs.Common.{Told, Change, Command, Give, Journal, Machine, Request, Session, Summary, over, request_of}
use Rattle.commands.specs.Telling.{Tells}
use Rattle.script_reader.specs.declared.command.Request.TheVariants as request
use Rattle.script_running.specs.script_judging.Judging.{Judges}
use Rattle.script_running.specs.Outs.{Outs}
use Rattle.script_running.specs.Output.{output_from, summary_from}

-- the command that a line asks for, if it asks for one
abbrev pub asked_for : Request → Option Command
asked_for request.Nothing = None
asked_for request.List = None
asked_for (request.Over o ps) = Some (Change (over o ps))
asked_for (request.Give c) = Some c

abbrev pub AsksFor : List ℕ → Command → Type 0
AsksFor line c = (r : Request) × (request_of line ≡ Ok r) × (asked_for r ≡ Some c)

-- a line that spells a command has this answer, and leads to t, exactly if the call that gives the command is told this, and leads to t
abbrev pub LinesAreTold : Type 0
LinesAreTold = (s t : Journal) (line : List ℕ) (c : Command) (a : Told) → AsksFor line c
    → (Judges s line a t ↔ Tells (Session s) (Give c) a (Session t))

-- if no reply is `memory`, only one text and one summary are possible for the lines: their output
abbrev pub OneOutput : Type 0
OneOutput = (stop : Bool) (s : Journal) (lines : List (List ℕ)) (out : List ℕ) (n : Summary) → n.memory ≡ 0
    → (Outs stop s lines out n ↔ ((out ≡ output_from stop s.machine lines) × (n ≡ summary_from stop s.machine lines)))

-- the output has no `memory`
abbrev pub HasNoMemory : Type 0
HasNoMemory = (stop : Bool) (s : Machine) (lines : List (List ℕ)) → (summary_from stop s lines).memory ≡ 0
