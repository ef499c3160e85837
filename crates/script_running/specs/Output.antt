-- The output of a script, as a function of its lines: the answers to them if no reply is `memory`.
use Rattle.std.specs.Prelude.{ℕ, Bool, List, [], ◌∷◌, ◌++◌, Option, Some, None, Result, Ok, Err, if◌then◌else◌}
use Rattle.script_running.specs.Common.{Ask, Change, Command, Done, Fault, Listing, Machine, Redo, Refusal, Refused, Request, Silent, Summary, Told, Undo, accepted, asked, held, made, over, redo, redo_refusal, refusal_of, request_of, start, undo, undo_refusal}
use Rattle.script_reader.specs.declared.command.Request.TheVariants as request
use Rattle.script_running.specs.script_judging.Judging.{faulty, answer_text, no_lines, one_line, counted}
use Rattle.script_running.specs.Outs.{stops}

-- a command goes on to a state, or is refused
abbrev pub moved : Option Refusal → Machine → Machine → Told × Machine
moved None s next = (Done, next)
moved (Some r) s next = (Refused r, s)

-- what a command is answered from s, and the machine after it
abbrev pub given : Machine → Command → Told × Machine
given s (Change c) = moved (refusal_of (held s) c) s (accepted s (made (held s) c))
given s (Ask q) = (asked (held s) q, s)
given s Undo = moved (undo_refusal s) s (undo s)
given s Redo = moved (redo_refusal s) s (redo s)

-- the same for what a line asks for
abbrev pub obeyed : Machine → Request → Told × Machine
obeyed s request.Nothing = (Silent, s)
obeyed s request.List = (Listing, s)
obeyed s (request.Over o ps) = given s (Change (over o ps))
obeyed s (request.Give c) = given s c

-- what a line asks for is obeyed; a line with a fault is answered with this fault
abbrev pub answered : Machine → Result Request Fault → Told × Machine
answered s (Ok r) = obeyed s r
answered s (Err f) = (faulty f, s)

-- what a line is answered from s, and the machine after it
unfoldable pub answer_of : Machine → List ℕ → Told
answer_of s line = (answered s (request_of line)).0

unfoldable pub machine_after : Machine → List ℕ → Machine
machine_after s line = (answered s (request_of line)).1

-- what the lines are answered from s on: all of them, or those up to the answer that stops the run
abbrev pub output_from : Bool → Machine → List (List ℕ) → List ℕ
output_from stop s [] = []
output_from stop s (line ∷ lines) = answer_text (machine_after s line) (answer_of s line)
    ++ (if stops stop (answer_of s line) then [] else output_from stop (machine_after s line) lines)

-- their counts
abbrev pub summary_from : Bool → Machine → List (List ℕ) → Summary
summary_from stop s [] = no_lines
summary_from stop s (line ∷ lines) = if stops stop (answer_of s line) then one_line (answer_of s line)
    else counted (one_line (answer_of s line)) (summary_from stop (machine_after s line) lines)

-- the output of a script that has these lines
abbrev pub output_of : Bool → List (List ℕ) → List ℕ
output_of stop lines = output_from stop start lines

abbrev pub summary_of : Bool → List (List ℕ) → Summary
summary_of stop lines = summary_from stop start lines
