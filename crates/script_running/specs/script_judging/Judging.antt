-- What a line is answered.
use Rattle.std.specs.Prelude.{◌≡◌, ℕ, ◌+◌, List, Result, Ok, Err}
use Rattle.script_running.specs.Common.{Told, Change, Fault, Journal, Listing, Machine, Request, Silent, Summary, TellsSession, over, request_of, held, told_text}
use Rattle.solid_listing.specs.declared.told.Told.TheVariants as told
use Rattle.script_reader.specs.declared.command.Request.TheVariants as request
use Rattle.script_reader.specs.Fault as fault

abbrev pub faulty : Fault → Told
faulty f = told.Fault (fault.code_of f)

-- from s a session may give what a line asks for this answer, and go on to t
abbrev pub Obeys : Journal → Request → Told → Journal → Type 0
Obeys s request.Nothing a t = (a ≡ Silent) × (t ≡ s)
Obeys s request.List a t = (a ≡ Listing) × (t ≡ s)
Obeys s (request.Over o ps) a t = TellsSession s (Change (over o ps)) a t
Obeys s (request.Give c) a t = TellsSession s c a t

-- what a line asks for is obeyed; a line with a fault is answered with this fault
abbrev pub Answers : Journal → Result Request Fault → Told → Journal → Type 0
Answers s (Ok r) a t = Obeys s r a t
Answers s (Err f) a t = (a ≡ faulty f) × (t ≡ s)

-- from s a session may give a line this answer, and go on to t
abbrev pub Judges : Journal → List ℕ → Told → Journal → Type 0
Judges s line a t = Answers s (request_of line) a t

-- the text of an answer; a listing is that of the model held
abbrev pub answer_text : Machine → Told → List ℕ
answer_text s a = told_text (held s) a

-- no line yet
abbrev pub no_lines : Summary
no_lines = record { lines = 0; refused = 0; faults = 0; memory = 0 }

-- one line with its answer
abbrev pub one_line : Told → Summary
one_line (told.Refused r) = record { lines = 1; refused = 1; faults = 0; memory = 0 }
one_line (told.Fault n) = record { lines = 1; refused = 0; faults = 1; memory = 0 }
one_line told.Memory = record { lines = 1; refused = 0; faults = 0; memory = 1 }
one_line a = record { lines = 1; refused = 0; faults = 0; memory = 0 }

-- the counts of some lines and of those after them
abbrev pub counted : Summary → Summary → Summary
counted a b = record { lines = a.lines + b.lines; refused = a.refused + b.refused; faults = a.faults + b.faults; memory = a.memory + b.memory }
