-- The numbers of faults.
use Rattle.std.specs.Prelude.{ℕ}
use Rattle.script_reader.specs.declared.command.Fault.{Fault}
use Rattle.script_reader.specs.declared.command.Fault.TheVariants.{BadWord, BadNumber, MissingWord, ExtraWord, NotAscii, LongLine}

-- the number that a reply prints
abbrev pub code_of : Fault → ℕ
code_of BadWord = 1
code_of BadNumber = 2
code_of MissingWord = 3
code_of ExtraWord = 4
code_of NotAscii = 5
code_of LongLine = 6
