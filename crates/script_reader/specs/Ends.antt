-- The answers after the last line.
use Rattle.std.specs.Prelude.{⊤}
use Rattle.script_reader.specs.declared.lines.Found.{Found}
use Rattle.script_reader.specs.declared.lines.Found.TheVariants as found

-- no line comes: the end, a failed read, or a script that is too long
abbrev pub IsLast : Found → Type 0
IsLast found.Line = ⊥
IsLast found.Long = ⊥
IsLast found.End = ⊤
IsLast found.Read = ⊤
IsLast found.TooLong = ⊤
