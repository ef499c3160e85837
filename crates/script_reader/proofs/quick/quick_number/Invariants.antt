use Rattle.script_reader.proofs.QuickLaws.{ReadTo}
use Rattle.script_reader.proofs.quick.quick_number.Given as goal

abbrev pub invariant-digits : goal.invariant-digits
invariant-digits l = ReadTo l.line l.i l.value
