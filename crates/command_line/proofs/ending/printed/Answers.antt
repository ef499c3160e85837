use Rattle.std.proofs.Common.{Err, ap, refl}
use Rattle.command_line.proofs.ending.printed.Goals as goal

pub returns-in-Err-Words : goal.returns-in-Err-Words
returns-in-Err-Words g c = rw (c.in-Err-Words.is, c.in-Err-Words.field-0-is) (c.print-is_printed.result, (_, c.print-is_printed.ensures, refl), ap Err c.told.ensures)
