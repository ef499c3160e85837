use Rattle.script_reader.proofs.ScriptLaws.{has_begun, has_line_more, has_long_more, is_read_out, breaks_at_fault, breaks_at_limit}
use Rattle.script_reader.proofs.laws.lines_come_in_order.Goals as goal

pub returns : goal.returns
returns g c =
    let bytes = g.R.Read.remaining in
    record {
      begun = λ reader lines. has_begun bytes reader lines;
      line = λ first old new heard. has_line_more bytes first old new heard;
      long = λ first old new heard. has_long_more bytes first old new heard;
      end = λ first old new heard. is_read_out bytes first old new heard;
      fault = λ first old new heard. breaks_at_fault bytes first old new heard;
      too_long = λ first old new heard. breaks_at_limit bytes first old new heard;
    }
