use Rattle.script_reader.proofs.NewlineLaws.{goes_on}
use Rattle.script_reader.proofs.buffer.first_newline.Goals as goal

pub returns : goal.returns
returns c = goes_on c.args.bytes.now c.args.start c.newline_in-near.result c.args.end c.far_newline-2.result c.newline_in-near.ensures.low c.newline_in-near.ensures.before c.far_newline-2.ensures
