use Rattle.std.proofs.Common.{true, false, rules}
use Rattle.script_reader.proofs.NumberLaws.{no_half}
use Rattle.script_reader.proofs.places.half_of.Goals as goal
use Rattle.script_reader.proofs.places.half_of.Goals.{in-43, in-45}

pub returns-in_default-number_of : goal.returns-in_default-number_of
returns-in_default-number_of c = elim c.match-sign.branch [
  | in-43 w ↦ no_half true c.args.line.now c.in_ok-sign.digits.now (search rules) c.in_default-number_of.ensures
  | in-45 w ↦ no_half false c.args.line.now c.in_ok-sign.digits.now (search rules) c.in_default-number_of.ensures
]
