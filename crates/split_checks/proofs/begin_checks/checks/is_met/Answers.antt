use Rattle.std.proofs.Common.{◌&&◌, sym, ap}
use Rattle.split_checks.proofs.begin_checks.checks.is_met.Goals as goal

pub returns-then-met : goal.returns-then-met
returns-then-met c = sym (ap (λ b. b && c.args.met.now.below) c.if-met.true)
