use Rattle.std.proofs.Common.{subst}
use Rattle.euler_operators.specs.declared.Op.{Op}
use Rattle.gwb_c.specs.Calls.{Acts}
use Rattle.gwb_c.proofs.operators.gwb_ringmv.Goals as goal

pub returns : goal.returns
returns c = subst (λ (op : Op). Acts c.args.gwb.now.kept.value op c.act.new.gwb.kept.value c.act.result) c.ringmv.ensures c.act.ensures
