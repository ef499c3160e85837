use Rattle.euler_conditions.proofs.Prelude.{◌-◌, drop, sym, ◌∙◌, arith, length-drop, short_rises}
use Rattle.euler_conditions.proofs.parts.rises.Goals as goal

pub returns : goal.returns
returns c = sym (c.faces.invariant ∙ short_rises (drop (c.faces.i - 1) c.args.faces.now) (omega (arith, length-drop (c.faces.i - 1) c.args.faces.now)))
