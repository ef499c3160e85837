use Rattle.split_checks.proofs.Prelude.{◌∙◌, ◌&&◌, pos, negsuc, sym, ap, int_le, to_z-of_z}
use mir.Syntax.{w128}
use Rattle.split_checks.proofs.begin_checks.planes.is_coordinate.Goals as goal

pub returns-then-number-geminus1000000000 : goal.returns-then-number-geminus1000000000
returns-then-number-geminus1000000000 c =
    let n = c.args.number in let is = to_z-of_z w128 n c.ranges.number in
    ap (λ z. int_le z (pos 1000000000)) is ∙ sym (ap (λ b. b && int_le n (pos 1000000000)) (ap (int_le (negsuc 999999999)) (sym is) ∙ c.if-number-geminus1000000000.true))
