use Rattle.raw_cells.proofs.Prelude.{◌≡◌, ◌∙◌, ap, sym, length, arith, length-replicate}
use Rattle.raw_cells.proofs.cells.Cells.with_count.Goals as goal

pub returns : goal.returns
returns g c = c.in_ok-base.ensures.1

pub invariant_of-result : goal.invariant_of-result
invariant_of-result g c = let len : length c.in_ok-base.places.slots ≡ c.args.count = ap length c.in_ok-base.ensures.1 ∙ length-replicate _ _ in record {
  at = c.in_ok-base.ensures.0;
  counted = len;
  freed = (omega (arith, len, c.requires), c.in_ok-base.ensures.2, c.in_ok-base.ensures.3 ∙ sym len, c.in_ok-base.ensures.4);
}
