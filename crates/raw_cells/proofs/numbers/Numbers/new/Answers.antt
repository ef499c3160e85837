use Rattle.raw_cells.proofs.numbers_laws.Summed.{none-summed}
use Rattle.raw_cells.proofs.numbers.Numbers.new.Goals as goal

pub invariant_of-result : goal.invariant_of-result
invariant_of-result c = none-summed _ _ c.new.ensures.items c.new-2.ensures.items
