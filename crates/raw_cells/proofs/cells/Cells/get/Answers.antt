use Rattle.std.proofs.Common.{◌≡◌, true, Option, Some, None, is_some, refl, sym, true≢false}
use Rattle.raw_cells.proofs.cells.Cells.get.Goals as goal

filled : {X : Type 0} (o : Option X) → is_some o ≡ true → (x : X) × (o ≡ Some x)
filled None h = absurd (true≢false (sym h))
filled (Some x) h = (x, refl)

pub get-requires : goal.get-requires
get-requires g c = (sym c.self.invariant.at, filled _ (rw (← c.self.view_is) at c.requires))

pub returns : goal.returns
returns g c = rw (← c.self.view_is) c.get.ensures
