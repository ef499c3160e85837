-- When a solid can be opened along a cycle of below halves.
use Rattle.std.specs.Prelude.{◌≡◌, ℕ, true, List, length}
use Rattle.euler_operators.specs.Common.{Model, Sound, Has, lists}
use Rattle.shapes.specs.Common.{AreFree, AreLeft, Taken}
use Rattle.split_opening_laws.specs.Numbers.{needed_for_openings}
use Rattle.split_opening_laws.specs.cycles.SectionCycles.{IsSectionCycle}

-- in the model M solid s can be opened along the cycle bs; `above` are its faces above
pub record CanBeOpened (M : Model) (above : List ℕ) (s : ℕ) (c : Taken) (bs : List ℕ) : Type 0 where
  pub sound : Sound M
  pub free : AreFree M c
  pub left : AreLeft c (needed_for_openings (length bs) 1)
  pub cycle : IsSectionCycle M above s bs
  -- the faces above are there
  pub above_there : (f : ℕ) → lists above f ≡ true → Has M.faces f
