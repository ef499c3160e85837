-- The laws of solids opened along one cycle of section edges, each over every model and every cycle along which a solid can be opened.
use Rattle.std.specs.Prelude.{◌≡◌, ℕ, List, map, length}
use Rattle.euler_operators.specs.Common.{mate, Model, Sound}
use Rattle.euler_laws.specs.Laws.{effects, AreAccepted}
use Rattle.shapes.specs.Common.{Taken, opened_along}
use Rattle.split_opening_laws.specs.strips.Strips.{copies_raised}
use Rattle.split_opening_laws.specs.strips.Opened.{CanBeOpened}
use Rattle.split_opening_laws.specs.caps.Strips.{HasStrips}
use Rattle.split_opening_laws.specs.caps.Caps.{capped}
use Rattle.split_opening_laws.specs.opening.OpeningOps.{opening_ops}

-- after the copies are raised there are strips along the mates
abbrev pub CopiesLeaveStrips : Type 0
CopiesLeaveStrips = (M : Model) (above : List ℕ) (s : ℕ) (c : Taken) (bs : List ℕ) → CanBeOpened M above s c bs → HasStrips (copies_raised M above s c bs (length bs)) s c (map mate bs)

-- after two caps are made of the strips, the solid is open
abbrev pub CappedAreOpened : Type 0
CappedAreOpened = (M : Model) (above : List ℕ) (s : ℕ) (c : Taken) (bs : List ℕ) → CanBeOpened M above s c bs →
    capped (copies_raised M above s c bs (length bs)) s c (map mate bs) ≡ opened_along M above s c bs

-- so each operator, from the first strip to the caps, is accepted in its turn
abbrev pub OpeningsAreAccepted : Type 0
OpeningsAreAccepted = (M : Model) (above : List ℕ) (s : ℕ) (c : Taken) (bs : List ℕ) → CanBeOpened M above s c bs → AreAccepted M (opening_ops M s c bs)

-- and together they open the solid
abbrev pub OpeningsOpen : Type 0
OpeningsOpen = (M : Model) (above : List ℕ) (s : ℕ) (c : Taken) (bs : List ℕ) → CanBeOpened M above s c bs → effects M (opening_ops M s c bs) ≡ opened_along M above s c bs

abbrev pub OpenedAreSound : Type 0
OpenedAreSound = (M : Model) (above : List ℕ) (s : ℕ) (c : Taken) (bs : List ℕ) → CanBeOpened M above s c bs → Sound (opened_along M above s c bs)
