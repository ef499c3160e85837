-- The laws of copies, each over every model and every cycle along which a solid can be opened, after its strips are cut off.
use Rattle.std.specs.Prelude.{◌≡◌, ℕ, List, length}
use Rattle.euler_operators.specs.Common.{Model, Sound}
use Rattle.euler_laws.specs.Laws.{effects, AreAccepted}
use Rattle.shapes.specs.Common.{Taken}
use Rattle.split_opening_laws.specs.strips.Strips.{strips_cut, copies_raised}
use Rattle.split_opening_laws.specs.strips.StripOps.{copy_ops}
use Rattle.split_opening_laws.specs.strips.Opened.{CanBeOpened}

-- each operator is accepted in its turn
abbrev pub CopiesAreAccepted : Type 0
CopiesAreAccepted = (M : Model) (above : List ℕ) (s : ℕ) (c : Taken) (bs : List ℕ) → CanBeOpened M above s c bs →
    AreAccepted (strips_cut M s c bs (length bs)) (copy_ops M c bs (length bs))

-- together they raise all copies
abbrev pub CopiesAreRaised : Type 0
CopiesAreRaised = (M : Model) (above : List ℕ) (s : ℕ) (c : Taken) (bs : List ℕ) → CanBeOpened M above s c bs →
    effects (strips_cut M s c bs (length bs)) (copy_ops M c bs (length bs)) ≡ copies_raised M above s c bs (length bs)

abbrev pub CopiesAreSound : Type 0
CopiesAreSound = (M : Model) (above : List ℕ) (s : ℕ) (c : Taken) (bs : List ℕ) → CanBeOpened M above s c bs → Sound (copies_raised M above s c bs (length bs))
