-- The laws of strips, each over every model and every cycle along which a solid can be opened.
use Rattle.std.specs.Prelude.{◌≡◌, ℕ, List, length}
use Rattle.euler_operators.specs.Common.{Model, Sound}
use Rattle.euler_laws.specs.Laws.{effects, AreAccepted}
use Rattle.shapes.specs.Common.{Taken}
use Rattle.split_opening_laws.specs.strips.Strips.{strips_cut}
use Rattle.split_opening_laws.specs.strips.StripOps.{strip_ops}
use Rattle.split_opening_laws.specs.strips.Opened.{CanBeOpened}

-- each operator is accepted in its turn
abbrev pub StripsAreAccepted : Type 0
StripsAreAccepted = (M : Model) (above : List ℕ) (s : ℕ) (c : Taken) (bs : List ℕ) → CanBeOpened M above s c bs → AreAccepted M (strip_ops M s c bs (length bs))

-- together they cut all strips off
abbrev pub StripsAreCut : Type 0
StripsAreCut = (M : Model) (above : List ℕ) (s : ℕ) (c : Taken) (bs : List ℕ) → CanBeOpened M above s c bs →
    effects M (strip_ops M s c bs (length bs)) ≡ strips_cut M s c bs (length bs)

abbrev pub StrippedIsSound : Type 0
StrippedIsSound = (M : Model) (above : List ℕ) (s : ℕ) (c : Taken) (bs : List ℕ) → CanBeOpened M above s c bs → Sound (strips_cut M s c bs (length bs))
