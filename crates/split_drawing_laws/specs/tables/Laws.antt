-- The laws by which the first two rewritings of a split are rewritings of tables, which name no operators.
use Rattle.std.specs.Prelude.{◌≡◌, ℕ, List}
use Rattle.euler_operators.specs.Common.{Plane, Model, Sound}
use Rattle.shapes.specs.Common.{Growing, FacePairs, with_crossings, undrawn, faces_drawn, with_drawings}
use Rattle.split_drawing_laws.specs.crossings.Laws.{CanBegin}
use Rattle.split_drawing_laws.specs.drawings.Laws.{CanBeDrawn}
use Rattle.split_drawing_laws.specs.tables.Doubled.{crossings_doubled}
use Rattle.split_drawing_laws.specs.tables.Chords.{faces_cut, straddling_cut}

-- cutting the edges that cross the plane, one after the other, makes each of them two
abbrev pub CrossingsAreDoubled : Type 0
CrossingsAreDoubled = (M : Model) (s : ℕ) (p : Plane) (t : ℕ) → Sound M → CanBegin M s p t → with_crossings M s p ≡ crossings_doubled M s p

-- drawing faces between their pairs makes bridges and chords
abbrev pub DrawingsAreCut : Type 0
DrawingsAreCut = (p : Plane) (g : Growing) (fs : List FacePairs) → CanBeDrawn g fs → faces_drawn p (undrawn g) fs ≡ faces_cut p (undrawn g) fs

-- both rewritings, one after the other
abbrev pub RewritingsAreOfTables : Type 0
RewritingsAreOfTables = (M : Model) (s : ℕ) (p : Plane) (t : ℕ) → Sound M → CanBegin M s p t → with_drawings M s p ≡ straddling_cut M s p
