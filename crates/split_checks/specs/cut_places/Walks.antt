-- Half-edges, loops and faces that are there.
use Rattle.std.specs.Prelude.{ℕ, List, [], ◌∷◌}
use Rattle.euler_operators.specs.Common.{Table, Model, Has, HasHalf}

-- the edge of each half-edge is there
abbrev pub AreThere : Model → List ℕ → Type 0
AreThere M [] = Unit {0}
AreThere M (h ∷ hs) = HasHalf M h × AreThere M hs

-- each of the numbers is in use
abbrev pub AreIn : {X : Type 0} → Table X → List ℕ → Type 0
AreIn t [] = Unit {0}
AreIn t (n ∷ ns) = Has t n × AreIn t ns
