-- Half-edges that don't reach above a plane, and their mates, as a walk over faces meets them.
use Rattle.std.specs.Prelude.{ℕ, Bool, not, ◌&&◌, List, [], ◌∷◌, ◌++◌, filter, map}
use Rattle.euler_operators.specs.Common.{Model, Plane, is_above, mate}
use Rattle.shapes.specs.Common.{boundary, finish, start}

-- a half-edge neither starts nor ends above the plane
abbrev pub stays_low : Model → Plane → ℕ → Bool
stays_low M p h = not (is_above p (start M h)) && not (is_above p (finish M h))

-- the mates of those among some half-edges; and of those of some faces
abbrev pub low_mates : Model → Plane → List ℕ → List ℕ
low_mates M p hs = map mate (filter (stays_low M p) hs)

abbrev pub mates_met : Model → Plane → List ℕ → List ℕ
mates_met M p [] = []
mates_met M p (f ∷ fs) = low_mates M p (boundary M f) ++ mates_met M p fs
