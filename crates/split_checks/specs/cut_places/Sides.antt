-- Sides of a plane, as signs.
use Rattle.std.specs.Prelude.{ℕ, Bool, true, false, cond, List}
use Rattle.std.specs.List.{list_any}
use Rattle.euler_operators.specs.Common.{Point, Plane, Sign, Below, On, Above, is_above, is_below, is_on, Model, point_of}
use Rattle.shapes.specs.Common.{corners, start}

abbrev pub same_sign : Sign → Sign → Bool
same_sign Below Below = true
same_sign On On = true
same_sign Above Above = true
same_sign a b = false

-- one sign is above and the other below
abbrev pub opposite_signs : Sign → Sign → Bool
opposite_signs Below Above = true
opposite_signs Above Below = true
opposite_signs a b = false

-- whether a point lies below a plane, on it or above it
abbrev pub lies : Sign → Plane → Point → Bool
lies Below p q = is_below p q
lies On p q = is_on p q
lies Above p q = is_above p q

-- whether some of the vertices lie on this side
abbrev pub some_lie : Sign → Model → Plane → List ℕ → Bool
some_lie side M p vs = list_any (λ v. lies side p (point_of M v)) vs

-- whether some of the half-edges start on this side
abbrev pub some_start : Sign → Model → Plane → List ℕ → Bool
some_start side M p hs = list_any (λ h. lies side p (start M h)) hs

-- whether a face has a corner on this side
abbrev pub reaches : Sign → Model → Plane → ℕ → Bool
reaches side M p f = some_lie side M p (corners M f)

-- the side that a face reaches, given whether it has a corner above, and whether it has one below
abbrev pub side_reached : Bool → Bool → Sign
side_reached above below = cond above Above (cond below Below On)
