-- Inverses that operators tell, and inverses that are kept for those that don't.
use Rattle.std.specs.Prelude.{◌≡◌, ℕ, List, [], ◌∷◌, ◌++◌, length, filter, take, drop, reverse, Option, Some, None, is_some, Bool, true, false, not}
use Rattle.euler_operators.specs.declared.Op.{Op}
use Rattle.euler_operators.specs.declared.Op.TheVariants.{Kemr, Mekr, Kfmrh, Mfkrh, RingIn, RingOut, Outer}
use Rattle.low_euler.specs.Told.{told_inverse}

abbrev pub tells : Op → Bool
tells o = is_some (told_inverse o)

-- how many of some operators don't tell their inverses
abbrev pub untold_in : List Op → ℕ
untold_in ops = length (filter (λ o. not (tells o)) ops)

-- the inverse that was told, or else the next one kept
abbrev pub next_inverse : Option Op → List Op → List Op
next_inverse (Some inverse) kept = inverse ∷ []
next_inverse None kept = take 1 kept

-- those kept that are left after it
abbrev pub left_after : Option Op → List Op → List Op
left_after (Some inverse) kept = kept
left_after None kept = drop 1 kept

-- of an inverse, what is kept beside its operator: nothing, if the operator tells it
abbrev pub kept_inverse : Option Op → Op → List Op
kept_inverse (Some told) inverse = []
kept_inverse None inverse = inverse ∷ []

-- the inverse of each of some operators, of which those that aren't told are kept in the same order
abbrev pub inverses_of : List Op → List Op → List Op
inverses_of [] kept = []
inverses_of (o ∷ os) kept = next_inverse (told_inverse o) kept ++ inverses_of os (left_after (told_inverse o) kept)

-- what takes some operators back, that of the last first
abbrev pub taken_back : List Op → List Op → List Op
taken_back ops untold = inverses_of (reverse ops) (reverse untold)

-- the inverses of the steps of a draft, in the order of the steps
abbrev pub step_inverses : List Op → List Op → List Op
step_inverses steps untold = reverse (taken_back steps untold)

-- whether an operator moves, makes or kills a ring
abbrev pub is_on_rings : Op → Bool
is_on_rings (Kemr h l) = true
is_on_rings (Mekr a b h) = true
is_on_rings (Kfmrh f g) = true
is_on_rings (Mfkrh l f) = true
is_on_rings (RingIn l f) = true
is_on_rings (RingOut l f) = true
is_on_rings (Outer l f) = true
is_on_rings o = false

-- of an operator and its inverse, one tells the other, or both are on rings
abbrev pub Pairs : Option Op → Option Op → Op → Op → Type 0
Pairs (Some told) other o inverse = told ≡ inverse
Pairs None (Some told) o inverse = told ≡ o
Pairs None None o inverse = (is_on_rings o ≡ true) × (is_on_rings inverse ≡ true)

abbrev pub ArePaired : Op → Op → Type 0
ArePaired o inverse = Pairs (told_inverse o) (told_inverse inverse) o inverse
