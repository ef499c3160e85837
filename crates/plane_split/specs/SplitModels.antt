-- What a session holds after a split was answered Ok: the laws of splits as the caller of a split can use them.
use Rattle.std.specs.Prelude.{◌≡◌, ◌≢◌, ℕ, ◌+ℤ◌, false, None}
use Rattle.euler_operators.specs.Common.{Plane, Sound, Has}
use Rattle.undo_journal.specs.Machine.{Machine, held}
use Rattle.shapes.specs.Common.{vertices_of, six_volume, some_above, some_below, split_model}
use Rattle.plane_split.specs.Machine.{split, split_refusal}

-- what a split that was answered Ok says of the session that it took and of the one that it gave back
abbrev pub IsSplit : Machine → Machine → ℕ → Plane → ℕ → Type 0
IsSplit before after s p t = (split_refusal before s p t ≡ None) × (after ≡ split before s p t)

-- then the session holds the split's model
abbrev pub SplitsAreHeld : Type 0
SplitsAreHeld = (before after : Machine) (s : ℕ) (p : Plane) (t : ℕ) → Sound (held before) → IsSplit before after s p t → held after ≡ split_model (held before) s p t

-- that model is sound
abbrev pub HeldAreSound : Type 0
HeldAreSound = (before after : Machine) (s : ℕ) (p : Plane) (t : ℕ) → Sound (held before) → IsSplit before after s p t → Sound (held after)

-- both parts are solids in it
abbrev pub PartsAreHeld : Type 0
PartsAreHeld = (before after : Machine) (s : ℕ) (p : Plane) (t : ℕ) → Sound (held before) → IsSplit before after s p t → Has (held after).solids s × Has (held after).solids t

-- the six volumes of the two parts sum to those that the solid had
abbrev pub HeldShareVolumes : Type 0
HeldShareVolumes = (before after : Machine) (s : ℕ) (p : Plane) (t : ℕ) → Sound (held before) → IsSplit before after s p t →
    six_volume (held before) s ≡ six_volume (held after) s +ℤ six_volume (held after) t

-- every other solid keeps its own six volumes
abbrev pub HeldKeepOthers : Type 0
HeldKeepOthers = (before after : Machine) (s : ℕ) (p : Plane) (t u : ℕ) → Sound (held before) → IsSplit before after s p t → u ≢ s → u ≢ t →
    six_volume (held after) u ≡ six_volume (held before) u

-- no vertex of s lies above the plane, and none of t below it
abbrev pub HeldLieOnEitherSide : Type 0
HeldLieOnEitherSide = (before after : Machine) (s : ℕ) (p : Plane) (t : ℕ) → Sound (held before) → IsSplit before after s p t →
    (some_above (held after) p (vertices_of (held after) s) ≡ false) × (some_below (held after) p (vertices_of (held after) t) ≡ false)
