-- Where the edges lie that a split leaves: on its plane, or along edges that were there before.
use Rattle.std.specs.Prelude.{◌≡◌, ◌≢◌, ◌⊎◌, ℕ, ◌+◌, pos, true}
use Rattle.euler_operators.specs.Common.{Plane, is_on, Model, face_at, solid_of, Sound, HasHalf}
use Rattle.shapes.specs.Common.{finish, scaled, start, towards}
use Rattle.undo_journal.specs.Machine.{Machine, held}
use Rattle.plane_split.specs.SplitModels.{IsSplit}
use Rattle.command_laws.specs.Splits.{IsOfEither}

-- half-edge h of N lies on half-edge g of M, and leads the same way: it begins after `from` of from + part + rest, and leads on over `part`
pub record LeadsAlong (M N : Model) (g h : ℕ) : Type 0 where
  pub from : ℕ
  pub part : ℕ
  pub rest : ℕ
  pub some : part ≢ 0
  pub starts : scaled (pos (from + part + rest)) (towards (start M g) (start N h)) ≡ scaled (pos from) (towards (start M g) (finish M g))
  pub leads : scaled (pos (from + part + rest)) (towards (start N h) (finish N h)) ≡ scaled (pos part) (towards (start M g) (finish M g))

-- both ends of half-edge h lie on plane p
abbrev pub EndsOn : Model → Plane → ℕ → Type 0
EndsOn N p h = (is_on p (start N h) ≡ true) × (is_on p (finish N h) ≡ true)

-- half-edge h of N leads along one of solid s of M
pub record LeadsAlongSolid (M N : Model) (s h : ℕ) : Type 0 where
  pub half : ℕ
  pub there : HasHalf M half
  pub solid : solid_of M (face_at M half) ≡ s
  pub along : LeadsAlong M N half h

-- after a split each half-edge of the parts lies on its plane, or leads along one of the solid that was split
abbrev pub SplitsMakeNoLines : Type 0
SplitsMakeNoLines = (before after : Machine) (s : ℕ) (p : Plane) (t h : ℕ) → Sound (held before) → IsSplit before after s p t →
    HasHalf (held after) h → IsOfEither (held after) s t (face_at (held after) h) → EndsOn (held after) p h ⊎ LeadsAlongSolid (held before) (held after) s h
