-- What a walk round a loop finds, and where a face lies, as the code has them.
use Rattle.std.specs.Prelude.{◌≡◌, ℕ, true}
use Rattle.euler_operators.specs.Common.{Point, IsInRange, IsVectorWithin, normal_limit, moved, origin, head_or, Model, items_of, content, outer, has_half}
use Rattle.solid_measure.specs.declared.faces.Frame.{Frame}
use Rattle.solid_measure.specs.declared.loops.Round.{Round}
use Rattle.solid_measure.specs.Measure.{area, area_limit, anchor, normal, read}
use Rattle.solid_measure.specs.Short.{IsOfItems, all_of}

-- a walk once round loop l: a vector with the loop's cross products added, in two parts, and the loop's first item
pub record IsWalked (M : Model) (from : Point) (l : ℕ) (found : Round) : Type 0 where
  pub sum : all_of found.sum ≡ moved from (area M (items_of (content M l)))
  pub whole : IsVectorWithin normal_limit (read found.sum.whole)
  pub last : IsOfItems 4 found.sum.last
  pub least : found.least ≡ head_or 0 (items_of (content M l))
  pub there : has_half M found.least ≡ true

-- the cross products of the face's outer loop alone, and its first corner
pub record IsOuterFrame (M : Model) (f : ℕ) (found : Frame) : Type 0 where
  pub summed : read found.normal ≡ moved origin (area M (items_of (content M (outer M f))))
  pub anchored : found.anchor ≡ anchor M f
  pub range : IsInRange found.anchor

-- the face's normal and its first corner
pub record IsFrame (M : Model) (f : ℕ) (found : Frame) : Type 0 where
  pub summed : read found.normal ≡ normal M f
  pub within : IsVectorWithin area_limit (read found.normal)
  pub anchored : found.anchor ≡ anchor M f
  pub range : IsInRange found.anchor
