-- Numbers of faces, where they stand.
use Rattle.std.specs.Prelude.{ℕ, List}
use Rattle.euler_conditions.specs.declared.face_numbers.Place.{Place}
use Rattle.euler_conditions.specs.declared.face_numbers.Place.TheVariants as place

abbrev pub numbers_at : Place → List ℕ
numbers_at (place.List faces) = faces.now
numbers_at (place.Slice faces) = faces.now
