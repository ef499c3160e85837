-- A plane of four numbers that are passed to a call.
use mir.Val.{SFits, of_z, to_z}
use Rattle.plane_split.proofs.Prelude.{◌≡◌, w64, ℤ, Plane}
use Rattle.std.proofs.lemmas.Int.{to_z-of_z}

abbrev pub passed_plane : ℤ → ℤ → ℤ → ℤ → Plane
passed_plane a b c d = record { a = to_z w64 (of_z w64 a); b = to_z w64 (of_z w64 b); c = to_z w64 (of_z w64 c); d = to_z w64 (of_z w64 d) }

pub plane_is : (a b c d : ℤ) → SFits w64 a → SFits w64 b → SFits w64 c → SFits w64 d → passed_plane a b c d ≡ record { a = a; b = b; c = c; d = d }
plane_is a b c d fa fb fc fd = λ i. record { a = to_z-of_z w64 a fa i; b = to_z-of_z w64 b fb i; c = to_z-of_z w64 c fc i; d = to_z-of_z w64 d fd i }
