-- When a block and a glue are accepted.
use Rattle.std.specs.Prelude.{◌≡◌, ◌≢◌, ℕ, ℤ, pos, int_le, true, false, List, reverse, None}
use Rattle.euler_operators.specs.Common.{Point, is_in_range, moved, is_number, Sound}
use Rattle.euler_operators.specs.Table as table
use Rattle.shapes.specs.Common.{AreLeft, taken_in, vector, has_repeats, is_rotation}
use Rattle.gluing.specs.Flat.{IsClosedFlat}
use Rattle.gluing.specs.Machine.{glue_refusal}
use Rattle.sweeps.specs.Machine.{block_refusal}
use Rattle.undo_journal.specs.Machine.{Machine, held}
use Rattle.command_laws.specs.NewFaces.{IsFaceOf}

-- the number is new, the sizes are at least 1, both corners are in range, and numbers are left
abbrev pub BlocksFit : Type 0
BlocksFit = (m : Machine) (s : ℕ) (p : Point) (dx dy dz : ℤ) → is_number s ≡ true → table.has (held m).solids s ≡ false →
    int_le (pos 1) dx ≡ true → int_le (pos 1) dy ≡ true → int_le (pos 1) dz ≡ true → is_in_range p ≡ true → is_in_range (moved p (vector dx dy dz)) ≡ true →
    AreLeft (taken_in (held m)) (record { faces = 6; loops = 6; edges = 12; vertices = 8 }) → block_refusal m s p dx dy dz ≡ None

-- the faces have no rings, and belong to two closed, flat solids; neither face has two equal corners, one has the corners of the other in reverse
-- order, and an edge is left
abbrev pub GluesFit : Type 0
GluesFit = (m : Machine) (f g s t : ℕ) (ps qs : List Point) → Sound (held m) → IsFaceOf (held m) f s ps → IsFaceOf (held m) g t qs → s ≢ t →
    IsClosedFlat (held m) s → IsClosedFlat (held m) t → has_repeats ps ≡ false → has_repeats qs ≡ false → is_rotation ps (reverse qs) ≡ true → AreLeft (taken_in (held m)) (record { faces = 0; loops = 0; edges = 1; vertices = 0 }) → glue_refusal m f g ≡ None
