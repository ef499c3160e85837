-- The caps after a split that was answered Ok.
use Rattle.std.specs.Prelude.{◌≡◌, ℕ, ◌<◌, true, false, [], map, length, get_or}
use Rattle.euler_operators.specs.Common.{Plane, moved, Sound}
use Rattle.euler_operators.specs.Table as table
use Rattle.shapes.specs.Common.{negated, normal, with_drawings, is_hole, holes_in}
use Rattle.undo_journal.specs.Machine.{Machine, held}
use Rattle.plane_split.specs.SplitModels.{IsSplit}
use Rattle.command_laws.specs.Capped.{cycles_of, caps_of, cap, IsCapOf, area_below, sum_of}

-- the caps of an outer cycle are faces of the part below and of the part above; they lie on the plane, with normals parallel to its direction
abbrev pub CapsStand : Type 0
CapsStand = (before after : Machine) (s : ℕ) (p : Plane) (t i : ℕ) → Sound (held before) → IsSplit before after s p t → i < length (caps_of (held before) s p) →
    let k = cap (held before) s p i in k.hole ≡ false → IsCapOf (held after) p s k.lower × IsCapOf (held after) p t k.upper

-- the caps of a hole are no faces any more: their loops are rings of the outer cycle's caps
abbrev pub HolesAreClosed : Type 0
HolesAreClosed = (before after : Machine) (s : ℕ) (p : Plane) (t i : ℕ) → Sound (held before) → IsSplit before after s p t → i < length (caps_of (held before) s p) →
    let k = cap (held before) s p i in k.hole ≡ true → (table.has (held after).faces k.lower ≡ false) × (table.has (held after).faces k.upper ≡ false)

-- the normal of a cap below is the area round its cycle, which is no hole, plus the areas round the holes of the section, which point the other way.
-- The cap above has the opposite normal
abbrev pub CapsHaveNormals : Type 0
CapsHaveNormals = (before after : Machine) (s : ℕ) (p : Plane) (t i : ℕ) → Sound (held before) → IsSplit before after s p t → i < length (caps_of (held before) s p) →
    let k = cap (held before) s p i in k.hole ≡ false →
    let D = (with_drawings (held before) s p).model in let cs = cycles_of (held before) s p in let bs = get_or cs i [] in let N = held after in
    (is_hole D p bs ≡ false) × (normal N k.lower ≡ moved (sum_of (map (area_below D) (holes_in D p cs))) (area_below D bs)) × (normal N k.upper ≡ negated (normal N k.lower))
