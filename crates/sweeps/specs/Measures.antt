-- What the commands make of the six volumes of solids: s is the machine before an accepted command, and t the one after it.
use Rattle.std.specs.Prelude.{◌≡◌, ◌≢◌, ℕ, ℤ, pos, ◌+ℤ◌, ◌-ℤ◌, ◌*ℤ◌, true, List, get_or, None}
use Rattle.euler_operators.specs.Common.{Point, dot, no_point, solid_of, Sound}
use Rattle.undo_journal.specs.Machine.{Machine, held}
use Rattle.shapes.specs.Common.{lamina_face, normal, is_flat, six_volume}
use Rattle.sweeps.specs.Machine.{lamina, lamina_refusal, block, block_refusal, sweep, sweep_refusal}

-- the six volumes of the solid of a face that was swept have grown by three times the face's normal before, along the vector
abbrev pub SweptSolid : Type 0
SweptSolid = (s t : Machine) (f : ℕ) (d : Point) → Sound (held s) → sweep_refusal s f d ≡ None → t ≡ sweep s f d →
    six_volume (held t) (solid_of (held s) f) ≡ six_volume (held s) (solid_of (held s) f) +ℤ pos 3 *ℤ dot (normal (held s) f) d

-- every other solid keeps its six volumes
abbrev pub OthersThanSwept : Type 0
OthersThanSwept = (s t : Machine) (f : ℕ) (d : Point) (u : ℕ) → Sound (held s) → sweep_refusal s f d ≡ None → t ≡ sweep s f d →
    u ≢ solid_of (held s) f → six_volume (held t) u ≡ six_volume (held s) u

-- the six volumes of a new block are six times the product of its sizes
abbrev pub NewBlock : Type 0
NewBlock = (s t : Machine) (n : ℕ) (p : Point) (dx dy dz : ℤ) → Sound (held s) → block_refusal s n p dx dy dz ≡ None → t ≡ block s n p dx dy dz →
    six_volume (held t) n ≡ pos 6 *ℤ dx *ℤ dy *ℤ dz

abbrev pub OthersThanBlock : Type 0
OthersThanBlock = (s t : Machine) (n : ℕ) (p : Point) (dx dy dz : ℤ) (u : ℕ) → Sound (held s) → block_refusal s n p dx dy dz ≡ None → t ≡ block s n p dx dy dz →
    u ≢ n → six_volume (held t) u ≡ six_volume (held s) u

-- the six volumes of a new lamina are its first point less its second, along the normal of its first face
abbrev pub NewLamina : Type 0
NewLamina = (s t : Machine) (n : ℕ) (ps : List Point) → Sound (held s) → lamina_refusal s n ps ≡ None → t ≡ lamina s n ps →
    let m = normal (held t) (lamina_face (held s)) in six_volume (held t) n ≡ dot (get_or ps 0 no_point) m -ℤ dot (get_or ps 1 no_point) m

-- they are nothing if that face is flat
abbrev pub NewFlatLamina : Type 0
NewFlatLamina = (s t : Machine) (n : ℕ) (ps : List Point) → Sound (held s) → lamina_refusal s n ps ≡ None → t ≡ lamina s n ps →
    is_flat (held t) (lamina_face (held s)) ≡ true → six_volume (held t) n ≡ pos 0

abbrev pub OthersThanLamina : Type 0
OthersThanLamina = (s t : Machine) (n : ℕ) (ps : List Point) (u : ℕ) → Sound (held s) → lamina_refusal s n ps ≡ None → t ≡ lamina s n ps →
    u ≢ n → six_volume (held t) u ≡ six_volume (held s) u
