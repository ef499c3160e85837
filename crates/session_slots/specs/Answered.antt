-- The last answer, as values.
use Rattle.std.specs.Prelude.{ℕ, ℤ, ◌+ℤ◌, ◌*ℤ◌, cond, Option, Some, None, pos}
use Rattle.session_slots.specs.Common.Below.{Plane, Told, Refused, Counts, Wide, PlaneRow}
use Rattle.euler_operators.specs.Refusal.{code_of}

-- what a refusal names, if the answer is one
abbrev pub refusal_in : Told → Option Refused
refusal_in (Told.Refused r) = Some (record { number = code_of r.why; value = r.number })
refusal_in _ = None

-- the number of a fault
abbrev pub fault_in : Told → Option ℕ
fault_in (Told.Fault n) = Some n
fault_in _ = None

-- what a count counts
abbrev pub counts_in : Told → Option Counts
counts_in (Told.Counts n) = Some (record { vertices = pos n.v; edges = pos n.e; faces = pos n.f; rings = pos n.r; sum = n.sum })
counts_in _ = None

-- six times a volume
abbrev pub volume_in : Told → Option ℤ
volume_in (Told.Volume n) = Some n
volume_in _ = None

-- a plane, and 1 if its face is flat, else 0
abbrev pub plane_in : Told → Option (Plane × ℕ)
plane_in (Told.Plane p flat) = Some (p, cond flat 1 0)
plane_in _ = None

-- the number with these two halves; the upper one has the sign
abbrev pub joined : Wide → ℤ
joined w = w.high *ℤ pos 18446744073709551616 +ℤ pos w.low

-- a plane whose coefficients are in halves
abbrev pub joined_plane : PlaneRow → Plane × ℕ
joined_plane r = (record { a = joined r.a; b = joined r.b; c = joined r.c; d = joined r.d }, r.flat)
