-- How many vertices, edges, faces and rings a solid has.
use Rattle.std.specs.Prelude.{ℕ, ◌+◌, pos, ◌-ℤ◌, List, [], ◌∷◌, ◌++◌, length, Option, Some, None, Result, Ok, Err}
use Rattle.euler_operators.specs.Table as table
use Rattle.euler_operators.specs.Common.{Model, faces_of, rings_of, need, first_refusal, numbers_in_range}
use Rattle.euler_operators.specs.declared.Refusal.{Refusal}
use Rattle.euler_operators.specs.declared.Why.TheVariants.{NoSolid}
use Rattle.shapes.specs.Common.{vertices_of, edges_of}
use Rattle.solid_measure.specs.declared.solid_counts.Tally.{Tally}

-- the rings of some faces
abbrev pub rings_in : Model → List ℕ → List ℕ
rings_in M [] = []
rings_in M (f ∷ fs) = rings_of M f ++ rings_in M fs

abbrev pub tally_of : ℕ → ℕ → ℕ → ℕ → Tally
tally_of v e f r = record { v = v; e = e; f = f; r = r; sum = pos (v + f) -ℤ pos (e + r) }

unfoldable pub counts : Model → ℕ → Tally
counts M s = tally_of (length (vertices_of M s)) (length (edges_of M s)) (length (faces_of M s)) (length (rings_in M (faces_of M s)))

-- when a query about a solid is refused
abbrev pub solid_refusal : Model → ℕ → Option Refusal
solid_refusal M s = first_refusal (numbers_in_range (s ∷ []) ++ need (table.has M.solids s) NoSolid s ∷ [])

-- the answer to a query: a value, or the refusal if there is one
abbrev pub answer : {A : Type 0} → Option Refusal → A → Result A Refusal
answer None a = Ok a
answer (Some r) a = Err r
