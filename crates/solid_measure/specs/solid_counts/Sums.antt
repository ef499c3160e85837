-- What walks over loops count.
use Rattle.std.specs.Prelude.{ℕ, ◌+◌, ◌≤◌, cond, List, [], ◌∷◌}
use Rattle.euler_operators.specs.Common.{is_first, Model, LoopContent, lone, cycle, content}
use Rattle.shapes.specs.Common.{leads}
use Rattle.solid_measure.specs.declared.solid_counts.Met.{Met}

abbrev pub together : Met → Met → Met
together a b = record { vertices = a.vertices + b.vertices; edges = a.edges + b.edges }

-- no walk counts more than this
abbrev pub IsFew : Met → Type 0
IsFew m = (m.vertices ≤ 4000000) × (m.edges ≤ 4000000)

abbrev pub nothing : Met
nothing = record { vertices = 0; edges = 0 }

-- a half-edge counts for its vertex if it leads, and for its edge if it is the plus one
abbrev pub half_met : Model → ℕ → Met
half_met M h = record { vertices = cond (leads M h) 1 0; edges = cond (is_first h) 1 0 }

abbrev pub halves_met : Model → List ℕ → Met
halves_met M [] = nothing
halves_met M (h ∷ hs) = together (half_met M h) (halves_met M hs)

-- a lone loop counts for its vertex
abbrev pub loop_met : Model → LoopContent → Met
loop_met M (lone v) = record { vertices = 1; edges = 0 }
loop_met M (cycle hs) = halves_met M hs

abbrev pub loops_met : Model → List ℕ → Met
loops_met M [] = nothing
loops_met M (l ∷ ls) = together (loop_met M (content M l)) (loops_met M ls)
