-- Faces that go to another solid.
use Rattle.std.specs.Prelude.{ℕ, List}
use Rattle.euler_operators.specs.Table as table
use Rattle.euler_conditions.specs.Store.{Store}
use Rattle.euler_operators.specs.Common.{lists, faces_to_solid}

-- the listed faces are of solid n
abbrev pub moved : Store → List ℕ → ℕ → Store
moved s fs n = record s { model = record s.model { faces = table.map_rows (faces_to_solid (λ f _. lists fs f) n) s.model.faces } }
