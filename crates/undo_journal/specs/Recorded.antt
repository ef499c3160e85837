-- The list of copies that a machine stands for, and its models by their places.
use Rattle.std.specs.Prelude.{ℕ, List, ◌∷◌, ◌++◌, reverse, get_or}
use Rattle.euler_operators.specs.Common.{Model, empty_model}
use Rattle.undo_journal.specs.Machine.{Machine}

-- all models, from the first on
abbrev pub models : Machine → List Model
models s = reverse s.past ++ s.present ∷ s.future

-- the model after the first i commands
abbrev pub model_at : Machine → ℕ → Model
model_at s i = get_or (models s) i empty_model
