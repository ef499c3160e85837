use Rattle.script_running.proofs.Prelude.{◌≡◌, ◌++◌, ◌∙◌, ℕ, List, [], Option, None, Some, ap}
use Rattle.std.proofs.Common.{rules}
use Rattle.std.specs.Io.KnownBytes.{Appends}
use Rattle.script_running.proofs.tests.runs.answers_before_reads.Goals as goal

-- what was empty has what was appended
all_of : (xs : List ℕ) (contents : Option (List ℕ)) (out : List ℕ) → xs ≡ [] → Appends (Some xs) contents out → contents ≡ Some out
all_of xs None out e h = absurd h
all_of xs (Some ys) out e h = ap (λ (l : List ℕ). Some l) (h ∙ ap (λ (l : List ℕ). l ++ out) e)

pub run-ended-requires : goal.run-ended-requires
run-ended-requires c = λ at. let none : at.new-out.result.items ≡ [] = search rules in
    record { asked = λ now given out contents consumed appended whole. (given, out, consumed, all_of at.new-out.result.items contents out none appended, whole) }
