-- What lines may be answered, one after the other.
use Rattle.std.specs.Prelude.{◌≡◌, ◌⊎◌, ℕ, ◌==◌, Bool, true, false, not, ◌&&◌, List, [], ◌∷◌, ◌++◌}
use Rattle.script_running.specs.Common.{Told, Journal, Summary}
use Rattle.script_running.specs.script_judging.Judging.{Judges, answer_text, no_lines, one_line, counted}

-- no reply begins with `refused`, `fault` or `memory`
abbrev pub is_clean : Summary → Bool
is_clean n = n.refused == 0 && n.faults == 0 && n.memory == 0

-- the reply begins with `refused`, `fault` or `memory`
abbrev pub complains : Told → Bool
complains a = not (is_clean (one_line a))

-- the answer ends a run for which `stop` is set
abbrev pub stops : Bool → Told → Bool
stops stop a = stop && complains a

-- a reply stopped a run with these counts
abbrev pub was_stopped : Bool → Summary → Bool
was_stopped stop n = stop && not (is_clean n)

-- This text, with these counts, may answer the lines from s on: all of them, or those up to the answer that stops the run.
abbrev pub Outs : Bool → Journal → List (List ℕ) → List ℕ → Summary → Type 0
Outs stop s [] out n = (out ≡ []) × (n ≡ no_lines)
Outs stop s (line ∷ lines) out n = (a : Told) × (t : Journal) × Judges s line a t
    × (((stops stop a ≡ true) × (out ≡ answer_text t.machine a) × (n ≡ one_line a))
    ⊎ ((stops stop a ≡ false) × ((rest : List ℕ) × (k : Summary) × (out ≡ answer_text t.machine a ++ rest) × (n ≡ counted (one_line a) k) × Outs stop t lines rest k)))
