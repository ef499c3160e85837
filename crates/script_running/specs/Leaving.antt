-- The session that a run leaves in its console.
use Rattle.std.specs.Prelude.{◌≡◌, ◌≢◌, ℕ, Bool, List, [], ◌∷◌, ◌++◌, length, Option, Some, Result, Err, IfOk}
use Rattle.script_running.specs.Common.{Told, Journal, RunFault, Session, Stage, Summary, lines_of, new_journal, within_limit}
use Rattle.script_running.specs.Histories.{moves_of}
use Rattle.script_running.specs.Runs.{Runs}
use Rattle.script_running.specs.declared.running.RunFault.TheVariants as fault
use Rattle.script_running.specs.script_judging.Judging.{Judges, answer_text}

-- the lines lead from s to t where they are answered, one after the other, with this text
abbrev pub LeadOn : Journal → List (List ℕ) → List ℕ → Journal → Type 0
LeadOn s [] text t = (text ≡ []) × (t ≡ s)
LeadOn s (line ∷ lines) text t = (a : Told) × (next : Journal) × (rest : List ℕ) × Judges s line a next × (text ≡ answer_text next.machine a ++ rest) × LeadOn next lines rest t

-- What is left is a session, to which the first lines read lead from the empty model on, with the answers that were written, or, if a write failed,
-- of which a prefix was. If the run ended well, these are the lines that it counts.
pub record Leaves (given out : List ℕ) (result : Result Summary RunFault) (left : Option Stage) : Type 0 where
  pub session : Journal
  pub there : left ≡ Some (Session session)
  pub heard : List (List ℕ)
  pub unheard : List (List ℕ)
  pub lines : lines_of (within_limit 0 given) ≡ heard ++ unheard
  pub unwritten : List ℕ
  pub leads : LeadOn new_journal heard (out ++ unwritten) session
  pub whole : result ≢ Err fault.Write → unwritten ≡ []
  pub each : IfOk result (λ summary. length heard ≡ summary.lines)

-- the bytes that the reader gives are run, and this is left
abbrev pub RunsTo : (reader old new : Option (List ℕ)) → Bool → Result Summary RunFault → Option Stage → Type 0
RunsTo reader old new stop result left = (run : Runs reader old new stop result) × Leaves (moves_of reader old new stop result run).given (moves_of reader old new stop result run).out result left
