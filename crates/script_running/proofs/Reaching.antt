-- What was handed on when a run ends.
use Rattle.script_running.proofs.Prelude.{◌≡◌, ℕ, List, Option, Result, Ok, Err, IfErr, OnOk, subst, sym, RunFault, Summary}
use Rattle.script_reader.specs.Reaching.{Reaches}
use Rattle.script_running.specs.Reaching.{HandsOn}
use Rattle.script_running.specs.declared.running.RunFault.TheVariants as faults

module _ (reached contents : Option (List ℕ)) where
  pub failed_write : (f : RunFault) → f ≡ faults.Write → HandsOn reached contents (Err f)
  failed_write f is = subst (λ (e : RunFault). HandsOn reached contents (Err e)) (sym is) tt

  pub left : (r : Result Summary RunFault) → IfErr r (λ e. e ≡ faults.Write) → IfErr r (λ e. HandsOn reached contents (Err e))
  left (Ok n) h = tt
  left (Err f) h = failed_write f h

  pub finished : (r : Result Summary RunFault) → OnOk r (Reaches reached contents) → IfErr r (λ e. e ≡ faults.Write) → HandsOn reached contents r
  finished (Ok n) h w = h
  finished (Err f) h w = failed_write f w
