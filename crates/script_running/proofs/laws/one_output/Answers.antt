use Rattle.script_running.proofs.Prelude.{ℕ, List, sym, subst, Outs, summary_from, Summary}
use Rattle.script_running.proofs.Outputs.{outs_so, outs_to, summary_quiet}
use Rattle.script_running.proofs.laws.one_output.Goals as goal

pub returns : goal.returns
returns c = record {
  one = λ stop s lines out n none. (
    λ o. outs_so stop s lines out n o none,
    λ e. subst (λ (k : Summary). Outs stop s lines out k) (sym e.1) (subst (λ (text : List ℕ). Outs stop s lines text (summary_from stop s.machine lines)) (sym e.0) (outs_to stop s lines)),
  );
  quiet = summary_quiet;
}
