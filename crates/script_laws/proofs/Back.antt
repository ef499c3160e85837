-- Undone to the start.
use Rattle.script_laws.proofs.Prelude.{◌≡◌, inl, ℕ, zero, suc, true, List, [], ◌++◌, codes, length, refl, sym, subst, ◌∙◌, true≢false, Machine, start, lines_of, answers, EndsLine, times, oks, IsTakenBack, UndosLeadBack, SomeUndosLeadBack}
use Rattle.script_laws.proofs.Behind.{reached, reached_append, adds_from, alike, ends_append, ends_line}
use Rattle.script_laws.proofs.Undone.{machine, turned, first_of, undone_to, nothing_left, as_many, lines_first}
use Rattle.script_laws.proofs.Alike.{Alike, lines_alike}

times_end : (k : ℕ) (line : List ℕ) → EndsLine (times k (line ++ codes "\n"))
times_end zero line = inl refl
times_end (suc k) line = ends_append (line ++ codes "\n") (times k (line ++ codes "\n")) (ends_line line) (times_end k line)

taken_back : (script : List ℕ) (k : ℕ) → EndsLine script → k ≡ length (reached script).past → IsTakenBack script k
taken_back script k h e =
    let undos = times k (codes "undo\n") in
    let s = reached script in
    let to = undone_to k s.past s.present s.future e in
    let at : reached (script ++ undos) ≡ machine [] (first_of s.past s.present) (turned s.past s.present s.future) = reached_append script undos h ∙ to.1 in
    let same : Alike true (reached (script ++ undos)) start = subst (λ (t : Machine). Alike true t start) (sym at) (record { present = lines_first start (lines_of script); behind = λ _. refl }) in
    record {
      accepted = adds_from script undos (times k (codes "ok\n")) h to.0;
      empty = nothing_left script k h e;
      anew = λ more reply lacks. alike (script ++ undos) [] more reply (ends_append script undos h (times_end k (codes "undo"))) (inl refl)
          (lines_alike true (reached (script ++ undos)) start (lines_of more) same lacks (λ b. absurd (true≢false b)));
    }

pub undos_lead_back : UndosLeadBack
undos_lead_back script h u r = taken_back script (oks (answers script)) h (as_many script u r)

pub some_undos_lead_back : SomeUndosLeadBack
some_undos_lead_back script h = (length (reached script).past, taken_back script (length (reached script).past) h refl)
