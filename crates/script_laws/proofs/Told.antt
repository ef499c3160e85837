-- What a run writes where memory may be refused.
use Rattle.script_laws.proofs.Prelude.{◌≡◌, ◌≢◌, ◌⊎◌, inl, inr, ℕ, false, List, [], ◌∷◌, ◌++◌, codes, Option, Some, None, Result, Ok, Err, refl, sym, ap, subst, ◌∙◌, append-nil, false≢true, AllByRecursion, Model, Refusal, Machine, held, answer, face_refusal, solid_refusal, plane_of, is_flat, six_volume, counts, request_of, lines_of, within_limit, Lacks, Journal, new_journal, over, Command, Change, Question, Told, asked, value_or_refusal, TellsSession, Request, Fault, reply_text, Obeys, Answers, Judges, answer_text, one_line, asked_for, answer_of, machine_after, Summary, judges_so, AsksForChange, EndsLine, ended, TextAnswers, RunsTell, BrokenRunsTell, FailedRunsTell}
use Rattle.script_reader.specs.Lined.{IsLined}
use Rattle.undo_journal.proofs.Journals.{same_machine}
use Rattle.call_types.specs.declared.command.Command.TheVariants as command
use Rattle.call_types.specs.declared.command.Question.TheVariants as question
use Rattle.solid_listing.specs.declared.told.Told.TheVariants as told
use Rattle.commands.proofs.Kept.{session_kept}
use Rattle.script_reader.specs.declared.command.Request.TheVariants as request
use Rattle.script_reader.proofs.LinedLaws.{lines_are_lined}
use Rattle.script_running.specs.Outs.{Outs}
use Rattle.script_laws.proofs.Behind.{reached, adds_from, ends_append, ends_line}
use Rattle.script_laws.proofs.Kept.{one_answer, reached_line}
use Rattle.script_laws.proofs.Ran.{all_within}

-- ---- what is answered `memory` leaves the session

tells_stay : (s t : Journal) (c : Command) (a : Told) → TellsSession s c a t → a ≡ told.Memory → t ≡ s
tells_stay s t c a p e = session_kept s t c a (λ done. absurd (cc (sym done ∙ e))) p

obeys_stay : (s t : Journal) (r : Request) (a : Told) → Obeys s r a t → a ≡ told.Memory → t ≡ s
obeys_stay s t (request.Over o ps) a p e = tells_stay s t (command.Change (over o ps)) a p e
obeys_stay s t (request.Give c) a p e = tells_stay s t c a p e
obeys_stay s t r a p e = p.1

answers_stay : (s t : Journal) (r : Result Request Fault) (a : Told) → Answers s r a t → a ≡ told.Memory → t ≡ s
answers_stay s t (Ok r) a p e = obeys_stay s t r a p e
answers_stay s t (Err f) a p e = p.1

judges_stay : (s t : Journal) (line : List ℕ) (a : Told) → Judges s line a t → a ≡ told.Memory → t ≡ s
judges_stay s t line a p e = answers_stay s t (request_of line) a p e

-- and only a change is answered so
value_told : (o : Option Refusal) (a : Told) → a ≢ told.Memory → value_or_refusal (answer o a) ≢ told.Memory
value_told None a other = other
value_told (Some r) a other = λ e. absurd (cc e)

never_asked : (M : Model) (q : Question) → asked M q ≢ told.Memory
never_asked M (question.Plane f) = value_told (face_refusal M f) (told.Plane (plane_of M f) (is_flat M f)) (λ e. absurd (cc e))
never_asked M (question.Volume n) = value_told (solid_refusal M n) (told.Volume (six_volume M n)) (λ e. absurd (cc e))
never_asked M (question.Count n) = value_told (solid_refusal M n) (told.Counts (counts M n)) (λ e. absurd (cc e))

change_of : (s t : Journal) (c : Command) → TellsSession s c told.Memory t → (x : Change) × (c ≡ command.Change x)
change_of s t (command.Change x) h = (x, refl)
change_of s t (command.Ask q) h = absurd (never_asked (held s.machine) q (sym h.0))
change_of s t command.Undo h = absurd h.0
change_of s t command.Redo h = absurd h.0

answers_change : (s t : Journal) (r : Result Request Fault) (a : Told) → Answers s r a t → a ≡ told.Memory → (c : Change) × ((q : Request) × (r ≡ Ok q) × (asked_for q ≡ Some (command.Change c)))
answers_change s t (Ok (request.Over o ps)) a p e = (over o ps, (request.Over o ps, refl, refl))
answers_change s t (Ok (request.Give c)) a p e =
    let x = change_of s t c (subst (λ (b : Told). TellsSession s c b t) e p) in
    (x.0, (request.Give c, refl, ap (λ (d : Command). Some d) x.1))
answers_change s t (Ok request.Nothing) a p e = absurd (cc (sym p.0 ∙ e))
answers_change s t (Ok request.List) a p e = absurd (cc (sym p.0 ∙ e))
answers_change s t (Err f) a p e = absurd (cc (sym p.0 ∙ e))

judges_change : (s t : Journal) (line : List ℕ) (a : Told) → Judges s line a t → a ≡ told.Memory → AsksForChange line
judges_change s t line a p e = answers_change s t (request_of line) a p e

memory_or : (a : Told) → (a ≡ told.Memory) ⊎ ((one_line a).memory ≡ 0)
memory_or told.Memory = inl refl
memory_or a = inr refl

pub memory_text : reply_text told.Memory ≡ codes "memory\n"
unfolding reply_text
memory_text = refl

-- ---- lines

abbrev pub AllLack : List (List ℕ) → Type 0
AllLack lines = AllByRecursion Lacks lines

lined_lack : (lines : List (List ℕ)) (text : List ℕ) → IsLined lines text → AllLack lines
lined_lack [] text p = tt
lined_lack (line ∷ lines) text p = (
  p.0,
  elim p.1 [
    | inl more ↦ lined_lack lines more.0 more.2
    | inr last ↦ subst AllLack (sym last.2) tt
  ],
)

pub lines_lack : (text : List ℕ) → AllLack (lines_of text)
lines_lack text = lined_lack (lines_of text) text (lines_are_lined (lines_of text) text refl)

pub all_front : (P : List ℕ → Type 0) (xs ys : List (List ℕ)) → AllByRecursion P (xs ++ ys) → AllByRecursion P xs
all_front P [] ys h = tt
all_front P (x ∷ xs) ys h = (h.0, all_front P xs ys h.1)

-- ---- all lines

outs_tell : (script : List ℕ) (s : Journal) (lines : List (List ℕ)) (out : List ℕ) (n : Summary) → EndsLine script → s.machine ≡ reached script → AllLack lines → Outs false s lines out n → TextAnswers script lines out
outs_tell script s [] out n h at lack o = o.0
outs_tell script s (line ∷ lines) out n h at lack (a, t, judged, inl (go, eo, en)) = absurd (false≢true go)
outs_tell script s (line ∷ lines) out n h at lack (a, t, judged, inr (calm, (rest, k, eo, en, o))) = elim (memory_or a) [
  | inl e ↦
      inl (
        judges_change s t line a judged e,
        (
          rest,
          eo ∙ ap (λ (b : Told). answer_text t.machine b ++ rest) e ∙ ap (λ (x : List ℕ). x ++ rest) memory_text,
          outs_tell script t lines rest k h (same_machine (judges_stay s t line a judged e) ∙ at) lack.1 o,
        ),
      )
  | inr quiet ↦
      let r = reached script in
      let so : (a ≡ answer_of r line) × (t.machine ≡ machine_after r line) =
      subst (λ (m : Machine). (a ≡ answer_of m line) × (t.machine ≡ machine_after m line)) at (judges_so s t line a judged quiet) in
      let text : answer_text (machine_after r line) (answer_of r line) ≡ answer_text t.machine a = ap (λ (u : Machine). answer_text u (answer_of r line)) (sym so.1) ∙ ap (answer_text t.machine) (sym so.0) in
      inr (
        answer_text t.machine a,
        rest,
        adds_from script (ended line) (answer_text t.machine a) h (one_answer r line lack.0 ∙ text),
        eo,
        outs_tell (script ++ ended line) t lines rest k (ends_append script (ended line) h (ends_line line)) (so.1 ∙ sym (reached_line script line h lack.0)) lack.1 o,
      )
]

-- from the start on
start_tells : (lines : List (List ℕ)) (out : List ℕ) (n : Summary) → AllLack lines → Outs false new_journal lines out n → TextAnswers [] lines out
start_tells lines out n lack o = outs_tell [] new_journal lines out n (inl refl) refl lack o

pub runs_tell : RunsTell
runs_tell reader old new summary run =
    let given = run.moves.given in
    let all : lines_of (within_limit 0 given ++ []) ≡ lines_of given = ap lines_of (append-nil (within_limit 0 given) ∙ all_within given (run.finished refl).1) in
    start_tells (lines_of given) run.moves.out summary (lines_lack given) (subst (λ (ls : List (List ℕ)). Outs false new_journal ls run.moves.out summary) all (run.outs [] (λ _. refl)))

pub broken_runs_tell : BrokenRunsTell
broken_runs_tell reader old new run =
    start_tells run.judged run.moves.out run.counts (all_front Lacks run.judged (lines_of run.unfinished) (subst AllLack run.lines (lines_lack (within_limit 0 run.moves.given)))) run.outs

pub failed_runs_tell : FailedRunsTell
failed_runs_tell reader old new run =
    let given = within_limit 0 run.moves.given in
    let b = run.begun [] (λ _. refl) in
    (b.0, start_tells (lines_of given) (run.moves.out ++ b.0) b.1 (lines_lack given) (subst (λ (ls : List (List ℕ)). Outs false new_journal ls (run.moves.out ++ b.0) b.1) (ap lines_of (append-nil given)) b.2))
