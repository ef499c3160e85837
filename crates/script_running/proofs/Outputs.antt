-- Lines that are answered without `memory` are answered by their output.
use Rattle.script_running.proofs.Prelude.{◌≡◌, inl, inr, ℕ, Bool, true, false, List, [], ◌∷◌, ◌++◌, refl, sym, ap, subst, ◌∙◌, arith, Option, Some, None, Ok, Err, ◌⊎◌, Result, if◌then◌else◌, append-nil, false≢true, Told, Ask, Change, Command, Fault, Journal, LeavesRecord, Machine, Model, Question, Redo, Refusal, Request, Settled, Summary, TellsSession, Undo, accepted, after_redo, after_undo, over, request_of, held, made, operators_of, record_of, recorded, value_or_refusal, same_machine, answer, face_refusal, solid_refusal, plane_of, is_flat, six_volume, counts, Obeys, Answers, Judges, answer_text, one_line, counted, stops, Outs, moved, given, obeyed, answered, answer_of, machine_after, output_from, summary_from}
use Rattle.script_running.specs.Common.{asked}
use Rattle.call_types.specs.declared.command.Question.TheVariants as question
use Rattle.solid_listing.specs.declared.told.Told.TheVariants as told
use Rattle.script_reader.specs.declared.command.Request.TheVariants as request

-- memory isn't told
abbrev IsQuiet : Told → Type 0
IsQuiet a = (one_line a).memory ≡ 0

-- the answer and the machine after it are those of the function
abbrev IsTurn : Told → Journal → Told × Machine → Type 0
IsTurn a t turn = (a ≡ turn.0) × (t.machine ≡ turn.1)

not_told : (a : Told) → a ≡ told.Memory → IsQuiet a → ⊥
not_told a e quiet = omega (arith, subst (λ (b : Told). (one_line b).memory ≡ 0) e quiet)

-- ---- what may be answered without `memory` is the function's

settled_so : (o : Option Refusal) (L G : Type 0) (s t : Journal) (next : Machine) (b : Told) → (G → t.machine ≡ next) → Settled o L (t ≡ s) G b → IsQuiet b → IsTurn b t (moved o s.machine next)
settled_so o L G s t next told.Done goes h x = subst (λ (q : Option Refusal). IsTurn told.Done t (moved q s.machine next)) (sym h.0) (refl, goes h.1)
settled_so o L G s t next (told.Refused r) goes h x = subst (λ (q : Option Refusal). IsTurn (told.Refused r) t (moved q s.machine next)) (sym h.0) (refl, same_machine h.1)
settled_so o L G s t next told.Memory goes h x = absurd (not_told told.Memory refl x)
settled_so o L G s t next b goes h x = absurd h

tells_so : (s t : Journal) (c : Command) (a : Told) → TellsSession s c a t → IsQuiet a → IsTurn a t (given s.machine c)
tells_so s t (Change c) a h x = settled_so _ _ _ s t _ a (λ g. g.0) h x
tells_so s t (Ask q) a h x = (h.0, same_machine h.1)
tells_so s t c a h x = settled_so _ _ _ s t _ a same_machine h x

obeys_so : (s t : Journal) (r : Request) (a : Told) → Obeys s r a t → IsQuiet a → IsTurn a t (obeyed s.machine r)
obeys_so s t (request.Over o ps) a h x = tells_so s t (Change (over o ps)) a h x
obeys_so s t (request.Give c) a h x = tells_so s t c a h x
obeys_so s t r a h x = (h.0, same_machine h.1)

answers_so : (s t : Journal) (r : Result Request Fault) (a : Told) → Answers s r a t → IsQuiet a → IsTurn a t (answered s.machine r)
answers_so s t (Ok r) a h x = obeys_so s t r a h x
answers_so s t (Err f) a h x = (h.0, same_machine h.1)

pub judges_so : (s t : Journal) (line : List ℕ) (a : Told) → Judges s line a t → IsQuiet a → (a ≡ answer_of s.machine line) × (t.machine ≡ machine_after s.machine line)
unfolding answer_of machine_after
judges_so s t line a h x = answers_so s t (request_of line) a h x

-- ---- what the function gives may be answered, and isn't `memory`

value_quiet : (o : Option Refusal) (b : Told) → IsQuiet b → IsQuiet (value_or_refusal (answer o b))
value_quiet None b x = x
value_quiet (Some r) b x = refl

asked_quiet : (M : Model) (q : Question) → IsQuiet (asked M q)
asked_quiet M (question.Plane f) = value_quiet (face_refusal M f) (told.Plane (plane_of M f) (is_flat M f)) refl
asked_quiet M (question.Volume n) = value_quiet (solid_refusal M n) (told.Volume (six_volume M n)) refl
asked_quiet M (question.Count n) = value_quiet (solid_refusal M n) (told.Counts (counts M n)) refl

-- a session that may be gone on to with this answer, which isn't `memory`, on this machine
abbrev LeadsOn : (Told → Journal → Type 0) → Told × Machine → Type 0
LeadsOn R turn = (t : Journal) × R turn.0 t × (t.machine ≡ turn.1) × IsQuiet turn.0

settled_to : (o : Option Refusal) (L : Type 0) (s u : Journal) (G : Journal → Type 0) → G u → LeadsOn (λ a t. Settled o L (t ≡ s) (G t) a) (moved o s.machine u.machine)
settled_to None L s u G g = (u, (refl, g), refl, refl)
settled_to (Some r) L s u G g = (s, (refl, refl), refl, refl)

tells_to : (s : Journal) (c : Command) → LeadsOn (TellsSession s c) (given s.machine c)
tells_to s (Change c) =
    let M = held s.machine in let next = accepted s.machine (made M c) in
    settled_to _ _ s (record { machine = next; records = recorded s (record_of M (operators_of M c)) }) (λ (t : Journal). (t.machine ≡ next) × LeavesRecord s c t) (refl, refl)
tells_to s (Ask q) = (s, (refl, refl), refl, asked_quiet (held s.machine) q)
tells_to s Undo = settled_to _ _ s (after_undo s) (λ (t : Journal). t ≡ after_undo s) refl
tells_to s Redo = settled_to _ _ s (after_redo s) (λ (t : Journal). t ≡ after_redo s) refl

obeys_to : (s : Journal) (r : Request) → LeadsOn (Obeys s r) (obeyed s.machine r)
obeys_to s (request.Over o ps) = tells_to s (Change (over o ps))
obeys_to s (request.Give c) = tells_to s c
obeys_to s r = (s, (refl, refl), refl, refl)

answers_to : (s : Journal) (r : Result Request Fault) → LeadsOn (Answers s r) (answered s.machine r)
answers_to s (Ok r) = obeys_to s r
answers_to s (Err f) = (s, (refl, refl), refl, refl)

pub judges_to : (s : Journal) (line : List ℕ) → (t : Journal) × Judges s line (answer_of s.machine line) t × (t.machine ≡ machine_after s.machine line)
unfolding answer_of machine_after
judges_to s line = let x = answers_to s (request_of line) in (x.0, x.1, x.2)

answer_quiet : (s : Machine) (line : List ℕ) → IsQuiet (answer_of s line)
unfolding answer_of
answer_quiet s line = (answers_to (record { machine = s; records = [] }) (request_of line)).3

-- ---- over all lines

-- what is written and counted from an answer on
abbrev pub After : Bool → List (List ℕ) → Told → Journal → List ℕ → Summary → Type 0
After stop lines a t out n = ((stops stop a ≡ true) × (out ≡ answer_text t.machine a) × (n ≡ one_line a))
    ⊎ ((stops stop a ≡ false) × ((rest : List ℕ) × (k : Summary) × (out ≡ answer_text t.machine a ++ rest) × (n ≡ counted (one_line a) k) × Outs stop t lines rest k))

-- the answer tells no memory where none is counted
quiet : (stop : Bool) (lines : List (List ℕ)) (a : Told) (t : Journal) (out : List ℕ) (n : Summary) → After stop lines a t out n → n.memory ≡ 0 → IsQuiet a
quiet stop lines a t out n (inl (go, eo, en)) none = subst (λ (m : Summary). m.memory ≡ 0) en none
quiet stop lines a t out n (inr (go, (rest, k, eo, en, p))) none = omega (arith, subst (λ (m : Summary). m.memory ≡ 0) en none)

-- the text and the counts from an answer on, where a test says whether it stops the run
abbrev pub text_at : Bool → Told → Machine → List ℕ → List ℕ
text_at b a t rest = answer_text t a ++ (if b then [] else rest)

abbrev pub counts_at : Bool → Told → Summary → Summary
counts_at b a k = if b then one_line a else counted (one_line a) k

stops_so : (b : Bool) (a : Told) (t : Machine) (rest : List ℕ) (k : Summary) → b ≡ true → (answer_text t a ≡ text_at b a t rest) × (one_line a ≡ counts_at b a k)
stops_so true a t rest k e = (sym (append-nil (answer_text t a)), refl)
stops_so false a t rest k e = absurd (false≢true e)

goes_so : (b : Bool) (a : Told) (t : Machine) (rest : List ℕ) (k : Summary) → b ≡ false → (answer_text t a ++ rest ≡ text_at b a t rest) × (counted (one_line a) k ≡ counts_at b a k)
goes_so true a t rest k e = absurd (false≢true (sym e))
goes_so false a t rest k e = (refl, refl)

-- from one answer on the text is the function's, where it is from the lines after it
after_so : (stop : Bool) (lines : List (List ℕ)) (a : Told) (t : Journal) (out : List ℕ) (n : Summary)
    → ((rest : List ℕ) (k : Summary) → Outs stop t lines rest k → k.memory ≡ 0 → (rest ≡ output_from stop t.machine lines) × (k ≡ summary_from stop t.machine lines))
    → After stop lines a t out n → n.memory ≡ 0
    → (out ≡ text_at (stops stop a) a t.machine (output_from stop t.machine lines)) × (n ≡ counts_at (stops stop a) a (summary_from stop t.machine lines))
after_so stop lines a t out n next (inl (go, eo, en)) x =
    let so = stops_so (stops stop a) a t.machine (output_from stop t.machine lines) (summary_from stop t.machine lines) go in
    (eo ∙ so.0, en ∙ so.1)
after_so stop lines a t out n next (inr (go, (rest, k, eo, en, p))) x =
    let none : k.memory ≡ 0 = omega (arith, subst (λ (m : Summary). m.memory ≡ 0) en x) in
    let one = next rest k p none in
    let so = goes_so (stops stop a) a t.machine (output_from stop t.machine lines) (summary_from stop t.machine lines) go in
    (eo ∙ ap (λ r. answer_text t.machine a ++ r) one.0 ∙ so.0, en ∙ ap (counted (one_line a)) one.1 ∙ so.1)

-- what the lines may be answered without `memory` is their output
pub outs_so : (stop : Bool) (s : Journal) (lines : List (List ℕ)) (out : List ℕ) (n : Summary) → Outs stop s lines out n → n.memory ≡ 0
    → (out ≡ output_from stop s.machine lines) × (n ≡ summary_from stop s.machine lines)
outs_so stop s [] out n p x = p
outs_so stop s (line ∷ lines) out n (a, t, p, after) x =
    let M = s.machine in
    let same = judges_so s t line a p (quiet stop lines a t out n after x) in
    subst (λ (u : Machine). (out ≡ text_at (stops stop (answer_of M line)) (answer_of M line) u (output_from stop u lines)) × (n ≡ counts_at (stops stop (answer_of M line)) (answer_of M line) (summary_from stop u lines))) same.1
    (subst (λ (b : Told). (out ≡ text_at (stops stop b) b t.machine (output_from stop t.machine lines)) × (n ≡ counts_at (stops stop b) b (summary_from stop t.machine lines))) same.0
    (after_so stop lines a t out n (outs_so stop t lines) after x))

pub after_to : (stop : Bool) (lines : List (List ℕ)) (a : Told) (t : Journal) (rest : List ℕ) (k : Summary) → Outs stop t lines rest k → (b : Bool) → stops stop a ≡ b
    → After stop lines a t (text_at b a t.machine rest) (counts_at b a k)
after_to stop lines a t rest k o true e = inl (e, append-nil (answer_text t.machine a), refl)
after_to stop lines a t rest k o false e = inr (e, (rest, k, refl, refl, o))

-- the output is one with which the lines may be answered
pub outs_to : (stop : Bool) (s : Journal) (lines : List (List ℕ)) → Outs stop s lines (output_from stop s.machine lines) (summary_from stop s.machine lines)
outs_to stop s [] = (refl, refl)
outs_to stop s (line ∷ lines) =
    let a = answer_of s.machine line in let judged = judges_to s line in let t = judged.0 in (
      a,
      t,
      judged.1,
      subst (λ (u : Machine). After stop lines a t (text_at (stops stop a) a u (output_from stop u lines)) (counts_at (stops stop a) a (summary_from stop u lines))) judged.2
          (after_to stop lines a t (output_from stop t.machine lines) (summary_from stop t.machine lines) (outs_to stop t lines) (stops stop a) refl),
    )

counts_quiet : (b : Bool) (a : Told) (k : Summary) → IsQuiet a → k.memory ≡ 0 → (counts_at b a k).memory ≡ 0
counts_quiet true a k x y = x
counts_quiet false a k x y = omega (arith, x, y)

-- and has no `memory`
pub summary_quiet : (stop : Bool) (s : Machine) (lines : List (List ℕ)) → (summary_from stop s lines).memory ≡ 0
summary_quiet stop s [] = refl
summary_quiet stop s (line ∷ lines) = counts_quiet (stops stop (answer_of s line)) (answer_of s line) (summary_from stop (machine_after s line) lines) (answer_quiet s line) (summary_quiet stop (machine_after s line) lines)
