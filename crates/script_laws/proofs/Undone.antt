-- Undo and redo in a script.
use Rattle.script_laws.proofs.Prelude.{◌≡◌, ◌≢◌, ℕ, zero, suc, ◌+◌, Bool, true, false, cond, nat_eq, List, [], ◌∷◌, ◌++◌, codes, length, Option, Some, None, Result, Ok, Err, refl, sym, ap, ◌∙◌, arith, append-nil, append_assoc, nat_tests, AllByRecursion, Refusal, Model, Machine, start, held, undo, undo_refusal, redo, redo_refusal, answer, face_refusal, solid_refusal, plane_of, is_flat, six_volume, counts, arguments, request_of, lines_of, words, Question, Told, asked, value_or_refusal, Request, Fault, listing, answer_text, moved, obeyed, answered, answer_of, machine_after, output_from, answers, EndsLine, times, HasNo, oks, Adds, Done}
use Rattle.call_types.specs.declared.command.Question.TheVariants as question
use Rattle.call_types.specs.declared.command.Command.TheVariants as command
use Rattle.solid_listing.specs.declared.told.Told.TheVariants as told
use Rattle.script_reader.specs.declared.command.Request.TheVariants as request
use Rattle.solid_listing.proofs.EmptyModels.{empty-listing}
use Rattle.script_laws.proofs.Behind.{after, reached, adds_from}
use Rattle.script_laws.proofs.Kept.{done_text}
use Rattle.script_laws.proofs.Spelled.{undoing, redoing, no_undo, no_redo}
use Rattle.script_laws.proofs.Texts.{is_ok, answer_oks, answer_ends, oks_append}

-- ---- what the words spell

pub undo_spelled : request_of (codes "undo") ≡ Ok undoing
unfolding arguments
undo_spelled = refl

pub redo_spelled : request_of (codes "redo") ≡ Ok redoing
unfolding arguments
redo_spelled = refl

pub list_spelled : request_of (codes "list") ≡ Ok request.List
unfolding arguments
list_spelled = refl

-- what a line is answered whose command is known
pub answer_is : (s : Machine) (line : List ℕ) (c : Request) → request_of line ≡ Ok c → answer_of s line ≡ (obeyed s c).0
unfolding answer_of
answer_is s line c e = ap (λ (r : Result Request Fault). (answered s r).0) e

pub machine_is : (s : Machine) (line : List ℕ) (c : Request) → request_of line ≡ Ok c → machine_after s line ≡ (obeyed s c).1
unfolding machine_after
machine_is s line c e = ap (λ (r : Result Request Fault). (answered s r).1) e

-- ---- a machine with a model behind

abbrev pub machine : List Model → Model → List Model → Machine
machine past present future = record { past = past; present = present; future = future }

not_none : (n : ℕ) → nat_eq (n + 1) 0 ≡ false
not_none n = grind (arith, nat_tests)

some_length : (N : Model) (p : List Model) → nat_eq (length (N ∷ p)) 0 ≡ false
some_length N p = let l : length (N ∷ p) ≡ length p + 1 = omega arith in ap (λ (k : ℕ). nat_eq k 0) l ∙ not_none (length p)

pub undo_goes : (N : Model) (p : List Model) (M : Model) (f : List Model) → undo_refusal (machine (N ∷ p) M f) ≡ None
undo_goes N p M f = rw (some_length N p) refl

pub redo_goes : (p : List Model) (M N : Model) (f : List Model) → redo_refusal (machine p M (N ∷ f)) ≡ None
redo_goes p M N f = rw (some_length N f) refl

pub goes : (o : Option Refusal) (s next : Machine) → o ≡ None → ((moved o s next).0 ≡ Done) × ((moved o s next).1 ≡ next)
goes None s next e = (refl, refl)
goes (Some r) s next e = absurd (cc e)

pub undo_done : (N : Model) (p : List Model) (M : Model) (f : List Model)
    → (answer_of (machine (N ∷ p) M f) (codes "undo") ≡ Done) × (machine_after (machine (N ∷ p) M f) (codes "undo") ≡ machine p N (M ∷ f))
undo_done N p M f =
    let s = machine (N ∷ p) M f in
    let g = goes (undo_refusal s) s (undo s) (undo_goes N p M f) in
    (answer_is s (codes "undo") undoing undo_spelled ∙ g.0, machine_is s (codes "undo") undoing undo_spelled ∙ g.1)

pub redo_done : (p : List Model) (M N : Model) (f : List Model)
    → (answer_of (machine p M (N ∷ f)) (codes "redo") ≡ Done) × (machine_after (machine p M (N ∷ f)) (codes "redo") ≡ machine (M ∷ p) N f)
redo_done p M N f =
    let s = machine p M (N ∷ f) in
    let g = goes (redo_refusal s) s (redo s) (redo_goes p M N f) in
    (answer_is s (codes "redo") redoing redo_spelled ∙ g.0, machine_is s (codes "redo") redoing redo_spelled ∙ g.1)

pub list_text : (s : Machine) → output_from false s (lines_of (codes "list\n")) ≡ listing (held s)
list_text s =
    ap (λ (a : Told). answer_text (machine_after s (codes "list")) a ++ []) (answer_is s (codes "list") request.List list_spelled)
    ∙ ap (λ (t : Machine). listing (held t) ++ []) (machine_is s (codes "list") request.List list_spelled)
    ∙ append-nil (listing (held s))

-- ---- the first model

abbrev pub first_of : List Model → Model → Model
first_of [] M = M
first_of (N ∷ p) M = first_of p N

abbrev pub first : Machine → Model
first s = first_of s.past s.present

undo_first : (p : List Model) (M : Model) (f : List Model) → first (undo (machine p M f)) ≡ first_of p M
undo_first [] M f = refl
undo_first (N ∷ p) M f = refl

redo_first : (p : List Model) (M : Model) (f : List Model) → first (redo (machine p M f)) ≡ first_of p M
redo_first p M [] = refl
redo_first p M (N ∷ f) = refl

-- the first model stays
record KeepsFirst (s : Machine) (turn : Told × Machine) : Type 0 where
  same : first turn.1 ≡ first s

moved_first : (o : Option Refusal) (s next : Machine) → first next ≡ first s → KeepsFirst s (moved o s next)
moved_first None s next e = record { same = e }
moved_first (Some r) s next e = record { same = refl }

obeyed_first : (s : Machine) (r : Request) → KeepsFirst s (obeyed s r)
obeyed_first s (request.Over o ps) = moved_first _ s _ refl
obeyed_first s (request.Give (command.Change c)) = moved_first _ s _ refl
obeyed_first s (request.Give command.Undo) = moved_first _ s _ (undo_first s.past s.present s.future)
obeyed_first s (request.Give command.Redo) = moved_first _ s _ (redo_first s.past s.present s.future)
obeyed_first s r = record { same = refl }

answered_first : (s : Machine) (r : Result Request Fault) → KeepsFirst s (answered s r)
answered_first s (Ok c) = obeyed_first s c
answered_first s (Err f) = record { same = refl }

line_first : (s : Machine) (line : List ℕ) → first (machine_after s line) ≡ first s
unfolding machine_after
line_first s line = (answered_first s (request_of line)).same

pub lines_first : (s : Machine) (lines : List (List ℕ)) → first (after s lines) ≡ first s
lines_first s [] = refl
lines_first s (line ∷ lines) = lines_first (machine_after s line) lines ∙ line_first s line

-- ---- how many models are behind

-- one more where it was done, and as many where not
abbrev Grows : Machine → Told × Machine → Type 0
Grows s turn = length turn.1.past ≡ length s.past + cond (is_ok turn.0) 1 0

stays_so : (n m : ℕ) (b : Bool) → m ≡ n → b ≡ false → m ≡ n + cond b 1 0
stays_so n m true e none = absurd (cc none)
stays_so n m false e none = omega (arith, e)

moved_grows : (o : Option Refusal) (s next : Machine) → length next.past ≡ length s.past + 1 → Grows s (moved o s next)
moved_grows None s next e = e
moved_grows (Some r) s next e = omega arith

value_other : (o : Option Refusal) (b : Told) → is_ok b ≡ false → is_ok (value_or_refusal (answer o b)) ≡ false
value_other None b e = e
value_other (Some r) b e = refl

pub asked_other : (M : Model) (q : Question) → is_ok (asked M q) ≡ false
asked_other M (question.Plane f) = value_other (face_refusal M f) (told.Plane (plane_of M f) (is_flat M f)) refl
asked_other M (question.Volume n) = value_other (solid_refusal M n) (told.Volume (six_volume M n)) refl
asked_other M (question.Count n) = value_other (solid_refusal M n) (told.Counts (counts M n)) refl

obeyed_grows : (s : Machine) (r : Request) → r ≢ undoing → r ≢ redoing → Grows s (obeyed s r)
obeyed_grows s (request.Over o ps) h k = moved_grows _ s _ (omega arith)
obeyed_grows s (request.Give (command.Change c)) h k = moved_grows _ s _ (omega arith)
obeyed_grows s (request.Give (command.Ask q)) h k = stays_so (length s.past) _ _ refl (asked_other (held s) q)
obeyed_grows s (request.Give command.Undo) h k = absurd (h refl)
obeyed_grows s (request.Give command.Redo) h k = absurd (k refl)
obeyed_grows s r h k = omega arith

answered_grows : (s : Machine) (r : Result Request Fault) → r ≢ Ok undoing → r ≢ Ok redoing → Grows s (answered s r)
answered_grows s (Ok r) h k = obeyed_grows s r (λ e. h (ap (λ (d : Request). Ok d) e)) (λ e. k (ap (λ (d : Request). Ok d) e))
answered_grows s (Err f) h k = omega arith

line_grows : (s : Machine) (line : List ℕ) → words line ≢ codes "undo" ∷ [] → words line ≢ codes "redo" ∷ [] → length (machine_after s line).past ≡ length s.past + cond (is_ok (answer_of s line)) 1 0
unfolding machine_after answer_of
line_grows s line h k = answered_grows s (request_of line) (no_undo line h) (no_redo line k)

output_oks : (s : Machine) (line : List ℕ) (rest : List ℕ) → oks (answer_text (machine_after s line) (answer_of s line) ++ rest) ≡ cond (is_ok (answer_of s line)) 1 0 + oks rest
output_oks s line rest = let t = machine_after s line in let a = answer_of s line in
    oks_append (answer_text t a) rest (answer_ends t a) ∙ ap (λ (n : ℕ). n + oks rest) (answer_oks t a)

abbrev pub Without : List ℕ → List (List ℕ) → Type 0
Without word lines = AllByRecursion (λ line. words line ≢ word ∷ []) lines

-- as many models are behind as commands were done
lines_grow : (s : Machine) (lines : List (List ℕ)) → Without (codes "undo") lines → Without (codes "redo") lines → length (after s lines).past ≡ length s.past + oks (output_from false s lines)
lines_grow s [] h k = omega arith
lines_grow s (line ∷ lines) h k =
    omega (arith, lines_grow (machine_after s line) lines h.1 k.1, line_grows s line h.0 k.0, output_oks s line (output_from false (machine_after s line) lines))

-- ---- all the way back

one_undone : (N : Model) (p : List Model) (M : Model) (f : List Model) (more : List ℕ)
    → output_from false (machine (N ∷ p) M f) (lines_of (codes "undo\n" ++ more)) ≡ codes "ok\n" ++ output_from false (machine p N (M ∷ f)) (lines_of more)
one_undone N p M f more =
    let s = machine (N ∷ p) M f in
    let u = undo_done N p M f in
    ap (λ (t : Machine). answer_text t (answer_of s (codes "undo")) ++ output_from false t (lines_of more)) u.1
    ∙ ap (λ (a : Told). answer_text (machine p N (M ∷ f)) a ++ output_from false (machine p N (M ∷ f)) (lines_of more)) u.0
    ∙ ap (λ (t : List ℕ). t ++ output_from false (machine p N (M ∷ f)) (lines_of more)) done_text

all_undone : (k : ℕ) (p : List Model) (M : Model) (f : List Model) → k ≡ length p
    → output_from false (machine p M f) (lines_of (times k (codes "undo\n") ++ codes "list\n")) ≡ times k (codes "ok\n") ++ listing (first_of p M)
all_undone zero [] M f e = list_text (machine [] M f)
all_undone (suc k) (N ∷ p) M f e =
    ap (λ (t : List ℕ). output_from false (machine (N ∷ p) M f) (lines_of t)) (append_assoc (codes "undo\n") (times k (codes "undo\n")) (codes "list\n"))
    ∙ one_undone N p M f (times k (codes "undo\n") ++ codes "list\n")
    ∙ ap (λ (t : List ℕ). codes "ok\n" ++ t) (all_undone k p N (M ∷ f) (omega (arith, e)))
    ∙ sym (append_assoc (codes "ok\n") (times k (codes "ok\n")) (listing (first_of p N)))
all_undone k p M f e = absurd (omega (arith, e))

pub nothing_left : (script : List ℕ) (k : ℕ) → EndsLine script → k ≡ length (reached script).past
    → Adds script (times k (codes "undo\n") ++ codes "list\n") (times k (codes "ok\n") ++ codes "empty\n")
nothing_left script k h e =
    let s = reached script in
    adds_from script (times k (codes "undo\n") ++ codes "list\n") (times k (codes "ok\n") ++ codes "empty\n") h
    (all_undone k s.past s.present s.future e ∙ ap (λ (M : Model). times k (codes "ok\n") ++ listing M) (lines_first start (lines_of script)) ∙ ap (λ (t : List ℕ). times k (codes "ok\n") ++ t) empty-listing)

pub as_many : (script : List ℕ) → HasNo (codes "undo") script → HasNo (codes "redo") script → oks (answers script) ≡ length (reached script).past
unfolding answers
as_many script u r = omega (arith, lines_grow start (lines_of script) u r)

-- ---- the machine there

-- the models ahead then
abbrev pub turned : List Model → Model → List Model → List Model
turned [] M f = f
turned (N ∷ p) M f = turned p N (M ∷ f)

pub undone_to : (k : ℕ) (p : List Model) (M : Model) (f : List Model) → k ≡ length p
    → (output_from false (machine p M f) (lines_of (times k (codes "undo\n"))) ≡ times k (codes "ok\n")) × (after (machine p M f) (lines_of (times k (codes "undo\n"))) ≡ machine [] (first_of p M) (turned p M f))
undone_to zero [] M f e = (refl, refl)
undone_to (suc k) (N ∷ p) M f e =
    let next = undone_to k p N (M ∷ f) (omega (arith, e)) in (
      one_undone N p M f (times k (codes "undo\n")) ∙ ap (λ (t : List ℕ). codes "ok\n" ++ t) next.0,
      ap (λ (t : Machine). after t (lines_of (times k (codes "undo\n")))) (undo_done N p M f).1 ∙ next.1,
    )
undone_to k p M f e = absurd (omega (arith, e))
