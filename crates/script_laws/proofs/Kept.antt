-- What isn't answered `ok` leaves the machine as it was.
use Rattle.script_laws.proofs.Prelude.{◌≡◌, ◌⊎◌, inl, inr, ℕ, false, List, [], ◌∷◌, ◌++◌, codes, Option, Some, None, Result, Ok, Err, refl, sym, ap, ◌∙◌, append-nil, Refusal, Machine, request_of, lines_of, Command, Request, Fault, first_line, reply_text, answer_text, moved, given, obeyed, answered, answer_of, machine_after, output_from, Told, EndsLine, ended, AnswersStay, OthersCanBeLeftOut, Done}
use Rattle.script_reader.specs.Newline as newline
use Rattle.call_types.specs.declared.command.Command.TheVariants as command
use Rattle.script_reader.specs.declared.command.Request.TheVariants as request
use Rattle.solid_listing.specs.declared.told.Told.TheVariants as told
use Rattle.script_laws.proofs.Behind.{after, ends_append, ends_line, reached, reached_append, from_adds, adds_from, alike}

abbrev Stays : Machine → Told × Machine → Type 0
Stays s turn = (turn.0 ≡ Done) ⊎ (turn.1 ≡ s)

moved_stays : (o : Option Refusal) (s next : Machine) → Stays s (moved o s next)
moved_stays None s next = inl refl
moved_stays (Some r) s next = inr refl

given_stays : (s : Machine) (c : Command) → Stays s (given s c)
given_stays s (command.Ask q) = inr refl
given_stays s c = moved_stays _ s _

obeyed_stays : (s : Machine) (r : Request) → Stays s (obeyed s r)
obeyed_stays s (request.Over o ps) = moved_stays _ s _
obeyed_stays s (request.Give c) = given_stays s c
obeyed_stays s r = inr refl

answered_stays : (s : Machine) (r : Result Request Fault) → Stays s (answered s r)
answered_stays s (Ok r) = obeyed_stays s r
answered_stays s (Err f) = inr refl

line_stays : (s : Machine) (line : List ℕ) → (answer_of s line ≡ Done) ⊎ (machine_after s line ≡ s)
unfolding answer_of machine_after
line_stays s line = answered_stays s (request_of line)

pub done_text : reply_text told.Done ≡ codes "ok\n"
unfolding reply_text
done_text = refl

-- a line alone
pub one_line : (line : List ℕ) → newline.Lacks line → lines_of (ended line) ≡ line ∷ []
one_line line h = first_line line [] h

-- what it is answered
pub one_answer : (s : Machine) (line : List ℕ) → newline.Lacks line → output_from false s (lines_of (ended line)) ≡ answer_text (machine_after s line) (answer_of s line)
one_answer s line h = ap (output_from false s) (one_line line h) ∙ append-nil (answer_text (machine_after s line) (answer_of s line))

pub done_answer : (s : Machine) (line : List ℕ) → newline.Lacks line → answer_of s line ≡ Done → output_from false s (lines_of (ended line)) ≡ codes "ok\n"
done_answer s line h e = one_answer s line h ∙ ap (answer_text (machine_after s line)) e ∙ done_text

pub reached_line : (script line : List ℕ) → EndsLine script → newline.Lacks line → reached (script ++ ended line) ≡ machine_after (reached script) line
reached_line script line h k = reached_append script (ended line) h ∙ ap (after (reached script)) (one_line line k)

pub answers_stay : AnswersStay
answers_stay script more h = (output_from false (reached script) (lines_of more), adds_from script more _ h refl)

pub others_can_be_left_out : OthersCanBeLeftOut
others_can_be_left_out script line reply h k added other more rest _ = elim (line_stays (reached script) line) [
  | inl is ↦ absurd (other (sym (from_adds script (ended line) reply h added) ∙ done_answer (reached script) line k is))
  | inr same ↦ alike (script ++ ended line) script more rest (ends_append script (ended line) h (ends_line line)) h
      (ap (λ (s : Machine). output_from false s (lines_of more)) (reached_line script line h k ∙ same))
]
