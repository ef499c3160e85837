-- What a session is told of a call is what a script's line is answered that asks for it.
use Rattle.script_running.proofs.Prelude.{◌≡◌, ◌∙◌, ℕ, Option, Some, Ok, refl, sym, ap, subst, Result, Command, Told, Stage, Fault, Request, request_of, Console, Answers, ConsoleHeeds, LinesAreJudged, answer_after, gives, keeps, read}
use Rattle.commands.specs.Telling.{Settled, TellsSession}
use Rattle.euler_operators.specs.declared.Refusal.{Refusal}
use Rattle.undo_journal.specs.Journal.{Journal}
use Rattle.undo_journal.specs.Machine.{held}
use Rattle.script_reader.specs.Polygon.{over}
use Rattle.script_running.proofs.Acting.{asked_kept}

-- a session is told of no mark, and of no draft that it lacks: so its answer is kept
settled : (o : Option Refusal) (Lacks Stays Goes : Type 0) (b a : Told) → Settled o Lacks Stays Goes a → answer_after b a ≡ a
settled o Lacks Stays Goes b Told.Done h = refl
settled o Lacks Stays Goes b (Told.Refused r) h = refl
settled o Lacks Stays Goes b Told.Memory h = refl
settled o Lacks Stays Goes b a h = absurd h

kept : (s t : Journal) (c : Command) (b a : Told) → TellsSession s c a t → answer_after b a ≡ a
kept s t (Command.Ask q) b a h = ap (answer_after b) h.0 ∙ asked_kept b (held s.machine) q ∙ sym h.0
kept s t c b a h = settled _ _ _ _ b a h

-- what the session goes on to, and is told
module _ (old new : Console) (kind : ℕ) (s : Journal) (is : old.stage ≡ Some (Stage.Session s)) where
  abbrev Goes : (Told → Journal → Type 0) → Type 0
  Goes R = (t : Journal) × (new.stage ≡ Some (Stage.Session t)) × R new.answer t

  given : (c : Command) → ConsoleHeeds old (gives c) new kind → Goes (TellsSession s c)
  unfolding ConsoleHeeds
  given c heeds =
      let m = heeds (Stage.Session s) is in let told = m.2.1 in
      let is_told = m.2.2 ∙ kept s told.0 c old.answer m.2.0 told.2 in
      (told.0, m.1 ∙ ap (λ g. Some g) told.1, subst (λ (a : Told). TellsSession s c a told.0) (sym is_told) told.2)

  stayed : (a : Told) → ConsoleHeeds old (keeps a) new kind → Goes (λ b t. (b ≡ a) × (t ≡ s))
  unfolding ConsoleHeeds
  stayed a heeds = let m = heeds (Stage.Session s) is in (s, m.1 ∙ ap (λ g. Some g) m.2.0, (m.2.1, refl))

  judged : (r : Result Request Fault) → ConsoleHeeds old (read r) new kind → Goes (λ a t. Answers s r a t)
  judged (Ok (Request.Over o ps)) h = given (Command.Change (over o ps)) h
  judged (Ok (Request.Give c)) h = given c h
  judged r h = stayed _ h

pub lines_are_judged : LinesAreJudged
lines_are_judged old new line kind s is h = judged old new kind s is (request_of line) h
