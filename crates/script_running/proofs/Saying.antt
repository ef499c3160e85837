-- A line that spells a command is answered what the call to give it is told.
use Rattle.script_running.proofs.Prelude.{◌≡◌, Some, refl, sym, ap, subst, ◌∙◌, Result, Told, Change, Command, Drafting, Fault, Journal, Request, Session, TellsSession, over, Obeys, Answers, Judges}
use Rattle.script_running.specs.Common.{Stage}
use Rattle.script_reader.specs.declared.command.Request.TheVariants as request
use Rattle.script_running.specs.Laws.{asked_for, LinesAreTold}

-- what asks for a command is obeyed as that command
tells_is : (s t : Journal) (r : Request) (c : Command) (a : Told) → asked_for r ≡ Some c → Obeys s r a t ≡ TellsSession s c a t
tells_is s t (request.Over o ps) c a e = let same : Change (over o ps) ≡ c = cc e in ap (λ (x : Command). TellsSession s x a t) same
tells_is s t (request.Give d) c a e = let same : d ≡ c = cc e in ap (λ (x : Command). TellsSession s x a t) same
tells_is s t r c a e = absurd (cc e)

-- the session in a stage
abbrev session_in : Journal → Stage → Journal
session_in s (Session t) = t
session_in s (Drafting d) = s

pub lines_are_told : LinesAreTold
lines_are_told s t line c a (r, spelled, asked) =
    let same : Judges s line a t ≡ TellsSession s c a t = ap (λ (x : Result Request Fault). Answers s x a t) spelled ∙ tells_is s t r c a asked in (
      λ judged. (t, refl, subst (λ (P : Type 0). P) same judged),
      λ told. subst (λ (P : Type 0). P) (sym same) (subst (λ (u : Journal). TellsSession s c a u) (sym (ap (session_in s) told.1)) told.2),
    )
