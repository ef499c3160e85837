-- What a line that was heard comes to.
use Rattle.script_running.proofs.Prelude.{◌≡◌, inl, inr, ℕ, false, List, codes, length, Result, Ok, Err, refl, sym, ap, subst, nat_lt, cases_Bool, Command, words, Fault, Request, arguments, Console, ConsoleHeeds, Asked, gives, read, spoken, said_of}
use Rattle.script_reader.specs.Grammar.{is_ascii, request_of_words}
use Rattle.script_reader.proofs.AsciiWords.{words_tell}

-- a line that is read once, and looked at again only where its words ask for nothing, or are wrong
spoken_is : (line : List ℕ) (r : Result Request Fault) → nat_lt 65536 (length line) ≡ false → request_of_words (words line) ≡ r → spoken line ≡ said_of line r
spoken_is line (Ok Request.Nothing) short e = elim (cases_Bool (is_ascii line)) [
  | inl ascii ↦ rw (short, ascii, e) refl
  | inr other ↦ rw (short, other) refl
]
spoken_is line (Err f) short e = elim (cases_Bool (is_ascii line)) [
  | inl ascii ↦ rw (short, ascii, e) refl
  | inr other ↦ rw (short, other) refl
]
spoken_is line (Ok c) short e = ap read (words_tell line c short e (λ same. absurd (cc same)))

pub words_heard : (line : List ℕ) (r : Result Request Fault) (x y : Console) (kind : ℕ) → nat_lt 65536 (length line) ≡ false → request_of_words (words line) ≡ r
    → ConsoleHeeds x (said_of line r) y kind → ConsoleHeeds x (spoken line) y kind
words_heard line r x y kind short e h = subst (λ (q : Asked). ConsoleHeeds x q y kind) (sym (spoken_is line r short e)) h

-- a line that is known by its letters
module _ (x y : Console) (line : List ℕ) (kind : ℕ) where
  letters : (c : Command) → spoken line ≡ gives c → ConsoleHeeds x (gives c) y kind → ConsoleHeeds x (spoken line) y kind
  letters c e h = subst (λ (q : Asked). ConsoleHeeds x q y kind) (sym e) h

  pub undo_heard : line ≡ codes "undo" → ConsoleHeeds x (gives Command.Undo) y kind → ConsoleHeeds x (spoken line) y kind
  unfolding arguments
  undo_heard is h = letters Command.Undo (ap spoken is) h

  pub redo_heard : line ≡ codes "redo" → ConsoleHeeds x (gives Command.Redo) y kind → ConsoleHeeds x (spoken line) y kind
  unfolding arguments
  redo_heard is h = letters Command.Redo (ap spoken is) h
