-- The program's command line is one of which clap's definitions give the matches.
use Rattle.std.proofs.Common.{◌≡◌, ◌↔◌, ◌∙◌, ap, sym, true, refl, codes, Bool, IsTrue, Option, Some, [], unwrap_or, bytes_eq}
use Rattle.clap.specs.Words.{Text, first_of, first_value, is_simple, rows_of}
use Rattle.clap.specs.declared.parser.matches.Found.{Found}
use Rattle.std.proofs.lemmas.Slice.Eq.{bytes_eq-Decides}
use Rattle.clap.proofs.WalkLemmas.{first_value-rows}
use Rattle.clap.specs.Faults.{is_simple_and_free}
use Rattle.command_line.specs.Words.{command_line}

pub is_taken_whole : is_simple command_line ≡ true
unfolding command_line
is_taken_whole = refl

pub is_free : is_simple_and_free command_line ≡ true
unfolding command_line
is_free = refl

-- what the matches have of FILE is what their rows have
pub file_in_rows : (f : Found) → first_value f (codes "FILE") ≡ first_of (codes "FILE") (rows_of f)
file_in_rows f = first_value-rows f (codes "FILE")

pub stop_in_rows : (f : Found) → first_value f (codes "stop") ≡ first_of (codes "stop") (rows_of f)
stop_in_rows f = first_value-rows f (codes "stop")

-- a text is found exactly where it equals the value that is found
pub some_is : (found : Option Text) (value text : Text) (b : Bool) → found ≡ Some value → b ≡ bytes_eq value text → (IsTrue b ↔ (found ≡ Some text))
some_is found value text b is same = (
  λ h. is ∙ ap (λ (t : Text). Some t) ((bytes_eq-Decides value text).0 (sym same ∙ h)),
  λ e. same ∙ (bytes_eq-Decides value text).1 (ap (λ (o : Option Text). unwrap_or o []) (sym is ∙ e)),
)
