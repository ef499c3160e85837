-- What scripts are answered, where only their bytes are spoken of.
use Rattle.std.specs.Prelude.{◌≡◌, ◌≢◌, ◌⊎◌, ◌<◌, ◌^◌, ℕ, Bool, true, false, List, [], ◌∷◌, ◌++◌, codes, map, Option, ℤ, pos, ◌+ℤ◌, ◌*ℤ◌, int_lt, decimal}
use Rattle.std.specs.Fmt.{signed_decimal}
use Rattle.std.specs.Int.Signed.{mag}
use Rattle.std.specs.List.{AllByRecursion}
use Rattle.euler_operators.specs.Refusal as why
use Rattle.euler_operators.specs.declared.Why.{Why}
use Rattle.euler_operators.specs.declared.Why.TheVariants.{NoSolid}
use Rattle.euler_operators.specs.Common.{Plane, Point, dot, direction}
use Rattle.call_types.specs.declared.command.Change.TheVariants as change
use Rattle.call_types.specs.declared.command.Question.TheVariants as question
use Rattle.call_types.specs.declared.command.Command.{Command}
use Rattle.call_types.specs.declared.command.Command.TheVariants.{Ask, Change}
use Rattle.solid_listing.specs.Lines.{line_text, spaced}
use Rattle.solid_listing.specs.Replies.{reply_text, tally_words}
use Rattle.solid_listing.specs.declared.told.Told.{Told}
use Rattle.solid_listing.specs.declared.told.Told.TheVariants as told
use Rattle.script_reader.specs.Fault as fault
use Rattle.script_reader.specs.declared.command.Fault.{Fault}
use Rattle.script_reader.specs.Newline as newline
use Rattle.script_reader.specs.Lines.{lines_of, within_limit}
use Rattle.script_reader.specs.Words.{words}
use Rattle.script_running.specs.Laws.{AsksFor}
use Rattle.script_running.specs.Runs.{Served, BreaksOff, WriteFails}
use Rattle.script_running.specs.declared.script_judging.judging.Summary.{Summary}
use Rattle.script_laws.specs.Scripts.{answers, EndsLine, ended, HasNo, OnlyBlocksAndSplits, oks, Adds, TextAnswers, SameBehind, IsTakenBack}

abbrev pub Anything : List ℕ → Type 0
Anything more = Unit {0}

-- if no reply is `memory`, a run without `stop` writes the answers to the bytes that it was given
abbrev pub RunsAnswer : Type 0
RunsAnswer = (reader old new : Option (List ℕ)) (summary : Summary) (run : Served reader old new false summary) → summary.memory ≡ 0 → run.moves.out ≡ answers run.moves.given

-- whatever memory is refused, a run without `stop` writes the answers to its lines; a line that is answered `memory` changes nothing
abbrev pub RunsTell : Type 0
RunsTell = (reader old new : Option (List ℕ)) (summary : Summary) (run : Served reader old new false summary) → TextAnswers [] (lines_of run.moves.given) run.moves.out

-- after a failed read, or if the script is too long, the answers to the lines that came with their newlines are written
abbrev pub BrokenRunsTell : Type 0
BrokenRunsTell = (reader old new : Option (List ℕ)) (run : BreaksOff reader old new false) → TextAnswers [] run.judged run.moves.out

-- after a failed write a prefix of the answers is written
abbrev pub FailedRunsTell : Type 0
FailedRunsTell = (reader old new : Option (List ℕ)) (run : WriteFails reader old new false) → (rest : List ℕ) × TextAnswers [] (lines_of (within_limit 0 run.moves.given)) (run.moves.out ++ rest)

-- an example, computed
abbrev pub AnsweredSo : Type 0
AnsweredSo = answers (codes "mvfs 1 1 1 1 0 0 0\nmev @1 @1 1 2 5 0 0\nkvfs 1\nlist\nundo\nlist\nundo\nlist\n") ≡ codes "ok\nok\nrefused 12 1\nsolid 1\nface 1 1 1\nloop 1 +1 -1\nedge 1 1 2\nvertex 1 0 0 0\nvertex 2 5 0 0\nok\nsolid 1\nface 1 1 1\nloop 1 at 1\nvertex 1 0 0 0\nok\nempty\n"

-- what was answered stays, whatever comes after it
abbrev pub AnswersStay : Type 0
AnswersStay = (script more : List ℕ) → EndsLine script → (reply : List ℕ) × Adds script more reply

-- a line that isn't answered `ok` can be left out: a refused command, a fault, a question, a comment
abbrev pub OthersCanBeLeftOut : Type 0
OthersCanBeLeftOut = (script line reply : List ℕ) → EndsLine script → newline.Lacks line → Adds script (ended line) reply → reply ≢ codes "ok\n"
    → SameBehind Anything (script ++ ended line) script

-- if `undo` is answered `ok`, so is `redo` after it, and both can be left out
abbrev pub UndoAndRedoCanBeLeftOut : Type 0
UndoAndRedoCanBeLeftOut = (script : List ℕ) → EndsLine script → Adds script (codes "undo\n") (codes "ok\n")
    → Adds script (codes "undo\nredo\n") (codes "ok\nok\n") × SameBehind Anything (script ++ codes "undo\nredo\n") script

-- if a line other than `undo` is answered `ok`, so is `undo` after it, and both can be left out where no `redo` comes
abbrev pub UndoneLinesCanBeLeftOut : Type 0
UndoneLinesCanBeLeftOut = (script line : List ℕ) → EndsLine script → newline.Lacks line → words line ≢ codes "undo" ∷ [] → Adds script (ended line) (codes "ok\n")
    → Adds script (ended line ++ codes "undo\n") (codes "ok\nok\n") × SameBehind (HasNo (codes "redo")) (script ++ (ended line ++ codes "undo\n")) script

-- if a script has no undo and no redo, as many undos as it has replies `ok` lead back to the start
abbrev pub UndosLeadBack : Type 0
UndosLeadBack = (script : List ℕ) → EndsLine script → HasNo (codes "undo") script → HasNo (codes "redo") script → IsTakenBack script (oks (answers script))

-- whatever a script is, some number of undos, which are all answered `ok`, leads to the empty model
abbrev pub SomeUndosLeadBack : Type 0
SomeUndosLeadBack = (script : List ℕ) → EndsLine script → (n : ℕ) × IsTakenBack script n

-- if two scripts come to equal listings, whatever comes after them, except undo and redo, is answered alike
abbrev pub EqualListingsGoOnAlike : Type 0
EqualListingsGoOnAlike = (one other text : List ℕ) → EndsLine one → EndsLine other → Adds one (codes "list\n") text → Adds other (codes "list\n") text
    → SameBehind (λ more. HasNo (codes "undo") more × HasNo (codes "redo") more) one other

-- ---- geometry

-- the line spells this command, with any blanks, and any signs and zeros in front of numbers
abbrev pub Spells : List ℕ → Command → Type 0
Spells line c = newline.Lacks line × AsksFor line c

-- numbers that a line may give
abbrev pub IsWritten : ℤ → Type 0
IsWritten z = mag z < 2 ^ 63

-- the plainest lines that spell a block, a split, and the question for a volume
abbrev pub BlockLinesSpell : Type 0
BlockLinesSpell = (n : ℕ) (p : Point) (dx dy dz : ℤ) → n < 2 ^ 32 → AllByRecursion IsWritten (p.x ∷ p.y ∷ p.z ∷ dx ∷ dy ∷ dz ∷ [])
    → Spells (codes "block" ++ spaced (decimal n ∷ map signed_decimal (p.x ∷ p.y ∷ p.z ∷ dx ∷ dy ∷ dz ∷ []))) (Change (change.Block n p dx dy dz))

abbrev pub SplitLinesSpell : Type 0
SplitLinesSpell = (n m : ℕ) (a b c d : ℤ) → n < 2 ^ 32 → m < 2 ^ 32 → AllByRecursion IsWritten (a ∷ b ∷ c ∷ d ∷ [])
    → Spells (codes "split" ++ spaced (decimal n ∷ signed_decimal a ∷ signed_decimal b ∷ signed_decimal c ∷ signed_decimal d ∷ decimal m ∷ [])) (Change (change.Split n a b c d m))

abbrev pub VolumeLinesSpell : Type 0
VolumeLinesSpell = (n : ℕ) → n < 2 ^ 32 → Spells (codes "volume" ++ spaced (decimal n ∷ [])) (Ask (question.Volume n))

-- the answer to a question for a volume
abbrev pub volume_answer : ℤ → List ℕ
volume_answer z = ended (codes "volume" ++ spaced (signed_decimal z ∷ []))

-- behind the line a question for the volume of any of these solids is answered as before it
abbrev pub AnswersAsBefore : (ℕ → Type 0) → List ℕ → List ℕ → Type 0
AnswersAsBefore These script line = (ask text : List ℕ) (n : ℕ) → These n → Spells ask (Ask (question.Volume n)) → Adds script (ended ask) text → Adds (script ++ ended line) (ended ask) text

-- after a block that was answered `ok`, its volume is answered: six times the product of its sizes; every other volume is answered as before
abbrev pub BlocksMeasure : Type 0
BlocksMeasure = (script line ask : List ℕ) (n : ℕ) (p : Point) (dx dy dz : ℤ) → EndsLine script → Spells line (Change (change.Block n p dx dy dz)) → Spells ask (Ask (question.Volume n))
    → Adds script (ended line) (codes "ok\n")
    → Adds (script ++ ended line) (ended ask) (volume_answer (pos 6 *ℤ dx *ℤ dy *ℤ dz)) × AnswersAsBefore (λ u. u ≢ n) script line

-- after a split that was answered `ok`, the sum of both parts' volumes is what was answered for the solid before; every other volume is answered as
-- before
abbrev pub PartsShareVolumes : Type 0
PartsShareVolumes = (script line one other : List ℕ) (n m : ℕ) (a b c d z : ℤ) → EndsLine script → Spells line (Change (change.Split n a b c d m)) → Spells one (Ask (question.Volume n)) → Spells other (Ask (question.Volume m))
    → Adds script (ended one) (volume_answer z) → Adds script (ended line) (codes "ok\n")
    → (u : ℤ) × (v : ℤ) × Adds script (ended one) (volume_answer (u +ℤ v)) × Adds (script ++ ended line) (ended one) (volume_answer u) × Adds (script ++ ended line) (ended other) (volume_answer v)
    × AnswersAsBefore (λ k. (k ≢ n) × (k ≢ m)) script line

-- the volumes after a sweep of face f by d: that of one solid grows by three times the product of d with the first three numbers that the plane of f
-- was answered; every other one is answered as before
pub record VolumesGrow (script line : List ℕ) (f : ℕ) (d : Point) : Type 0 where
  pub solid : ℕ
  pub plane : Plane
  pub flat : Bool
  pub faced : (ask : List ℕ) → Spells ask (Ask (question.Plane f)) → Adds script (ended ask) (reply_text (told.Plane plane flat))
  pub grown : (ask : List ℕ) → Spells ask (Ask (question.Volume solid))
      → (u : ℤ) × Adds script (ended ask) (volume_answer u) × Adds (script ++ ended line) (ended ask) (volume_answer (u +ℤ pos 3 *ℤ dot (direction plane) d))
  pub others : AnswersAsBefore (λ n. n ≢ solid) script line

abbrev pub SweepsMeasure : Type 0
SweepsMeasure = (script line : List ℕ) (f : ℕ) (d : Point) → EndsLine script → Spells line (Change (change.Sweep f d)) → Adds script (ended line) (codes "ok\n") → VolumesGrow script line f d

-- the listing has a line of face f, which names solid n
abbrev pub ListsFace : ℕ → ℕ → List ℕ → Type 0
ListsFace f n text = (front behind loops : List ℕ) × EndsLine front × (text ≡ front ++ (line_text (codes "face" ∷ decimal f ∷ decimal n ∷ map decimal loops) ++ behind))

-- the volumes after a glue of faces f and g, whose solids the listing before it names: the volume of the first is the sum of the two before, the second
-- solid is gone, and every other volume is answered as before
pub record VolumesJoin (script line : List ℕ) (f g : ℕ) : Type 0 where
  pub first : ℕ
  pub second : ℕ
  pub listed : (text : List ℕ) → Adds script (codes "list\n") text → ListsFace f first text × ListsFace g second text
  pub joined : (one other : List ℕ) → Spells one (Ask (question.Volume first)) → Spells other (Ask (question.Volume second))
      → (u : ℤ) × (v : ℤ) × Adds script (ended one) (volume_answer u) × Adds script (ended other) (volume_answer v) × Adds (script ++ ended line) (ended one) (volume_answer (u +ℤ v))
  pub gone : (other : List ℕ) → Spells other (Ask (question.Volume second)) → Adds (script ++ ended line) (ended other) (reply_text (told.Refused (record { why = NoSolid; number = second })))
  pub others : AnswersAsBefore (λ n. (n ≢ first) × (n ≢ second)) script line

abbrev pub GluesMeasure : Type 0
GluesMeasure = (script line : List ℕ) (f g : ℕ) → EndsLine script → Spells line (Change (change.Glue f g)) → Adds script (ended line) (codes "ok\n") → VolumesJoin script line f g

-- after a script of blocks and splits, a question for a volume is answered a number greater than 0, or it is refused
abbrev pub BlocksAndSplitsHaveVolume : Type 0
BlocksAndSplitsHaveVolume = (script ask : List ℕ) (n : ℕ) → EndsLine script → OnlyBlocksAndSplits script → Spells ask (Ask (question.Volume n))
    → ((z : ℤ) × (int_lt (pos 0) z ≡ true) × Adds script (ended ask) (volume_answer z)) ⊎ ((w : Why) × Adds script (ended ask) (reply_text (told.Refused (record { why = w; number = n }))))

-- other changes may make a solid whose volume is 0, or less: an example, computed
abbrev pub OthersMayHaveNone : Type 0
OthersMayHaveNone = answers (codes "lamina 1 0 0 0 1 0 0 0 1 0\nvolume 1\nsweep 1 0 0 -1\nvolume 1\n") ≡ codes "ok\nvolume 0\nok\nvolume -3\n"

-- each line of the text that answers a volume answers one greater than 0
abbrev pub VolumesArePositive : List ℕ → Type 0
VolumesArePositive text = AllByRecursion (λ line. (z : ℤ) → ended line ≡ volume_answer z → int_lt (pos 0) z ≡ true) (lines_of text)

-- whatever memory is refused, a text that answers the first lines of such a script, or all, has no volume of 0 or less
abbrev pub WrittenVolumesArePositive : Type 0
WrittenVolumesArePositive = (script text : List ℕ) (lines others : List (List ℕ)) → lines_of script ≡ lines ++ others → OnlyBlocksAndSplits script → TextAnswers [] lines text
    → VolumesArePositive text

-- ---- replies

-- what is told in one line, with numbers below these powers of 2, whatever their signs
abbrev pub Fits : Told → Type 0
Fits told.Done = Unit {0}
Fits (told.Refused r) = r.number < 2 ^ 32
Fits (told.Fault n) = n < 2 ^ 32
Fits told.Memory = Unit {0}
Fits (told.Plane p flat) = (mag p.a < 2 ^ 127) × (mag p.b < 2 ^ 127) × (mag p.c < 2 ^ 127) × (mag p.d < 2 ^ 127)
Fits (told.Volume n) = mag n < 2 ^ 127
Fits (told.Counts n) = AllByRecursion (λ z. mag z < 2 ^ 63) (tally_words n)
Fits a = ⊥

-- a text begins with at most one of these
abbrev pub RepliesTell : Type 0
RepliesTell = (r q : Told) (x y : List ℕ) → Fits r → Fits q → reply_text r ++ x ≡ reply_text q ++ y → (r ≡ q) × (x ≡ y)

-- the number of a refusal tells why a command was refused, and that of a fault what is wrong with a line
abbrev pub RefusalsTell : Type 0
RefusalsTell = (a b : Why) → why.code_of a ≡ why.code_of b → a ≡ b

abbrev pub FaultsTell : Type 0
FaultsTell = (a b : Fault) → fault.code_of a ≡ fault.code_of b → a ≡ b
