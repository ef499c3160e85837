-- The grammar of a line: the table of the commands, with the words of each.
use Rattle.std.specs.Prelude.{◌≡◌, ℕ, Bool, true, false, ◌==◌, nat_lt, ◌&&◌, List, [], ◌∷◌, length, codes, Option, Some, None, Result, Ok, Err, if◌then◌else◌, find, bytes_eq}
use Rattle.euler_operators.specs.Common.{HalfEdge}
use Rattle.euler_operators.specs.declared.Op.{Op}
use Rattle.euler_operators.specs.declared.Op.TheVariants as op
use Rattle.script_reader.specs.Words.{words}
use Rattle.script_reader.specs.Places.{Word, Kind, Number, Integer, Half, AnyCorner, Place, Places, InOrOut, Meaning, ◌>>=◌, read}
use Rattle.call_types.specs.declared.command.Change.TheVariants as change
use Rattle.call_types.specs.declared.command.Question.TheVariants as question
use Rattle.call_types.specs.declared.command.Command.TheVariants as command
use Rattle.script_reader.specs.declared.command.Request.{Request}
use Rattle.script_reader.specs.declared.command.Request.TheVariants as request
use Rattle.script_reader.specs.declared.command.Fault.{Fault}
use Rattle.script_reader.specs.declared.command.Fault.TheVariants.{BadWord, ExtraWord, NotAscii, LongLine}
use Rattle.script_reader.specs.declared.line.Opening.{Opening}
use Rattle.script_reader.specs.declared.line.Opening.TheVariants as opening
use Rattle.script_reader.specs.declared.name.Name.{Name}
use Rattle.script_reader.specs.declared.name.Name.TheVariants as name
use Rattle.script_reader.specs.declared.places.Way.{Way}
use Rattle.script_reader.specs.declared.places.Way.TheVariants as way
use Rattle.script_reader.specs.declared.polygon.Outline.TheVariants as outline

-- the command words
abbrev pub names : List Name
names = name.Mvfs ∷ name.Kvfs ∷ name.Mev ∷ name.Kev ∷ name.Mef ∷ name.Kef ∷ name.Kemr ∷ name.Mekr ∷ name.Kfmrh ∷ name.Mfkrh ∷ name.Ringmv ∷ name.Lamina ∷ name.Block ∷ name.Sweep ∷ name.Glue ∷ name.Split ∷ name.Plane ∷ name.Volume ∷ name.Count ∷ name.Undo ∷ name.Redo ∷ name.List ∷ []

abbrev pub word_of : Name → Word
word_of name.Mvfs = codes "mvfs"
word_of name.Kvfs = codes "kvfs"
word_of name.Mev = codes "mev"
word_of name.Kev = codes "kev"
word_of name.Mef = codes "mef"
word_of name.Kef = codes "kef"
word_of name.Kemr = codes "kemr"
word_of name.Mekr = codes "mekr"
word_of name.Kfmrh = codes "kfmrh"
word_of name.Mfkrh = codes "mfkrh"
word_of name.Ringmv = codes "ringmv"
word_of name.Lamina = codes "lamina"
word_of name.Block = codes "block"
word_of name.Sweep = codes "sweep"
word_of name.Glue = codes "glue"
word_of name.Split = codes "split"
word_of name.Plane = codes "plane"
word_of name.Volume = codes "volume"
word_of name.Count = codes "count"
word_of name.Undo = codes "undo"
word_of name.Redo = codes "redo"
word_of name.List = codes "list"

-- the kinds of what follows each command word
abbrev pub kinds_of : Name → List Kind
kinds_of name.Mvfs = Number ∷ Number ∷ Number ∷ Number ∷ Place ∷ []
kinds_of name.Kvfs = Number ∷ []
kinds_of name.Mev = AnyCorner ∷ AnyCorner ∷ Number ∷ Number ∷ Place ∷ []
kinds_of name.Kev = Half ∷ []
kinds_of name.Mef = Half ∷ Half ∷ Number ∷ Number ∷ Number ∷ []
kinds_of name.Kef = Half ∷ []
kinds_of name.Kemr = Half ∷ Number ∷ []
kinds_of name.Mekr = AnyCorner ∷ AnyCorner ∷ Number ∷ []
kinds_of name.Kfmrh = Number ∷ Number ∷ []
kinds_of name.Mfkrh = Number ∷ Number ∷ []
kinds_of name.Ringmv = Number ∷ Number ∷ InOrOut ∷ []
kinds_of name.Lamina = Number ∷ Places ∷ []
kinds_of name.Block = Number ∷ Place ∷ Integer ∷ Integer ∷ Integer ∷ []
kinds_of name.Sweep = Number ∷ Place ∷ []
kinds_of name.Glue = Number ∷ Number ∷ []
kinds_of name.Split = Number ∷ Integer ∷ Integer ∷ Integer ∷ Integer ∷ Number ∷ []
kinds_of name.Plane = Number ∷ []
kinds_of name.Volume = Number ∷ []
kinds_of name.Count = Number ∷ []
kinds_of name.Undo = []
kinds_of name.Redo = []
kinds_of name.List = []

-- what makes a request from the values of these kinds
abbrev pub Builder : List Kind → Type 0
Builder [] = Request
Builder (k ∷ ks) = Meaning k → Builder ks

-- the half-edge `+e` of a new edge, which a script gives by its number
abbrev pub plus : ℕ → HalfEdge
plus e = record { edge = e; first = true }

-- a ring moves in as a ring, or out as the outer loop
abbrev pub ring_move : Way → ℕ → ℕ → Op
ring_move way.In l f = op.RingIn l f
ring_move way.Out l f = op.RingOut l f

-- a line asks for one operator
abbrev pub operator : Op → Request
operator o = request.Give (command.Change (change.Act o))

-- what the words of an operator say, as a line asks for it
abbrev pub asks : Result Op Fault → Result Request Fault
asks (Ok o) = Ok (operator o)
asks (Err f) = Err f

-- the names of operators
abbrev pub is_operator : Name → Bool
is_operator name.Lamina = false
is_operator name.Block = false
is_operator name.Sweep = false
is_operator name.Glue = false
is_operator name.Split = false
is_operator name.Plane = false
is_operator name.Volume = false
is_operator name.Count = false
is_operator name.Undo = false
is_operator name.Redo = false
is_operator name.List = false
is_operator n = true

abbrev pub build : (n : Name) → Builder (kinds_of n)
build name.Mvfs = λ s f l v p. operator (op.Mvfs s f l v p)
build name.Kvfs = λ s. operator (op.Kvfs s)
build name.Mev = λ c d e v p. operator (op.Mev c d (plus e) v p)
build name.Kev = λ h. operator (op.Kev h)
build name.Mef = λ g h e f l. operator (op.Mef g h (plus e) f l)
build name.Kef = λ h. operator (op.Kef h)
build name.Kemr = λ h l. operator (op.Kemr h l)
build name.Mekr = λ c d e. operator (op.Mekr c d (plus e))
build name.Kfmrh = λ f g. operator (op.Kfmrh f g)
build name.Mfkrh = λ l f. operator (op.Mfkrh l f)
build name.Ringmv = λ l f w. operator (ring_move w l f)
build name.Lamina = λ s ps. request.Over (outline.Lamina s) ps
build name.Block = λ s p dx dy dz. request.Give (command.Change (change.Block s p dx dy dz))
build name.Sweep = λ f d. request.Give (command.Change (change.Sweep f d))
build name.Glue = λ f g. request.Give (command.Change (change.Glue f g))
build name.Split = λ s a b c d t. request.Give (command.Change (change.Split s a b c d t))
build name.Plane = λ f. request.Give (command.Ask (question.Plane f))
build name.Volume = λ s. request.Give (command.Ask (question.Volume s))
build name.Count = λ s. request.Give (command.Ask (question.Count s))
build name.Undo = request.Give command.Undo
build name.Redo = request.Give command.Redo
build name.List = request.List

-- ---- a line

-- the places are read from the left, and then no word may be left
abbrev pub read_all : (ks : List Kind) → Builder ks → List Word → Result Request Fault
read_all [] c [] = Ok c
read_all [] c (w ∷ ws) = Err ExtraWord
read_all (k ∷ ks) make ws = read k ws >>= λ x. read_all ks (make x.0) x.1

-- no word is left; or a word is left, and then this is the fault of the line, whatever it asks for
abbrev pub Ends : List Word → Result (Unit {0}) Fault → Type 0
Ends ws (Ok x) = ws ≡ []
Ends ws (Err e) = (c : Request) → read_all [] c ws ≡ Err e

abbrev pub name_of : Word → Option Name
name_of word = find (λ n. bytes_eq word (word_of n)) names

unfoldable pub arguments : Name → List Word → Result Request Fault
arguments n ws = read_all (kinds_of n) (build n) ws

-- `#` begins a comment
abbrev pub is_comment : Word → Bool
is_comment [] = false
is_comment (c ∷ cs) = c == 35

-- how a line begins: with nothing to ask for, with a word that names no command, or with the name of a command, followed by these words
abbrev pub named : Option Name → List Word → Opening
named None ws = opening.BadWord
named (Some n) ws = opening.Command n ws

abbrev pub opening_of : List Word → Opening
opening_of [] = opening.Nothing
opening_of (word ∷ ws) = if is_comment word then opening.Nothing else named (name_of word) ws

-- what a line with this beginning asks for
abbrev pub opened : Opening → Result Request Fault
opened opening.Nothing = Ok request.Nothing
opened opening.BadWord = Err BadWord
opened (opening.Command n ws) = arguments n ws

abbrev pub request_of_words : List Word → Result Request Fault
request_of_words ws = opened (opening_of ws)

abbrev pub is_ascii : List ℕ → Bool
is_ascii [] = true
is_ascii (b ∷ line) = nat_lt b 128 && is_ascii line

-- what a line, given without its newline, asks for, or its first fault
abbrev pub request_of : List ℕ → Result Request Fault
request_of line = if nat_lt 65536 (length line) then Err LongLine else (if is_ascii line then request_of_words (words line) else Err NotAscii)
