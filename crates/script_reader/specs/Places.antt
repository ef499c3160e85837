-- What stands at one place of a command, and how it is read.
use Rattle.std.specs.Prelude.{◌≡◌, ℕ, zero, suc, Bool, true, false, ◌==◌, List, [], ◌∷◌, codes, ℤ, Option, Some, None, option_map, Result, Ok, Err, if◌then◌else◌, bytes_eq}
use Rattle.script_reader.specs.Numbers.{number_of, integer_of}
use Rattle.euler_operators.specs.Common.{Point, HalfEdge, Corner, At, Lone}
use Rattle.script_reader.specs.declared.command.Fault.{Fault}
use Rattle.script_reader.specs.declared.command.Fault.TheVariants.{BadWord, BadNumber, MissingWord, ExtraWord}
use Rattle.script_reader.specs.declared.places.Way.{Way}
use Rattle.script_reader.specs.declared.places.Way.TheVariants as way

abbrev pub Word : Type 0
Word = List ℕ

-- a number; a coordinate, size or coefficient; a half-edge; a corner; three coordinates; points to the end of the line; `in` or `out`
pub data Kind : Type 0 where
  Number Integer Half AnyCorner Place Places InOrOut : Kind

abbrev pub Meaning : Kind → Type 0
Meaning Number = ℕ
Meaning Integer = ℤ
Meaning Half = HalfEdge
Meaning AnyCorner = Corner
Meaning Place = Point
Meaning Places = List Point
Meaning InOrOut = Way

-- ---- one word

abbrev pub half_with : Bool → Word → Option HalfEdge
half_with sign digits = option_map (λ n. record { edge = n; first = sign }) (number_of digits)

-- `+` or `-`, and a number
abbrev pub half_of : Word → Option HalfEdge
half_of [] = None
half_of (c ∷ cs) = if c == 43 then half_with true cs else (if c == 45 then half_with false cs else None)

-- `@`, and the number of a loop
abbrev pub lone_of : Word → Option Corner
lone_of [] = None
lone_of (c ∷ cs) = if c == 64 then option_map Lone (number_of cs) else None

abbrev pub or_else : {A : Type 0} → Option A → Option A → Option A
or_else (Some x) o = Some x
or_else None o = o

abbrev pub corner_of : Word → Option Corner
corner_of word = or_else (option_map At (half_of word)) (lone_of word)

abbrev pub way_of : Word → Option Way
way_of word = if bytes_eq word (codes "in") then Some way.In else (if bytes_eq word (codes "out") then Some way.Out else None)

-- ---- reading the words that are left

infixl 10 ◌>>=◌
abbrev pub ◌>>=◌ : {A B : Type 0} → Result A Fault → (A → Result B Fault) → Result B Fault
(Ok x) >>= f = f x
(Err e) >>= f = Err e

-- what a word says and the words after it, or this fault if the word can't be read
abbrev pub said : {A : Type 0} → Fault → Option A → List Word → Result (A × List Word) Fault
said fault (Some x) rest = Ok (x, rest)
said fault None rest = Err fault

-- a place of one word
abbrev pub next_of : {A : Type 0} → Fault → (Word → Option A) → List Word → Result (A × List Word) Fault
next_of fault read [] = Err MissingWord
next_of fault read (word ∷ rest) = said fault (read word) rest

abbrev pub point_of : List Word → Result (Point × List Word) Fault
point_of ws = do
  x ← next_of BadNumber integer_of ws
  y ← next_of BadNumber integer_of x.1
  z ← next_of BadNumber integer_of y.1
  Ok (record { x = x.0; y = y.0; z = z.0 }, z.1)

-- as many points as there are words for, but no more than `room`
abbrev pub points_of : ℕ → List Word → Result (List Point × List Word) Fault
points_of room [] = Ok ([], [])
points_of zero (w ∷ ws) = Err ExtraWord
points_of (suc room) (w ∷ ws) = do
  p ← point_of (w ∷ ws)
  ps ← points_of room p.1
  Ok (p.0 ∷ ps.0, ps.1)

abbrev pub read : (k : Kind) → List Word → Result (Meaning k × List Word) Fault
read Number ws = next_of BadNumber number_of ws
read Integer ws = next_of BadNumber integer_of ws
read Half ws = next_of BadNumber half_of ws
read AnyCorner ws = next_of BadNumber corner_of ws
read Place ws = point_of ws
read Places ws = points_of 64 ws
read InOrOut ws = next_of BadWord way_of ws

-- what a function returned is, under `view`, what reading gives
abbrev pub Agrees : {X Y : Type 0} → (X → Y) → Result X Fault → Result Y Fault → Type 0
Agrees view (Ok x) found = found ≡ Ok (view x)
Agrees view (Err e) found = found ≡ Err e

-- what a call returned and the words that it left are what reading gives
abbrev pub Takes : {A : Type 0} → Result (A × List Word) Fault → Result A Fault → List Word → Type 0
Takes found (Ok x) left = found ≡ Ok (x, left)
Takes found (Err e) left = found ≡ Err e
