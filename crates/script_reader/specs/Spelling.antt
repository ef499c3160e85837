-- Which words spell a command, and which fault a line has. How a line is read is no part of this.
use Rattle.std.specs.Prelude.{◌≡◌, ◌≢◌, ◌⊎◌, ◌<◌, ◌≤◌, ◌^◌, ℕ, zero, suc, Bool, true, false, List, [], ◌∷◌, ◌++◌, codes, length, ℤ, pos, neg_ℤ}
use Rattle.std.specs.Str.Parse.{IsNumeral, digits_value}
use Rattle.euler_operators.specs.Common.{Point, HalfEdge, Corner, At, Lone}
use Rattle.script_reader.specs.Words.{words}
use Rattle.script_reader.specs.Places.{Word, Kind, Number, Integer, Half, AnyCorner, Place, Places, InOrOut, Meaning}
use Rattle.script_reader.specs.Grammar.{Builder, kinds_of, build, word_of}
use Rattle.script_reader.specs.declared.command.Request.{Request}
use Rattle.script_reader.specs.declared.command.Request.TheVariants.{Nothing}
use Rattle.script_reader.specs.declared.command.Fault.{Fault}
use Rattle.script_reader.specs.declared.command.Fault.TheVariants.{BadWord, BadNumber, MissingWord, ExtraWord, NotAscii, LongLine}
use Rattle.script_reader.specs.declared.name.Name.{Name}
use Rattle.script_reader.specs.declared.places.Way.{Way}
use Rattle.script_reader.specs.declared.places.Way.TheVariants.{In, Out}

-- ---- the words of a line

-- space, tab or carriage return
abbrev pub IsSeparator : ℕ → Type 0
IsSeparator b = (b ≡ 32) ⊎ ((b ≡ 9) ⊎ (b ≡ 13))

abbrev pub IsGap : List ℕ → Type 0
IsGap [] = Unit {0}
IsGap (b ∷ bs) = IsSeparator b × IsGap bs

abbrev pub HasNoGap : List ℕ → Type 0
HasNoGap [] = Unit {0}
HasNoGap (b ∷ bs) = (¬ IsSeparator b) × HasNoGap bs

-- a word ends here
abbrev pub IsAtGap : List ℕ → Type 0
IsAtGap [] = Unit {0}
IsAtGap (b ∷ bs) = IsSeparator b

-- the line is these words, with separators between them, and maybe before and after them
abbrev pub IsParted : List Word → List ℕ → Type 0
IsParted [] line = IsGap line
IsParted (w ∷ ws) line = (gap : List ℕ) × (rest : List ℕ) × (line ≡ gap ++ (w ++ rest)) × IsGap gap × (0 < length w) × HasNoGap w × IsAtGap rest × IsParted ws rest

-- ---- one word

-- decimal digits, at least one
abbrev pub SaysNumber : Word → ℕ → Type 0
SaysNumber w n = IsNumeral 10 w × (digits_value 10 w ≡ n) × (n < 2 ^ 32)

-- decimal digits, with `-` before them or without
abbrev pub SaysInteger : Word → ℤ → Type 0
SaysInteger w z = (IsNumeral 10 w × (digits_value 10 w < 2 ^ 63) × (z ≡ pos (digits_value 10 w)))
    ⊎ ((ds : Word) × (w ≡ 45 ∷ ds) × IsNumeral 10 ds × (digits_value 10 ds ≤ 2 ^ 63) × (z ≡ neg_ℤ (pos (digits_value 10 ds))))

-- `+` or `-`
abbrev pub sign : Bool → ℕ
sign true = 43
sign false = 45

abbrev pub SaysHalf : Word → HalfEdge → Type 0
SaysHalf w h = (ds : Word) × (w ≡ sign h.first ∷ ds) × SaysNumber ds h.edge

-- a half-edge, or `@` and the number of a loop
abbrev pub SaysCorner : Word → Corner → Type 0
SaysCorner w (At h) = SaysHalf w h
SaysCorner w (Lone l) = (ds : Word) × (w ≡ 64 ∷ ds) × SaysNumber ds l

abbrev pub SaysWay : Word → Way → Type 0
SaysWay w In = w ≡ codes "in"
SaysWay w Out = w ≡ codes "out"

-- ---- one place

-- the words begin with one that says this, and the rest follows it
abbrev pub Begins : {A : Type 0} → (Word → A → Type 0) → List Word → A → List Word → Type 0
Begins says [] x rest = ⊥
Begins says (w ∷ ws) x rest = says w x × (rest ≡ ws)

abbrev pub BeginsPlace : List Word → Point → List Word → Type 0
BeginsPlace ws p rest = (us : List Word) × (vs : List Word) × Begins SaysInteger ws p.x us × Begins SaysInteger us p.y vs × Begins SaysInteger vs p.z rest

-- three words for each point, and nothing after them
abbrev pub ArePoints : List Point → List Word → Type 0
ArePoints [] ws = ws ≡ []
ArePoints (p ∷ ps) ws = (us : List Word) × BeginsPlace ws p us × ArePoints ps us

-- the words begin with those that mean this at a place of this kind, and the rest follows them
abbrev pub Means : (k : Kind) → List Word → Meaning k → List Word → Type 0
Means Number ws n rest = Begins SaysNumber ws n rest
Means Integer ws z rest = Begins SaysInteger ws z rest
Means Half ws h rest = Begins SaysHalf ws h rest
Means AnyCorner ws c rest = Begins SaysCorner ws c rest
Means Place ws p rest = BeginsPlace ws p rest
Means Places ws ps rest = ArePoints ps ws × (length ps ≤ 64) × (rest ≡ [])
Means InOrOut ws way rest = Begins SaysWay ws way rest

-- ---- what is wrong at one place

-- no word is there, or the word there says nothing
abbrev pub FailsWord : {A : Type 0} → Fault → (Word → A → Type 0) → List Word → Fault → Type 0
FailsWord wrong says [] fault = fault ≡ MissingWord
FailsWord {A} wrong says (w ∷ ws) fault = ((x : A) → ¬ says w x) × (fault ≡ wrong)

-- the first of three words, or the second, or the third
abbrev pub FailsPlace : List Word → Fault → Type 0
FailsPlace ws fault = FailsWord BadNumber SaysInteger ws fault
    ⊎ ((x : ℤ) × (us : List Word) × Begins SaysInteger ws x us × (FailsWord BadNumber SaysInteger us fault
    ⊎ ((y : ℤ) × (vs : List Word) × Begins SaysInteger us y vs × FailsWord BadNumber SaysInteger vs fault)))

-- a word comes after the last point for which there is room, or a point isn't complete
abbrev pub FailsPoints : ℕ → List Word → Fault → Type 0
FailsPoints room [] fault = ⊥
FailsPoints zero (w ∷ ws) fault = fault ≡ ExtraWord
FailsPoints (suc room) (w ∷ ws) fault = FailsPlace (w ∷ ws) fault ⊎ ((p : Point) × (us : List Word) × BeginsPlace (w ∷ ws) p us × FailsPoints room us fault)

abbrev pub Fails : Kind → List Word → Fault → Type 0
Fails Number ws fault = FailsWord BadNumber SaysNumber ws fault
Fails Integer ws fault = FailsWord BadNumber SaysInteger ws fault
Fails Half ws fault = FailsWord BadNumber SaysHalf ws fault
Fails AnyCorner ws fault = FailsWord BadNumber SaysCorner ws fault
Fails Place ws fault = FailsPlace ws fault
Fails Places ws fault = FailsPoints 64 ws fault
Fails InOrOut ws fault = FailsWord BadWord SaysWay ws fault

-- ---- all places

abbrev pub Spells : (ks : List Kind) → Builder ks → List Word → Request → Type 0
Spells [] c ws d = (ws ≡ []) × (d ≡ c)
Spells (k ∷ ks) make ws d = (x : Meaning k) × (rest : List Word) × Means k ws x rest × Spells ks (make x) rest d

-- the first place at which something is wrong, or a word after the last place
abbrev pub Misspells : List Kind → List Word → Fault → Type 0
Misspells [] [] fault = ⊥
Misspells [] (w ∷ ws) fault = fault ≡ ExtraWord
Misspells (k ∷ ks) ws fault = Fails k ws fault ⊎ ((x : Meaning k) × (rest : List Word) × Means k ws x rest × Misspells ks rest fault)

-- ---- a line

-- `#` begins a comment
abbrev pub IsComment : Word → Type 0
IsComment w = (rest : Word) × (w ≡ 35 ∷ rest)

abbrev pub WordsSpell : List Word → Request → Type 0
WordsSpell [] c = c ≡ Nothing
WordsSpell (w ∷ ws) c = (IsComment w × (c ≡ Nothing)) ⊎ ((n : Name) × (w ≡ word_of n) × Spells (kinds_of n) (build n) ws c)

abbrev pub WordsMisspell : List Word → Fault → Type 0
WordsMisspell [] fault = ⊥
WordsMisspell (w ∷ ws) fault = (¬ IsComment w) × ((((n : Name) → w ≢ word_of n) × (fault ≡ BadWord)) ⊎ ((n : Name) × (w ≡ word_of n) × Misspells (kinds_of n) ws fault))

abbrev pub IsAscii : List ℕ → Type 0
IsAscii [] = Unit {0}
IsAscii (b ∷ line) = (b ≤ 127) × IsAscii line

-- the line spells the command
abbrev pub LineSpells : List ℕ → Request → Type 0
LineSpells line c = (length line ≤ 65536) × IsAscii line × WordsSpell (words line) c

-- the line is too long, or has a byte above 127, or its words are wrong from some word on
abbrev pub LineMisspells : List ℕ → Fault → Type 0
LineMisspells line fault = ((65536 < length line) × (fault ≡ LongLine))
    ⊎ ((length line ≤ 65536) × (¬ IsAscii line) × (fault ≡ NotAscii))
    ⊎ ((length line ≤ 65536) × IsAscii line × WordsMisspell (words line) fault)
