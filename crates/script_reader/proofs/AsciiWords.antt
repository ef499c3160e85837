-- A line whose words spell a command is ASCII: each of its bytes belongs to such a word, or separates two.
use Rattle.script_reader.proofs.Prelude.{◌≡◌, ◌≢◌, inl, inr, ℕ, ◌≤◌, Bool, true, false, List, [], ◌∷◌, length, Ok, refl, subst, arith, ℤ, nat_lt, onto_first, AllDigits, cases_Bool, nat_tests, digit_from_value, Point, HalfEdge, Corner, At, Lone, is_space, joined, words, Word, Kind, Number, Integer, Half, AnyCorner, Place, Places, InOrOut, Meaning, Builder, word_of, kinds_of, build, is_ascii, request_of_words, request_of, Request, Nothing, Name, Way, In, Out, SaysNumber, SaysInteger, SaysHalf, SaysCorner, SaysWay, sign, Begins, BeginsPlace, ArePoints, Means, Spells, WordsSpell, IsAscii}
use Rattle.script_reader.specs.declared.name.Name.TheVariants as name
use Rattle.script_reader.proofs.LineLaws.{words_ok, ascii_told, told_ascii}

abbrev AreAscii : List Word → Type 0
AreAscii [] = Unit {0}
AreAscii (w ∷ ws) = IsAscii w × AreAscii ws

-- ---- one word

digits_ascii : (w : Word) → AllDigits 10 w → IsAscii w
digits_ascii [] h = tt
digits_ascii (c ∷ cs) h = let range = digit_from_value c h.0 in (omega (arith, range), digits_ascii cs h.1)

number_ascii : (w : Word) (n : ℕ) → SaysNumber w n → IsAscii w
number_ascii w n s = digits_ascii w s.0.1

integer_ascii : (w : Word) (z : ℤ) → SaysInteger w z → IsAscii w
integer_ascii w z s = elim s [
  | inl plain ↦ digits_ascii w plain.0.1
  | inr minus ↦ rw minus.1 (omega arith, digits_ascii minus.0 minus.2.1)
]

sign_ascii : (first : Bool) → sign first ≤ 127
sign_ascii true = omega arith
sign_ascii false = omega arith

half_ascii : (w : Word) (h : HalfEdge) → SaysHalf w h → IsAscii w
half_ascii w h s = rw s.1 (sign_ascii h.first, number_ascii s.0 h.edge s.2)

corner_ascii : (w : Word) (c : Corner) → SaysCorner w c → IsAscii w
corner_ascii w (At h) s = half_ascii w h s
corner_ascii w (Lone l) s = rw s.1 (omega arith, number_ascii s.0 l s.2)

way_ascii : (w : Word) (way : Way) → SaysWay w way → IsAscii w
way_ascii w In s = rw s (omega arith, (omega arith, tt))
way_ascii w Out s = rw s (omega arith, (omega arith, (omega arith, tt)))

-- ---- one place, with the words after it

begins_ascii : {A : Type 0} (says : Word → A → Type 0) → ((w : Word) (x : A) → says w x → IsAscii w) → (ws : List Word) (x : A) (rest : List Word) → Begins says ws x rest → AreAscii rest → AreAscii ws
begins_ascii says one [] x rest b more = absurd b
begins_ascii says one (w ∷ ws) x rest b more = (one w x b.0, subst AreAscii b.1 more)

place_ascii : (ws : List Word) (p : Point) (rest : List Word) → BeginsPlace ws p rest → AreAscii rest → AreAscii ws
place_ascii ws p rest b more =
    let third = begins_ascii SaysInteger integer_ascii b.1 p.z rest b.4 more in
    let second = begins_ascii SaysInteger integer_ascii b.0 p.y b.1 b.3 third in
    begins_ascii SaysInteger integer_ascii ws p.x b.0 b.2 second

points_ascii : (ps : List Point) (ws : List Word) → ArePoints ps ws → AreAscii ws
points_ascii [] ws a = rw a tt
points_ascii (p ∷ ps) ws a = place_ascii ws p a.0 a.1 (points_ascii ps a.0 a.2)

means_ascii : (k : Kind) (ws : List Word) (x : Meaning k) (rest : List Word) → Means k ws x rest → AreAscii rest → AreAscii ws
means_ascii Number ws x rest m more = begins_ascii SaysNumber number_ascii ws x rest m more
means_ascii Integer ws x rest m more = begins_ascii SaysInteger integer_ascii ws x rest m more
means_ascii Half ws x rest m more = begins_ascii SaysHalf half_ascii ws x rest m more
means_ascii AnyCorner ws x rest m more = begins_ascii SaysCorner corner_ascii ws x rest m more
means_ascii Place ws x rest m more = place_ascii ws x rest m more
means_ascii Places ws x rest m more = points_ascii x ws m.0
means_ascii InOrOut ws x rest m more = begins_ascii SaysWay way_ascii ws x rest m more

-- ---- all words

spelled_ascii : (ks : List Kind) (make : Builder ks) (ws : List Word) (d : Request) → Spells ks make ws d → AreAscii ws
spelled_ascii [] c ws d s = rw s.0 tt
spelled_ascii (k ∷ ks) make ws d s = means_ascii k ws s.0 s.1 s.2 (spelled_ascii ks (make s.0) s.1 d s.3)

name_ascii : (n : Name) → is_ascii (word_of n) ≡ true
name_ascii name.Mvfs = refl
name_ascii n = refl

command_ascii : (ws : List Word) (d : Request) → WordsSpell ws d → d ≢ Nothing → AreAscii ws
command_ascii [] d s some = absurd (some s)
command_ascii (w ∷ ws) d s some = elim s [
  | inl note ↦ absurd (some note.1)
  | inr known ↦ (rw known.1 (ascii_told (word_of known.0) (name_ascii known.0)), spelled_ascii (kinds_of known.0) (build known.0) ws d known.2)
]

-- ---- the line

space_ascii : (b : ℕ) → is_space b ≡ true → b ≤ 127
space_ascii b gap = grind (arith, nat_tests)

onto_ascii : (b : ℕ) (ws : List Word) → AreAscii (onto_first b ws) → (b ≤ 127) × AreAscii ws
onto_ascii b [] h = (h.0.0, tt)
onto_ascii b (w ∷ ws) h = (h.0.0, (h.0.1, h.1))

joined_ascii : (b : ℕ) (line : List ℕ) (ws : List Word) → AreAscii (joined b line ws) → (b ≤ 127) × AreAscii ws
joined_ascii b [] ws h = (h.0.0, h.1)
joined_ascii b (c ∷ line) ws h = elim (cases_Bool (is_space c)) [
  | inl gap ↦ let alone : AreAscii ((b ∷ []) ∷ ws) = rw gap at h in (alone.0.0, alone.1)
  | inr more ↦ onto_ascii b ws (rw more at h)
]

line_ascii : (line : List ℕ) → AreAscii (words line) → IsAscii line
line_ascii [] h = tt
line_ascii (b ∷ line) h = elim (cases_Bool (is_space b)) [
  | inl gap ↦ (space_ascii b gap, line_ascii line (rw gap at h))
  | inr here ↦ let both = joined_ascii b line (words line) (rw here at h) in (both.0, line_ascii line both.1)
]

-- a line within the limit whose words spell a command that does something spells that command
pub words_tell : (line : List ℕ) (d : Request) → nat_lt 65536 (length line) ≡ false → request_of_words (words line) ≡ Ok d → d ≢ Nothing → request_of line ≡ Ok d
words_tell line d short e some =
    let ascii = told_ascii line (line_ascii line (command_ascii (words line) d (words_ok (words line) d e) some)) in
    rw (short, ascii, e) refl
