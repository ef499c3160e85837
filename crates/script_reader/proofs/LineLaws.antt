-- What a line spells, and what is wrong with it.
use Rattle.script_reader.proofs.Prelude.{◌≡◌, inl, inr, ℕ, ◌<◌, ◌≤◌, Bool, true, false, List, [], ◌∷◌, length, Some, Ok, Err, refl, subst, arith, nat_lt, bytes_eq, find, cases_Bool, nat_tests, bytes_eq-Decides, words, Word, Kind, read, Builder, names, word_of, kinds_of, build, read_all, name_of, arguments, is_comment, request_of_words, is_ascii, request_of, Request, Nothing, Fault, Name, Spells, Misspells, IsComment, WordsSpell, WordsMisspell, IsAscii, LineSpells, LineMisspells}
use Rattle.script_reader.specs.declared.name.Name.TheVariants as name
use Rattle.script_reader.proofs.OptionLaws.{some_or_none, bind_ok, bind_err}
use Rattle.script_reader.proofs.PlaceLaws.{read_ok, ok_read, read_err, err_read}

-- ---- all places

all_ok : (ks : List Kind) (make : Builder ks) (ws : List Word) (d : Request) → read_all ks make ws ≡ Ok d → Spells ks make ws d
all_ok [] c [] d e = (refl, cc e)
all_ok [] c (w ∷ ws) d e = absurd (cc e)
all_ok (k ∷ ks) make ws d e =
    let a = bind_ok (read k ws) (λ x. read_all ks (make x.0) x.1) d e in
    (a.0.0, a.0.1, read_ok k ws a.0 a.1, all_ok ks (make a.0.0) a.0.1 d a.2)

ok_all : (ks : List Kind) (make : Builder ks) (ws : List Word) (d : Request) → Spells ks make ws d → read_all ks make ws ≡ Ok d
ok_all [] c [] d s = rw s.1 refl
ok_all [] c (w ∷ ws) d s = absurd (cc s.0)
ok_all (k ∷ ks) make ws d s = rw (ok_read k ws s.0 s.1 s.2) (ok_all ks (make s.0) s.1 d s.3)

all_err : (ks : List Kind) (make : Builder ks) (ws : List Word) (f : Fault) → read_all ks make ws ≡ Err f → Misspells ks ws f
all_err [] c [] f e = absurd (cc e)
all_err [] c (w ∷ ws) f e = cc e
all_err (k ∷ ks) make ws f e = elim (bind_err (read k ws) (λ x. read_all ks (make x.0) x.1) f e) [
  | inl here ↦ inl (read_err k ws f here)
  | inr a ↦ inr (a.0.0, a.0.1, read_ok k ws a.0 a.1, all_err ks (make a.0.0) a.0.1 f a.2)
]

err_all : (ks : List Kind) (make : Builder ks) (ws : List Word) (f : Fault) → Misspells ks ws f → read_all ks make ws ≡ Err f
err_all [] c [] f h = absurd h
err_all [] c (w ∷ ws) f h = rw h refl
err_all (k ∷ ks) make ws f h = elim h [
  | inl here ↦ rw (err_read k ws f here) refl
  | inr a ↦ rw (ok_read k ws a.0 a.1 a.2) (err_all ks (make a.0) a.1 f a.3)
]

-- ---- the command word

found_passes : {A : Type 0} (test : A → Bool) (xs : List A) (x : A) → find test xs ≡ Some x → test x ≡ true
found_passes test [] x e = absurd (cc e)
found_passes test (y ∷ ys) x e = elim (cases_Bool (test y)) [
  | inl yes_here ↦ let same : y ≡ x = cc (rw yes_here at e) in subst (λ z. test z ≡ true) same yes_here
  | inr not_here ↦ found_passes test ys x (rw not_here at e)
]

name_told : (w : Word) (n : Name) → name_of w ≡ Some n → w ≡ word_of n
name_told w n e = (bytes_eq-Decides w (word_of n)).0 (found_passes (λ m. bytes_eq w (word_of m)) names n e)

pub spelled_name : (n : Name) → name_of (word_of n) ≡ Some n
spelled_name name.Mvfs = refl
spelled_name n = refl

no_comment : (n : Name) → is_comment (word_of n) ≡ false
no_comment name.Mvfs = refl
no_comment n = refl

comment_told : (w : Word) → is_comment w ≡ true → IsComment w
comment_told [] e = absurd (cc e)
comment_told (c ∷ cs) e = let same : c ≡ 35 = grind (arith, nat_tests, e) in (cs, rw same refl)

told_comment : (w : Word) → IsComment w → is_comment w ≡ true
told_comment w h = rw h.1 refl

arguments_ok : (n : Name) (ws : List Word) (d : Request) → arguments n ws ≡ Ok d → Spells (kinds_of n) (build n) ws d
unfolding arguments
arguments_ok n ws d e = all_ok (kinds_of n) (build n) ws d e

ok_arguments : (n : Name) (ws : List Word) (d : Request) → Spells (kinds_of n) (build n) ws d → arguments n ws ≡ Ok d
unfolding arguments
ok_arguments n ws d s = ok_all (kinds_of n) (build n) ws d s

arguments_err : (n : Name) (ws : List Word) (f : Fault) → arguments n ws ≡ Err f → Misspells (kinds_of n) ws f
unfolding arguments
arguments_err n ws f e = all_err (kinds_of n) (build n) ws f e

err_arguments : (n : Name) (ws : List Word) (f : Fault) → Misspells (kinds_of n) ws f → arguments n ws ≡ Err f
unfolding arguments
err_arguments n ws f h = err_all (kinds_of n) (build n) ws f h

-- ---- the words of a line

pub words_ok : (ws : List Word) (d : Request) → request_of_words ws ≡ Ok d → WordsSpell ws d
words_ok [] d e = cc e
words_ok (w ∷ ws) d e = elim (cases_Bool (is_comment w)) [
  | inl is ↦ let same : d ≡ Nothing = cc (rw is at e) in inl (comment_told w is, same)
  | inr isnt ↦ elim (some_or_none (name_of w)) [
    | inl known ↦ inr (known.0, name_told w known.0 known.1, arguments_ok known.0 ws d (rw (isnt, known.1) at e))
    | inr unknown ↦ absurd (cc (rw (isnt, unknown) at e))
  ]
]

-- the word of a name is no comment, and names it
named : (w : Word) (n : Name) → w ≡ word_of n → (is_comment w ≡ false) × (name_of w ≡ Some n)
named w n e = (rw e (no_comment n), rw e (spelled_name n))

ok_words : (ws : List Word) (d : Request) → WordsSpell ws d → request_of_words ws ≡ Ok d
ok_words [] d s = rw s refl
ok_words (w ∷ ws) d s = elim s [
  | inl note ↦ rw (told_comment w note.0, note.1) refl
  | inr known ↦
      let is = named w known.0 known.1 in
      rw (is.0, is.1) (ok_arguments known.0 ws d known.2)
]

words_err : (ws : List Word) (f : Fault) → request_of_words ws ≡ Err f → WordsMisspell ws f
words_err [] f e = absurd (cc e)
words_err (w ∷ ws) f e = elim (cases_Bool (is_comment w)) [
  | inl is ↦ absurd (cc (rw is at e))
  | inr isnt ↦ (
    λ note. cc (isnt, told_comment w note),
    elim (some_or_none (name_of w)) [
      | inl known ↦ inr (known.0, name_told w known.0 known.1, arguments_err known.0 ws f (rw (isnt, known.1) at e))
      | inr unknown ↦ inl (λ n same. cc (unknown, (named w n same).1), cc (rw (isnt, unknown) at e))
    ],
  )
]

err_words : (ws : List Word) (f : Fault) → WordsMisspell ws f → request_of_words ws ≡ Err f
err_words [] f h = absurd h
err_words (w ∷ ws) f h = elim h.1 [
  | inl unknown ↦ elim (cases_Bool (is_comment w)) [
    | inl is ↦ absurd (h.0 (comment_told w is))
    | inr isnt ↦ elim (some_or_none (name_of w)) [
      | inl known ↦ absurd (unknown.0 known.0 (name_told w known.0 known.1))
      | inr none ↦ rw (isnt, none, unknown.1) refl
    ]
  ]
  | inr known ↦
      let is = named w known.0 known.1 in
      rw (is.0, is.1) (err_arguments known.0 ws f known.2)
]

-- ---- a line

pub ascii_told : (line : List ℕ) → is_ascii line ≡ true → IsAscii line
ascii_told [] e = tt
ascii_told (b ∷ line) e = elim (cases_Bool (nat_lt b 128)) [
  | inl low ↦ (grind (arith, nat_tests, low), ascii_told line (rw low at e))
  | inr high ↦ absurd (cc (rw high at e))
]

pub told_ascii : (line : List ℕ) → IsAscii line → is_ascii line ≡ true
told_ascii [] h = refl
told_ascii (b ∷ line) h = let low : nat_lt b 128 ≡ true = grind (arith, nat_tests, h.0) in rw (low, told_ascii line h.1) refl

is_long : (n : ℕ) → nat_lt 65536 n ≡ true → 65536 < n
is_long n e = grind (arith, nat_tests, e)

isnt_long : (n : ℕ) → nat_lt 65536 n ≡ false → n ≤ 65536
isnt_long n e = grind (arith, nat_tests, e)

long_is : (n : ℕ) → 65536 < n → nat_lt 65536 n ≡ true
long_is n h = grind (arith, nat_tests, h)

short_is : (n : ℕ) → n ≤ 65536 → nat_lt 65536 n ≡ false
short_is n h = grind (arith, nat_tests, h)

pub line_ok : (line : List ℕ) (d : Request) → request_of line ≡ Ok d → LineSpells line d
line_ok line d e = elim (cases_Bool (nat_lt 65536 (length line))) [
  | inl long ↦ absurd (cc (rw long at e))
  | inr short ↦ elim (cases_Bool (is_ascii line)) [
    | inl ascii ↦ (isnt_long (length line) short, ascii_told line ascii, words_ok (words line) d (rw (short, ascii) at e))
    | inr other ↦ absurd (cc (rw (short, other) at e))
  ]
]

pub ok_line : (line : List ℕ) (d : Request) → LineSpells line d → request_of line ≡ Ok d
ok_line line d s = rw (short_is (length line) s.0, told_ascii line s.1) (ok_words (words line) d s.2)

pub line_err : (line : List ℕ) (f : Fault) → request_of line ≡ Err f → LineMisspells line f
line_err line f e = elim (cases_Bool (nat_lt 65536 (length line))) [
  | inl long ↦ inl (is_long (length line) long, cc (rw long at e))
  | inr short ↦ elim (cases_Bool (is_ascii line)) [
    | inl ascii ↦ inr (inr (isnt_long (length line) short, ascii_told line ascii, words_err (words line) f (rw (short, ascii) at e)))
    | inr other ↦ inr (inl (isnt_long (length line) short, λ h. cc (other, told_ascii line h), cc (rw (short, other) at e)))
  ]
]

pub err_line : (line : List ℕ) (f : Fault) → LineMisspells line f → request_of line ≡ Err f
err_line line f h = elim h [
  | inl long ↦ rw (long_is (length line) long.0, long.1) refl
  | inr short ↦ elim short [
    | inl other ↦ elim (cases_Bool (is_ascii line)) [
      | inl ascii ↦ absurd (other.1 (ascii_told line ascii))
      | inr is ↦ rw (short_is (length line) other.0, is, other.2) refl
    ]
    | inr wrong ↦ rw (short_is (length line) wrong.0, told_ascii line wrong.1) (err_words (words line) f wrong.2)
  ]
]
