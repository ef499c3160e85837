-- Numbers that are read by few instructions.
use Rattle.script_reader.proofs.Prelude.{◌≡◌, Bool, ℕ, ◌+◌, ◌-◌, ◌*◌, ◌^◌, ◌<◌, ◌≤◌, List, [], ◌∷◌, true, false, Option, Some, None, Ok, length, take, drop, drop-cons, add-one, length-drop, nil_from_length, get_or, refl, sym, ap, subst, arith, ◌∙◌, ℤ, pos, nat_lt, option_map, option_and_then, ◌&&◌, ◌==◌, if◌then◌else◌, and_parts, take_rest, nat_tests, is_space, word_len, words, IsAtWord, first_by, value_after, all_digits, magnitude, number_of, negative, not_negative, integer_of, digits_after, half_of, corner_of, lone_of, or_else, sign, HalfEdge, Corner, At, Word, said, next_of, BadNumber}
use Rattle.std.specs.Char.{is_ascii_digit}
use Rattle.script_reader.specs.Quick.{Numbered}
use Rattle.script_reader.proofs.FirstLaws.{first_said}
use Rattle.script_reader.proofs.NumberLaws.{no_space, next_digit, digits_are, is_below, minus, some_half}

is_digit : (c : ℕ) → 48 ≤ c → c ≤ 57 → is_ascii_digit c ≡ true
is_digit c low high = grind (arith, nat_tests)

-- ---- the digits up to an index, one after the other

-- the first bytes of the line, so many, are digits, and this is their value
pub record ReadTo (line : List ℕ) (i v : ℕ) : Type 0 where
  pub after : digits_after (2 ^ 64) v (drop i line) ≡ digits_after (2 ^ 64) 0 line
  pub within : i ≤ length line
  pub small : v ≤ 999999999
  pub some : 0 < length line
  pub low : 48 ≤ get_or line 0 0
  pub high : get_or line 0 0 ≤ 57

pub first_digit : (line : List ℕ) (v : ℕ) → 1 ≤ length line → get_or line 0 0 ≡ 48 + v → v ≤ 9 → ReadTo line 1 v
first_digit [] v some is small = absurd (omega arith)
first_digit (c ∷ cs) v some is small =
    let first : c ≡ 48 + v = is in
    let digit : is_ascii_digit c ≡ true = is_digit c (omega arith) (omega arith) in
    let less : 0 * 10 + (c - 48) < 2 ^ 64 = omega arith in
    let same : v ≡ 0 * 10 + (c - 48) = omega arith in
    record {
      after = ap (λ (n : ℕ). digits_after (2 ^ 64) n cs) same ∙ sym (next_digit (2 ^ 64) 0 c cs digit less);
      within = some;
      small = omega arith;
      some = omega arith;
      low = omega arith;
      high = omega arith;
    }

split_at : (line : List ℕ) (i : ℕ) → i < length line → drop i line ≡ get_or line i 0 ∷ drop (i + 1) line
split_at line i lt = rw add-one (drop-cons line i 0 lt)

pub one_more : (line : List ℕ) (i v d : ℕ) → ReadTo line i v → i < length line → get_or line i 0 ≡ 48 + d → d ≤ 9 → v ≤ 99999999 → ReadTo line (i + 1) (v * 10 + d)
one_more line i v d r lt is small few =
    let digit : is_ascii_digit (get_or line i 0) ≡ true = is_digit (get_or line i 0) (omega arith) (omega arith) in
    let less : v * 10 + (get_or line i 0 - 48) < 2 ^ 64 = omega arith in
    let same : v * 10 + d ≡ v * 10 + (get_or line i 0 - 48) = omega arith in
    record {
      after = ap (λ (n : ℕ). digits_after (2 ^ 64) n (drop (i + 1) line)) same ∙ sym (next_digit (2 ^ 64) v (get_or line i 0) (drop (i + 1) line) digit less)
          ∙ sym (ap (λ (xs : List ℕ). digits_after (2 ^ 64) v xs) (split_at line i lt)) ∙ r.after;
      within = omega arith;
      small = omega arith;
      some = r.some;
      low = r.low;
      high = r.high;
    }

-- ---- the number that they are

at_front : (line : List ℕ) → 0 < length line → 48 ≤ get_or line 0 0 → get_or line 0 0 ≤ 57 → IsAtWord line × (digits_after (2 ^ 64) 0 line ≡ first_by magnitude line)
at_front [] some low high = absurd (omega arith)
at_front (c ∷ cs) some low high = let digit = is_digit c low high in (no_space c digit, digits_are c cs digit)

ended : (line : List ℕ) (i v : ℕ) (left : List ℕ) (rest : List Word) → ReadTo line i v → digits_after (2 ^ 64) v (drop i line) ≡ Some (v, left) → words left ≡ rest → Numbered line v rest
ended line i v left rest r ends follow =
    let front = at_front line r.some r.low r.high in
    let most : v ≤ 999999999 = r.small in
    record {
      left = left;
      says = sym front.1 ∙ sym r.after ∙ ends;
      follow = follow;
      small = omega arith;
      some = r.some;
      front = front.0;
    }

pub ends_line : (line : List ℕ) (i v : ℕ) → ReadTo line i v → i ≡ length line → Numbered line v (words (take (length line - i) (drop i line)))
ends_line line i v r end =
    let none : drop i line ≡ [] = nil_from_length (drop i line) (simp length-drop (omega arith)) in
    ended line i v [] (words (take (length line - i) (drop i line))) r (ap (λ (xs : List ℕ). digits_after (2 ^ 64) v xs) none) (sym (ap words (take_rest line i ∙ none)))

pub ends_word : (line : List ℕ) (i v : ℕ) → ReadTo line i v → i < length line → get_or line i 0 ≡ 32 → Numbered line v (words (take (length line - (i + 1)) (drop (i + 1) line)))
ends_word line i v r lt is =
    let gap : drop i line ≡ 32 ∷ drop (i + 1) line = split_at line i lt ∙ ap (λ (c : ℕ). c ∷ drop (i + 1) line) is in
    ended line i v (32 ∷ drop (i + 1) line) (words (take (length line - (i + 1)) (drop (i + 1) line))) r (ap (λ (xs : List ℕ). digits_after (2 ^ 64) v xs) gap) (sym (ap words (take_rest line (i + 1))))

-- ---- what a word says of which the digits are known

lifted : {A : Type 0} (o : Option ℕ) (p : Option A) (xs left : List ℕ) (n : ℕ) (z : A) → (o ≡ Some n → p ≡ Some z) → option_map {U = ℕ × List ℕ} (λ (x : ℕ). (x, xs)) o ≡ Some (n, left)
    → option_map {U = A × List ℕ} (λ (x : A). (x, xs)) p ≡ Some (z, left)
lifted {A} (Some m) p xs left n z f e =
    let same : (m, xs) ≡ (n, left) = cc e in
    let number : m ≡ n = ap (λ (q : ℕ × List ℕ). q.0) same in
    let after : xs ≡ left = ap (λ (q : ℕ × List ℕ). q.1) same in
    ap (λ (q : Option A). option_map {U = A × List ℕ} (λ (x : A). (x, xs)) q) (f (ap Some number)) ∙ ap (λ (ys : List ℕ). Some (z, ys)) after
lifted None p xs left n z f e = absurd (cc e)

read_as : {A : Type 0} (read : Word → Option A) (line left : List ℕ) (n : ℕ) (z : A) → ((w : Word) → magnitude w ≡ Some n → read w ≡ Some z) → first_by magnitude line ≡ Some (n, left) → first_by read line ≡ Some (z, left)
read_as read line left n z f e = lifted (magnitude (take (word_len line) line)) (read (take (word_len line) line)) (drop (word_len line) line) left n z (f (take (word_len line) line)) e

if_some : (a b : Bool) (v n : ℕ) → (if a && b then Some v else None) ≡ Some n → (a ≡ true) × (v ≡ n)
if_some true true v n e = (refl, cc e)
if_some true false v n e = absurd (cc e)
if_some false b v n e = absurd (cc e)

as_number : (w : Word) (n : ℕ) → n < 2 ^ 32 → magnitude w ≡ Some n → number_of w ≡ Some n
as_number [] n lt e = absurd (cc e)
as_number (c ∷ cs) n lt e =
    let known = if_some (all_digits (c ∷ cs)) (nat_lt (value_after 0 (c ∷ cs)) (2 ^ 64)) (value_after 0 (c ∷ cs)) n e in
    is_below (2 ^ 32) n (c ∷ cs) (omega arith) known.1 lt known.0

as_integer : (w : Word) (n : ℕ) → n < 2 ^ 32 → magnitude w ≡ Some n → integer_of w ≡ Some (pos n)
as_integer [] n lt e = absurd (cc e)
as_integer (c ∷ cs) n lt e =
    let known = if_some (all_digits (c ∷ cs)) (nat_lt (value_after 0 (c ∷ cs)) (2 ^ 64)) (value_after 0 (c ∷ cs)) n e in
    let digit : is_ascii_digit c ≡ true = (and_parts (is_ascii_digit c) (all_digits cs) known.0).0 in
    let other : c == 45 ≡ false = grind (arith, nat_tests) in
    let less : nat_lt n (2 ^ 63) ≡ true = grind (arith, nat_tests) in
    let told : option_and_then not_negative (magnitude (c ∷ cs)) ≡ Some (pos n) = ap (option_and_then not_negative) e ∙ ap (λ (b : Bool). if b then Some (pos n) else None) less in
    ap (λ (b : Bool). if b then option_and_then negative (magnitude cs) else option_and_then not_negative (magnitude (c ∷ cs))) other ∙ told

at_sign : (line : List ℕ) (b : ℕ) → 1 ≤ length line → get_or line 0 0 ≡ b → is_space b ≡ false → IsAtWord line
at_sign [] b some is gap = absurd (omega arith)
at_sign (c ∷ cs) b some is gap = ap is_space is ∙ gap

pub number_told : (line : List ℕ) (n : ℕ) (rest : List Word) → Numbered line n rest → next_of BadNumber number_of (words line) ≡ Ok (n, rest)
number_told line n rest h =
    let read : first_by number_of line ≡ Some (n, h.left) = read_as number_of line h.left n n (λ w. as_number w n h.small) h.says in
    first_said BadNumber number_of (words line) line n h.left refl h.some h.front read ∙ ap (λ (ws : List Word). Ok (n, ws)) h.follow

pub integer_told : (line : List ℕ) (n : ℕ) (rest : List Word) → Numbered line n rest → next_of BadNumber integer_of (words line) ≡ Ok (pos n, rest)
integer_told line n rest h =
    let read : first_by integer_of line ≡ Some (pos n, h.left) = read_as integer_of line h.left n (pos n) (λ w. as_integer w n h.small) h.says in
    first_said BadNumber integer_of (words line) line (pos n) h.left refl h.some h.front read ∙ ap (λ (ws : List Word). Ok (pos n, ws)) h.follow

pub minus_told : (line : List ℕ) (n : ℕ) (rest : List Word) (z : ℤ) → 1 ≤ length line → get_or line 0 0 ≡ 45 → Numbered (take (length line - 1) (drop 1 line)) n rest → negative n ≡ Some z
    → next_of BadNumber integer_of (words line) ≡ Ok (z, rest)
minus_told line n rest z some is h below_zero =
    let read : first_by integer_of line ≡ Some (z, h.left) = minus line n h.left z some is h.says below_zero in
    first_said BadNumber integer_of (words line) line z h.left refl (omega arith) (at_sign line 45 some is refl) read ∙ ap (λ (ws : List Word). Ok (z, ws)) h.follow

sign_is_no_gap : (b : Bool) → is_space (sign b) ≡ false
sign_is_no_gap true = refl
sign_is_no_gap false = refl

pub half_told : (b : Bool) (line digits : List ℕ) (n : ℕ) (rest : List Word) → line ≡ sign b ∷ digits → Numbered digits n rest → next_of BadNumber half_of (words line) ≡ Ok (record { edge = n; first = b }, rest)
half_told b line digits n rest is h =
    let number : first_by number_of digits ≡ Some (n, h.left) = read_as number_of digits h.left n n (λ w. as_number w n h.small) h.says in
    let read : first_by half_of line ≡ Some (record { edge = n; first = b }, h.left) = some_half b line digits n h.left is number in
    let some : 0 < length line = rw is (omega arith) in
    first_said BadNumber half_of (words line) line (record { edge = n; first = b }) h.left refl some (subst IsAtWord (sym is) (sign_is_no_gap b)) read ∙ ap (λ (ws : List Word). Ok (record { edge = n; first = b }, ws)) h.follow

half_corner : (o : Option HalfEdge) (other : Option Corner) (ws : List Word) (h : HalfEdge) (rest : List Word) → said BadNumber o ws ≡ Ok (h, rest) → said BadNumber (or_else (option_map At o) other) ws ≡ Ok (At h, rest)
half_corner (Some g) other ws h rest e =
    let same : (g, ws) ≡ (h, rest) = cc e in
    ap (λ (q : HalfEdge × List Word). Ok (At q.0, q.1)) same
half_corner None other ws h rest e = absurd (cc e)

pub corner_told : (ws : List Word) (h : HalfEdge) (rest : List Word) → next_of BadNumber half_of ws ≡ Ok (h, rest) → next_of BadNumber corner_of ws ≡ Ok (At h, rest)
corner_told [] h rest e = absurd (cc e)
corner_told (w ∷ ws) h rest e = half_corner (half_of w) (lone_of w) ws h rest e
