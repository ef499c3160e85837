-- Digits up to a separator.
use Rattle.script_reader.proofs.Prelude.{◌≡◌, inl, inr, Bool, ℕ, ◌+◌, ◌-◌, ◌*◌, ◌^◌, ◌<◌, ◌≤◌, List, [], ◌∷◌, true, false, Option, Some, None, length, take, drop, get_or, refl, sym, ap, subst, le_refl, arith, ◌∙◌, ℤ, nat_lt, option_map, option_and_then, ◌&&◌, if◌then◌else◌, cases_Bool, take_rest, nat_tests, common_steps, is_space, word_len, first_by, value_after, all_digits, below, magnitude, number_of, negative, integer_of, digits_after, half_of, sign, HalfEdge}
use Rattle.std.specs.Char.{is_ascii_digit}
use Rattle.script_reader.proofs.FirstLaws.{first_longer}

value_grows : (n : ℕ) (cs : List ℕ) → n ≤ value_after n cs
value_grows n [] = le_refl n
value_grows n (c ∷ cs) = omega (arith, value_grows (n * 10 + (c - 48)) cs)

-- a digit is no separator
pub no_space : (c : ℕ) → is_ascii_digit c ≡ true → is_space c ≡ false
no_space c digit = grind (arith, nat_tests)

-- one digit more, of a value that stays below the limit, or doesn't
pub next_digit : (limit n c : ℕ) (cs : List ℕ) → is_ascii_digit c ≡ true → n * 10 + (c - 48) < limit → digits_after limit n (c ∷ cs) ≡ digits_after limit (n * 10 + (c - 48)) cs
next_digit limit n c cs digit less =
    let no_gap = no_space c digit in
    let small : nat_lt (n * 10 + (c - 48)) limit ≡ true = grind (arith, nat_tests) in
    rw (no_gap, digit, small) refl

pub too_large : (limit n c : ℕ) (cs : List ℕ) → is_ascii_digit c ≡ true → limit ≤ n * 10 + (c - 48) → digits_after limit n (c ∷ cs) ≡ None
too_large limit n c cs digit over =
    let no_gap = no_space c digit in
    let large : nat_lt (n * 10 + (c - 48)) limit ≡ false = grind (arith, nat_tests) in
    rw (no_gap, digit, large) refl

-- the value of digits that follow those of n, if it is below the limit
abbrev small_after : ℕ → ℕ → List ℕ → Option ℕ
small_after limit n cs = if all_digits cs && nat_lt (value_after n cs) limit then Some (value_after n cs) else None

-- the first word's digits, after those of n
abbrev first_after : ℕ → ℕ → List ℕ → Option (ℕ × List ℕ)
first_after limit n line = first_by (small_after limit n) line

none_after : (limit n : ℕ) (cs : List ℕ) → limit ≤ n → small_after limit n cs ≡ None
none_after limit n cs le =
    let grows = value_grows n cs in
    let over : nat_lt (value_after n cs) limit ≡ false = grind (arith, nat_tests) in
    elim (cases_Bool (all_digits cs)) [
      | inl all ↦ rw (all, over) refl
      | inr some ↦ rw some refl
    ]

first_digits : (limit n : ℕ) (line : List ℕ) → n < limit → digits_after limit n line ≡ first_after limit n line
first_digits limit n [] lt = let small : nat_lt n limit ≡ true = grind (arith, nat_tests) in rw small refl
first_digits limit n (c ∷ cs) lt =
    let m : ℕ = n * 10 + (c - 48) in
    elim (cases_Bool (is_space c)) [
      | inl gap ↦ let small : nat_lt n limit ≡ true = grind (arith, nat_tests) in rw (gap, small) refl
      | inr no_gap ↦
          let longer = first_longer (small_after limit n) c cs no_gap in
          elim (cases_Bool (is_ascii_digit c)) [
            | inr other ↦
                let stops : digits_after limit n (c ∷ cs) ≡ None = rw (no_gap, other) refl in
                let none : first_by (λ (w : List ℕ). small_after limit n (c ∷ w)) cs ≡ None = rw other refl in
                stops ∙ sym (longer ∙ none)
            | inl digit ↦
                let same : first_by (λ (w : List ℕ). small_after limit n (c ∷ w)) cs ≡ first_after limit m cs = rw digit refl in
                elim (cases_Bool (nat_lt m limit)) [
                  | inl small ↦
                      let less : m < limit = grind (arith, nat_tests) in
                      let goes_on : digits_after limit n (c ∷ cs) ≡ digits_after limit m cs = rw (no_gap, digit, small) refl in
                      goes_on ∙ first_digits limit m cs less ∙ sym (longer ∙ same)
                  | inr large ↦
                      let le : limit ≤ m = grind (arith, nat_tests) in
                      let stops : digits_after limit n (c ∷ cs) ≡ None = rw (no_gap, digit, large) refl in
                      let none : first_after limit m cs ≡ None = rw (none_after limit m (take (word_len cs) cs) le) refl in
                      stops ∙ sym (longer ∙ same ∙ none)
                ]
          ]
    ]

pub is_below : (limit v : ℕ) (cs : List ℕ) → 0 < length cs → value_after 0 cs ≡ v → v < limit → all_digits cs ≡ true → below limit cs ≡ Some v
is_below limit v [] some e lt all = absurd (omega arith)
is_below limit v (c ∷ cs) some e lt all = grind (arith, common_steps, nat_tests)

-- ---- a line that begins with a digit, and one that doesn't

pub digits_are : (c : ℕ) (cs : List ℕ) → is_ascii_digit c ≡ true → digits_after (2 ^ 64) 0 (c ∷ cs) ≡ first_by magnitude (c ∷ cs)
digits_are c cs digit =
    let no_gap = no_space c digit in
    first_digits (2 ^ 64) 0 (c ∷ cs) (omega arith) ∙ first_longer (small_after (2 ^ 64) 0) c cs no_gap ∙ sym (first_longer magnitude c cs no_gap)

pub no_digits : (c : ℕ) (cs : List ℕ) → is_ascii_digit c ≡ false → first_by magnitude (c ∷ cs) ≡ None
no_digits c cs other = elim (cases_Bool (is_space c)) [
  | inl gap ↦ rw gap refl
  | inr no_gap ↦ let none : first_by (λ (w : List ℕ). magnitude (c ∷ w)) cs ≡ None = rw other refl in first_longer magnitude c cs no_gap ∙ none
]

-- the digits after the first one
digits_behind : (c : ℕ) (cs : List ℕ) → is_ascii_digit c ≡ true → digits_after (2 ^ 64) (c - 48) cs ≡ first_by magnitude (c ∷ cs)
digits_behind c cs digit =
    let small : 0 * 10 + (c - 48) < 2 ^ 64 = grind (arith, nat_tests) in
    let same : c - 48 ≡ 0 * 10 + (c - 48) = omega arith in
    ap (λ (n : ℕ). digits_after (2 ^ 64) n cs) same ∙ sym (next_digit (2 ^ 64) 0 c cs digit small) ∙ digits_are c cs digit

pub begins_digit : (line : List ℕ) (b : ℕ) → 1 ≤ length line → is_ascii_digit (get_or line 0 0) ≡ true → b ≡ get_or line 0 0 → digits_after (2 ^ 64) (b - 48) (take (length line - 1) (drop 1 line)) ≡ first_by magnitude line
begins_digit [] b some digit is = absurd (omega arith)
begins_digit (c ∷ cs) b some digit is =
    let begun : digits_after (2 ^ 64) (b - 48) (take (length (c ∷ cs) - 1) (drop 1 (c ∷ cs))) ≡ digits_after (2 ^ 64) (b - 48) cs = ap (λ (xs : List ℕ). digits_after (2 ^ 64) (b - 48) xs) (take_rest (c ∷ cs) 1) in
    let same : b ≡ c = is in
    begun ∙ ap (λ (n : ℕ). digits_after (2 ^ 64) (n - 48) cs) same ∙ digits_behind c cs digit

-- ---- a sign before the digits

signed : {A : Type 0} (f : ℕ → Option A) (o : Option ℕ) (xs : List ℕ) (n : ℕ) (rest : List ℕ) (z : A) → option_map {U = ℕ × List ℕ} (λ (x : ℕ). (x, xs)) o ≡ Some (n, rest) → f n ≡ Some z
    → option_map {U = A × List ℕ} (λ (x : A). (x, xs)) (option_and_then f o) ≡ Some (z, rest)
signed {A} f (Some m) xs n rest z e h =
    let same : (m, xs) ≡ (n, rest) = cc e in
    let number : m ≡ n = ap (λ (p : ℕ × List ℕ). p.0) same in
    let after : xs ≡ rest = ap (λ (p : ℕ × List ℕ). p.1) same in
    rw (number, h, after) refl
signed f None xs n rest z e h = absurd (cc e)

pub minus : (line : List ℕ) (n : ℕ) (rest : List ℕ) (z : ℤ) → 1 ≤ length line → get_or line 0 0 ≡ 45 → first_by magnitude (take (length line - 1) (drop 1 line)) ≡ Some (n, rest) → negative n ≡ Some z → first_by integer_of line ≡ Some (z, rest)
minus [] n rest z some is e h = absurd (omega arith)
minus (c ∷ cs) n rest z some is e h =
    let dash : c ≡ 45 = is in
    let behind : first_by magnitude cs ≡ Some (n, rest) = subst (λ (xs : List ℕ). first_by magnitude xs ≡ Some (n, rest)) (take_rest (c ∷ cs) 1) e in
    ap (λ (b : ℕ). first_by integer_of (b ∷ cs)) dash ∙ first_longer integer_of 45 cs refl ∙ signed negative (magnitude (take (word_len cs) cs)) (drop (word_len cs) cs) n rest z behind h

unsigned : (b : Bool) (o : Option ℕ) (xs : List ℕ) → option_map {U = ℕ × List ℕ} (λ (n : ℕ). (n, xs)) o ≡ None
    → option_map {U = HalfEdge × List ℕ} (λ (h : HalfEdge). (h, xs)) (option_map (λ (n : ℕ). record { edge = n; first = b }) o) ≡ None
unsigned b (Some n) xs none = absurd (cc none)
unsigned b None xs none = refl

pub no_half : (b : Bool) (line digits : List ℕ) → line ≡ sign b ∷ digits → first_by number_of digits ≡ None → first_by half_of line ≡ None
no_half true line digits is none = ap (first_by half_of) is ∙ first_longer half_of 43 digits refl ∙ unsigned true (number_of (take (word_len digits) digits)) (drop (word_len digits) digits) none
no_half false line digits is none = ap (first_by half_of) is ∙ first_longer half_of 45 digits refl ∙ unsigned false (number_of (take (word_len digits) digits)) (drop (word_len digits) digits) none

halved : (b : Bool) (o : Option ℕ) (xs : List ℕ) (n : ℕ) (rest : List ℕ) → option_map {U = ℕ × List ℕ} (λ (n : ℕ). (n, xs)) o ≡ Some (n, rest)
    → option_map {U = HalfEdge × List ℕ} (λ (h : HalfEdge). (h, xs)) (option_map (λ (n : ℕ). record { edge = n; first = b }) o) ≡ Some (record { edge = n; first = b }, rest)
halved b (Some m) xs n rest e =
    let same : (m, xs) ≡ (n, rest) = cc e in
    ap (λ (p : ℕ × List ℕ). Some (record { edge = p.0; first = b }, p.1)) same
halved b None xs n rest e = absurd (cc e)

pub some_half : (b : Bool) (line digits : List ℕ) (n : ℕ) (rest : List ℕ) → line ≡ sign b ∷ digits → first_by number_of digits ≡ Some (n, rest) → first_by half_of line ≡ Some (record { edge = n; first = b }, rest)
some_half true line digits n rest is some = ap (first_by half_of) is ∙ first_longer half_of 43 digits refl ∙ halved true (number_of (take (word_len digits) digits)) (drop (word_len digits) digits) n rest some
some_half false line digits n rest is some = ap (first_by half_of) is ∙ first_longer half_of 45 digits refl ∙ halved false (number_of (take (word_len digits) digits)) (drop (word_len digits) digits) n rest some
