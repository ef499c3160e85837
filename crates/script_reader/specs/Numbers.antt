-- Whole numbers in decimal digits.
use Rattle.std.specs.Prelude.{ℕ, ◌+◌, ◌-◌, ◌*◌, ◌^◌, Bool, true, ◌&&◌, ◌==◌, nat_lt, nat_le, List, [], ◌∷◌, Option, Some, None, option_and_then, ℤ, pos, neg_ℤ, if◌then◌else◌}
use Rattle.std.specs.Char.{is_ascii_digit}
use Rattle.script_reader.specs.Words.{is_space}

-- the value of digits that follow those of n
abbrev pub value_after : ℕ → List ℕ → ℕ
value_after n [] = n
value_after n (c ∷ cs) = value_after (n * 10 + (c - 48)) cs

abbrev pub all_digits : List ℕ → Bool
all_digits [] = true
all_digits (c ∷ cs) = is_ascii_digit c && all_digits cs

-- all are digits, and their value is below the limit
abbrev pub small_value : ℕ → List ℕ → Option ℕ
small_value limit cs = if all_digits cs && nat_lt (value_after 0 cs) limit then Some (value_after 0 cs) else None

-- there is at least one digit, all are digits, and their value is below the limit
abbrev pub below : ℕ → List ℕ → Option ℕ
below limit [] = None
below limit (c ∷ cs) = small_value limit (c ∷ cs)

abbrev pub magnitude : List ℕ → Option ℕ
magnitude cs = below (2 ^ 64) cs

abbrev pub number_of : List ℕ → Option ℕ
number_of cs = below (2 ^ 32) cs

abbrev pub negative : ℕ → Option ℤ
negative n = if nat_le n (2 ^ 63) then Some (neg_ℤ (pos n)) else None

abbrev pub not_negative : ℕ → Option ℤ
not_negative n = if nat_lt n (2 ^ 63) then Some (pos n) else None

-- the sign, and digits
abbrev pub integer_of : List ℕ → Option ℤ
integer_of [] = None
integer_of (c ∷ cs) = if c == 45 then option_and_then negative (magnitude cs) else option_and_then not_negative (magnitude (c ∷ cs))

-- the value of the digits up to the next separator, continuing from n, if it stays below the limit, and what follows these digits
abbrev pub digits_after : ℕ → ℕ → List ℕ → Option (ℕ × List ℕ)
digits_after limit n [] = Some (n, [])
digits_after limit n (c ∷ cs) = if is_space c then Some (n, c ∷ cs) else (if is_ascii_digit c && nat_lt (n * 10 + (c - 48)) limit then digits_after limit (n * 10 + (c - 48)) cs else None)
