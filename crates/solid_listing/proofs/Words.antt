-- Numbers and half-edges are read back from their words.
use Rattle.solid_listing.proofs.Prelude.{◌≡◌, ℕ, suc, ◌+◌, ◌/◌, ◌%◌, ◌^◌, ◌<◌, ◌≤◌, Bool, true, false, cond, nat_eq, nat_lt, [], ◌∷◌, ◌++◌, ℤ, pos, negsuc, refl, sym, ◌∙◌, arith, decimal, nat_tests, and_from, decimal_by_steps, decimal_injective, signed_decimal, is_coordinate, code, half, edge_of, is_first, is_number, code-half, and_first, and_second}
use Rattle.std.specs.Int.Signed.{mag}
use Rattle.solid_listing.specs.Listing.{half_word}
use Rattle.solid_listing.proofs.Parsing.{Word, is_clean}

pub number_small : (n : ℕ) → is_number n ≡ true → n < 2 ^ 64
number_small n e = let f : n ≤ 1000000 = grind (arith, nat_tests) in omega arith

clean_append : (v w : Word) → is_clean v ≡ true → is_clean w ≡ true → is_clean (v ++ w) ≡ true
clean_append [] w p q = q
clean_append (b ∷ v) w p q = and_from (nat_lt 32 b) (is_clean (v ++ w)) (and_first (nat_lt 32 b) (is_clean v) p) (clean_append v w (and_second (nat_lt 32 b) (is_clean v) p) q)

clean_byte : (b : ℕ) → 32 < b → is_clean (b ∷ []) ≡ true
clean_byte b l = let e : nat_lt 32 b ≡ true = grind (arith, nat_tests) in and_from (nat_lt 32 b) true e refl

pub clean_decimal : (n : ℕ) → n < 2 ^ 64 → is_clean (decimal n) ≡ true
clean_decimal = decimal_by_steps (λ _ ds. is_clean ds ≡ true) (λ n _. clean_byte (48 + n) (omega arith)) (λ n ds _ c. clean_append ds ((48 + n % 10) ∷ []) c (clean_byte (48 + n % 10) (omega arith)))

pub coordinate_small : (z : ℤ) → is_coordinate z ≡ true → mag z < 2 ^ 63
coordinate_small (pos n) e = let f : n ≤ 1000000000 = grind (arith, nat_tests) in omega arith
coordinate_small (negsuc n) e = let f : n ≤ 999999999 = grind (arith, nat_tests) in omega arith

pub clean_signed : (z : ℤ) → mag z < 2 ^ 63 → is_clean (signed_decimal z) ≡ true
clean_signed (pos n) l = let small : n < 2 ^ 64 = omega arith in clean_decimal n small
clean_signed (negsuc n) l = let small : suc n < 2 ^ 64 = omega arith in clean_decimal (suc n) small

pub clean_half : (h : ℕ) → edge_of h < 2 ^ 64 → is_clean (half_word h) ≡ true
clean_half h l = and_from (nat_lt 32 (cond (is_first h) 43 45)) (is_clean (decimal (edge_of h))) (above_space (is_first h)) (clean_decimal (edge_of h) l) where
  above_space : (b : Bool) → nat_lt 32 (cond b 43 45) ≡ true
  above_space true = refl
  above_space false = refl

sign : Bool → ℕ
sign b = cond b 43 45

sign_told : (a b : Bool) → sign a ≡ sign b → a ≡ b
unfolding sign
sign_told true true e = refl
sign_told false false e = refl
sign_told a b e = absurd (omega arith)

pub half_told : (g h : ℕ) → edge_of g < 2 ^ 64 → edge_of h < 2 ^ 64 → half_word g ≡ half_word h → g ≡ h
unfolding half edge_of is_first sign
half_told g h l m e =
    let edges : g / 2 ≡ h / 2 = decimal_injective (g / 2) (h / 2) l m (cc e) in
    let firsts : nat_eq (g % 2) 0 ≡ nat_eq (h % 2) 0 = sign_told (nat_eq (g % 2) 0) (nat_eq (h % 2) 0) (cc e) in
    sym (code-half g) ∙ (λ i. code (record { edge = edges i; first = firsts i })) ∙ code-half h
