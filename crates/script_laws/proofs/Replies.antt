-- A text begins with one reply at most.
use Rattle.script_laws.proofs.Prelude.{◌≡◌, ℕ, suc, ◌^◌, ◌<◌, Bool, true, false, cond, nat_lt, List, [], ◌∷◌, ◌++◌, map, codes, ℤ, pos, negsuc, refl, sym, ap, ◌∙◌, arith, decimal, append_cancel_left, nat_tests, and_from, decimal_is_IsNumeral_wide, signed_decimal, AllByRecursion, digits_value, lines_of, line_text, reply_words, reply_text, Fits, RepliesTell, ◌≢◌, Told, tally_words}
use Rattle.std.specs.Int.Signed.{mag}
use Rattle.euler_operators.specs.Refusal as why
use Rattle.solid_measure.specs.declared.solid_counts.Tally.{Tally}
use Rattle.solid_listing.specs.declared.told.Told.TheVariants as told
use Rattle.solid_listing.proofs.Parsing.{is_clean, are_clean, is_good, parsed, parsed_text, parsed_one}
use Rattle.script_laws.proofs.Numbers.{reason_small, refusals_tell}
use Rattle.script_laws.proofs.Texts.{AreDigits, decimal_digits, line_of_words, reply_line}

-- ---- digits

clean_digits : (xs : List ℕ) → AreDigits xs → is_clean xs ≡ true
clean_digits [] h = refl
clean_digits (x ∷ xs) h = let low = h.0 in let e : nat_lt 32 x ≡ true = grind (arith, nat_tests) in and_from (nat_lt 32 x) (is_clean xs) e (clean_digits xs h.1)

clean_decimal : (n : ℕ) → is_clean (decimal n) ≡ true
clean_decimal n = clean_digits (decimal n) (decimal_digits n)

clean_signed : (z : ℤ) → is_clean (signed_decimal z) ≡ true
clean_signed (pos n) = clean_decimal n
clean_signed (negsuc n) = clean_decimal (suc n)

pub no_minus : (xs ds : List ℕ) → AreDigits xs → xs ≡ 45 ∷ ds → ⊥
no_minus [] ds h e = absurd (cc e)
no_minus (x ∷ xs) ds h e = let same : x ≡ 45 = cc e in let low = h.0 in omega (arith, same, low)

rest_of : List ℕ → List ℕ
rest_of [] = []
rest_of (x ∷ xs) = xs

decimals_tell : (m n : ℕ) → m < 10 ^ 64 → n < 10 ^ 64 → decimal m ≡ decimal n → m ≡ n
decimals_tell m n p q e = sym (decimal_is_IsNumeral_wide m p).1 ∙ ap (digits_value 10) e ∙ (decimal_is_IsNumeral_wide n q).1

signed_tell : (y z : ℤ) → mag y < 2 ^ 127 → mag z < 2 ^ 127 → signed_decimal y ≡ signed_decimal z → y ≡ z
unfolding rest_of
signed_tell (pos m) (pos n) p q e = ap pos (decimals_tell m n (omega arith) (omega arith) e)
signed_tell (pos m) (negsuc n) p q e = absurd (no_minus (decimal m) (decimal (suc n)) (decimal_digits m) e)
signed_tell (negsuc m) (pos n) p q e = absurd (no_minus (decimal n) (decimal (suc m)) (decimal_digits n) (sym e))
signed_tell (negsuc m) (negsuc n) p q e = ap negsuc (omega (arith, decimals_tell (suc m) (suc n) (omega arith) (omega arith) (ap rest_of e)))

-- ---- the words of a line

clean_map : (zs : List ℤ) → are_clean (map signed_decimal zs) ≡ true
clean_map [] = refl
clean_map (z ∷ zs) = and_from (is_clean (signed_decimal z)) (are_clean (map signed_decimal zs)) (clean_signed z) (clean_map zs)

flat_clean : (b : Bool) → are_clean (cond b (codes "flat") (codes "bent") ∷ []) ≡ true
flat_clean true = refl
flat_clean false = refl

one_good : (l : List (List ℕ)) → is_good l ≡ true → parsed (line_text l ++ []) ≡ l ∷ []
one_good l g = parsed_text (l ∷ []) (and_from (is_good l) true g refl)

words_parsed : (r : Told) → reply_words r ≢ [] → parsed (line_text (reply_words r) ++ []) ≡ reply_words r ∷ []
words_parsed told.Done some = parsed_one (codes "ok") refl
words_parsed (told.Refused r) some = one_good _ (and_from (is_clean (decimal (why.code_of r.why))) _ (clean_decimal (why.code_of r.why)) (and_from (is_clean (decimal r.number)) true (clean_decimal r.number) refl))
words_parsed (told.Fault n) some = one_good _ (and_from (is_clean (decimal n)) true (clean_decimal n) refl)
words_parsed told.Memory some = parsed_one (codes "memory") refl
words_parsed (told.Plane p flat) some = one_good _ (and_from (is_clean (signed_decimal p.a)) _ (clean_signed p.a) (and_from (is_clean (signed_decimal p.b)) _ (clean_signed p.b)
    (and_from (is_clean (signed_decimal p.c)) _ (clean_signed p.c) (and_from (is_clean (signed_decimal p.d)) _ (clean_signed p.d) (flat_clean flat)))))
words_parsed (told.Volume n) some = one_good _ (and_from (is_clean (signed_decimal n)) true (clean_signed n) refl)
words_parsed (told.Counts n) some = one_good (codes "count" ∷ map signed_decimal (tally_words n)) (clean_map (tally_words n))
words_parsed r some = absurd (some refl)

pub words_told : (r q : Told) → reply_words r ≢ [] → reply_words q ≢ [] → line_text (reply_words r) ≡ line_text (reply_words q) → reply_words r ≡ reply_words q
words_told r q one other e = cc (sym (words_parsed r one) ∙ ap (λ (t : List ℕ). parsed (t ++ [])) e ∙ words_parsed q other)

-- ---- a reply from its words

unfoldable pub first_byte : List (List ℕ) → ℕ
first_byte ((b ∷ w) ∷ ws) = b
first_byte l = 0

head : List ℕ → ℕ
head [] = 0
head (b ∷ bs) = b

flat_told : (a b : Bool) → cond a (codes "flat") (codes "bent") ≡ cond b (codes "flat") (codes "bent") → a ≡ b
unfolding head
flat_told true true e = refl
flat_told false false e = refl
flat_told a b e = absurd (omega (arith, ap head e))

counts_told : (ns ms : List ℤ) → AllByRecursion (λ n. mag n < 2 ^ 63) ns → AllByRecursion (λ n. mag n < 2 ^ 63) ms → map signed_decimal ns ≡ map signed_decimal ms → ns ≡ ms
counts_told [] [] h k e = refl
counts_told (n ∷ ns) (m ∷ ms) h k e =
    let small = h.0 in let small_too = k.0 in
    ap (λ (z : ℤ). z ∷ ns) (signed_tell n m (omega (arith, small)) (omega (arith, small_too)) (cc e)) ∙ ap (λ (zs : List ℤ). m ∷ zs) (counts_told ns ms h.1 k.1 (cc e))
counts_told ns ms h k e = absurd (cc e)

tallies_tell : (n m : Tally) → tally_words n ≡ tally_words m → n ≡ m
tallies_tell n m same =
    let v : n.v ≡ m.v = cc same in
    let e : n.e ≡ m.e = cc same in
    let f : n.f ≡ m.f = cc same in
    let r : n.r ≡ m.r = cc same in
    let sum : n.sum ≡ m.sum = cc same in
    λ i. record { v = v i; e = e i; f = f i; r = r i; sum = sum i }

reply_told : (r q : Told) → Fits r → Fits q → reply_words r ≡ reply_words q → r ≡ q
unfolding first_byte
reply_told told.Done told.Done h k e = refl
reply_told (told.Refused r) (told.Refused q) h k e =
    let small = reason_small r.why in
    let small_too = reason_small q.why in
    let reasons = refusals_tell r.why q.why (decimals_tell (why.code_of r.why) (why.code_of q.why) (omega (arith, small)) (omega (arith, small_too)) (cc e)) in
    let numbers = decimals_tell r.number q.number (omega (arith, h)) (omega (arith, k)) (cc e) in
    λ i. told.Refused (record { why = reasons i; number = numbers i })
reply_told (told.Fault n1) (told.Fault n2) h k e = ap (λ (n : ℕ). told.Fault n) (decimals_tell n1 n2 (omega (arith, h)) (omega (arith, k)) (cc e))
reply_told told.Memory told.Memory h k e = refl
reply_told (told.Plane p1 f1) (told.Plane p2 f2) h k e =
    let a = signed_tell p1.a p2.a h.0 k.0 (cc e) in
    let b = signed_tell p1.b p2.b h.1 k.1 (cc e) in
    let c = signed_tell p1.c p2.c h.2 k.2 (cc e) in
    let d = signed_tell p1.d p2.d h.3 k.3 (cc e) in
    let f = flat_told f1 f2 (cc e) in
    λ i. told.Plane (record { a = a i; b = b i; c = c i; d = d i }) (f i)
reply_told (told.Volume n1) (told.Volume n2) h k e = ap (λ (n : ℤ). told.Volume n) (signed_tell n1 n2 h k (cc e))
reply_told (told.Counts n1) (told.Counts n2) h k e = ap (λ (n : Tally). told.Counts n) (tallies_tell n1 n2 (counts_told (tally_words n1) (tally_words n2) h k (cc e)))
reply_told r q h k e = absurd (omega (arith, ap first_byte e))

fits_some : (r : Told) → Fits r → reply_words r ≢ []
fits_some told.Done h e = absurd (cc e)
fits_some (told.Refused r) h e = absurd (cc e)
fits_some (told.Fault n) h e = absurd (cc e)
fits_some told.Memory h e = absurd (cc e)
fits_some (told.Plane p flat) h e = absurd (cc e)
fits_some (told.Volume n) h e = absurd (cc e)
fits_some (told.Counts n) h e = absurd (cc e)
fits_some r h e = absurd h

-- ---- the front of a text

-- a reply is one line
front_told : (r q : Told) (x y : List ℕ) → reply_words r ≢ [] → reply_words q ≢ [] → line_text (reply_words r) ++ x ≡ line_text (reply_words q) ++ y → line_text (reply_words r) ≡ line_text (reply_words q)
front_told r q x y one other e =
    let a = reply_line r one in
    let b = reply_line q other in
    let lines : a.line ∷ lines_of x ≡ b.line ∷ lines_of y = sym (a.first x) ∙ ap lines_of e ∙ b.first y in
    let same : a.line ≡ b.line = cc lines in
    a.whole ∙ ap (λ (t : List ℕ). t ++ 10 ∷ []) same ∙ sym b.whole

pub replies_tell : RepliesTell
unfolding reply_text
replies_tell r q x y h k e =
    let one = fits_some r h in
    let other = fits_some q k in
    let lines : line_text (reply_words r) ++ x ≡ line_text (reply_words q) ++ y =
    ap (λ (t : List ℕ). t ++ x) (sym (line_of_words (reply_words r) one)) ∙ e ∙ ap (λ (t : List ℕ). t ++ y) (line_of_words (reply_words q) other) in
    let front = front_told r q x y one other lines in
    (reply_told r q h k (words_told r q one other front), append_cancel_left (line_text (reply_words q)) x y (ap (λ (t : List ℕ). t ++ x) (sym front) ∙ lines))
