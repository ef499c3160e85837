-- The volumes in a text of answers.
use Rattle.script_laws.proofs.Prelude.{◌≡◌, inl, inr, ℕ, zero, suc, ◌+◌, ◌/◌, ◌%◌, ◌≤◌, Bool, true, false, cond, nat_lt, List, [], ◌∷◌, ◌++◌, codes, length, ℤ, pos, negsuc, int_lt, refl, sym, ap, subst, ◌∙◌, arith, append_assoc, decimal, ◌==◌, nat_tests, digits, digits_onto, digit_glyph, signed_decimal, AllByRecursion, Kind, Solid, Face, Loop, Edge, Vertex, Model, Machine, held, BuiltHaveVolume, IsBuilt, started, lines_of, Lacks, line_text, text_of, line, lines, listing, or_empty, reply_words, reply_text, answer_text, answer_of, machine_after, Told, Listing, EndsLine, ended, TextAnswers, volume_answer, WrittenVolumesArePositive, VolumesArePositive, line_if_any}
use Rattle.std.proofs.lemmas.Int.{ints}
use Rattle.solid_listing.specs.declared.told.Told.TheVariants as told
use Rattle.script_laws.proofs.Behind.{reached, ends_append, ends_line, from_adds}
use Rattle.script_laws.proofs.Kept.{one_answer, reached_line}
use Rattle.script_laws.proofs.Texts.{decimal_digits, IsOther, all_listed, is_line, line_of_words, listing_others, none_or_some, reply_line}
use Rattle.script_laws.proofs.Replies.{first_byte, no_minus, words_told}
use Rattle.script_laws.proofs.Told.{all_front, AllLack, lines_lack, memory_text}
use Rattle.script_laws.proofs.Built.{line_built, line_positive, MayStand}

-- ---- only 0 is written as 0

longer : (t : Bool) (n : ℕ) (xs ys : List ℕ) → n ≤ length xs → n ≤ length ys → n ≤ length (cond t xs ys)
longer true n xs ys h k = h
longer false n xs ys h k = k

digits_more : (k n : ℕ) (acc : List ℕ) → length acc + 1 ≤ length (digits_onto (suc k) 10 false n acc)
digits_more zero n acc = longer (n / 10 == 0) _ _ _ (omega arith) (omega arith)
digits_more (suc k) n acc = longer (n / 10 == 0) _ _ _ (omega arith) (let more = digits_more k (n / 10) (digit_glyph false (n % 10) ∷ acc) in omega (arith, more))

glyph_zero : (t : Bool) (d : ℕ) → cond {A = ℕ} t (48 + d) (87 + d) ≡ 48 → d ≡ 0
glyph_zero true d e = omega (arith, e)
glyph_zero false d e = absurd (omega (arith, e))

one_digit : (t : Bool) (n : ℕ) → (n / 10 == 0) ≡ t → cond t (digit_glyph false (n % 10) ∷ []) (digits_onto 63 10 false (n / 10) (digit_glyph false (n % 10) ∷ [])) ≡ 48 ∷ [] → n ≡ 0
one_digit true n small e =
    let low : n % 10 ≡ 0 = glyph_zero (nat_lt (n % 10) 10) (n % 10) (cc e) in
    let none : n / 10 ≡ 0 = grind (arith, nat_tests) in
    omega (arith, low, none)
one_digit false n small e =
    let more = digits_more 62 (n / 10) (digit_glyph false (n % 10) ∷ []) in
    absurd (omega (arith, more, ap length e))

zero_told : (n : ℕ) → decimal n ≡ decimal 0 → n ≡ 0
unfolding digits
zero_told n e = one_digit (n / 10 == 0) n refl e

none_over : (n : ℕ) → int_lt (pos 0) (pos n) ≡ true → n ≡ 0 → ⊥
none_over zero h e = absurd (cc h)
none_over (suc n) h e = omega (arith, e)

-- a number that is written as one greater than 0 is greater than 0
same_sign : (w z : ℤ) → int_lt (pos 0) w ≡ true → signed_decimal w ≡ signed_decimal z → int_lt (pos 0) z ≡ true
same_sign (pos m) (pos zero) h e = absurd (none_over m h (zero_told m e))
same_sign (pos m) (pos (suc n)) h e = grind (arith, ints)
same_sign (pos m) (negsuc n) h e = absurd (no_minus (decimal m) (decimal (suc n)) (decimal_digits m) e)
same_sign (negsuc m) z h e = absurd (cc h)

-- ---- a reply

volume_line : (z : ℤ) → line_text (reply_words (told.Volume z)) ≡ volume_answer z
volume_line z = refl

reply_positive : (r : Told) (z : ℤ) → ((w : ℤ) → r ≡ told.Volume w → int_lt (pos 0) w ≡ true) → reply_words r ≡ reply_words (told.Volume z) → int_lt (pos 0) z ≡ true
unfolding first_byte
reply_positive (told.Volume w) z h e = same_sign w z (h w refl) (cc e)
reply_positive r z h e = absurd (omega (arith, ap first_byte e))

-- ---- a listing

fifth : List ℕ → ℕ
fifth (a ∷ b ∷ c ∷ d ∷ e ∷ bs) = e
fifth bs = 0

-- the line doesn't answer a volume
abbrev IsNoVolume : List (List ℕ) → Type 0
IsNoVolume l = (z : ℤ) → line_text l ≡ volume_answer z → ⊥

line_other : (M : Model) (kind : Kind) (n : ℕ) → IsNoVolume (line M kind n)
unfolding fifth
line_other M Solid n z e = absurd (omega (arith, ap fifth e))
line_other M Face n z e = absurd (omega (arith, ap fifth e))
line_other M Loop n z e = absurd (omega (arith, ap fifth e))
line_other M Edge n z e = absurd (omega (arith, ap fifth e))
line_other M Vertex n z e = absurd (omega (arith, ap fifth e))

empty_other : IsNoVolume (codes "empty" ∷ [])
unfolding fifth
empty_other z e = absurd (omega (arith, ap fifth e))

-- ---- texts

abbrev IsPositive : List ℕ → Type 0
IsPositive l = (z : ℤ) → ended l ≡ volume_answer z → int_lt (pos 0) z ≡ true

lines_positive : (ls : List (List (List ℕ))) (rest : List ℕ) → AllByRecursion IsOther ls → AllByRecursion IsNoVolume ls → VolumesArePositive rest → VolumesArePositive (text_of ls ++ rest)
lines_positive [] rest others none h = h
lines_positive (l ∷ ls) rest others none h =
    let one = is_line l others.0 in
    subst (AllByRecursion IsPositive) (sym (ap lines_of (append_assoc (line_text l) (text_of ls) rest) ∙ one.first (text_of ls ++ rest)))
    (λ z e. absurd (none.0 z (one.whole ∙ e)), lines_positive ls rest others.1 none.1 h)

listing_positive : (M : Model) (rest : List ℕ) → VolumesArePositive rest → VolumesArePositive (listing M ++ rest)
unfolding listing
listing_positive M rest h = lines_positive (or_empty (lines M)) rest (listing_others M) (all_listed IsNoVolume line_other empty_other M) h

reply_then : (r : Told) (rest : List ℕ) → ((w : ℤ) → r ≡ told.Volume w → int_lt (pos 0) w ≡ true) → VolumesArePositive rest → VolumesArePositive (reply_text r ++ rest)
unfolding reply_text
reply_then r rest k h = elim (none_or_some (reply_words r)) [
  | inl none ↦ subst (λ (l : List (List ℕ)). VolumesArePositive (line_if_any l ++ rest)) (sym none) h
  | inr some ↦
      let one = reply_line r some in
      subst (λ (t : List ℕ). VolumesArePositive (t ++ rest)) (sym (line_of_words (reply_words r) some))
      (subst (AllByRecursion IsPositive) (sym (one.first rest)) (λ z e. reply_positive r z k (words_told r (told.Volume z) some (λ n. absurd (cc n)) (one.whole ∙ e ∙ sym (volume_line z))), h))
]

answer_then : (s : Machine) (a : Told) (rest : List ℕ) → ((z : ℤ) → a ≡ told.Volume z → int_lt (pos 0) z ≡ true) → VolumesArePositive rest → VolumesArePositive (answer_text s a ++ rest)
answer_then s Listing rest k h = listing_positive (held s) rest h
answer_then s a rest k h = reply_then a rest k h

-- ---- scripts

module _ (volume : BuiltHaveVolume) where
  tells_positive : (script : List ℕ) (ls : List (List ℕ)) (text : List ℕ) → EndsLine script → IsBuilt (reached script) → AllLack ls → AllByRecursion MayStand ls → TextAnswers script ls text → VolumesArePositive text
  tells_positive script [] text h b lack only none = subst VolumesArePositive (sym none) tt
  tells_positive script (l ∷ ls) text h b lack only (inl (change, (rest, is, more))) =
      subst VolumesArePositive (sym (is ∙ ap (λ (t : List ℕ). t ++ rest) (sym memory_text)))
      (reply_then told.Memory rest (λ w e. absurd (cc e)) (tells_positive script ls rest h b lack.1 only.1 more))
  tells_positive script (l ∷ ls) text h b lack only (inr (said, rest, adds, is, more)) =
      let s = reached script in
      let t = machine_after s l in
      let here : said ≡ answer_text t (answer_of s l) = sym (from_adds script (ended l) said h adds) ∙ one_answer s l lack.0 in
      subst VolumesArePositive (sym (is ∙ ap (λ (x : List ℕ). x ++ rest) here))
      (answer_then t (answer_of s l) rest (line_positive volume s b l)
      (tells_positive (script ++ ended l) ls rest (ends_append script (ended l) h (ends_line l))
      (subst IsBuilt (sym (reached_line script l h lack.0)) (line_built s l b only.0)) lack.1 only.1 more))

  pub written_volumes_are_positive : WrittenVolumesArePositive
  written_volumes_are_positive script text ls others is only told =
      tells_positive [] ls text (inl refl) started
      (all_front Lacks ls others (subst AllLack is (lines_lack script))) (all_front MayStand ls others (subst (AllByRecursion MayStand) is only)) told
