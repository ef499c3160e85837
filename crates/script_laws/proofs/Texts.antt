-- The lines of an answer's text, and how many of them are `ok`.
use Rattle.script_laws.proofs.Prelude.{◌≡◌, ◌≢◌, inl, inr, ℕ, zero, suc, ◌+◌, ◌/◌, ◌%◌, ◌≤◌, Bool, true, false, cond, ◌&&◌, nat_eq, nat_lt, List, [], ◌∷◌, ◌++◌, map, codes, flat_map, bytes_eq, ℤ, pos, negsuc, refl, sym, ap, ◌∙◌, arith, append-nil, append_assoc, true≢false, decimal, ◌==◌, nat_tests, cases_Bool, signed_decimal, digits, digits_onto, digit_glyph, AllByRecursion, Kind, Solid, Face, Loop, Edge, Vertex, is_first, edge_of, Model, LoopContent, lone, cycle, content, rings_of, Machine, held, Lacks, has_newline, lines_of, first_line, Lacks-append, spaced, line_text, text_of, half_word, content_words, line, numbers_of, kind_lines, kinds, lines, or_empty, listing, reply_words, reply_text, answer_text, Told, Listing, EndsLine, count_lines, oks, ◌⊎◌, line_if_any, tally_words, subst}
use Rattle.solid_listing.specs.declared.told.Told.{Told}
use Rattle.euler_operators.specs.Refusal.{code_of}
use Rattle.solid_listing.specs.declared.told.Told.TheVariants as told
use Rattle.script_laws.proofs.Behind.{lines_append, ends_append}

-- ---- words without newlines

abbrev AreWords : List (List ℕ) → Type 0
AreWords ws = AllByRecursion Lacks ws

lacks_if : (xs : List ℕ) → has_newline xs ≡ false → Lacks xs
lacks_if [] e = tt
lacks_if (x ∷ xs) e = (
  λ (same : x ≡ 10). grind (arith, nat_tests),
  elim (cases_Bool (x == 10)) [ inl is ↦ absurd (true≢false (rw is at e)) | inr isnt ↦ lacks_if xs (rw isnt at e) ],
)

-- digits are no separators
abbrev pub AreDigits : List ℕ → Type 0
AreDigits xs = AllByRecursion (λ b. 48 ≤ b) xs

glyph_digit : (t : Bool) (d : ℕ) → 48 ≤ cond {A = ℕ} t (48 + d) (87 + d)
glyph_digit true d = omega arith
glyph_digit false d = omega arith

either_digits : (t : Bool) (xs ys : List ℕ) → AreDigits xs → AreDigits ys → AreDigits (cond t xs ys)
either_digits true xs ys h k = h
either_digits false xs ys h k = k

digits_from : (k n : ℕ) (acc : List ℕ) → AreDigits acc → AreDigits (digits_onto k 10 false n acc)
digits_from zero n acc h = h
digits_from (suc k) n acc h =
    let more : AreDigits (digit_glyph false (n % 10) ∷ acc) = (glyph_digit (nat_lt (n % 10) 10) (n % 10), h) in
    either_digits (n / 10 == 0) _ _ more (digits_from k (n / 10) _ more)

pub decimal_digits : (n : ℕ) → AreDigits (decimal n)
unfolding digits
decimal_digits n = digits_from 64 n [] tt

lacks_digits : (xs : List ℕ) → AreDigits xs → Lacks xs
lacks_digits [] h = tt
lacks_digits (x ∷ xs) h = let low = h.0 in (λ (e : x ≡ 10). omega (arith, low, e), lacks_digits xs h.1)

lacks_decimal : (n : ℕ) → Lacks (decimal n)
lacks_decimal n = lacks_digits (decimal n) (decimal_digits n)

lacks_signed : (z : ℤ) → Lacks (signed_decimal z)
lacks_signed (pos n) = lacks_decimal n
lacks_signed (negsuc n) = (λ e. omega (arith, e), lacks_decimal (suc n))

sign_other : (b : Bool) → cond {A = ℕ} b 43 45 ≢ 10
sign_other true e = omega (arith, e)
sign_other false e = omega (arith, e)

lacks_half : (h : ℕ) → Lacks (half_word h)
lacks_half h = (sign_other (is_first h), lacks_decimal (edge_of h))

are_words : {X : Type 0} (f : X → List ℕ) → ((x : X) → Lacks (f x)) → (xs : List X) → AreWords (map f xs)
are_words f h [] = tt
are_words f h (x ∷ xs) = (h x, are_words f h xs)

lacks_spaced : (ws : List (List ℕ)) → AreWords ws → Lacks (spaced ws)
lacks_spaced [] h = tt
lacks_spaced (w ∷ ws) h = (λ e. omega (arith, e), Lacks-append w (spaced ws) h.0 (lacks_spaced ws h.1))

-- ---- a line of words

-- the line isn't `ok`: its first byte is another one
abbrev pub IsOther : List (List ℕ) → Type 0
IsOther ((b ∷ w) ∷ ws) = (nat_eq b 111 ≡ false) × Lacks (b ∷ w) × AreWords ws
IsOther l = ⊥

text_is : (w : List ℕ) (ws : List (List ℕ)) (rest : List ℕ) → line_text (w ∷ ws) ++ rest ≡ (w ++ spaced ws) ++ 10 ∷ rest
text_is w ws rest = append_assoc w (spaced ws ++ 10 ∷ []) rest ∙ ap (λ (t : List ℕ). w ++ t) (append_assoc (spaced ws) (10 ∷ []) rest) ∙ sym (append_assoc w (spaced ws) (10 ∷ rest))

other_lines : (b : ℕ) (w : List ℕ) (ws : List (List ℕ)) (rest : List ℕ) → IsOther ((b ∷ w) ∷ ws) → lines_of (line_text ((b ∷ w) ∷ ws) ++ rest) ≡ ((b ∷ w) ++ spaced ws) ∷ lines_of rest
other_lines b w ws rest h = ap lines_of (text_is (b ∷ w) ws rest) ∙ first_line ((b ∷ w) ++ spaced ws) rest (Lacks-append (b ∷ w) (spaced ws) h.1 (lacks_spaced ws h.2))

not_ok : (t : Bool) (u : Bool) (n : ℕ) → t ≡ false → cond (t && u) 1 0 + n ≡ n
not_ok true u n e = absurd (true≢false e)
not_ok false u n e = omega arith

other_oks : (l : List (List ℕ)) (rest : List ℕ) → IsOther l → oks (line_text l ++ rest) ≡ oks rest
other_oks ((b ∷ w) ∷ ws) rest h = ap (count_lines (codes "ok")) (other_lines b w ws rest h) ∙ not_ok (nat_eq b 111) (bytes_eq (w ++ spaced ws) (107 ∷ [])) (oks rest) h.0
other_oks l rest h = absurd h

pub line_ends : (l : List (List ℕ)) → IsOther l → EndsLine (line_text l)
line_ends ((b ∷ w) ∷ ws) h = inr ((b ∷ w) ++ spaced ws, sym (append-nil (line_text ((b ∷ w) ∷ ws))) ∙ text_is (b ∷ w) ws [])
line_ends l h = absurd h

-- ---- many lines

abbrev pub AreOthers : List (List (List ℕ)) → Type 0
AreOthers ls = AllByRecursion IsOther ls

no_oks : (ls : List (List (List ℕ))) → AreOthers ls → oks (text_of ls) ≡ 0
no_oks [] h = refl
no_oks (l ∷ ls) h = other_oks l (text_of ls) h.0 ∙ no_oks ls h.1

text_ends : (ls : List (List (List ℕ))) → AreOthers ls → EndsLine (text_of ls)
text_ends [] h = inl refl
text_ends (l ∷ ls) h = ends_append (line_text l) (text_of ls) (line_ends l h.0) (text_ends ls h.1)

-- ---- listings

content_lacks : (c : LoopContent) → AreWords (content_words c)
content_lacks (lone v) = (lacks_if (codes "at") refl, (lacks_decimal v, tt))
content_lacks (cycle hs) = are_words half_word lacks_half hs

line_other : (M : Model) (kind : Kind) (n : ℕ) → IsOther (line M kind n)
line_other M Solid s = (refl, lacks_if (codes "solid") refl, (lacks_decimal s, tt))
line_other M Face f = (refl, lacks_if (codes "face") refl, (lacks_decimal f, (lacks_decimal _, (lacks_decimal _, are_words decimal lacks_decimal (rings_of M f)))))
line_other M Loop l = (refl, lacks_if (codes "loop") refl, (lacks_decimal l, content_lacks (content M l)))
line_other M Edge e = (refl, lacks_if (codes "edge") refl, (lacks_decimal e, (lacks_decimal _, (lacks_decimal _, tt))))
line_other M Vertex v = (refl, lacks_if (codes "vertex") refl, (lacks_decimal v, (lacks_signed _, (lacks_signed _, (lacks_signed _, tt)))))

-- what holds of the line of each thing, and of `empty`, holds of each line of a listing
module _ (P : List (List ℕ) → Type 0) where
  all_append : (ls ms : List (List (List ℕ))) → AllByRecursion P ls → AllByRecursion P ms → AllByRecursion P (ls ++ ms)
  all_append [] ms h k = k
  all_append (l ∷ ls) ms h k = (h.0, all_append ls ms h.1 k)

  all_mapped : (f : ℕ → List (List ℕ)) → ((n : ℕ) → P (f n)) → (ns : List ℕ) → AllByRecursion P (map f ns)
  all_mapped f h [] = tt
  all_mapped f h (n ∷ ns) = (h n, all_mapped f h ns)

  all_or_empty : P (codes "empty" ∷ []) → (ls : List (List (List ℕ))) → AllByRecursion P ls → AllByRecursion P (or_empty ls)
  all_or_empty none [] h = (none, tt)
  all_or_empty none (l ∷ ls) h = h

  module _ (each : (M : Model) (kind : Kind) (n : ℕ) → P (line M kind n)) where
    all_kinds : (M : Model) (ks : List Kind) → AllByRecursion P (flat_map (kind_lines M) ks)
    all_kinds M [] = tt
    all_kinds M (k ∷ ks) = all_append (kind_lines M k) (flat_map (kind_lines M) ks) (all_mapped (line M k) (each M k) (numbers_of M k)) (all_kinds M ks)

    pub all_listed : P (codes "empty" ∷ []) → (M : Model) → AllByRecursion P (or_empty (lines M))
    unfolding lines
    all_listed none M = all_or_empty none (lines M) (all_kinds M kinds)

pub listing_others : (M : Model) → AreOthers (or_empty (lines M))
listing_others M = all_listed IsOther line_other (refl, lacks_if (codes "empty") refl, tt) M

listing_oks : (M : Model) → oks (listing M) ≡ 0
unfolding listing
listing_oks M = no_oks (or_empty (lines M)) (listing_others M)

listing_ends : (M : Model) → EndsLine (listing M)
unfolding listing
listing_ends M = text_ends (or_empty (lines M)) (listing_others M)

-- ---- replies

flat_lacks : (b : Bool) → Lacks (cond b (codes "flat") (codes "bent"))
flat_lacks true = lacks_if (codes "flat") refl
flat_lacks false = lacks_if (codes "bent") refl

-- whether a command was done
abbrev pub is_ok : Told → Bool
is_ok told.Done = true
is_ok a = false

pub none_or_some : (l : List (List ℕ)) → (l ≡ []) ⊎ (l ≢ [])
none_or_some [] = inl refl
none_or_some (w ∷ ws) = inr (λ e. absurd (cc e))

pub line_of_words : (l : List (List ℕ)) → l ≢ [] → line_if_any l ≡ line_text l
line_of_words [] some = absurd (some refl)
line_of_words (w ∷ ws) some = refl

reply_other : (r : Told) → is_ok r ≡ false → reply_words r ≢ [] → IsOther (reply_words r)
reply_other told.Done e some = absurd (true≢false e)
reply_other (told.Refused r) e some = (refl, lacks_if (codes "refused") refl, (lacks_decimal (code_of r.why), (lacks_decimal r.number, tt)))
reply_other (told.Fault n) e some = (refl, lacks_if (codes "fault") refl, (lacks_decimal n, tt))
reply_other told.Memory e some = (refl, lacks_if (codes "memory") refl, tt)
reply_other (told.Plane p flat) e some = (refl, lacks_if (codes "plane") refl, (lacks_signed _, (lacks_signed _, (lacks_signed _, (lacks_signed _, (flat_lacks flat, tt))))))
reply_other (told.Volume n) e some = (refl, lacks_if (codes "volume") refl, (lacks_signed n, tt))
reply_other (told.Counts n) e some = (refl, lacks_if (codes "count") refl, are_words signed_decimal lacks_signed (tally_words n))
reply_other r e some = absurd (some refl)

other_reply_oks : (r : Told) → is_ok r ≡ false → oks (reply_text r) ≡ 0
unfolding reply_text
other_reply_oks r e = elim (none_or_some (reply_words r)) [
  | inl none ↦ ap (λ (l : List (List ℕ)). oks (line_if_any l)) none
  | inr some ↦ ap oks (line_of_words (reply_words r) some ∙ sym (append-nil (line_text (reply_words r)))) ∙ other_oks (reply_words r) [] (reply_other r e some)
]

other_reply_ends : (r : Told) → is_ok r ≡ false → EndsLine (reply_text r)
unfolding reply_text
other_reply_ends r e = elim (none_or_some (reply_words r)) [
  | inl none ↦ inl (ap line_if_any none)
  | inr some ↦ subst EndsLine (sym (line_of_words (reply_words r) some)) (line_ends (reply_words r) (reply_other r e some))
]

done_oks : oks (reply_text told.Done) ≡ 1
unfolding reply_text
done_oks = refl

done_ends : EndsLine (reply_text told.Done)
unfolding reply_text
done_ends = inr (codes "ok", refl)

reply_oks : (r : Told) (b : Bool) → is_ok r ≡ b → oks (reply_text r) ≡ cond b 1 0
reply_oks told.Done true e = done_oks
reply_oks told.Done false e = absurd (true≢false e)
reply_oks r false e = other_reply_oks r e
reply_oks r true e = absurd (true≢false (sym e))

pub answer_oks : (s : Machine) (a : Told) → oks (answer_text s a) ≡ cond (is_ok a) 1 0
answer_oks s Listing = listing_oks (held s)
answer_oks s a = reply_oks a _ refl

reply_ends : (r : Told) (b : Bool) → is_ok r ≡ b → EndsLine (reply_text r)
reply_ends told.Done b e = done_ends
reply_ends r b e = other_reply_ends r refl

pub answer_ends : (s : Machine) (a : Told) → EndsLine (answer_text s a)
answer_ends s Listing = listing_ends (held s)
answer_ends s a = reply_ends a _ refl

-- a reply is one line
pub record IsLine (text : List ℕ) : Type 0 where
  pub line : List ℕ
  pub whole : text ≡ line ++ 10 ∷ []
  pub first : (rest : List ℕ) → lines_of (text ++ rest) ≡ line ∷ lines_of rest

pub is_line : (l : List (List ℕ)) → IsOther l → IsLine (line_text l)
is_line ((b ∷ w) ∷ ws) h = record { line = (b ∷ w) ++ spaced ws; whole = sym (append-nil (line_text ((b ∷ w) ∷ ws))) ∙ text_is (b ∷ w) ws []; first = λ rest. other_lines b w ws rest h }
is_line l h = absurd h

pub reply_line : (r : Told) → reply_words r ≢ [] → IsLine (line_text (reply_words r))
reply_line told.Done some = record { line = codes "ok"; whole = refl; first = λ rest. refl }
reply_line r some = is_line (reply_words r) (reply_other r refl some)

-- ---- the lines of two texts

count_append : (l : List ℕ) (xs ys : List (List ℕ)) → count_lines l (xs ++ ys) ≡ count_lines l xs + count_lines l ys
count_append l [] ys = omega arith
count_append l (x ∷ xs) ys = omega (arith, count_append l xs ys)

pub oks_append : (a b : List ℕ) → EndsLine a → oks (a ++ b) ≡ oks a + oks b
oks_append a b h = ap (count_lines (codes "ok")) (lines_append a b h) ∙ count_append (codes "ok") (lines_of a) (lines_of b)
