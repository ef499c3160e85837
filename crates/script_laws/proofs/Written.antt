-- Lines of words spell commands.
use Rattle.script_laws.proofs.Prelude.{◌≡◌, inl, inr, ℕ, suc, ◌*◌, ◌^◌, ◌<◌, ◌≤◌, List, [], ◌∷◌, ◌++◌, map, codes, length, length-append, ℤ, pos, negsuc, neg_ℤ, Ok, refl, sym, ap, arith, decimal, decimal_is_IsNumeral, decimal_nonempty, length-decimal-le, length_signed_le, signed_decimal, AllByRecursion, AllDigits, request_of, HasNoGap, IsAtGap, IsParted, SaysNumber, SaysInteger, IsAscii, WordsSpell, words, Request, ok_line, Lacks-append, spaced, IsWritten, BlockLinesSpell, SplitLinesSpell, VolumeLinesSpell}
use Rattle.std.proofs.lemmas.Str.Parse.{digit_from_value}
use Rattle.script_reader.specs.Newline as newline
use Rattle.call_types.specs.declared.command.Change.TheVariants as change
use Rattle.call_types.specs.declared.command.Question.TheVariants as question
use Rattle.call_types.specs.declared.command.Command.TheVariants as command
use Rattle.script_reader.specs.declared.command.Request.TheVariants as request
use Rattle.script_reader.specs.declared.name.Name.TheVariants as name
use Rattle.script_reader.proofs.PartLaws.{parted_words}

-- ---- words

-- a byte of a word
abbrev IsPlain : ℕ → Type 0
IsPlain b = (32 < b) × (b < 128)

record IsWord (w : List ℕ) : Type 0 where
  some : 0 < length w
  short : length w ≤ 20
  plain : AllByRecursion IsPlain w

abbrev AreWords : List (List ℕ) → Type 0
AreWords ws = AllByRecursion IsWord ws

no_gap : (w : List ℕ) → AllByRecursion IsPlain w → HasNoGap w
no_gap [] h = tt
no_gap (b ∷ w) h = let low = h.0.0 in (λ s. elim s [ inl e ↦ omega (arith, e, low) | inr t ↦ elim t [ inl e ↦ omega (arith, e, low) | inr e ↦ omega (arith, e, low) ] ], no_gap w h.1)

ascii_append : (v w : List ℕ) → AllByRecursion IsPlain v → IsAscii w → IsAscii (v ++ w)
ascii_append [] w h k = k
ascii_append (b ∷ v) w h k = let high = h.0.1 in (omega (arith, high), ascii_append v w h.1 k)

lacks_plain : (w : List ℕ) → AllByRecursion IsPlain w → newline.Lacks w
lacks_plain [] h = tt
lacks_plain (b ∷ w) h = let low = h.0.0 in (λ e. omega (arith, e, low), lacks_plain w h.1)

at_gap : (ws : List (List ℕ)) → IsAtGap (spaced ws)
at_gap [] = tt
at_gap (w ∷ ws) = inl refl

spaced_parted : (ws : List (List ℕ)) → AreWords ws → IsParted ws (spaced ws)
spaced_parted [] h = tt
spaced_parted (w ∷ ws) h = (32 ∷ [], spaced ws, refl, (inl refl, tt), h.0.some, no_gap w h.0.plain, at_gap ws, spaced_parted ws h.1)

spaced_ascii : (ws : List (List ℕ)) → AreWords ws → IsAscii (spaced ws)
spaced_ascii [] h = tt
spaced_ascii (w ∷ ws) h = (omega arith, ascii_append w (spaced ws) h.0.plain (spaced_ascii ws h.1))

spaced_lacks : (ws : List (List ℕ)) → AreWords ws → newline.Lacks (spaced ws)
spaced_lacks [] h = tt
spaced_lacks (w ∷ ws) h = (λ e. omega (arith, e), Lacks-append w (spaced ws) (lacks_plain w h.0.plain) (spaced_lacks ws h.1))

spaced_short : (ws : List (List ℕ)) → AreWords ws → length (spaced ws) ≤ 21 * length ws
spaced_short [] h = omega arith
spaced_short (w ∷ ws) h = let short = h.0.short in omega (arith, short, spaced_short ws h.1, length-append w (spaced ws))

module _ (w : List ℕ) (ws : List (List ℕ)) (h : IsWord w) (k : AreWords ws) where
  line_words : words (w ++ spaced ws) ≡ w ∷ ws
  line_words = parted_words (w ∷ ws) (w ++ spaced ws) ([], spaced ws, refl, tt, h.some, no_gap w h.plain, at_gap ws, spaced_parted ws k)

  line_lacks : newline.Lacks (w ++ spaced ws)
  line_lacks = Lacks-append w (spaced ws) (lacks_plain w h.plain) (spaced_lacks ws k)

  line_spells : (c : Request) → length ws ≤ 100 → WordsSpell (w ∷ ws) c → request_of (w ++ spaced ws) ≡ Ok c
  line_spells c few s = ok_line (w ++ spaced ws) c (
    omega (arith, few, h.short, spaced_short ws k, length-append w (spaced ws)),
    ascii_append w (spaced ws) h.plain (spaced_ascii ws k),
    rw line_words s,
  )

-- ---- numbers

plain_digits : (ds : List ℕ) → AllDigits 10 ds → AllByRecursion IsPlain ds
plain_digits [] d = tt
plain_digits (c ∷ cs) d = let v = digit_from_value c d.0 in ((omega (arith, v), omega (arith, v)), plain_digits cs d.1)

decimal_word : (n : ℕ) → n < 2 ^ 64 → IsWord (decimal n)
decimal_word n h = record { some = decimal_nonempty n h; short = length-decimal-le 20 n (omega arith) (omega (arith, h)) h; plain = plain_digits (decimal n) (decimal_is_IsNumeral n h).0.1 }

signed_word : (z : ℤ) → IsWritten z → IsWord (signed_decimal z)
signed_word (pos n) h = decimal_word n (omega (arith, h))
signed_word (negsuc n) h =
    let small : suc n < 2 ^ 64 = omega (arith, h) in
    record { some = omega arith; short = length_signed_le 19 (negsuc n) (omega (arith, h)) h; plain = ((omega arith, omega arith), plain_digits (decimal (suc n)) (decimal_is_IsNumeral (suc n) small).0.1) }

signed_words : (zs : List ℤ) → AllByRecursion IsWritten zs → AreWords (map signed_decimal zs)
signed_words [] h = tt
signed_words (z ∷ zs) h = (signed_word z h.0, signed_words zs h.1)

says_number : (n : ℕ) → n < 2 ^ 32 → SaysNumber (decimal n) n
says_number n h = let d = decimal_is_IsNumeral n (omega (arith, h)) in (d.0, d.1, h)

says_integer : (z : ℤ) → IsWritten z → SaysInteger (signed_decimal z) z
says_integer (pos n) h = let d = decimal_is_IsNumeral n (omega (arith, h)) in inl (d.0, omega (arith, d.1, h), ap pos (sym d.1))
says_integer (negsuc n) h = let d = decimal_is_IsNumeral (suc n) (omega (arith, h)) in inr (decimal (suc n), refl, d.0, omega (arith, d.1, h), ap (λ (k : ℕ). neg_ℤ (pos k)) (sym d.1))

-- ---- commands

block_word : IsWord (codes "block")
block_word = record { some = omega arith; short = omega arith; plain = ((omega arith, omega arith), ((omega arith, omega arith), ((omega arith, omega arith), ((omega arith, omega arith), ((omega arith, omega arith), tt))))) }

split_word : IsWord (codes "split")
split_word = record { some = omega arith; short = omega arith; plain = ((omega arith, omega arith), ((omega arith, omega arith), ((omega arith, omega arith), ((omega arith, omega arith), ((omega arith, omega arith), tt))))) }

volume_word : IsWord (codes "volume")
volume_word = record { some = omega arith; short = omega arith; plain = ((omega arith, omega arith), ((omega arith, omega arith), ((omega arith, omega arith), ((omega arith, omega arith), ((omega arith, omega arith), ((omega arith, omega arith), tt)))))) }

module _ (n : ℕ) (x y z dx dy dz : ℤ) (h : n < 2 ^ 32) (k : AllByRecursion IsWritten (x ∷ y ∷ z ∷ dx ∷ dy ∷ dz ∷ [])) where
  number : IsWord (decimal n)
  number = decimal_word n (omega (arith, h))

  block_words : AreWords (decimal n ∷ map signed_decimal (x ∷ y ∷ z ∷ dx ∷ dy ∷ dz ∷ []))
  block_words = (number, signed_words (x ∷ y ∷ z ∷ dx ∷ dy ∷ dz ∷ []) k)

  block_lacks : newline.Lacks (codes "block" ++ spaced (decimal n ∷ map signed_decimal (x ∷ y ∷ z ∷ dx ∷ dy ∷ dz ∷ [])))
  block_lacks = line_lacks (codes "block") (decimal n ∷ map signed_decimal (x ∷ y ∷ z ∷ dx ∷ dy ∷ dz ∷ [])) block_word block_words

  block_spelled : request_of (codes "block" ++ spaced (decimal n ∷ map signed_decimal (x ∷ y ∷ z ∷ dx ∷ dy ∷ dz ∷ []))) ≡ Ok (request.Give (command.Change (change.Block n (record { x = x; y = y; z = z }) dx dy dz)))
  block_spelled = line_spells (codes "block") (decimal n ∷ map signed_decimal (x ∷ y ∷ z ∷ dx ∷ dy ∷ dz ∷ [])) block_word block_words (request.Give (command.Change (change.Block n (record { x = x; y = y; z = z }) dx dy dz))) (omega arith) (inr (
    name.Block,
    refl,
    (
      n,
      _,
      (says_number n h, refl),
      (
        record { x = x; y = y; z = z },
        _,
        (_, _, (says_integer x k.0, refl), (says_integer y k.1.0, refl), (says_integer z k.1.1.0, refl)),
        (dx, _, (says_integer dx k.1.1.1.0, refl), (dy, _, (says_integer dy k.1.1.1.1.0, refl), (dz, [], (says_integer dz k.1.1.1.1.1.0, refl), (refl, refl)))),
      ),
    ),
  ))

module _ (n m : ℕ) (a b c d : ℤ) (h : n < 2 ^ 32) (j : m < 2 ^ 32) (k : AllByRecursion IsWritten (a ∷ b ∷ c ∷ d ∷ [])) where
  split_words : AreWords (decimal n ∷ signed_decimal a ∷ signed_decimal b ∷ signed_decimal c ∷ signed_decimal d ∷ decimal m ∷ [])
  split_words = (decimal_word n (omega (arith, h)), (signed_word a k.0, (signed_word b k.1.0, (signed_word c k.1.1.0, (signed_word d k.1.1.1.0, (decimal_word m (omega (arith, j)), tt))))))

  split_lacks : newline.Lacks (codes "split" ++ spaced (decimal n ∷ signed_decimal a ∷ signed_decimal b ∷ signed_decimal c ∷ signed_decimal d ∷ decimal m ∷ []))
  split_lacks = line_lacks (codes "split") (decimal n ∷ signed_decimal a ∷ signed_decimal b ∷ signed_decimal c ∷ signed_decimal d ∷ decimal m ∷ []) split_word split_words

  split_spelled : request_of (codes "split" ++ spaced (decimal n ∷ signed_decimal a ∷ signed_decimal b ∷ signed_decimal c ∷ signed_decimal d ∷ decimal m ∷ [])) ≡ Ok (request.Give (command.Change (change.Split n a b c d m)))
  split_spelled = line_spells (codes "split") (decimal n ∷ signed_decimal a ∷ signed_decimal b ∷ signed_decimal c ∷ signed_decimal d ∷ decimal m ∷ []) split_word split_words (request.Give (command.Change (change.Split n a b c d m))) (omega arith) (inr (
    name.Split,
    refl,
    (n, _, (says_number n h, refl), (a, _, (says_integer a k.0, refl), (b, _, (says_integer b k.1.0, refl), (c, _, (says_integer c k.1.1.0, refl), (d, _, (says_integer d k.1.1.1.0, refl), (m, [], (says_number m j, refl), (refl, refl))))))),
  ))

module _ (n : ℕ) (h : n < 2 ^ 32) where
  volume_lacks : newline.Lacks (codes "volume" ++ spaced (decimal n ∷ []))
  volume_lacks = line_lacks (codes "volume") (decimal n ∷ []) volume_word (decimal_word n (omega (arith, h)), tt)

  volume_spelled : request_of (codes "volume" ++ spaced (decimal n ∷ [])) ≡ Ok (request.Give (command.Ask (question.Volume n)))
  volume_spelled = line_spells (codes "volume") (decimal n ∷ []) volume_word (decimal_word n (omega (arith, h)), tt) (request.Give (command.Ask (question.Volume n))) (omega arith) (inr (name.Volume, refl, (n, [], (says_number n h, refl), (refl, refl))))

-- ---- the law

pub block_lines_spell : BlockLinesSpell
block_lines_spell n p dx dy dz small fit = (block_lacks n p.x p.y p.z dx dy dz small fit, (request.Give (command.Change (change.Block n p dx dy dz)), block_spelled n p.x p.y p.z dx dy dz small fit, refl))

pub split_lines_spell : SplitLinesSpell
split_lines_spell n m a b c d small other fit = (split_lacks n m a b c d small other fit, (request.Give (command.Change (change.Split n a b c d m)), split_spelled n m a b c d small other fit, refl))

pub volume_lines_spell : VolumeLinesSpell
volume_lines_spell n small = (volume_lacks n small, (request.Give (command.Ask (question.Volume n)), volume_spelled n small, refl))
