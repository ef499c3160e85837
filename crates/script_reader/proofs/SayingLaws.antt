-- What one word says.
use Rattle.script_reader.proofs.Prelude.{◌≡◌, inl, inr, ℕ, ◌<◌, ◌≤◌, ◌^◌, Bool, true, false, List, [], ◌∷◌, Option, Some, None, refl, sym, ap, subst, ◌∙◌, arith, rules, ◌==◌, ◌&&◌, ℤ, pos, neg_ℤ, codes, option_map, option_and_then, nat_lt, nat_le, bytes_eq, IsNumeral, AllDigits, digits_value, cases_Bool, and_parts, nat_tests, bytes_eq-Decides, IsNumeralModel, numerals_by_fold, digit_from_value, HalfEdge, Corner, At, Lone, value_after, all_digits, below, magnitude, number_of, negative, not_negative, integer_of, Word, half_with, half_of, lone_of, or_else, corner_of, way_of, Way, In, Out, SaysNumber, SaysInteger, SaysHalf, SaysCorner, SaysWay, sign}
use Rattle.script_reader.proofs.NumberLaws.{is_below}
use Rattle.script_reader.proofs.OptionLaws.{map_some, then_some, test_some}

-- a word is read as what it says
pub record Tells {A : Type 0} (read : Word → Option A) (says : Word → A → Type 0) : Type 0 where
  pub told : (w : Word) (x : A) → read w ≡ Some x → says w x
  pub spelled : (w : Word) (x : A) → says w x → read w ≡ Some x

abbrev half_edge : ℕ → Bool → HalfEdge
half_edge n b = record { edge = n; first = b }

-- ---- numbers

own : IsNumeralModel (λ ds. all_digits ds ≡ true) (value_after 0)
own = numerals_by_fold _ (search rules) value_after (search rules)

equal_bytes : (a b : ℕ) → (a == b) ≡ true → a ≡ b
equal_bytes a b e = grind (arith, nat_tests)

below_told : (limit : ℕ) (w : Word) (n : ℕ) → below limit w ≡ Some n → IsNumeral 10 w × (digits_value 10 w ≡ n) × (n < limit)
below_told limit [] n e = absurd (cc e)
below_told limit (c ∷ cs) n e =
    let t = test_some (all_digits (c ∷ cs) && nat_lt (value_after 0 (c ∷ cs)) limit) (value_after 0 (c ∷ cs)) n e in
    let both = and_parts (all_digits (c ∷ cs)) (nat_lt (value_after 0 (c ∷ cs)) limit) t.0 in
    let digits = own.to (c ∷ cs) both.0 in
    let low : value_after 0 (c ∷ cs) < limit = grind (arith, nat_tests, both.1) in
    ((omega arith, digits), sym (own.same (c ∷ cs) digits) ∙ t.1, subst (λ (m : ℕ). m < limit) t.1 low)

below_spelled : (limit : ℕ) (w : Word) (n : ℕ) → IsNumeral 10 w → digits_value 10 w ≡ n → n < limit → below limit w ≡ Some n
below_spelled limit w n h e low = is_below limit n w h.0 (own.same w h.1 ∙ e) low (own.from w h.1)

pub tells_number : Tells number_of SaysNumber
tells_number = record { told = λ w n e. below_told (2 ^ 32) w n e; spelled = λ w n s. below_spelled (2 ^ 32) w n s.0 s.1 s.2 }

-- ---- coordinates

is_digit : (c : ℕ) (cs : List ℕ) → AllDigits 10 (c ∷ cs) → (c == 45) ≡ false
is_digit c cs h = let low : 48 ≤ c = (digit_from_value c h.0).0 in grind (arith, nat_tests, low)

integer_told : (w : Word) (z : ℤ) → integer_of w ≡ Some z → SaysInteger w z
integer_told [] z e = absurd (cc e)
integer_told (c ∷ cs) z e = elim (cases_Bool (c == 45)) [
  | inl minus ↦
      let a = then_some negative (magnitude cs) z (rw minus at e) in
      let t = test_some (nat_le a.0 (2 ^ 63)) (neg_ℤ (pos a.0)) z a.2 in
      let n = below_told (2 ^ 64) cs a.0 a.1 in
      let low : a.0 ≤ 2 ^ 63 = grind (arith, nat_tests, t.0) in
      let first : c ≡ 45 = equal_bytes c 45 minus in
      inr (cs, rw first refl, n.0, omega (arith, n.1, low), sym t.1 ∙ ap (λ (m : ℕ). neg_ℤ (pos m)) (sym n.1))
  | inr plain ↦
      let a = then_some not_negative (magnitude (c ∷ cs)) z (rw plain at e) in
      let t = test_some (nat_lt a.0 (2 ^ 63)) (pos a.0) z a.2 in
      let n = below_told (2 ^ 64) (c ∷ cs) a.0 a.1 in
      let low : a.0 < 2 ^ 63 = grind (arith, nat_tests, t.0) in
      inl (n.0, omega (arith, n.1, low), sym t.1 ∙ ap (λ (m : ℕ). pos m) (sym n.1))
]

negative_is : (n : ℕ) → n ≤ 2 ^ 63 → negative n ≡ Some (neg_ℤ (pos n))
negative_is n h = let test : nat_le n (2 ^ 63) ≡ true = grind (arith, nat_tests, h) in rw test refl

not_negative_is : (n : ℕ) → n < 2 ^ 63 → not_negative n ≡ Some (pos n)
not_negative_is n h = let test : nat_lt n (2 ^ 63) ≡ true = grind (arith, nat_tests, h) in rw test refl

plain_spelled : (w : Word) → IsNumeral 10 w → digits_value 10 w < 2 ^ 63 → integer_of w ≡ Some (pos (digits_value 10 w))
plain_spelled [] h low = absurd (omega (arith, h.0))
plain_spelled (c ∷ cs) h low =
    let read : magnitude (c ∷ cs) ≡ Some (digits_value 10 (c ∷ cs)) = below_spelled (2 ^ 64) (c ∷ cs) (digits_value 10 (c ∷ cs)) h refl (omega (arith, low)) in
    let plain : integer_of (c ∷ cs) ≡ option_and_then not_negative (magnitude (c ∷ cs)) = rw (is_digit c cs h.1) refl in
    plain ∙ ap (option_and_then not_negative) read ∙ not_negative_is (digits_value 10 (c ∷ cs)) low

minus_spelled : (ds : Word) → IsNumeral 10 ds → digits_value 10 ds ≤ 2 ^ 63 → integer_of (45 ∷ ds) ≡ Some (neg_ℤ (pos (digits_value 10 ds)))
minus_spelled ds h low =
    let read : magnitude ds ≡ Some (digits_value 10 ds) = below_spelled (2 ^ 64) ds (digits_value 10 ds) h refl (omega (arith, low)) in
    ap (option_and_then negative) read ∙ negative_is (digits_value 10 ds) low

integer_spelled : (w : Word) (z : ℤ) → SaysInteger w z → integer_of w ≡ Some z
integer_spelled w z s = elim s [
  | inl plain ↦ plain_spelled w plain.0 plain.1 ∙ ap (λ (y : ℤ). Some y) (sym plain.2)
  | inr minus ↦ ap integer_of minus.1 ∙ minus_spelled minus.0 minus.2 minus.3 ∙ ap (λ (y : ℤ). Some y) (sym minus.4)
]

pub tells_integer : Tells integer_of SaysInteger
tells_integer = record { told = integer_told; spelled = integer_spelled }

-- ---- half-edges and corners

with_told : (b : Bool) (cs : Word) (h : HalfEdge) → half_with b cs ≡ Some h → SaysHalf (sign b ∷ cs) h
with_told b cs h e =
    let a = map_some (λ (n : ℕ). half_edge n b) (number_of cs) h e in
    let n = below_told (2 ^ 32) cs a.0 a.1 in
    subst (SaysHalf (sign b ∷ cs)) a.2 (cs, refl, n)

half_told : (w : Word) (h : HalfEdge) → half_of w ≡ Some h → SaysHalf w h
half_told [] h e = absurd (cc e)
half_told (c ∷ cs) h e = elim (cases_Bool (c == 43)) [
  | inl plus ↦ subst (λ (d : ℕ). SaysHalf (d ∷ cs) h) (sym (equal_bytes c 43 plus)) (with_told true cs h (rw plus at e))
  | inr other ↦ elim (cases_Bool (c == 45)) [
    | inl minus ↦ subst (λ (d : ℕ). SaysHalf (d ∷ cs) h) (sym (equal_bytes c 45 minus)) (with_told false cs h (rw (other, minus) at e))
    | inr none ↦ absurd (cc (rw (other, none) at e))
  ]
]

sign_spelled : (b : Bool) (cs : Word) → half_of (sign b ∷ cs) ≡ half_with b cs
sign_spelled true cs = refl
sign_spelled false cs = refl

half_spelled : (w : Word) (h : HalfEdge) → SaysHalf w h → half_of w ≡ Some h
half_spelled w h s =
    let read : number_of s.0 ≡ Some h.edge = below_spelled (2 ^ 32) s.0 h.edge s.2.0 s.2.1 s.2.2 in
    ap half_of s.1 ∙ sign_spelled h.first s.0 ∙ ap (option_map (λ (n : ℕ). half_edge n h.first)) read

pub tells_half : Tells half_of SaysHalf
tells_half = record { told = half_told; spelled = half_spelled }

lone_told : (w : Word) (c : Corner) → lone_of w ≡ Some c → SaysCorner w c
lone_told [] c e = absurd (cc e)
lone_told (b ∷ bs) c e = elim (cases_Bool (b == 64)) [
  | inl is_at ↦
      let a = map_some Lone (number_of bs) c (rw is_at at e) in
      let n = below_told (2 ^ 32) bs a.0 a.1 in
      let first : b ≡ 64 = equal_bytes b 64 is_at in
      subst (SaysCorner (b ∷ bs)) a.2 (bs, rw first refl, n)
  | inr other ↦ absurd (cc (rw other at e))
]

either_told : (w : Word) (o : Option HalfEdge) (c : Corner) → half_of w ≡ o → or_else (option_map At o) (lone_of w) ≡ Some c → SaysCorner w c
either_told w (Some h) c is e = let same : At h ≡ c = cc e in subst (SaysCorner w) same (half_told w h is)
either_told w None c is e = lone_told w c e

corner_spelled : (w : Word) (c : Corner) → SaysCorner w c → corner_of w ≡ Some c
corner_spelled w (At h) s = rw (half_spelled w h s) refl
corner_spelled w (Lone l) s =
    let read : number_of s.0 ≡ Some l = below_spelled (2 ^ 32) s.0 l s.2.0 s.2.1 s.2.2 in
    ap corner_of s.1 ∙ ap (option_map Lone) read

pub tells_corner : Tells corner_of SaysCorner
tells_corner = record { told = λ w c e. either_told w (half_of w) c refl e; spelled = corner_spelled }

-- ---- `in` and `out`

way_told : (w : Word) (x : Way) → way_of w ≡ Some x → SaysWay w x
way_told w x e = elim (cases_Bool (bytes_eq w (codes "in"))) [
  | inl is_in ↦ let same : In ≡ x = cc (rw is_in at e) in subst (SaysWay w) same ((bytes_eq-Decides w (codes "in")).0 is_in)
  | inr isnt_in ↦ elim (cases_Bool (bytes_eq w (codes "out"))) [
    | inl is_out ↦ let same : Out ≡ x = cc (rw (isnt_in, is_out) at e) in subst (SaysWay w) same ((bytes_eq-Decides w (codes "out")).0 is_out)
    | inr isnt_out ↦ absurd (cc (rw (isnt_in, isnt_out) at e))
  ]
]

way_spelled : (w : Word) (x : Way) → SaysWay w x → way_of w ≡ Some x
way_spelled w In s = ap way_of s
way_spelled w Out s = ap way_of s

pub tells_way : Tells way_of SaysWay
tells_way = record { told = way_told; spelled = way_spelled }
