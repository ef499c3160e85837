-- Newlines, by index and by list.
use Rattle.script_reader.proofs.Prelude.{◌≡◌, inl, inr, ℕ, suc, ◌+◌, ◌-◌, ◌<◌, ◌≤◌, min, true, false, List, [], ◌∷◌, ◌++◌, length, take, drop, get_or, refl, sym, ap, subst, ◌∙◌, arith, add-one, drop-cons, slice_range, nat_lt, take-take, drop-drop, take_at, get_or-take, get_or-drop, take-add, cases_Bool, nat_tests, Lacks, has_newline, FirstNewline}

pub Lacks-append : (xs ys : List ℕ) → Lacks xs → Lacks ys → Lacks (xs ++ ys)
Lacks-append [] ys h k = k
Lacks-append (x ∷ xs) ys h k = (h.0, Lacks-append xs ys h.1 k)

pub Lacks-front : (xs ys : List ℕ) → Lacks (xs ++ ys) → Lacks xs
Lacks-front [] ys h = tt
Lacks-front (x ∷ xs) ys h = (h.0, Lacks-front xs ys h.1)

-- a newline is lacking, or is there
pub has-lacks : (xs : List ℕ) → Lacks xs → has_newline xs ≡ false
has-lacks [] h = refl
has-lacks (x ∷ xs) h =
    let later = has-lacks xs h.1 in
    let here = h.0 in
    grind (arith, nat_tests)

pub has-newline : (xs ys : List ℕ) → has_newline (xs ++ 10 ∷ ys) ≡ true
has-newline [] ys = refl
has-newline (x ∷ xs) ys =
    let later = has-newline xs ys in
    grind (arith, nat_tests)

pub lacks-behind : (xs ys : List ℕ) → has_newline (xs ++ ys) ≡ false → Lacks ys
lacks-behind [] [] e = tt
lacks-behind [] (y ∷ ys) e = (λ is. grind (arith, nat_tests, e, is), lacks-behind [] ys (grind (arith, nat_tests, e)))
lacks-behind (x ∷ xs) ys e = lacks-behind xs ys (grind (arith, nat_tests, e))

-- ---- a part of a buffer

-- a part in two parts
parts : (b : List ℕ) (s p e : ℕ) → s ≤ p → p ≤ e → slice_range b s e ≡ slice_range b s p ++ slice_range b p e
parts b s p e le le' =
    let long : e - s ≡ (p - s) + (e - p) = omega arith in
    let at : s + (p - s) ≡ p = omega arith in
    let back : drop (p - s) (drop s b) ≡ drop p b = drop-drop (p - s) s b ∙ ap (λ (n : ℕ). drop n b) at in
    ap (λ (n : ℕ). take n (drop s b)) long ∙ take-add (p - s) (e - p) (drop s b) ∙ ap (λ (xs : List ℕ). take (p - s) (drop s b) ++ take (e - p) xs) back

-- what stands before an index of a part
take_part : (b : List ℕ) (s i e : ℕ) → s + i ≤ e → take i (slice_range b s e) ≡ slice_range b s (s + i)
take_part b s i e h =
    let le : i ≤ e - s = omega arith in
    let same : s + i - s ≡ i = omega arith in
    rw (take-take i (e - s) (drop s b) le, same) refl

-- the part from s to p lacks a newline, and then so does a shorter one
pub lacks_shorter : (b : List ℕ) (s p q : ℕ) → s ≤ q → q ≤ p → Lacks (slice_range b s p) → Lacks (slice_range b s q)
lacks_shorter b s p q le le' h = Lacks-front (slice_range b s q) (slice_range b q p) (subst Lacks (parts b s q p le le') h)

-- ---- the first newline

-- the search goes on from p
pub goes_on : (b : List ℕ) (s p e at : ℕ) → s ≤ p → Lacks (slice_range b s p) → FirstNewline b p e at → FirstNewline b s e at
goes_on b s p e at le lacks f = record {
  low = omega (arith, le, f.low);
  high = f.high;
  before = subst Lacks (sym (parts b s p at le f.low)) (Lacks-append (slice_range b s p) (slice_range b p at) lacks f.before);
  stands = f.stands;
}

-- the last byte is dropped
pub without_last : (b : List ℕ) (s e at : ℕ) → s < e → FirstNewline b s e at → FirstNewline b s (e - 1) (min at (e - 1))
without_last b s e at some f = record {
  low = omega (arith, f.low);
  high = omega arith;
  before = lacks_shorter b s at (min at (e - 1)) (omega (arith, f.low)) (omega arith) f.before;
  stands = λ lt. let same : min at (e - 1) ≡ at = omega (arith, lt) in rw same (f.stands (omega (arith, lt)));
}

-- the bytes up to the newline, and those behind it
pub taken_line : (b : List ℕ) (s e at : ℕ) → e ≤ length b → at < e → FirstNewline b s e at → slice_range b s e ≡ slice_range b s at ++ 10 ∷ slice_range b (at + 1) e
taken_line b s e at fits lt f =
    let long : e - at ≡ suc (e - (at + 1)) = omega (arith, lt) in
    let first : slice_range b at e ≡ 10 ∷ slice_range b (at + 1) e = rw (long, add-one, drop-cons b at 0 (omega (arith, lt)), f.stands lt) refl in
    parts b s at e f.low f.high ∙ ap (λ (xs : List ℕ). slice_range b s at ++ xs) first

pub found_is : (b : List ℕ) (s e at : ℕ) → e ≤ length b → FirstNewline b s e at → nat_lt at e ≡ has_newline (slice_range b s e)
found_is b s e at fits f = elim (cases_Bool (nat_lt at e)) [
  | inl there ↦
      let lt : at < e = grind (arith, nat_tests, there) in
      there ∙ sym (ap has_newline (taken_line b s e at fits lt f) ∙ has-newline (slice_range b s at) (slice_range b (at + 1) e))
  | inr none ↦
      let same : at ≡ e = let high = f.high in grind (arith, nat_tests, none, high) in
      none ∙ sym (has-lacks (slice_range b s e) (subst (λ (n : ℕ). Lacks (slice_range b s n)) same f.before))
]

-- ---- a vector whose items were lent twice: to move the unread bytes to the front, and to read behind them

-- bytes read behind the first ones
more_read : (b c : List ℕ) (e n : ℕ) (old : List ℕ) → old ≡ take e b → take e c ≡ take e b → slice_range c 0 (e + n) ≡ old ++ take n (drop e c)
more_read b c e n old h same = let all : e + n - 0 ≡ e + n = omega arith in rw (h, all) (take-add e n c ∙ ap (λ (xs : List ℕ). xs ++ take n (drop e c)) same)

pub read_more : (old items d1 b1 d2 b2 : List ℕ) (len s e n : ℕ) → old ≡ slice_range items s e → d1 ≡ items → take (e - s) b1 ≡ slice_range d1 s e
    → d2 ≡ take len (b1 ++ drop (length b1) items) → length b1 ≡ len → take (e - s) b2 ≡ take (e - s) d2 → length b2 ≡ len
    → slice_range (take len (b2 ++ drop (length b2) (take len (b1 ++ drop (length b1) items)))) 0 (e - s + n) ≡ old ++ take n (drop (e - s) b2)
read_more old items d1 b1 d2 b2 len s e n h f1 moved f2 l1 front l2 =
    let first : d2 ≡ b1 = f2 ∙ take_at b1 (drop (length b1) items) len l1 in
    let kept : old ≡ take (e - s) d2 = h ∙ ap (λ (xs : List ℕ). slice_range xs s e) (sym f1) ∙ sym moved ∙ ap (λ (xs : List ℕ). take (e - s) xs) (sym first) in
    rw (take_at b2 (drop (length b2) (take len (b1 ++ drop (length b1) items))) len l2) (more_read d2 b2 (e - s) n old kept front)

-- and a front of the unread bytes lacks a newline as before
pub still_lacks : (items d1 b1 d2 b2 : List ℕ) (len s p e : ℕ) → s ≤ p → p ≤ e → d1 ≡ items → take (e - s) b1 ≡ slice_range d1 s e
    → d2 ≡ take len (b1 ++ drop (length b1) items) → length b1 ≡ len → take (e - s) b2 ≡ take (e - s) d2 → length b2 ≡ len → Lacks (slice_range items s p)
    → Lacks (slice_range (take len (b2 ++ drop (length b2) (take len (b1 ++ drop (length b1) items)))) 0 (p - s))
still_lacks items d1 b1 d2 b2 len s p e le le' f1 moved f2 l1 front l2 h =
    let first : d2 ≡ b1 = f2 ∙ take_at b1 (drop (length b1) items) len l1 in
    let kept : take (e - s) b2 ≡ slice_range items s e = front ∙ ap (λ (xs : List ℕ). take (e - s) xs) first ∙ moved ∙ ap (λ (xs : List ℕ). slice_range xs s e) f1 in
    let at : s + (p - s) ≡ p = omega arith in
    let all : p - s - 0 ≡ p - s = omega arith in
    let part : take (p - s) b2 ≡ slice_range items s p =
    sym (take-take (p - s) (e - s) b2 (omega arith)) ∙ ap (λ (xs : List ℕ). take (p - s) xs) kept ∙ take_part items s (p - s) e (omega arith) ∙ ap (λ (n : ℕ). slice_range items s n) at in
    rw (take_at b2 (drop (length b2) (take len (b1 ++ drop (length b1) items))) len l2, all) (subst Lacks (sym part) h)

-- the newline that was found is at the same place of the unread bytes
pub still_found : (items d1 b1 d2 b2 : List ℕ) (len s p e : ℕ) → e ≤ len → d1 ≡ items → take (e - s) b1 ≡ slice_range d1 s e
    → d2 ≡ take len (b1 ++ drop (length b1) items) → length b1 ≡ len → take (e - s) b2 ≡ take (e - s) d2 → length b2 ≡ len → FirstNewline items s e p
    → FirstNewline (take len (b2 ++ drop (length b2) (take len (b1 ++ drop (length b1) items)))) 0 (e - s) (p - s)
still_found items d1 b1 d2 b2 len s p e fits f1 moved f2 l1 front l2 h =
    let first : d2 ≡ b1 = f2 ∙ take_at b1 (drop (length b1) items) len l1 in
    let kept : take (e - s) b2 ≡ slice_range items s e = front ∙ ap (λ (xs : List ℕ). take (e - s) xs) first ∙ moved ∙ ap (λ (xs : List ℕ). slice_range xs s e) f1 in
    let low = h.low in
    let high = h.high in
    record {
      low = omega arith;
      high = omega (arith, low, high);
      before = still_lacks items d1 b1 d2 b2 len s p e low high f1 moved f2 l1 front l2 h.before;
      stands = λ lt.
          let at : s + (p - s) ≡ p = omega (arith, low) in
          let in_part : p - s < e - s = lt in
          let there : get_or b2 (p - s) 0 ≡ get_or items p 0 =
          sym (get_or-take (e - s) b2 (p - s) 0 in_part) ∙ ap (λ (xs : List ℕ). get_or xs (p - s) 0) kept ∙ get_or-take (e - s) (drop s items) (p - s) 0 in_part ∙ get_or-drop s items (p - s) 0 ∙ ap (λ (n : ℕ). get_or items n 0) at in
          rw (take_at b2 (drop (length b2) (take len (b1 ++ drop (length b1) items))) len l2) (there ∙ h.stands (omega (arith, lt)));
    }
