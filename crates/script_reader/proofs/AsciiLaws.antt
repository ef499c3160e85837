-- Bytes below 128, by index and by list.
use Rattle.script_reader.proofs.Prelude.{◌≡◌, ℕ, zero, suc, ◌<◌, ◌≤◌, Bool, true, false, List, [], ◌∷◌, Err, length, sym, refl, arith, nat_lt, slice_index, MatchBool, nat_tests, is_ascii, request_of, NotAscii}
use Rattle.std.proofs.Common.{IsAscii}
use Rattle.std.specs.Str.{IsNotAscii}

all_below : (line : List ℕ) → IsAscii line → is_ascii line ≡ true
all_below [] all = refl
all_below (b ∷ line) all =
    let here : b < 128 = all 0 in
    let later = all_below line (λ i. all (suc i)) in
    grind (arith, nat_tests, here, later)

one_above : (line : List ℕ) (i : ℕ) → 128 ≤ slice_index line i → is_ascii line ≡ false
one_above [] i above = absurd (omega (arith, above))
one_above (b ∷ line) zero above = grind (arith, nat_tests, above)
one_above (b ∷ line) (suc i) above =
    let later = one_above line i above in
    grind (arith, nat_tests, later)

pub ascii_is : (line : List ℕ) (is : Bool) → MatchBool is (IsAscii line) (IsNotAscii line) → is ≡ is_ascii line
ascii_is line true all = sym (all_below line all)
ascii_is line false some = sym (one_above line some.0 some.1)

-- what is told of a line within the limit that isn't ASCII
pub told_not_ascii : (line : List ℕ) → nat_lt 65536 (length line) ≡ false → is_ascii line ≡ false → Err NotAscii ≡ request_of line
told_not_ascii line short other = rw (short, other) refl
