-- A list of half-edges of which some are kept.
use Rattle.split_sections.proofs.Prelude.{◌≡◌, ℕ, zero, suc, ◌<◌, Bool, List, [], ◌∷◌, map, length, get_or, refl, sym, ap, subst, ◌∙◌, arith, filter, drop, drop_more, IsIn, HalfEdge, code, tick_same}

pub kept_codes : (q : ℕ → Bool) (hs : List HalfEdge) → map code (filter (λ h. q (code h)) hs) ≡ filter q (map code hs)
kept_codes q [] = refl
kept_codes q (h ∷ hs) = grind (arith, kept_codes q hs)

code_at : (hs : List HalfEdge) (i : ℕ) (d : HalfEdge) → i < length hs → IsIn (code (get_or hs i d)) (map code hs)
code_at [] i d l = absurd (omega (arith, l))
code_at (h ∷ hs) zero d l = omega (arith, tick_same (code h))
code_at (h ∷ hs) (suc i) d l = omega (arith, code_at hs i d (omega (arith, l)))

-- one that is still as it was
pub still_in : (xs ys : List HalfEdge) (i : ℕ) (x : HalfEdge) → drop i ys ≡ drop i xs → i < length ys → length ys ≡ length xs → x ≡ get_or ys i x → IsIn (code x) (map code xs)
still_in xs ys i x e l long is =
    let m : i < length xs = omega (arith, l, long) in
    let same = is ∙ ap (λ zs. get_or zs 0 x) (sym (drop_more ys i x l) ∙ e ∙ drop_more xs i x m) in
    subst (λ y. IsIn (code y) (map code xs)) (sym same) (code_at xs i x m)
