-- Half-edges that are met, in a set of their codes.
use Rattle.split_sections.proofs.Prelude.{◌≡◌, ℕ, ◌≤◌, Bool, true, cond, ◌||◌, List, map, length, slice_index_or, sym, subst, arith, nat_cmp, is_eq, IsIn, HalfEdge, code, lists, tick_same, number_tied, others, parts}

abbrev AreLow : List ℕ → Type 0
AreLow bs = (b : ℕ) → IsIn b bs → b ≤ 2000001

low_edge : (h : HalfEdge) → code h ≤ 2000001 → h.edge ≤ 1000000
unfolding code
low_edge h l = grind arith

pub first_low : (hs : List HalfEdge) (d : HalfEdge) → 1 ≤ length hs → AreLow (map code hs) → (slice_index_or hs 0 d).edge ≤ 1000000
first_low hs d l low =
    let h = slice_index_or hs 0 d in
    low_edge h (low (code h) (subst (λ (ks : List HalfEdge). IsIn (code h) (map code ks)) (sym (parts hs d l)) (omega (arith, tick_same (code h)))))

pub others_low : (hs : List HalfEdge) (d : HalfEdge) → 1 ≤ length hs → AreLow (map code hs) → AreLow (map code (others hs))
others_low hs d l low b i = low b (subst (λ (ks : List HalfEdge). IsIn b (map code ks)) (sym (parts hs d l)) (omega (arith, i)))

-- the first is met now
pub one_met : (hs : List HalfEdge) (d : HalfEdge) → 1 ≤ length hs → (b k : ℕ) (old new all : Bool) → k ≡ code (slice_index_or hs 0 d) → new ≡ cond (is_eq (nat_cmp k b)) true old
    → (lists (map code hs) b || old) ≡ all → (lists (map code (others hs)) b || new) ≡ all
one_met hs d l b k old new all is e met = grind (arith, others, number_tied, parts)
