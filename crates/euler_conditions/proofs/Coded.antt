-- Half-edges of codes, and the code of a mate.
use Rattle.euler_conditions.proofs.Prelude.{◌≡◌, ◌≢◌, ℕ, ◌+◌, ◌*◌, ◌/◌, ◌%◌, ◌^◌, ◌≤◌, ap, sym, ◌∙◌, arith, inl, inr, bit_xor, nat_tests, HalfEdge, code, half, edge_of, mate, Model, is_number, Sound, HasHalf, edge_of-code, code-half, mate_cases, number_fits}
use Rattle.std.proofs.lemmas.Nat.{xor_block, xor_comm}

-- an edge that is there has a number in range
pub edge_fits : (M : Model) → Sound M → (h : HalfEdge) → HasHalf M (code h) → h.edge ≤ 1000000
edge_fits M sound h there = number_fits h.edge (ap is_number (sym (edge_of-code h)) ∙ sound.edges_fit (edge_of (code h)) there)

-- no code that is there is 0
pub code_real : (M : Model) → Sound M → (k : ℕ) → HasHalf M k → k ≢ 0
unfolding edge_of
code_real M sound k there z = grind (arith, sound.edges_fit (k / 2) there, nat_tests)

-- the half-edge of a code
pub coded : (h : HalfEdge) (k : ℕ) → h ≡ half k → code h ≡ k
coded h k e = ap code e ∙ code-half k

-- a mate's code differs in the lowest bit
split : (n : ℕ) → bit_xor n 1 ≡ n / 2 * 2 + bit_xor (n % 2) 1
split n =
    let e : n / 2 * 2 ^ 1 + n % 2 ≡ n = omega arith in
    let one = xor_block 1 (n / 2) 0 (n % 2) 1 (omega arith) (omega arith) in
    let high : bit_xor (n / 2) 0 ≡ n / 2 = xor_comm (n / 2) 0 in
    ap (λ k. bit_xor k 1) (sym e) ∙ one ∙ ap (λ k. k * 2 + bit_xor (n % 2) 1) high

pub flipped : (n : ℕ) → bit_xor n 1 ≡ mate n
flipped n = elim (mate_cases n) [
  | inl p ↦ split n ∙ ap (λ r. n / 2 * 2 + bit_xor r 1) p.0 ∙ omega arith
  | inr p ↦ split n ∙ ap (λ r. n / 2 * 2 + bit_xor r 1) p.0 ∙ omega arith
]
