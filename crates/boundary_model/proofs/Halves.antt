-- Half-edges and their codes.
use Rattle.std.proofs.Common.{◌≡◌, ℕ, ◌+◌, ◌*◌, ◌/◌, ◌%◌, Bool, true, false, cond, not, nat_eq, refl, sym, ap, ◌∙◌, arith, inl, inr}
use Rattle.std.proofs.lemmas.Bool.Decides.{nat_tests, eqb_tells}
use Rattle.boundary_model.specs.declared.HalfEdge.{HalfEdge}
use Rattle.boundary_model.specs.HalfEdge.{mate, edge_of, is_first, code, half, plus, minus}
pub use Rattle.cyclic_list.proofs.Halves.{mate_cases, edge_of-mate, mate-mate, mate_other, is_first-mate, same_edge, plus_row, minus_row, mate_plus, mate_minus, plus_other, first_is_plus, edges_apart, mate_edge_apart}

pub edge_of-code : (h : HalfEdge) → edge_of (code h) ≡ h.edge
unfolding edge_of code
edge_of-code h = elim (h.first) as (λ b. cond b (2 * h.edge) (2 * h.edge + 1) / 2 ≡ h.edge) [ true ↦ omega arith | false ↦ omega arith ]

pub half-code : (h : HalfEdge) → half (code h) ≡ h
unfolding half code
half-code h = halved_again h.edge h.first where
  halved_again : (e : ℕ) (b : Bool) → ◌≡◌ {A = HalfEdge} (record { edge = cond b (2 * e) (2 * e + 1) / 2; first = nat_eq (cond b (2 * e) (2 * e + 1) % 2) 0 }) (record { edge = e; first = b })
  halved_again e true = let p : 2 * e / 2 ≡ e = omega arith in let q : nat_eq (2 * e % 2) 0 ≡ true = grind (arith, nat_tests) in λ i. record { edge = p i; first = q i }
  halved_again e false = let p : (2 * e + 1) / 2 ≡ e = omega arith in let q : nat_eq ((2 * e + 1) % 2) 0 ≡ false = grind (arith, nat_tests) in λ i. record { edge = p i; first = q i }

pub code-half : (n : ℕ) → code (half n) ≡ n
unfolding half code
code-half n = elim (eqb_tells (n % 2) 0) [ inl p ↦ ap (λ b. cond b (2 * (n / 2)) (2 * (n / 2) + 1)) p.0 ∙ omega arith | inr p ↦ ap (λ b. cond b (2 * (n / 2)) (2 * (n / 2) + 1)) p.0 ∙ omega arith ]

pub code-mate : (e : ℕ) (b : Bool) → code (record { edge = e; first = not b }) ≡ mate (code (record { edge = e; first = b }))
unfolding code mate is_first
code-mate e true = let q : nat_eq (2 * e % 2) 0 ≡ true = grind (arith, nat_tests) in rw q refl
code-mate e false = let q : nat_eq ((2 * e + 1) % 2) 0 ≡ false = grind (arith, nat_tests) in rw q (omega arith)

-- half-edges are known by their codes
pub same_code : (h m : HalfEdge) → code h ≡ code m → h ≡ m
same_code h m e = sym (half-code h) ∙ ap half e ∙ half-code m

pub is_first-code : (h : HalfEdge) → is_first (code h) ≡ h.first
unfolding code is_first
is_first-code h = parity_tells h.edge h.first where
  parity_tells : (e : ℕ) (b : Bool) → nat_eq (cond b (2 * e) (2 * e + 1) % 2) 0 ≡ b
  parity_tells e true = grind (arith, nat_tests)
  parity_tells e false = grind (arith, nat_tests)

pub half-plus : (e : ℕ) → half (plus e) ≡ record { edge = e; first = true }
unfolding code
half-plus e = half-code (record { edge = e; first = true })

pub half-minus : (e : ℕ) → half (minus e) ≡ record { edge = e; first = false }
unfolding code
half-minus e = half-code (record { edge = e; first = false })
