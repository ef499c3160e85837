-- Half-edges, their codes, and the test for equal ones.
use Rattle.solid_walks.proofs.Prelude.{◌≡◌, ◌≢◌, ℕ, true, false, ◌&&◌, nat_eq, ap, sym, ◌∙◌, arith, refl, nat_tests, and_parts, HalfEdge, code, mate, plus, minus, has, Model, HasHalf, edge_of-code, code-mate, same_code, beq_itself, beq_true}
use mathlib.Core.Bool.{beq}
pub use Rattle.euler_conditions.proofs.Coded.{edge_fits, coded}

pub code_plus : (e : ℕ) → code (record { edge = e; first = true }) ≡ plus e
unfolding code
code_plus e = refl

pub mate_plus : (e : ℕ) → mate (code (record { edge = e; first = true })) ≡ minus e
unfolding code
mate_plus e = sym (code-mate e true)

pub plus_there : (M : Model) (e : ℕ) → has M.edges e ≡ true → HasHalf M (code (record { edge = e; first = true }))
plus_there M e there = ap (λ k. has M.edges k) (edge_of-code (record { edge = e; first = true })) ∙ there

-- what the test for equal half-edges says
pub codes_same : (g h : HalfEdge) → nat_eq g.edge h.edge && beq g.first h.first ≡ true → code g ≡ code h
codes_same g h e =
    let t = and_parts (nat_eq g.edge h.edge) (beq g.first h.first) e in
    let edges : g.edge ≡ h.edge = let s : nat_eq g.edge h.edge ≡ true = t.0 in grind (arith, nat_tests) in
    let firsts = beq_true g.first h.first t.1 in
    λ i. code (record { edge = edges i; first = firsts i })

pub codes_differ : (g h : HalfEdge) → nat_eq g.edge h.edge && beq g.first h.first ≡ false → code g ≢ code h
codes_differ g h e same = grind (arith, nat_tests, beq_itself, same_code g h same, e)
