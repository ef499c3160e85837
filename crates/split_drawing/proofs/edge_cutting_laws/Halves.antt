-- The operator that cuts an edge, as the code has it.
use Rattle.split_drawing.proofs.Prelude.{◌≡◌, ℕ, ◌+◌, sym, ap, subst, ◌∙◌, arith, HalfEdge, At, code, half, edge_of, plus, minus, Model, after, Has, half-code, code-half, edge_of-code, minus_row, Mev, taken_in, taken_of, Counters, CutEdge, cut_op}

pub second_edge : (X M : Model) → X ≡ M → (e : ℕ) (h : HalfEdge) → h ≡ half (minus e) → Has M.edges e → Has X.edges h.edge
second_edge X M x e h is there = subst (λ (Y : Model). Has Y.edges h.edge) (sym x) (subst (Has M.edges) (sym (sym (edge_of-code h) ∙ ap edge_of (ap code is ∙ code-half (minus e)) ∙ (minus_row e).0)) there)

pub same_cut : (X M : Model) → X ≡ M → (c : CutEdge) (t : Counters) → taken_of t ≡ taken_in M → (first second next edge : HalfEdge) → first ≡ half (plus c.edge) → second ≡ half (minus c.edge)
    → code next ≡ after X (code second) → edge ≡ half (plus (t.edges + 1)) → Mev (At first) (At next) edge (t.vertices + 1) c.point ≡ cut_op M c
same_cut X M x c t counted first second next edge is_first is_second is_next is_edge = grind (arith, half-code, code-half)
