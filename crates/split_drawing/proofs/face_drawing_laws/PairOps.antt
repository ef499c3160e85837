-- Operators on pairs as the code writes them.
use Rattle.split_drawing.proofs.Prelude.{◌≡◌, ℕ, ◌+◌, true, false, cond, sym, ap, ◌∙◌, At, code, half, plus, Model, loop_of, is_ring_of, face_at, half-code, Mef, Mekr, Pair, Counters, codes, taken_of, join_edge, join_pair, draw_pair}
use Rattle.solid_walks.proofs.face_walks_laws.HalfCodes.{code_plus}

made : (e : ℕ) → record { edge = e; first = true } ≡ half (plus e)
made e = sym (half-code (record { edge = e; first = true })) ∙ ap half (code_plus e)

module _ (M : Model) (q : Pair) (e : ℕ) where
  pub back_op : is_ring_of M (face_at M (code q.up)) (loop_of M (code q.up)) ≡ true → Mekr (At q.down) (At q.up) (record { edge = e; first = true }) ≡ join_pair M (codes q) e
  back_op r = (λ i. Mekr (At (sym (half-code q.down) i)) (At (sym (half-code q.up) i)) (made e i))
      ∙ sym (ap (λ b. cond b (join_edge (code q.down) (code q.up) e) (join_edge (code q.up) (code q.down) e)) r)

  pub on_op : is_ring_of M (face_at M (code q.up)) (loop_of M (code q.up)) ≡ false → Mekr (At q.up) (At q.down) (record { edge = e; first = true }) ≡ join_pair M (codes q) e
  on_op r = (λ i. Mekr (At (sym (half-code q.up) i)) (At (sym (half-code q.down) i)) (made e i))
      ∙ sym (ap (λ b. cond b (join_edge (code q.down) (code q.up) e) (join_edge (code q.up) (code q.down) e)) r)

pub draw_op : (c : Counters) (q : Pair) → Mef q.up q.down (record { edge = c.edges + 1; first = true }) (c.faces + 1) (c.loops + 1) ≡ draw_pair (taken_of c) (codes q)
draw_op c q = λ i. Mef (sym (half-code q.up) i) (sym (half-code q.down) i) (made (c.edges + 1) i) (c.faces + 1) (c.loops + 1)
