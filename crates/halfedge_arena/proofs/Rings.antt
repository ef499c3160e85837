-- Faces without rings.
use Rattle.halfedge_arena.proofs.Prelude.{◌≡◌, ℕ, Bool, true, false, cond, not, nat_eq, ◌&&◌, List, [], ◌∷◌, length, Option, Some, None, is_some, unwrap_or, refl, sym, ap, arith, true≢false, get, Model, LoopRow, face_of, outer, is_ring_of, rings_of, no_loop}
use Rattle.boundary_model.proofs.Tables.{passes, count-all_where}
use Rattle.boundary_model.specs.Items.{count}

-- where a face's rings are none, no loop is one
pub no_ring : (M : Model) (f k : ℕ) → length (rings_of M f) ≡ 0 → is_ring_of M f k ≡ false
unfolding face_of
no_ring M f k none = refuted (is_ring_of M f k) refl where
  no_one : (ns : List ℕ) → length ns ≡ 0 → count k ns ≡ 0
  no_one [] e = refl
  no_one (n ∷ ns) e = absurd (omega (arith, e))

  passing : (o : Option LoopRow) → is_some o && nat_eq (unwrap_or o no_loop).face f && not (nat_eq (outer M f) k) ≡ true → passes (λ l (row : LoopRow). nat_eq row.face f && not (nat_eq (outer M f) l)) k o ≡ 1
  passing None h = absurd (true≢false (sym h))
  passing (Some row) h = ap {B = ℕ} (λ b. cond b 1 0) h

  refuted : (b : Bool) → is_ring_of M f k ≡ b → is_ring_of M f k ≡ false
  refuted false is = is
  refuted true is = absurd (omega (arith, no_one (rings_of M f) none, count-all_where (λ l (row : LoopRow). nat_eq row.face f && not (nat_eq (outer M f) l)) M.loops k, passing (get M.loops k) is))
