-- The loops of a face: its outer loop and its rings.
use Rattle.euler_laws.proofs.Prelude.{◌≡◌, ℕ, true, not, nat_eq, ◌&&◌, ◌⊎◌, arith, eqb-true, and_parts, Model, face_of, outer, is_ring_of, Has}
use Rattle.euler_operators.specs.Table as table

pub ring_there : (M : Model) (f l : ℕ) → is_ring_of M f l ≡ true → Has M.loops l × (face_of M l ≡ f)
ring_there M f l e = let p = and_parts (table.has M.loops l && nat_eq (face_of M l) f) (not (nat_eq (outer M f) l)) e in let q = and_parts (table.has M.loops l) (nat_eq (face_of M l) f) p.0 in (q.0, eqb-true (face_of M l) f q.1)

pub outer_or_ring : (M : Model) (f l : ℕ) → Has M.loops l → face_of M l ≡ f → (outer M f ≡ l) ⊎ (is_ring_of M f l ≡ true)
outer_or_ring M f l t e = grind arith
