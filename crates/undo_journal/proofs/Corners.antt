-- Operators are equal if their corners are.
use Rattle.undo_journal.proofs.Prelude.{◌≡◌, ℕ}
use Rattle.euler_operators.specs.Common.{Corner, HalfEdge, Point}
use Rattle.euler_operators.specs.declared.Op.TheVariants.{Mev, Mekr}

pub same_mev : {a b c d : Corner} (h : HalfEdge) (v : ℕ) (p : Point) → a ≡ c → b ≡ d → Mev a b h v p ≡ Mev c d h v p
same_mev h v p e f = λ t. Mev (e t) (f t) h v p

pub same_mekr : {a b c d : Corner} (h : HalfEdge) → a ≡ c → b ≡ d → Mekr a b h ≡ Mekr c d h
same_mekr h e f = λ t. Mekr (e t) (f t) h
