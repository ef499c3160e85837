-- Rings of a face given to a new one.
use Rattle.split_drawing.proofs.Prelude.{◌≡◌, ℕ, List, [], ◌∷◌, Some, refl, arith, Model, Has, effect, RingIn, effects, with_rings, ring_ops}
use Rattle.euler_conditions.specs.Store.{IsNextRing}

-- a ring that an arena finds is there
pub ring_there : (M : Model) (f n l : ℕ) → IsNextRing M f n (Some l) → Has M.loops l
ring_there M f n l next = grind arith

-- given one after the other
pub rings_given : (M : Model) (ls : List ℕ) (k : ℕ) → effects M (ring_ops ls k) ≡ with_rings M ls k
rings_given M [] k = refl
rings_given M (l ∷ ls) k = rings_given (effect M (RingIn l k)) ls k
