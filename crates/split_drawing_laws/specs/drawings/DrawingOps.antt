-- The Euler operators by which edges are drawn in the faces that straddle a plane.
use Rattle.std.specs.Prelude.{ℕ, ◌+◌, cond, nat_eq, List, [], ◌∷◌, ◌++◌, length}
use Rattle.euler_operators.specs.Common.{Plane}
use Rattle.euler_operators.specs.declared.Op.{Op}
use Rattle.euler_operators.specs.declared.Op.TheVariants.{RingIn}
use Rattle.shapes.specs.Common.{Growing, Drawing, in_one_loop, join_pair, join_next, all_joined, ring_free, draw_pair, draw_next, all_drawn, rings_above, FacePairs, next_drawn, undrawn}

-- the operators of the first pass over some pairs
abbrev pub join_ops : Drawing → List (ℕ × ℕ) → List Op
join_ops d [] = []
join_ops d (q ∷ qs) = cond (in_one_loop d.model q) [] (join_pair d.model q (d.taken.edge + 1) ∷ []) ++ join_ops (join_next d q) qs

-- the operators of the second pass over the pairs that are left
abbrev pub draw_ops : ℕ → Drawing → List (ℕ × ℕ) → List Op
draw_ops f d [] = []
draw_ops f d (q ∷ qs) = cond (in_one_loop d.model q) (draw_pair d.taken q ∷ []) [] ++ draw_ops f (draw_next f d q) qs

-- the operators that give some rings to face k
abbrev pub ring_ops : List ℕ → ℕ → List Op
ring_ops [] k = []
ring_ops (l ∷ ls) k = RingIn l k ∷ ring_ops ls k

-- if there is only one pair, the operators that give the rings above to the new face
abbrev pub share_ops : Plane → ℕ → List (ℕ × ℕ) → Drawing → List Op
share_ops p f qs d = cond (nat_eq (length qs) 1) (ring_ops (rings_above d.model p f) d.taken.face) []

-- the operators that draw a face between its pairs, after those in different loops are joined
abbrev pub drawn_ops : Plane → ℕ → List (ℕ × ℕ) → Drawing → List Op
drawn_ops p f qs d = draw_ops f d d.left ++ share_ops p f qs (all_drawn f d)

-- the operators that draw one face
abbrev pub face_ops : Plane → ℕ → List (ℕ × ℕ) → Drawing → List Op
face_ops p f qs d = join_ops (record d { left = [] }) qs ++ drawn_ops p f qs (ring_free f qs (all_joined qs d))

-- the operators that draw some faces, in their order
abbrev pub ops_from : Plane → Drawing → List FacePairs → List Op
ops_from p d [] = []
ops_from p d (f ∷ fs) = face_ops p f.face f.pairs d ++ ops_from p (next_drawn p d f) fs

-- the operators that make what faces_drawn makes
unfoldable pub drawing_ops : Plane → Growing → List FacePairs → List Op
drawing_ops p g fs = ops_from p (undrawn g) fs
