-- The Euler operators of which a glue is made.
use Rattle.std.specs.Prelude.{ℕ, ◌+◌, List, [], ◌∷◌, ◌++◌}
use Rattle.euler_operators.specs.Common.{head_or, last_or, At, mate, half, plus, minus, Model, outer, solid_of}
use Rattle.euler_operators.specs.declared.Op.{Op}
use Rattle.euler_operators.specs.declared.Op.TheVariants.{Kev, Mef, Kef, Mekr, Kfmrh, Merge}
use Rattle.shapes.specs.Fresh.{taken_in}
use Rattle.shapes.specs.glue.Glue.{rim, partner}

-- the one fresh edge
abbrev pub fresh_edge : Model → ℕ
fresh_edge M = (taken_in M).edge + 1

-- the two loops become one, in which the partner of the last item stands before the first item
abbrev pub opening : Model → ℕ → ℕ → ℕ → ℕ → ℕ → List Op
opening M f g h k x = Merge (solid_of M f) (solid_of M g) ∷ Kfmrh f g ∷ Mekr (At (half h)) (At (half k)) (half (plus x)) ∷ Kev (half (plus x)) ∷ []

-- for item k and its next item h: both get a loop of their own, their ends become one vertex, and k's edge is removed
abbrev pub closing : ℕ → ℕ → ℕ → ℕ → ℕ → List Op
closing k h x g r = Mef (half k) (half h) (half (plus x)) g r ∷ Kev (half (minus x)) ∷ Kef (half (mate k)) ∷ []

-- the items are glued one after the other; for the last one only its edge is removed
abbrev pub closings : (ℕ → ℕ) → ℕ → ℕ → ℕ → List ℕ → List Op
closings partner_of x g r [] = []
closings partner_of x g r (h ∷ []) = Kef (half (mate (partner_of h))) ∷ []
closings partner_of x g r (h ∷ k ∷ hs) = closing (partner_of h) k x g r ++ closings partner_of x g r (k ∷ hs)

-- the glue of face g to face f
unfoldable pub glue_ops : Model → ℕ → ℕ → List Op
glue_ops M f g = let hs = rim M f in let partner_of = partner M (rim M g) in
    opening M f g (head_or 0 hs) (partner_of (last_or 0 hs)) (fresh_edge M) ++ closings partner_of (fresh_edge M) g (outer M g) hs
