-- The Euler operators of a split, in turn.
use Rattle.std.specs.Prelude.{ℕ, List, [], ◌∷◌, ◌++◌, filter, flat_map}
use Rattle.euler_operators.specs.Common.{Plane, Model}
use Rattle.euler_operators.specs.declared.Op.{Op}
use Rattle.euler_operators.specs.declared.Op.TheVariants.{Kfmrh, Part}
use Rattle.shapes.specs.Common.{faces_above, below_halves, section_cycles, Drawing, with_drawings, Caps, Opening, next_opened, outer_caps, opened_at, upper_left, split_drawn}
use Rattle.split_drawing_laws.specs.pairs.Laws.{rewriting_ops}
use Rattle.split_opening_laws.specs.opening.OpeningOps.{opening_ops}

-- solid s opened along some cycles, in their order
abbrev pub openings_ops : List ℕ → ℕ → Plane → Opening → List (List ℕ) → List Op
openings_ops above s p o [] = []
openings_ops above s p o (bs ∷ cs) = opening_ops o.model s o.taken bs ++ openings_ops above s p (next_opened p above s o bs) cs

-- the caps of each hole become rings of the caps o
abbrev pub closing_ops : Caps → List Caps → List Op
closing_ops o ks = flat_map (λ k. Kfmrh o.lower k.lower ∷ Kfmrh o.upper k.upper ∷ []) ks

abbrev pub hole_ops : List Caps → List Op
hole_ops ks = closing_ops (outer_caps ks) (filter (λ k. k.hole) ks)

-- the operators that close the holes, and then the one that parts the upper faces that are left from solid s as solid t
abbrev pub upper_ops : Opening → List ℕ → ℕ → ℕ → List Op
upper_ops o above s t = hole_ops o.caps ++ Part s t (upper_left above o.caps) ∷ []

-- the operators that follow the drawing: the openings, then the parting of the upper faces
abbrev pub later_ops : Drawing → List ℕ → ℕ → Plane → ℕ → List Op
later_ops d above s p t =
    openings_ops above s p (record { model = d.model; taken = d.taken; caps = [] }) (section_cycles d.model (below_halves d.model above s))
    ++ upper_ops (opened_at d above s p) above s t

-- what is made of a drawing along the section between the faces above and the others, and the operators that make it
abbrev pub split_above : Drawing → ℕ → Plane → ℕ → Model
split_above d s p t = split_drawn d (faces_above d.model p s) s p t

abbrev pub ops_above : Drawing → ℕ → Plane → ℕ → List Op
ops_above d s p t = later_ops d (faces_above d.model p s) s p t

-- all operators of a split: they cut edges, draw faces, open the solid along its section, and part what is above
unfoldable pub split_ops : Model → ℕ → Plane → ℕ → List Op
split_ops M s p t = rewriting_ops M s p ++ ops_above (with_drawings M s p) s p t
