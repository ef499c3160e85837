-- What is asked of the faces that part takes.
use Rattle.std.specs.Prelude.{◌≡◌, ℕ, true, false, List, ◌∷◌, ◌++◌}
use Rattle.euler_operators.specs.Common.{IsIn, mate, Model, items_of, content, face_of, solid_of, Has, Condition, need, never, numbers_in_range, faces_known, faces_in, face_at, lists}
use Rattle.euler_operators.specs.Table as table
use Rattle.euler_operators.specs.declared.Why.TheVariants.{NoSolid, SolidTaken}

-- each listed face is there and belongs to the solid
abbrev pub AreFacesOf : Model → ℕ → List ℕ → Type 0
AreFacesOf M s fs = (f : ℕ) → lists fs f ≡ true → Has M.faces f × (solid_of M f ≡ s)

-- all conditions of part but the last
abbrev pub parts_known : Model → ℕ → ℕ → List ℕ → List Condition
parts_known M s t fs =
    numbers_in_range (s ∷ t ∷ fs) ++ (need (table.has M.solids s) NoSolid s ∷ never (table.has M.solids t) SolidTaken t ∷ faces_known M fs ++ faces_in M s fs)

-- some edge leads from the loop to a face that isn't listed, or none does
abbrev pub LeadsOut : Model → List ℕ → ℕ → Type 0
LeadsOut M fs l = (x : ℕ) × IsIn x (items_of (content M l)) × (lists fs (face_at M (mate x)) ≡ false)

abbrev pub StaysIn : Model → List ℕ → ℕ → Type 0
StaysIn M fs l = (x : ℕ) → IsIn x (items_of (content M l)) → lists fs (face_at M (mate x)) ≡ true

-- some loop of the face leads out, or none does
abbrev pub FaceLeadsOut : Model → List ℕ → ℕ → Type 0
FaceLeadsOut M fs f = (l : ℕ) × Has M.loops l × (face_of M l ≡ f) × LeadsOut M fs l

abbrev pub FaceStaysIn : Model → List ℕ → ℕ → Type 0
FaceStaysIn M fs f = (l : ℕ) → Has M.loops l → face_of M l ≡ f → StaysIn M fs l
