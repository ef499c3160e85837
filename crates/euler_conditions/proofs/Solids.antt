-- The only face of a solid.
use Rattle.euler_conditions.proofs.Prelude.{◌≡◌, ℕ, nat_eq, List, [], ◌∷◌, Some, is_some, ap, ◌∙◌, Model, faces_of, Has, lists, only_item, first_listed, listed_passes}

pub one_face : (fs : List ℕ) (f : ℕ) → only_item fs ≡ Some f → fs ≡ f ∷ []
one_face [] f e = cc
one_face (g ∷ []) f e = cc
one_face (g ∷ k ∷ fs) f e = cc

-- it is there
pub only_face_there : (M : Model) (s f : ℕ) → only_item (faces_of M s) ≡ Some f → Has M.faces f
only_face_there M s f e =
    let x = listed_passes (λ _ row. nat_eq row.solid s) M.faces f (ap (λ fs. lists fs f) (one_face (faces_of M s) f e) ∙ first_listed f []) in
    ap is_some x.1
