-- What is told of faces that were looked at.
use Rattle.split_checks.proofs.Prelude.{◌≡◌, ℕ, ◌≤◌, false, List, [], ◌∷◌, map, length, refl, sym, ap, ◌∙◌, arith, take, drop, take_at, drop_at, length-append, take-map, drop-map, length-map, Plane, HalfEdge, code, Model, first_such, places, straddling_faces, has_flaw, shows, face_met, faces_in, all_places, AreTold, IsSolidMet, Touched, CutOften, FaceMet, Met}
use Rattle.split_checks.specs.Common.{first_showing}
use Rattle.split_checks.specs.declared.begin_checks.flaws.Flaw.{Flaw}

-- what a slice has past its end
abbrev pub no_met : FaceMet
no_met = record { face = 0; touched = false; often = false; places = 0 }

module _ (M : Model) (p : Plane) where
  faces_told : (fs : List ℕ) → faces_in (map (face_met M p) fs) ≡ fs
  faces_told [] = refl
  faces_told (f ∷ fs) = ap (λ (gs : List ℕ). f ∷ gs) (faces_told fs)

  -- those of a solid
  module _ (s : ℕ) (met : Met) (is : IsSolidMet M p s met) where
    pub solid_faces : faces_in met.faces.items ≡ straddling_faces M p s
    solid_faces = ap faces_in is.faces ∙ faces_told (straddling_faces M p s)

    pub solid_told : (qs : List FaceMet) (hs : List ℕ) → qs ≡ met.faces.items → hs ≡ map code met.looked.places.items → AreTold M p qs hs
    solid_told qs hs e f = grind (arith, solid_faces)

  -- the first face with a flaw
  shown : (flaw : Flaw) (f : ℕ) → shows flaw (face_met M p f) ≡ has_flaw flaw M p f
  shown Touched f = refl
  shown CutOften f = refl

  first_of : (flaw : Flaw) (fs : List ℕ) → first_showing flaw (map (face_met M p) fs) ≡ first_such (has_flaw flaw M p) fs
  first_of flaw [] = refl
  first_of flaw (f ∷ fs) = grind (arith, shown, first_of flaw fs)

  pub first_flaw : (flaw : Flaw) (qs : List FaceMet) (hs : List ℕ) → AreTold M p qs hs → first_showing flaw qs ≡ first_such (has_flaw flaw M p) (faces_in qs)
  first_flaw flaw qs hs t = ap (first_showing flaw) t.told ∙ first_of flaw (faces_in qs)

  -- the first face takes its places, and leaves the others'
  module _ (q : FaceMet) (qs : List FaceMet) (hs : List HalfEdge) (t : AreTold M p (q ∷ qs) (map code hs)) where
    head_is : {A : Type 0} (x y : A) (xs ys : List A) → x ∷ xs ≡ y ∷ ys → x ≡ y
    head_is x y xs ys e = cc

    tail_is : {A : Type 0} (x y : A) (xs ys : List A) → x ∷ xs ≡ y ∷ ys → xs ≡ ys
    tail_is x y xs ys e = cc

    pub many : q.places ≡ length (places M p q.face)
    many = ap (λ (r : FaceMet). r.places) (head_is q (face_met M p q.face) qs (map (face_met M p) (faces_in qs)) t.told)

    pub enough : q.places ≤ length hs
    enough = omega (arith, many, length-map hs code, ap (λ (ks : List ℕ). length ks) t.places, length-append (places M p q.face) (all_places M p (faces_in qs)))

    pub mine : map code (take q.places hs) ≡ places M p q.face
    mine = sym (take-map code q.places hs) ∙ ap (take q.places) t.places ∙ take_at (places M p q.face) (all_places M p (faces_in qs)) q.places (sym many)

    pub more : AreTold M p qs (map code (drop q.places hs))
    more = record {
      told = tail_is q (face_met M p q.face) qs (map (face_met M p) (faces_in qs)) t.told;
      places = sym (drop-map code q.places hs) ∙ ap (drop q.places) t.places ∙ drop_at (places M p q.face) (all_places M p (faces_in qs)) q.places (sym many);
    }
