-- The caps of the cycles along which a solid is opened.
use Rattle.std.specs.Prelude.{◌≡◌, ℕ, true, List, [], ◌∷◌, ◌++◌, flat_map}
use Rattle.euler_operators.specs.Common.{Model, face_of, solid_of, outer, Has, strictly_rises}
use Rattle.shapes.specs.Common.{Caps, Opening}
use Rattle.split_opening_laws.specs.sections.InTurn.{upper_faces}

-- f is a face of solid s without rings
pub record IsPlain (M : Model) (s f : ℕ) : Type 0 where
  pub there : Has M.faces f
  pub of_solid : solid_of M f ≡ s
  pub no_ring : (l : ℕ) → Has M.loops l → face_of M l ≡ f → l ≡ outer M f

-- each cap is such a face
abbrev pub ArePlain : Model → ℕ → List Caps → Type 0
ArePlain M s [] = Unit {0}
ArePlain M s (k ∷ ks) = IsPlain M s k.lower × IsPlain M s k.upper × ArePlain M s ks

-- the two caps of each cycle in turn
abbrev pub cap_faces : List Caps → List ℕ
cap_faces ks = flat_map (λ k. k.lower ∷ k.upper ∷ []) ks

-- the caps have no rings, and they rise after the faces above
pub record HasCaps (above : List ℕ) (s : ℕ) (o : Opening) : Type 0 where
  pub plain : ArePlain o.model s o.caps
  pub all_rise : strictly_rises (above ++ cap_faces o.caps) ≡ true
  pub upper_rise : strictly_rises (upper_faces above o.caps) ≡ true
