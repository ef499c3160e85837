-- What operators leave alone.
use Rattle.std.specs.Prelude.{◌≡◌, ℕ, false, List, [], ◌∷◌}
use Rattle.euler_operators.specs.Common.{code, Model, loop_of, solid_of, Sound, corner_loop, lists, effect}
use Rattle.euler_operators.specs.declared.Op.{Op}
use Rattle.euler_operators.specs.declared.Op.TheVariants.{Mvfs, Kvfs, Mev, Kev, Mef, Kef, Kemr, Mekr, Kfmrh, Mfkrh, RingIn, RingOut, Outer, Merge, Part}
use Rattle.euler_laws.specs.Laws.{AreAccepted, effects}
use Rattle.untouched_solids.specs.Alone.{StandsAs, solid_at}

-- the solids that an operator touches: those that it names, and those of the faces, loops and corners that it names
unfoldable pub touched : Model → Op → List ℕ
touched M (Mvfs s f l v p) = s ∷ []
touched M (Kvfs s) = s ∷ []
touched M (Mev c d h v p) = solid_at M (corner_loop M c) ∷ []
touched M (Kev h) = solid_at M (loop_of M (code h)) ∷ []
touched M (Mef g k h f l) = solid_at M (loop_of M (code g)) ∷ []
touched M (Kef h) = solid_at M (loop_of M (code h)) ∷ []
touched M (Kemr h l) = solid_at M (loop_of M (code h)) ∷ []
touched M (Mekr c d h) = solid_at M (corner_loop M c) ∷ []
touched M (Kfmrh f g) = solid_of M f ∷ []
touched M (Mfkrh l f) = solid_at M l ∷ []
touched M (RingIn l f) = solid_of M f ∷ []
touched M (RingOut l f) = solid_of M f ∷ []
touched M (Outer l f) = solid_of M f ∷ []
touched M (Merge s t) = s ∷ t ∷ []
touched M (Part s t fs) = s ∷ t ∷ []

-- none of some operators, each in the model before it, touches solid u
abbrev pub NoneTouches : Model → List Op → ℕ → Type 0
NoneTouches M [] u = Unit {0}
NoneTouches M (op ∷ ops) u = (lists (touched M op) u ≡ false) × NoneTouches (effect M op) ops u

-- a solid that none of the operators touches stands as it stood
abbrev pub UntouchedStay : Type 0
UntouchedStay = (M : Model) (ops : List Op) (u : ℕ) → Sound M → AreAccepted M ops → NoneTouches M ops u → StandsAs M (effects M ops) u
