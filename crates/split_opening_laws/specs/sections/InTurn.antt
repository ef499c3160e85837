-- Solids that are opened along the cycles of a section, one after the other.
use Rattle.std.specs.Prelude.{◌≡◌, ℕ, true, false, List, ◌++◌, map, flat_map, length}
use Rattle.euler_operators.specs.Common.{IsIn, mate, Model, solid_of, Sound, Has, HasHalf, face_at, lists}
use Rattle.shapes.specs.Common.{AreFree, AreLeft, Caps, Opening}
use Rattle.split_opening_laws.specs.Numbers.{needed_for_openings}
use Rattle.split_opening_laws.specs.cycles.SectionCycles.{AreApartCycles}

-- the halves of some cycles, one cycle after the other
abbrev pub halves_in : List (List ℕ) → List ℕ
halves_in cs = flat_map (λ bs. bs) cs

-- the half-edges hs are those that lie in none of the faces fs while their mates lie in one of them
pub record AreBetween (M : Model) (fs hs : List ℕ) : Type 0 where
  pub below : (h : ℕ) → IsIn h hs → lists fs (face_at M h) ≡ false
  pub mates_above : (h : ℕ) → IsIn h hs → lists fs (face_at M (mate h)) ≡ true
  pub only : (h : ℕ) → HasHalf M h → lists fs (face_at M h) ≡ false → lists fs (face_at M (mate h)) ≡ true → IsIn h hs

-- the faces above and the caps above
abbrev pub upper_faces : List ℕ → List Caps → List ℕ
upper_faces above ks = above ++ map (λ k. k.upper) ks

-- solid s can be opened along some cycles in turn, and between the upper faces and the others there are exactly the halves of these cycles
pub record CanBeOpenedInTurn (above : List ℕ) (s : ℕ) (o : Opening) (cs : List (List ℕ)) : Type 0 where
  pub sound : Sound o.model
  pub free : AreFree o.model o.taken
  pub left : AreLeft o.taken (needed_for_openings (length (halves_in cs)) (length cs))
  pub cycles : AreApartCycles o.model above s cs
  -- the upper faces are faces of s
  pub upper_there : (f : ℕ) → lists (upper_faces above o.caps) f ≡ true → Has o.model.faces f
  pub upper_of_solid : (f : ℕ) → lists (upper_faces above o.caps) f ≡ true → solid_of o.model f ≡ s
  pub between : AreBetween o.model (upper_faces above o.caps) (halves_in cs)
