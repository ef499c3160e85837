-- What the below halves of a section are, and the cycles that they form.
use Rattle.std.specs.Prelude.{◌≡◌, ◌≢◌, ◌⊎◌, ℕ, ◌≤◌, ◌<◌, true, false, List, [], ◌∷◌, map, flat_map, length, get_or, None}
use Rattle.euler_operators.specs.Common.{IsIn, IsApart, mate, Model, tail, solid_of, HasHalf, face_at, lists}
use Rattle.shapes.specs.Common.{next_place, section_ends, least_branched}

-- each of these faces belongs to solid s
abbrev pub AreOf : Model → List ℕ → ℕ → Type 0
AreOf M above s = (f : ℕ) → lists above f ≡ true → solid_of M f ≡ s

-- b is a half of an edge of solid s; its face is not above, and its mate's face is
pub record IsBelowHalf (M : Model) (above : List ℕ) (s b : ℕ) : Type 0 where
  pub there : HasHalf M b
  pub of_solid : solid_of M (face_at M b) ≡ s
  pub below : lists above (face_at M b) ≡ false
  pub mate_above : lists above (face_at M (mate b)) ≡ true

-- no vertex is an end of more than two section edges
abbrev pub IsUnbranched : Model → List ℕ → Type 0
IsUnbranched M bs = least_branched M (section_ends M bs) ≡ None

-- some below halves that lead once round: each ends where the next one starts, and the last ends where the first starts
pub record IsSectionCycle (M : Model) (above : List ℕ) (s : ℕ) (bs : List ℕ) : Type 0 where
  pub two_halves : 2 ≤ length bs
  pub halves : (b : ℕ) → IsIn b bs → IsBelowHalf M above s b
  pub meet : (i : ℕ) → i < length bs → tail M (get_or bs (next_place (length bs) i) 0) ≡ tail M (mate (get_or bs i 0))
  -- no two start at one vertex
  pub starts_apart : IsApart (map (tail M) bs)
  -- at a vertex of the cycle no other edge lies between a face above and one that isn't
  pub no_branch : (h b : ℕ) → HasHalf M h → IsIn b bs → tail M h ≡ tail M b → lists above (face_at M h) ≢ lists above (face_at M (mate h)) → IsIn h bs ⊎ IsIn (mate h) bs

-- each of these lists is such a cycle
abbrev pub AreSectionCycles : Model → List ℕ → ℕ → List (List ℕ) → Type 0
AreSectionCycles M above s [] = Unit {0}
AreSectionCycles M above s (bs ∷ cs) = IsSectionCycle M above s bs × AreSectionCycles M above s cs

-- cycles along which a solid can be opened one after the other: no two of their halves start at one vertex
pub record AreApartCycles (M : Model) (above : List ℕ) (s : ℕ) (cs : List (List ℕ)) : Type 0 where
  pub cycles : AreSectionCycles M above s cs
  pub starts_apart : IsApart (map (tail M) (flat_map (λ bs. bs) cs))
