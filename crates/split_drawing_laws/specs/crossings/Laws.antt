-- The laws of the first rewriting of a split, over every sound model in which the first conditions hold.
use Rattle.std.specs.Prelude.{◌≡◌, ℕ, true, false, [], None}
use Rattle.euler_operators.specs.Common.{Plane, plus, minus, Model, tail, Sound, Has, first_refusal, lists}
use Rattle.euler_laws.specs.Laws.{AreAccepted, effects}
use Rattle.shapes.specs.Common.{taken_in, crossing_edges, straddling_faces, places, with_crossings, first_conditions}
use Rattle.split_drawing_laws.specs.crossings.CrossingOps.{crossing_ops}
use Rattle.split_drawing_laws.specs.crossings.Kept.{Kept}
use Rattle.split_drawing_laws.specs.crossings.AtPlace.{AtPlace}

-- the conditions that are tested before anything is changed hold
abbrev pub CanBegin : Model → ℕ → Plane → ℕ → Type 0
CanBegin M s p t = first_refusal (first_conditions M s p t) ≡ None

-- each operator is accepted in its turn
abbrev pub CrossingsAreAccepted : Type 0
CrossingsAreAccepted = (M : Model) (s : ℕ) (p : Plane) (t : ℕ) → Sound M → CanBegin M s p t → AreAccepted M (crossing_ops M s p)

-- together they make the first rewriting
abbrev pub CrossingsAreMade : Type 0
CrossingsAreMade = (M : Model) (s : ℕ) (p : Plane) (t : ℕ) → Sound M → CanBegin M s p t → effects M (crossing_ops M s p) ≡ (with_crossings M s p).model

abbrev pub CrossingsAreSound : Type 0
CrossingsAreSound = (M : Model) (s : ℕ) (p : Plane) (t : ℕ) → Sound M → CanBegin M s p t → Sound (with_crossings M s p).model

-- the numbers taken are the greatest in use
abbrev pub CrossingsAreCounted : Type 0
CrossingsAreCounted = (M : Model) (s : ℕ) (p : Plane) (t : ℕ) → Sound M → CanBegin M s p t → (with_crossings M s p).taken ≡ taken_in (with_crossings M s p).model

-- solids, faces and rings stay; each old half-edge keeps its loop, and each old vertex its point
abbrev pub CrossingsKeep : Type 0
CrossingsKeep = (M : Model) (s : ℕ) (p : Plane) (t : ℕ) → Sound M → CanBegin M s p t → Kept M (with_crossings M s p).model

-- no edge of the solid crosses the plane any more
abbrev pub NoneCrosses : Type 0
NoneCrosses = (M : Model) (s : ℕ) (p : Plane) (t : ℕ) → Sound M → CanBegin M s p t → crossing_edges (with_crossings M s p).model p s ≡ []

-- at each cut place of a face that straddles, a half-edge starts at its point and in its loop; edges are drawn from there
abbrev pub PlacesStart : Type 0
PlacesStart = (M : Model) (s : ℕ) (p : Plane) (t : ℕ) → Sound M → CanBegin M s p t → (f h : ℕ) → lists (straddling_faces M p s) f ≡ true → lists (places M p f) h ≡ true → AtPlace M (with_crossings M s p).model p h

-- each old half-edge starts where it did, except for the plus halves of the edges that were cut
abbrev pub TailsStay : Type 0
TailsStay = (M : Model) (s : ℕ) (p : Plane) (t : ℕ) → Sound M → CanBegin M s p t → (e : ℕ) → Has M.edges e →
    (tail (with_crossings M s p).model (minus e) ≡ tail M (minus e)) × (lists (crossing_edges M p s) e ≡ false → tail (with_crossings M s p).model (plus e) ≡ tail M (plus e))
