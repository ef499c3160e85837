-- What a plane meets, summed up by a walk over the corners of a solid.
use Rattle.std.specs.Prelude.{◌≡◌, ℕ, false, cond, ◌||◌, List, [], ◌∷◌, ◌++◌, map, filter, length}
use Rattle.std.specs.List.{list_any}
use Rattle.euler_operators.specs.Common.{Plane, Sign, Below, Above, code, Model, tail, faces_of}
use Rattle.shapes.specs.Common.{boundary, is_place, places, is_touched, is_cut_often, reaches_above, reaches_below, straddles, straddling_faces, crossing_edges}
use Rattle.split_checks.specs.cut_places.Crossings.{crossings_in, crossings_met}
use Rattle.split_checks.specs.cut_places.Places.{some_touch}
use Rattle.split_checks.specs.cut_places.Sides.{same_sign, some_lie}
use Rattle.split_checks.specs.declared.cut_places.found.Looked.{Looked}
use Rattle.split_checks.specs.declared.cut_places.found.FaceMet.{FaceMet}
use Rattle.split_checks.specs.declared.cut_places.found.Met.{Met}

-- what was found, once a corner lies on this side
abbrev pub with_side : Looked → Sign → Looked
with_side o side = record o { above = same_sign side Above || o.above; below = same_sign side Below || o.below }

-- the half-edges hs, and the vertices vs of corners, were looked at
pub record IsMet (M : Model) (p : Plane) (old new : Looked) (hs vs : List ℕ) : Type 0 where
  pub above : new.above ≡ old.above || some_lie Above M p vs
  pub below : new.below ≡ old.below || some_lie Below M p vs
  pub touched : new.touched ≡ old.touched || some_touch M p hs
  pub edges : new.edges.items ≡ old.edges.items ++ crossings_in M p hs
  pub places : map code new.places.items ≡ map code old.places.items ++ filter (is_place M p) hs

-- half-edges were looked at, and the vertices at which they start
abbrev pub IsRound : Model → Plane → Looked → Looked → List ℕ → Type 0
IsRound M p old new hs = IsMet M p old new hs (map (tail M) hs)

-- what was found, with the marks of a face cleared before the next one
abbrev pub unmarked : Looked → Looked
unmarked o = record o { above = false; below = false; touched = false }

-- what is found of a face that straddles the plane
abbrev pub face_met : Model → Plane → ℕ → FaceMet
face_met M p f = record { face = f; touched = is_touched M p f; often = is_cut_often M p f; places = length (places M p f) }

-- face f was looked at
pub record IsFaceMet (M : Model) (p : Plane) (old new : Met) (f : ℕ) : Type 0 where
  pub above : new.above ≡ old.above || reaches_above M p f
  pub below : new.below ≡ old.below || reaches_below M p f
  pub edges : new.looked.edges.items ≡ old.looked.edges.items ++ crossings_in M p (boundary M f)
  pub faces : new.faces.items ≡ old.faces.items ++ cond (straddles M p f) (face_met M p f ∷ []) []
  pub places : map code new.looked.places.items ≡ map code old.looked.places.items ++ cond (straddles M p f) (places M p f) []

-- the cut places of some faces
abbrev pub all_places : Model → Plane → List ℕ → List ℕ
all_places M p [] = []
all_places M p (f ∷ fs) = places M p f ++ all_places M p fs

-- some faces were looked at
pub record IsMeeting (M : Model) (p : Plane) (fs : List ℕ) (met : Met) : Type 0 where
  pub above : met.above ≡ list_any (reaches_above M p) fs
  pub below : met.below ≡ list_any (reaches_below M p) fs
  pub edges : met.looked.edges.items ≡ crossings_met M p fs
  pub faces : met.faces.items ≡ map (face_met M p) (filter (straddles M p) fs)
  pub places : map code met.looked.places.items ≡ all_places M p (filter (straddles M p) fs)

-- a solid was looked at, and the edges that cross the plane are sorted, rising
pub record IsSolidMet (M : Model) (p : Plane) (s : ℕ) (met : Met) : Type 0 where
  pub above : met.above ≡ list_any (reaches_above M p) (faces_of M s)
  pub below : met.below ≡ list_any (reaches_below M p) (faces_of M s)
  pub edges : met.looked.edges.items ≡ crossing_edges M p s
  pub faces : met.faces.items ≡ map (face_met M p) (straddling_faces M p s)
  pub places : map code met.looked.places.items ≡ all_places M p (straddling_faces M p s)

abbrev pub faces_in : List FaceMet → List ℕ
faces_in qs = map (λ q. q.face) qs

-- what was found of some faces, and their cut places
pub record AreTold (M : Model) (p : Plane) (qs : List FaceMet) (hs : List ℕ) : Type 0 where
  pub told : qs ≡ map (face_met M p) (faces_in qs)
  pub places : hs ≡ all_places M p (faces_in qs)
