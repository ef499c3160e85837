-- The places at which a plane cuts the loops of a face, and their pairs.
use Rattle.std.specs.Prelude.{ℕ, ◌+◌, ◌/◌, Bool, false, cond, not, ◌&&◌, ◌||◌, nat_eq, List, [], ◌∷◌, map, length, filter}
use Rattle.std.specs.List.{list_any, list_all}
use Rattle.euler_operators.specs.Common.{Point, Plane, same_point, is_above, is_on, are_opposite, cut_between, lex_less, Model, items_of, content, outer, before, rings_of, differ}
use Rattle.shapes.specs.Faces.{boundary, start, finish}
use Rattle.shapes.specs.split.Sides.{crosses}

-- a cut place is named by a half-edge: one that crosses the plane, or one that starts on it between corners strictly on opposite sides
unfoldable pub is_place : Model → Plane → ℕ → Bool
is_place M p h = crosses M p h || (is_on p (start M h) && are_opposite p (start M (before M h)) (finish M h))

-- the point of a cut place
unfoldable pub place_point : Model → Plane → ℕ → Point
place_point M p h = cond (is_on p (start M h)) (start M h) (cut_between p (start M h) (finish M h))

-- a place is up if the loop goes from below to above there, else it is down
abbrev pub goes_up : Model → Plane → ℕ → Bool
goes_up M p h = is_above p (finish M h)

-- the cut places of a face, and whether one of its loops has any
unfoldable pub places : Model → Plane → ℕ → List ℕ
places M p f = filter (is_place M p) (boundary M f)

abbrev pub loop_is_cut : Model → Plane → ℕ → Bool
loop_is_cut M p l = list_any (is_place M p) (items_of (content M l))

-- a corner of the face lies on the plane and is no cut place
unfoldable pub is_touched : Model → Plane → ℕ → Bool
is_touched M p f = list_any (λ h. is_on p (start M h) && not (is_place M p h)) (boundary M f)

-- the outer loop has no cut place; or a ring has none, and the face doesn't have exactly two
unfoldable pub is_cut_often : Model → Plane → ℕ → Bool
is_cut_often M p f = not (loop_is_cut M p (outer M f))
    || (not (list_all (loop_is_cut M p) (rings_of M f)) && not (nat_eq (length (places M p f)) 2))

-- two of some places have equal points
abbrev pub some_meet : Model → Plane → List ℕ → Bool
some_meet M p [] = false
some_meet M p (h ∷ hs) = list_any (λ k. same_point (place_point M p h) (place_point M p k)) hs || some_meet M p hs

-- places sorted by x, then y, then z of their points
abbrev pub sorted_in : Model → Plane → ℕ → List ℕ → List ℕ
sorted_in M p h [] = h ∷ []
sorted_in M p h (k ∷ ks) = cond (lex_less (place_point M p k) (place_point M p h)) (k ∷ sorted_in M p h ks) (h ∷ k ∷ ks)

abbrev pub sorted : Model → Plane → List ℕ → List ℕ
sorted M p [] = []
sorted M p (h ∷ hs) = sorted_in M p h (sorted M p hs)

-- the first with the second, the third with the fourth and so on
abbrev pub in_pairs : List ℕ → List (ℕ × ℕ)
in_pairs [] = []
in_pairs (h ∷ []) = []
in_pairs (h ∷ k ∷ ks) = (h, k) ∷ in_pairs ks

-- the places of a face, sorted and paired
unfoldable pub sorted_pairs : Model → Plane → ℕ → List (ℕ × ℕ)
sorted_pairs M p f = in_pairs (sorted M p (places M p f))

-- one place of a pair is up and the other down
abbrev pub is_up_and_down : Model → Plane → ℕ × ℕ → Bool
is_up_and_down M p q = differ (goes_up M p q.0) (goes_up M p q.1)

-- two places have equal points, or a pair isn't one up and one down
unfoldable pub is_crossed : Model → Plane → ℕ → Bool
is_crossed M p f = some_meet M p (places M p f) || not (list_all (is_up_and_down M p) (sorted_pairs M p f))

-- the pairs of a face's cut places, each with its up place first
abbrev pub up_first : Model → Plane → ℕ × ℕ → ℕ × ℕ
up_first M p q = cond (goes_up M p q.0) q (q.1, q.0)

unfoldable pub place_pairs : Model → Plane → ℕ → List (ℕ × ℕ)
place_pairs M p f = map (up_first M p) (sorted_pairs M p f)

-- how many pairs some faces have
abbrev pub pair_count : Model → Plane → List ℕ → ℕ
pair_count M p [] = 0
pair_count M p (f ∷ fs) = length (places M p f) / 2 + pair_count M p fs
