-- The listing of a model.
use Rattle.std.specs.Prelude.{ℕ, List, [], ◌∷◌, map, codes, decimal, cond, flat_map}
use Rattle.std.specs.Fmt.{signed_decimal}
use Rattle.euler_operators.specs.Common.{Point, Kind, Solid, Face, Loop, Edge, Vertex, plus, minus, edge_of, is_first, numbers, Model, LoopContent, lone, cycle, solid_of, outer, rings_of, content, tail, point_of}
use Rattle.solid_listing.specs.Lines.{text_of}

-- a half-edge is a sign, 43 for plus and 45 for minus, and the number of its edge
abbrev pub half_word : ℕ → List ℕ
half_word h = cond (is_first h) 43 45 ∷ decimal (edge_of h)

-- what a loop holds: one vertex, or half-edges from the least on
abbrev pub content_words : LoopContent → List (List ℕ)
content_words (lone v) = codes "at" ∷ decimal v ∷ []
content_words (cycle hs) = map half_word hs

abbrev pub point_words : Point → List (List ℕ)
point_words p = signed_decimal p.x ∷ signed_decimal p.y ∷ signed_decimal p.z ∷ []

-- the line of one thing: a face has its solid, its outer loop and its rings, an edge the vertices at which its half-edges start
abbrev pub line : Model → Kind → ℕ → List (List ℕ)
line M Solid s = codes "solid" ∷ decimal s ∷ []
line M Face f = codes "face" ∷ decimal f ∷ decimal (solid_of M f) ∷ decimal (outer M f) ∷ map decimal (rings_of M f)
line M Loop l = codes "loop" ∷ decimal l ∷ content_words (content M l)
line M Edge e = codes "edge" ∷ decimal e ∷ decimal (tail M (plus e)) ∷ decimal (tail M (minus e)) ∷ []
line M Vertex v = codes "vertex" ∷ decimal v ∷ point_words (point_of M v)

-- the numbers of a kind that are in use, rising
abbrev pub numbers_of : Model → Kind → List ℕ
numbers_of M Solid = numbers M.solids
numbers_of M Face = numbers M.faces
numbers_of M Loop = numbers M.loops
numbers_of M Edge = numbers M.edges
numbers_of M Vertex = numbers M.vertices

-- a line for each thing of a kind
abbrev pub kind_lines : Model → Kind → List (List (List ℕ))
kind_lines M kind = map (line M kind) (numbers_of M kind)

abbrev pub kinds : List Kind
kinds = Solid ∷ Face ∷ Loop ∷ Edge ∷ Vertex ∷ []

-- a line for each thing, kind after kind
unfoldable pub lines : Model → List (List (List ℕ))
lines M = flat_map (kind_lines M) kinds

-- the empty model has a line of its own
abbrev pub or_empty : List (List (List ℕ)) → List (List (List ℕ))
or_empty [] = (codes "empty" ∷ []) ∷ []
or_empty (l ∷ ls) = l ∷ ls

-- the text of a model
unfoldable pub listing : Model → List ℕ
listing M = text_of (or_empty (lines M))
