-- What a plane cuts of a solid, in the types of the code.
use Rattle.std.specs.Prelude.{◌≡◌, ℕ, ◌+◌, List, [], ◌∷◌, ◌++◌, map, length, take, drop}
use Rattle.euler_operators.specs.Common.{Plane, code, plus, cut_between, Model}
use Rattle.shapes.specs.Common.{start, finish, place_pairs, crossing_edges, straddling_faces, FacePairs}
use Rattle.split_checks.specs.declared.cuts.CutEdge.{CutEdge}
use Rattle.split_checks.specs.declared.cuts.Pair.{Pair}
use Rattle.split_checks.specs.declared.cuts.PairedFace.{PairedFace}
use Rattle.split_checks.specs.declared.cuts.Cuts.{Cuts}

-- an edge, and the point at which it meets the plane
abbrev pub cut_at : Model → Plane → ℕ → CutEdge
cut_at M p e = record { edge = e; point = cut_between p (start M (plus e)) (finish M (plus e)) }

abbrev pub codes : Pair → ℕ × ℕ
codes q = (code q.up, code q.down)

-- a face, and how many pairs its cut places make
abbrev pub paired_face : Model → Plane → ℕ → PairedFace
paired_face M p f = record { face = f; pairs = length (place_pairs M p f) }

-- the pairs of the cut places of some faces, one face after the other
abbrev pub all_pairs : Model → Plane → List ℕ → List (ℕ × ℕ)
all_pairs M p [] = []
all_pairs M p (f ∷ fs) = place_pairs M p f ++ all_pairs M p fs

-- how many pairs some faces have
abbrev pub how_many_pairs : List PairedFace → ℕ
how_many_pairs [] = 0
how_many_pairs (f ∷ fs) = f.pairs + how_many_pairs fs

-- some faces with their pairs: the first face takes as many pairs as it has, and the others share the rest
abbrev pub paired : List PairedFace → List (ℕ × ℕ) → List FacePairs
paired [] qs = []
paired (f ∷ fs) qs = record { face = f.face; pairs = take f.pairs qs } ∷ paired fs (drop f.pairs qs)

-- the cuts are exactly what the plane cuts of solid s
pub record AreCuts (M : Model) (p : Plane) (s : ℕ) (cuts : Cuts) : Type 0 where
  pub edges : cuts.edges.items ≡ map (cut_at M p) (crossing_edges M p s)
  pub faces : cuts.faces.items ≡ map (paired_face M p) (straddling_faces M p s)
  pub pairs : map codes cuts.pairs.items ≡ all_pairs M p (straddling_faces M p s)
