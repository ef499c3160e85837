-- Half-edges with the vertices at which they start.
use Rattle.std.specs.Prelude.{◌≡◌, ℕ, ◌<◌, List, map, length, slice_index_or}
use Rattle.std.specs.List.Sorted.{IsNonDecreasingBy}
use Rattle.euler_operators.specs.Common.{IsApart, SameItems, count, HalfEdge, code, mate, Model, tail}
use Rattle.split_sections.specs.declared.section_cycles.starts.Start.{Start}

-- a half-edge with the vertex at which it starts
abbrev pub start_at : Model → HalfEdge → Start
start_at M h = record { vertex = tail M (code h); half = h }

-- the half-edges of some starts, and their vertices
abbrev pub starting : List Start → List ℕ
starting starts = map (λ s. code s.half) starts

abbrev pub start_vertices : List Start → List ℕ
start_vertices starts = map (λ s. s.vertex) starts

-- each of these half-edges stands there with the vertex at which it starts, by rising vertex, and no two of them start at one vertex
pub record AreStarts (M : Model) (hs : List ℕ) (starts : List Start) : Type 0 where
  pub halves : SameItems (starting starts) hs
  pub tails : start_vertices starts ≡ map (tail M) (starting starts)
  pub rising : IsNonDecreasingBy (λ s. s.vertex) starts
  pub apart : IsApart (start_vertices starts)

-- the start at this place is at that vertex
abbrev pub IsPlaceOf : List Start → ℕ → ℕ → Type 0
IsPlaceOf starts v i = (i < length starts) × ((d : Start) → (slice_index_or starts i d).vertex ≡ v)

-- as many of these half-edges start at each vertex as end there
abbrev pub AreBalanced : Model → List ℕ → Type 0
AreBalanced M hs = (v : ℕ) → count v (map (tail M) hs) ≡ count v (map (λ h. tail M (mate h)) hs)
