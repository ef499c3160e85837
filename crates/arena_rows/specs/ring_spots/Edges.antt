-- The edges in use, as numbers.
use Rattle.std.specs.Prelude.{◌≡◌, ℕ, ◌/◌, ◌<◌, ◌≤◌, true, List, length}
use Rattle.std.specs.FinMap.{contains_key}
use Rattle.raw_ring.specs.Rings.{RingMap, spot}
use Rattle.boundary_model.specs.HalfEdge.{plus}
use Rattle.raw_cells.specs.Numbers.{uses}
use Rattle.arena_rows.specs.declared.ring_spots.labels.Labels.{Labels}
use Rattle.arena_rows.specs.ring_spots.Last.{is_edge}
use Rattle.arena_rows.specs.ring_spots.Labels.{map_in_loops, AreLabelled}

-- the live edges are those in use, and each edge that has a node has room for its number
pub record AreEdges (m : RingMap) (words : List ℕ) : Type 0 where
  pub live : (e : ℕ) → uses words e ≡ is_edge (spot m) e
  pub room : (e : ℕ) → e ≤ 1000000 → contains_key m (plus e) ≡ true → e / 64 < length words

-- the nodes have their labels, and the edges their numbers
pub record AreEdgeRings (m : RingMap) (labels : Labels) (words : List ℕ) : Type 0 where
  pub labelled : AreLabelled (spot m) (contains_key m) labels
  pub edges : AreEdges (map_in_loops labels.loops.items m) words
