-- The tables of edges and of loose rings that the nodes stand for, and the edges that have their room.
use Rattle.std.specs.Prelude.{ℕ, Bool, cond, ◌&&◌, nat_eq, nat_lt, List, Option, Some, None}
use Rattle.raw_ring.specs.Rings.{Spot}
use Rattle.boundary_model.specs.Items.{head_or}
use Rattle.boundary_model.specs.HalfEdge.{plus, minus}
use Rattle.boundary_model.specs.Model.{EdgeRow}
use Rattle.arena_rows.specs.ring_spots.Spots.{Spots, live, label, ring}

abbrev pub both_tails : Option Spot → Option Spot → Option EdgeRow
both_tails (Some s) (Some t) = Some (record { plus_tail = s.tail; minus_tail = t.tail })
both_tails (Some s) None = None
both_tails None o = None

-- the row of an edge whose two codes are live
abbrev pub edge_row : Spots → ℕ → Option EdgeRow
edge_row sp e = both_tails (sp (plus e)) (sp (minus e))

-- the ring of a code, if the code is its least item and stands in no loop
abbrev pub loose_row : Spots → ℕ → Option (List ℕ)
loose_row sp k = cond (live sp k && (nat_eq (label sp k) 0 && nat_eq (head_or 0 (ring sp k)) k)) (Some (ring sp k)) None

abbrev pub edge_room : (ℕ → Bool) → ℕ → Option (Unit {0})
edge_room known e = cond (nat_lt 0 e && (known (plus e) && known (minus e))) (Some tt) None
