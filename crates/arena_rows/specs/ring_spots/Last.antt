-- Edges that are live.
use Rattle.std.specs.Prelude.{ℕ, Bool, ◌&&◌, nat_le, is_some}
use Rattle.boundary_model.specs.HalfEdge.{plus}
use Rattle.arena_rows.specs.ring_spots.Spots.{Spots}

-- whether edge e is live
abbrev pub is_edge : Spots → ℕ → Bool
is_edge sp e = nat_le e 1000000 && is_some (sp (plus e))
