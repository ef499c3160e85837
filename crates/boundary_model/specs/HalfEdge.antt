-- Half-edges, and the code of each: its place in the order of listings, which is by edge number, and plus before minus.
-- Lists of half-edges are lists of codes.
use Rattle.std.specs.Prelude.{ℕ, ◌/◌, ◌%◌, cond, nat_eq}
use Rattle.boundary_model.specs.declared.HalfEdge.{HalfEdge}
pub use Rattle.cyclic_list.specs.Halves.{plus, minus}
unfoldable pub use Rattle.cyclic_list.specs.Halves.{edge_of, is_first, mate}

-- the code of a half-edge, and the half-edge of a code
unfoldable pub code : HalfEdge → ℕ
code h = cond h.first (plus h.edge) (minus h.edge)

unfoldable pub half : ℕ → HalfEdge
half n = record { edge = n / 2; first = nat_eq (n % 2) 0 }
