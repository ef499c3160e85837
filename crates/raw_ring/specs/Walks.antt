-- What a contract sees of a walk round a ring: the pool, and the live code that the walk has reached.
use Rattle.std.specs.Prelude.{◌≡◌, ℕ, true, List, Some, refl}
use Rattle.std.specs.Coded.{Coded, code_by, coded×, coded_ℕ}
use denote.RawPtr.{Ptr}
use Rattle.raw_cells.specs.Rows.{row_at}
use Rattle.raw_ring.specs.declared.row.Row.{Row}
use Rattle.raw_ring.specs.Cells.{Cell}
use Rattle.raw_ring.specs.Rings.{RingMap, ring_map_code}
use Rattle.raw_ring.specs.Tied.{Rows, IsTied, ring_map, code_of}

pub record Place : Type 0 where
  pub rings : RingMap
  pub code : ℕ

-- a place is stored as the pair of its fields
abbrev pub place_code : Coded Place
place_code = code_by (RingMap × ℕ) (coded× ring_map_code coded_ℕ) (λ p. (p.rings, p.code)) (λ p. record { rings = p.0; code = p.1 }) (λ _. refl)

abbrev pub place_of : Rows → List Cell → Ptr → Place
place_of rows cs p = record { rings = ring_map rows cs; code = code_of cs (Some p) }

-- the pool is whole, and the node at p is that of a live code
pub record IsPlace (rows : Rows) (cs : List Cell) (p : Ptr) : Type 0 where
  pub tied : IsTied rows cs
  pub there : (c : ℕ) × (r : Row) × (row_at rows c ≡ Some r) × (r.live ≡ true) × (r.at.ptr ≡ p)
