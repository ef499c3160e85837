-- What an arena's rings and rows stand for, and how they fit together.
use Rattle.arena_rows.specs.ring_spots.SpotTables.{edge_row, loose_row, edge_room}
use Rattle.std.specs.Prelude.{◌≡◌, ◌≢◌, ℕ, ◌-◌, ◌≤◌, Bool, true, List, [], length, Option, Some, None}
use Rattle.boundary_model.specs.declared.Point.{Point}
use Rattle.boundary_model.specs.Points.{IsInRange}
use Rattle.boundary_model.specs.Items.{IsIn}
use Rattle.arena_rows.specs.declared.rows.FaceCell.{FaceCell}
use Rattle.arena_rows.specs.declared.rows.LoopCell.{LoopCell}
use Rattle.arena_rows.specs.declared.rows.StoredContent.{StoredContent}
use Rattle.arena_rows.specs.declared.rows.StoredContent.TheVariants.{Empty, Lone, At}
use Rattle.boundary_model.specs.Table.{Table, tabulate}
use Rattle.boundary_model.specs.Model.{LoopContent, lone, cycle, FaceRow, LoopRow}
use Rattle.arena_rows.specs.Store.{Store}
use Rattle.arena_rows.specs.ring_spots.Spots.{Spots, codes, edges_end, live, label, ring, AreRings}
use Rattle.raw_cells.specs.Rows.{row_at}
use Rattle.raw_ring.specs.Rings.{RingMap, spot}
use Rattle.std.specs.FinMap.{contains_key}
use Rattle.arena_rows.specs.Rows.{table_of}
use Rattle.arena_rows.specs.owner_chains.Owners.{Owners}

abbrev pub solid_row : Bool → Unit {0}
solid_row b = tt

abbrev pub face_row : FaceCell → FaceRow
face_row cell = record { solid = cell.solid; outer = cell.outer }

abbrev pub stored_content : Spots → StoredContent → LoopContent
stored_content sp Empty = cycle []
stored_content sp (Lone v) = lone v
stored_content sp (At c) = cycle (ring sp c)

abbrev pub loop_row : Spots → LoopCell → LoopRow
loop_row sp cell = record { face = cell.face; content = stored_content sp cell.stored }

-- where each code stands, which codes have a node, and the rows by number
pub record ArenaRows : Type 0 where
  pub spots : Spots
  pub known : ℕ → Bool
  pub solids : List (Option Bool)
  pub faces : List (Option FaceCell)
  pub loops : List (Option LoopCell)
  pub vertices : List (Option Point)

abbrev pub arena_of : RingMap → List (Option Bool) → List (Option FaceCell) → List (Option LoopCell) → List (Option Point) → ArenaRows
arena_of rings solids faces loops vertices = record { spots = spot rings; known = contains_key rings; solids = solids; faces = faces; loops = loops; vertices = vertices }

abbrev pub store_of : ArenaRows → Store
store_of arena = record {
  model = record {
    solids = table_of solid_row arena.solids;
    faces = table_of face_row arena.faces;
    loops = table_of (loop_row arena.spots) arena.loops;
    edges = tabulate (edge_row arena.spots) codes;
    vertices = table_of (λ p. p) arena.vertices;
  };
  loose = tabulate (loose_row arena.spots) codes;
  room = record {
    solids = length arena.solids - 1;
    faces = length arena.faces - 1;
    loops = length arena.loops - 1;
    edges = tabulate (edge_room arena.known) edges_end;
    vertices = length arena.vertices - 1;
  };
}

-- if loop l holds the ring of a code, that code is live and has the label l
abbrev pub HasEntry : Spots → ℕ → StoredContent → Type 0
HasEntry sp l Empty = Unit {0}
HasEntry sp l (Lone v) = Unit {0}
HasEntry sp l (At c) = (live sp c ≡ true) × (label sp c ≡ l)

-- row 0 isn't used, and no number passes the limit
pub record Fits {X : Type 0} (rows : List (Option X)) : Type 0 where
  pub no_zero : row_at rows 0 ≡ None
  pub within : length rows ≤ 1000001

-- loop l is there and holds a ring, which is read from `entry` on and in which h stands
pub record StandsAt (sp : Spots) (loops : List (Option LoopCell)) (h l : ℕ) : Type 0 where
  pub face : ℕ
  pub entry : ℕ
  pub here : row_at loops l ≡ Some (record { face = face; stored = At entry })
  pub item : IsIn h (ring sp entry)

pub record AreLoops (sp : Spots) (loops : List (Option LoopCell)) : Type 0 where
  pub entries : (l : ℕ) (cell : LoopCell) → row_at loops l ≡ Some cell → HasEntry sp l cell.stored
  pub stands : (h : ℕ) → live sp h ≡ true → label sp h ≢ 0 → StandsAt sp loops h (label sp h)

pub record RowsAreTied (arena : ArenaRows) : Type 0 where
  pub rings : AreRings arena.spots
  pub no_edge : live arena.spots 0 ≢ true
  pub loops_tied : AreLoops arena.spots arena.loops
  pub solids_fit : Fits arena.solids
  pub faces_fit : Fits arena.faces
  pub loops_fit : Fits arena.loops
  pub vertices_fit : Fits arena.vertices
  pub points : (v : ℕ) (p : Point) → row_at arena.vertices v ≡ Some p → IsInRange p

-- the solid of each face, and the face of each loop
abbrev pub solid_numbers : List (Option FaceCell) → Table ℕ
solid_numbers faces = table_of (λ cell. cell.solid) faces

abbrev pub face_numbers : List (Option LoopCell) → Table ℕ
face_numbers loops = table_of (λ cell. cell.face) loops

-- beside the rows stand the faces of each solid's number and the loops of each face's number; there is room for all numbers
pub record AreIndexed (solids : List (Option Bool)) (faces : List (Option FaceCell)) (loops : List (Option LoopCell)) (solid_faces face_loops : Owners) : Type 0 where
  pub of_solids : solid_faces.owner_of ≡ solid_numbers faces
  pub of_faces : face_loops.owner_of ≡ face_numbers loops
  pub solid_owners : length solids ≤ solid_faces.owners_end
  pub face_owners : length faces ≤ face_loops.owners_end
  pub face_items : length faces ≤ solid_faces.items_end
  pub loop_items : length loops ≤ face_loops.items_end

pub record IsWhole (arena : ArenaRows) (solid_faces face_loops : Owners) : Type 0 where
  pub tied : RowsAreTied arena
  pub indexed : AreIndexed arena.solids arena.faces arena.loops solid_faces face_loops
