-- A solid with all that belongs to it.
use Rattle.std.specs.Prelude.{◌≡◌, ℕ, Bool, nat_eq}
use Rattle.std.specs.Ordering.{nat_cmp}
use Rattle.std.specs.FinMap.Entries as entries
use Rattle.euler_operators.specs.Common.{plus, Table, Model, faces_of, face_of, loop_of, solid_of, lists}
use Rattle.shapes.specs.Common.{corners_in, six_volume}

-- the rows of the numbers that pass a test
unfoldable pub kept : {X : Type 0} → (ℕ → Bool) → Table X → Table X
kept p t = record { rows = entries.where_key nat_cmp p t.rows; rising = entries.is_sorted-where_key nat_cmp p t.rows t.rising }

-- the solid at a loop
abbrev pub solid_at : Model → ℕ → ℕ
solid_at M l = solid_of M (face_of M l)

-- what belongs to solid u: its faces, their loops, the edges in these, and the vertices of its corners
unfoldable pub alone : Model → ℕ → Model
alone M u = record {
  solids = kept (nat_eq u) M.solids;
  faces = kept (λ f. nat_eq (solid_of M f) u) M.faces;
  loops = kept (λ l. nat_eq (solid_at M l) u) M.loops;
  edges = kept (λ e. nat_eq (solid_at M (loop_of M (plus e))) u) M.edges;
  vertices = kept (lists (corners_in M (faces_of M u))) M.vertices;
}

-- solid u stands in N as it stands in M
pub record StandsAs (M N : Model) (u : ℕ) : Type 0 where
  pub same : alone N u ≡ alone M u
  pub volume : six_volume N u ≡ six_volume M u
