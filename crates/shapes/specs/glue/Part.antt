-- Two solids that are being glued together.
use Rattle.std.specs.Prelude.{ℕ, nat_eq, List, ◌∷◌, ◌++◌, map, reverse}
use Rattle.euler_operators.specs.Common.{canonical, mate, edge_of, Model, cycle, tail, outer, solid_of, faces_to_solid}
use Rattle.euler_operators.specs.Table as table
use Rattle.shapes.specs.Rewriting.{rewritten_row, renamed, without_rows}
use Rattle.shapes.specs.glue.Glue.{renamed_tails}

-- the values of two functions at some items, in pairs
abbrev pub paired : (ℕ → ℕ) → (ℕ → ℕ) → List ℕ → List (ℕ × ℕ)
paired from to hs = map (λ h. (from h, to h)) hs

-- the items hs and, back along them, their partners
abbrev pub seam : (ℕ → ℕ) → List ℕ → List ℕ
seam partner_of hs = hs ++ reverse (map partner_of hs)

-- the items `done` are glued, and the items hs aren't; the end of the last item is glued too
unfoldable pub glued_part : Model → ℕ → ℕ → (ℕ → ℕ) → ℕ → List ℕ → List ℕ → Model
glued_part M f g partner_of last done hs = let s = solid_of M f in let t = solid_of M g in record {
  solids = table.remove M.solids t;
  faces = table.map_rows (faces_to_solid (λ _ row. nat_eq row.solid t) s) (table.remove M.faces g);
  loops = table.put (table.map_rows (rewritten_row (map (renamed (paired (λ h. mate (partner_of h)) (λ h. h) done)))) (table.remove (table.remove M.loops (outer M f)) (outer M g)))
      (outer M f) (record { face = f; content = cycle (canonical (seam partner_of hs)) });
  edges = table.map_rows (renamed_tails (paired (λ h. tail M (partner_of h)) (λ h. tail M (mate h)) (last ∷ done))) (without_rows M.edges (map (λ h. edge_of (partner_of h)) done));
  vertices = without_rows M.vertices (map (λ h. tail M (partner_of h)) (last ∷ done));
}
