-- Strips that are joined into one, which is then parted along the first strip_riser into the two caps.
use Rattle.std.specs.Prelude.{ℕ, suc, ◌+◌, ◌-◌, List, [], ◌∷◌, ◌++◌, map, reverse, length, take}
use Rattle.euler_operators.specs.Common.{canonical, plus, minus, Model, cycle}
use Rattle.euler_operators.specs.Table as table
use Rattle.shapes.specs.Common.{Taken, numbers_after, next_place, without_rows}
use Rattle.split_opening_laws.specs.caps.Strips.{strip_riser}

-- the loop of the first strip with the n next ones: back along their mates, up the first strip_riser, along their copies, and down the next
-- strip_riser
abbrev pub joined_loop : Taken → List ℕ → ℕ → List ℕ
joined_loop c hs n = let m = length hs in reverse (take (suc n) hs) ++ plus (strip_riser c m 0) ∷ (map minus (numbers_after c.edge (suc n)) ++ minus (strip_riser c m (next_place m n)) ∷ [])

-- the model after the first strip has taken in the n next ones
unfoldable pub joined_part : Model → Taken → List ℕ → ℕ → Model
joined_part N c hs n = record N {
  faces = without_rows N.faces (numbers_after (c.face + 1) n);
  loops = table.put (without_rows N.loops (numbers_after (c.loop + 1) n)) (c.loop + 1) (record { face = c.face + 1; content = cycle (canonical (joined_loop c hs n)) });
  edges = without_rows N.edges (numbers_after (c.edge + length hs + 1) n);
}

-- all risers are gone, and so are all strips except the first. That one is the cap below: its loop is the mates, the last one first. A new
-- face is the cap above: its loop is the copies
unfoldable pub capped : Model → ℕ → Taken → List ℕ → Model
capped N s c hs = let m = length hs in record N {
  faces = table.put (without_rows N.faces (numbers_after (c.face + 1) (m - 1))) (c.face + m + 1) (record { solid = s; outer = c.loop + m + 1 });
  loops = table.put (table.put (without_rows N.loops (numbers_after (c.loop + 1) (m - 1)))
      (c.loop + 1) (record { face = c.face + 1; content = cycle (canonical (reverse hs)) }))
      (c.loop + m + 1) (record { face = c.face + m + 1; content = cycle (map minus (numbers_after c.edge m)) });
  edges = without_rows N.edges (numbers_after (c.edge + m) m);
}
