-- Strips, and what is asked of them. A strip is a face of four edges; the strips stand one beside the other along a cycle of section edges.
-- New numbers are those after c: of m strips, the one at place i, from 0 on, has face c.face + i + 1, loop c.loop + i + 1, edge c.edge + i
-- + 1, which is its copy of a section edge, and edge c.edge + m + i + 1, which is its strip_riser.
use Rattle.std.specs.Prelude.{◌≡◌, ◌≤◌, ◌<◌, ℕ, suc, ◌+◌, true, List, [], ◌∷◌, length, get_or, Some, None}
use Rattle.euler_operators.specs.Common.{canonical, plus, minus, Model, cycle, face_of, is_number, Has}
use Rattle.euler_operators.specs.Table as table
use Rattle.shapes.specs.Common.{Taken, next_place}

-- of m strips in a ring, the edge that rises from the start of the strip at place i
abbrev pub strip_riser : Taken → ℕ → ℕ → ℕ
strip_riser c m i = c.edge + m + suc i

-- the loop of the strip at place i: the mate that is kept below, up its strip_riser, back along the copy for above, and down the next
-- strip_riser
abbrev pub strip_loop : Taken → List ℕ → ℕ → List ℕ
strip_loop c hs i = let m = length hs in get_or hs i 0 ∷ plus (strip_riser c m i) ∷ minus (c.edge + suc i) ∷ minus (strip_riser c m (next_place m i)) ∷ []

-- along the mates hs there are strips of solid s
pub record HasStrips (N : Model) (s : ℕ) (c : Taken) (hs : List ℕ) : Type 0 where
  pub some : 1 ≤ length hs
  -- each strip is a face with its loop, and without rings
  pub loops : (i : ℕ) → i < length hs → table.get N.loops (c.loop + suc i) ≡ Some (record { face = c.face + suc i; content = cycle (canonical (strip_loop c hs i)) })
  pub faces : (i : ℕ) → i < length hs → table.get N.faces (c.face + suc i) ≡ Some (record { solid = s; outer = c.loop + suc i })
  pub alone : (i q : ℕ) → i < length hs → Has N.loops q → face_of N q ≡ c.face + suc i → c.loop + suc i ≡ q
  -- the next numbers of a face and a loop are free
  pub face_free : table.get N.faces (c.face + length hs + 1) ≡ None
  pub loop_free : table.get N.loops (c.loop + length hs + 1) ≡ None
  pub face_fits : is_number (c.face + length hs + 1) ≡ true
  pub loop_fits : is_number (c.loop + length hs + 1) ≡ true
