-- Steps from which operators on an arena are made: an edge is made or killed, a half-edge goes into a loop or leaves one, and tails move.
use Rattle.std.specs.Prelude.{◌≡◌, ◌≢◌, ℕ, true, List, [], ◌∷◌, None}
use Rattle.euler_operators.specs.Common.{count, IsApart, rest, put_ring, Corner, At, Lone, code, mate, edge_of, Model, cycle, items_of, content, has_half, loop_of, cycle_of, before, tail, StandsIn, edge_row, cycle_or_lone, with_tails, is_lone}
use Rattle.euler_operators.specs.Table as table
use Rattle.euler_conditions.specs.Store.{Store, with_loop, loose_key, loose_ring, fill, take_edge}

-- each half-edge that stands in a loop belongs to an edge that is there, and stands once and in one loop only; 0 is no loop
pub record LoopsStandApart (M : Model) : Type 0 where
  pub only : (h l : ℕ) → StandsIn M h l → has_half M h ≡ true
  pub apart : (l : ℕ) → IsApart (items_of (content M l))
  pub one_loop : (h l : ℕ) → StandsIn M h l → loop_of M h ≡ l
  pub no_zero : table.get M.loops 0 ≡ None

-- half-edge h stands in a loop, and so does the half-edge before it
pub record IsStanding (M : Model) (h : ℕ) : Type 0 where
  pub there : has_half M h ≡ true
  pub stands : StandsIn M h (loop_of M h)
  pub looped : loop_of M h ≢ 0
  pub apart : IsApart (cycle_of M h)
  pub before_there : has_half M (before M h) ≡ true
  pub before_near : loop_of M (before M h) ≡ loop_of M h

-- half-edge h is there, alone in a ring that stands in no loop
pub record IsLoose (s : Store) (h : ℕ) : Type 0 where
  pub there : has_half s.model h ≡ true
  pub nowhere : (l : ℕ) → count h (items_of (content s.model l)) ≡ 0
  pub alone : loose_ring s h ≡ h ∷ []

-- neither h nor its mate stands in a loop, and nothing is loose
pub record IsUnused (s : Store) (h : ℕ) : Type 0 where
  pub bare : s.loose ≡ table.empty
  pub first : (l : ℕ) → count h (items_of (content s.model l)) ≡ 0
  pub second : (l : ℕ) → count (mate h) (items_of (content s.model l)) ≡ 0

-- a corner of the model: its half-edge is there, or its loop is there and lone
abbrev pub IsCorner : Model → Corner → Type 0
IsCorner M (At g) = has_half M (code g) ≡ true
IsCorner M (Lone l) = (table.has M.loops l ≡ true) × (is_lone (content M l) ≡ true)

-- a half-edge can be put at the corner: before its half-edge, or into its loop, in which nothing stands
abbrev pub CanTake : Model → Corner → Type 0
CanTake M (At g) = IsStanding M (code g)
CanTake M (Lone l) = (table.has M.loops l ≡ true) × (items_of (content M l) ≡ [])

-- a new edge whose half-edge h starts at one vertex and ends at another. Both its half-edges are loose
unfoldable pub with_edge : Store → ℕ → ℕ → ℕ → Store
with_edge s h from to = record s {
  model = record s.model { edges = table.put s.model.edges (edge_of h) (edge_row h from to) };
  loose = table.put (table.put s.loose h (h ∷ [])) (mate h) (mate h ∷ []);
}

-- the loose half-edge h is put before g in its loop
unfoldable pub put_before : Store → ℕ → ℕ → Store
put_before s g h = let M = s.model in record s {
  model = with_loop M (loop_of M g) (cycle (put_ring h g (cycle_of M g)));
  loose = table.remove s.loose (loose_key s h);
}

-- half-edge h is taken out of its loop and is then loose; a loop that held h alone becomes lone at the vertex where h starts
unfoldable pub take_out : Store → ℕ → Store
take_out s h = let M = s.model in record s {
  model = with_loop M (loop_of M h) (cycle_or_lone (rest h (cycle_of M h)) (tail M h));
  loose = table.put s.loose h (h ∷ []);
}

-- the loose half-edge h is put at a corner
abbrev pub put_at : Store → Corner → ℕ → Store
put_at s (At g) h = put_before s (code g) h
put_at s (Lone l) h = fill s l h

-- a new edge from one vertex to another: its half-edge h is put at the first corner, and then h's mate at the second
abbrev pub make_edge : Store → Corner → Corner → ℕ → ℕ → ℕ → Store
make_edge s c d h from to = put_at (put_at (with_edge s h from to) c h) d (mate h)

-- the edge of h goes: h's mate is taken out of its loop first, and then h
abbrev pub kill_edge : Store → ℕ → Store
kill_edge s h = take_edge (take_out (take_out s (mate h)) h) (edge_of h)

-- the listed half-edges start at v
unfoldable pub with_tails_at : Store → List ℕ → ℕ → Store
with_tails_at s hs v = record s {
  model = record s.model { edges = table.map_rows (with_tails hs v) s.model.edges };
}
