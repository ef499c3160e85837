-- The third rewriting: the solid opens along each cycle of the section, and two caps close it.
use Rattle.std.specs.Prelude.{ℕ, zero, suc, ◌+◌, ◌*◌, Bool, false, cond, not, ◌&&◌, nat_eq, List, [], ◌∷◌, ◌++◌, map, reverse, length, filter, fold}
use Rattle.euler_operators.specs.Common.{Point, Plane, canonical, mate, plus, minus, Table, Model, EdgeRow, cycle, tail, point_of, face_at, lists, kfmrh}
use Rattle.euler_operators.specs.Table as table
use Rattle.shapes.specs.Fresh.{Taken, numbers_after}
use Rattle.shapes.specs.Rewriting.{rewritten_row, renamed}
use Rattle.shapes.specs.split.Section.{is_hole}

-- a half-edge in a face above that started at a copied vertex starts at its copy, except the mates of the below halves
abbrev pub opened_tail : Model → List ℕ → List ℕ → List (ℕ × ℕ) → ℕ → ℕ → ℕ
opened_tail M above mates copies h v = cond (lists above (face_at M h) && not (lists mates h)) (renamed copies v) v

abbrev pub opened_row : Model → List ℕ → List ℕ → List (ℕ × ℕ) → ℕ → EdgeRow → EdgeRow
opened_row M above mates copies e row = record {
  plus_tail = opened_tail M above mates copies (plus e) row.plus_tail;
  minus_tail = opened_tail M above mates copies (minus e) row.minus_tail;
}

-- the first i of the m edges round the cap above: edge k + i leads from the copy of the next vertex to the copy y + i of its own vertex
abbrev pub with_rim : Table EdgeRow → ℕ → ℕ → ℕ → ℕ → Table EdgeRow
with_rim t k y m zero = t
with_rim t k y m (suc i) = table.put (with_rim t k y m i) (k + suc i)
    (record { plus_tail = cond (nat_eq (suc i) m) (y + 1) (y + suc i + 1); minus_tail = y + suc i })

-- each copy stands at the point of its vertex
abbrev pub with_copies : Model → List (ℕ × ℕ) → Table Point
with_copies M copies = fold (λ t q. table.put t q.1 (point_of M q.0)) M.vertices copies

abbrev pub both_lists : List ℕ → List ℕ → List (ℕ × ℕ)
both_lists [] ys = []
both_lists (x ∷ xs) [] = []
both_lists (x ∷ xs) (y ∷ ys) = (x, y) ∷ both_lists xs ys

-- solid s opened along the cycle b1 .. bm of below halves; ai is the mate of bi, and bi starts at vertex xi. In the faces above, +ci takes the place
-- of ai, and what starts at xi starts at its copy yi. The cap below has the loop am .. a1, and the cap above the loop -c1 .. -cm
unfoldable pub opened_along : Model → List ℕ → ℕ → Taken → List ℕ → Model
opened_along M above s c bs =
    let m = length bs in
    let mates = map mate bs in
    let cs = numbers_after c.edge m in
    let copies = both_lists (map (tail M) bs) (numbers_after c.vertex m) in
    record M {
      faces = table.put (table.put M.faces (c.face + 1) (record { solid = s; outer = c.loop + 1 })) (c.face + m + 1) (record { solid = s; outer = c.loop + m + 1 });
      loops = table.put (table.put (table.map_rows (rewritten_row (map (renamed (both_lists mates (map plus cs))))) M.loops)
          (c.loop + 1) (record { face = c.face + 1; content = cycle (canonical (reverse mates)) }))
          (c.loop + m + 1) (record { face = c.face + m + 1; content = cycle (map minus cs) });
      edges = with_rim (table.map_rows (opened_row M above mates copies) M.edges) c.edge c.vertex m m;
      vertices = with_copies M copies;
    }

-- the two caps of a cycle, and whether it is a hole
pub record Caps : Type 0 where
  pub lower : ℕ
  pub upper : ℕ
  pub hole : Bool

-- what is opened so far
pub record Opening : Type 0 where
  pub model : Model
  pub taken : Taken
  pub caps : List Caps

-- one more cycle. It takes m + 1 faces and loops, 2 m edges and m vertices, counting those that don't stay
unfoldable pub next_opened : Plane → List ℕ → ℕ → Opening → List ℕ → Opening
next_opened p above s o bs = let m = length bs in let c = o.taken in record {
  model = opened_along o.model above s c bs;
  taken = record { face = c.face + m + 1; loop = c.loop + m + 1; edge = c.edge + 2 * m; vertex = c.vertex + m };
  caps = o.caps ++ record { lower = c.face + 1; upper = c.face + m + 1; hole = is_hole o.model p bs } ∷ [];
}

-- solid s opened along some cycles, in their order
abbrev pub all_opened : Plane → List ℕ → ℕ → Opening → List (List ℕ) → Opening
all_opened p above s o cs = fold (next_opened p above s) o cs

-- the caps of the first outer cycle
abbrev pub no_caps : Caps
no_caps = record { lower = 0; upper = 0; hole = false }

abbrev pub outer_caps : List Caps → Caps
outer_caps [] = no_caps
outer_caps (k ∷ ks) = cond k.hole (outer_caps ks) k

-- the caps of a hole become rings of the outer cycle's caps
abbrev pub hole_closed : Caps → Model → Caps → Model
hole_closed o M k = kfmrh (kfmrh M o.lower k.lower) o.upper k.upper

abbrev pub holes_closed : Model → List Caps → Model
holes_closed M ks = fold (hole_closed (outer_caps ks)) M (filter (λ k. k.hole) ks)
