-- What model each operator makes, and which operator takes it back.
use Rattle.std.specs.Prelude.{ℕ, Bool, cond, ◌&&◌, ◌||◌, nat_eq, nat_lt, List, [], ◌∷◌, ◌++◌}
use Rattle.boundary_model.specs.declared.Point.{Point}
use Rattle.boundary_model.specs.declared.Corner.{Corner}
use Rattle.boundary_model.specs.declared.Corner.TheVariants.{At, Lone}
use Rattle.boundary_model.specs.Items.{count}
use Rattle.boundary_model.specs.Rings.{canonical, rest, between, beyond, upto, onward}
use Rattle.boundary_model.specs.Edits.{insert_before, without}
use Rattle.boundary_model.specs.HalfEdge.{code, half, mate, edge_of, is_first, plus, minus}
use Rattle.boundary_model.specs.Table as table
use Rattle.boundary_model.specs.Table.{Table}
use Rattle.boundary_model.specs.Model.{Model, LoopContent, lone, cycle, FaceRow, LoopRow, EdgeRow, items_of, holds, tail, loop_of, content, face_of, solid_of, outer, cycle_of, after, arc, point_of, faces_of}
use Rattle.euler_operators.specs.Conditions.{corner_tail, corner_loop, corner_list, lone_vertex, lists, face_at}
use Rattle.euler_operators.specs.declared.Op.{Op}
use Rattle.euler_operators.specs.declared.Op.TheVariants.{Mvfs, Kvfs, Mev, Kev, Mef, Kef, Kemr, Mekr, Kfmrh, Mfkrh, RingIn, RingOut, Outer, Merge, Part}

-- the edge of h from one vertex to another
abbrev pub edge_row : ℕ → ℕ → ℕ → EdgeRow
edge_row h from to = cond (is_first h) (record { plus_tail = from; minus_tail = to }) (record { plus_tail = to; minus_tail = from })

-- a cycle, or, if there is no item, the lone vertex v
abbrev pub cycle_or_lone : List ℕ → ℕ → LoopContent
cycle_or_lone [] v = lone v
cycle_or_lone (h ∷ hs) v = cycle (canonical (h ∷ hs))

-- the loop that holds g gets the new content
abbrev pub where_held : ℕ → (List ℕ → LoopContent) → ℕ → LoopRow → LoopRow
where_held g new l row = cond (holds g row.content) (record row { content = new (items_of row.content) }) row

-- h put before g in its loop
abbrev pub with_before : ℕ → ℕ → ℕ → LoopRow → LoopRow
with_before g h = where_held g (λ hs. cycle (canonical (insert_before g h hs)))

-- h and its mate are taken out of their loops; if a loop has only these two, the vertex v is left
abbrev pub without_edge : ℕ → ℕ → ℕ → LoopRow → LoopRow
without_edge h v l row = cond (holds h row.content || holds (mate h) row.content) (record row { content = cycle_or_lone (without (mate h) (without h (items_of row.content))) v }) row

-- the listed half-edges start at v
abbrev pub with_tails : List ℕ → ℕ → ℕ → EdgeRow → EdgeRow
with_tails hs v e row = record {
  plus_tail = cond (nat_lt 0 (count (plus e) hs)) v row.plus_tail;
  minus_tail = cond (nat_lt 0 (count (minus e) hs)) v row.minus_tail;
}

-- what started at v now starts at w
abbrev pub moved_tail : ℕ → ℕ → ℕ → EdgeRow → EdgeRow
moved_tail v w e row = record { plus_tail = cond (nat_eq row.plus_tail v) w row.plus_tail; minus_tail = cond (nat_eq row.minus_tail v) w row.minus_tail }

-- the row of loop l with another face, and the row of face f with another outer loop
abbrev pub loop_to_face : ℕ → ℕ → ℕ → LoopRow → LoopRow
loop_to_face l f k row = cond (nat_eq k l) (record row { face = f }) row

abbrev pub face_to_outer : ℕ → ℕ → ℕ → FaceRow → FaceRow
face_to_outer f l k row = cond (nat_eq k f) (record row { outer = l }) row

-- the faces that pass a test go to solid s
abbrev pub faces_to_solid : (ℕ → FaceRow → Bool) → ℕ → ℕ → FaceRow → FaceRow
faces_to_solid p s k row = cond (p k row) (record row { solid = s }) row

unfoldable pub mvfs : Model → ℕ → ℕ → ℕ → ℕ → Point → Model
mvfs M s f l v p = record {
  solids = table.put M.solids s tt;
  faces = table.put M.faces f (record { solid = s; outer = l });
  loops = table.put M.loops l (record { face = f; content = lone v });
  edges = M.edges;
  vertices = table.put M.vertices v p;
}

unfoldable pub kvfs_at : Model → ℕ → ℕ → Model
kvfs_at M s f = record {
  solids = table.remove M.solids s;
  faces = table.remove M.faces f;
  loops = table.remove M.loops (outer M f);
  edges = M.edges;
  vertices = table.remove M.vertices (lone_vertex (content M (outer M f)));
}

-- the first number, or 0
abbrev pub head_or_zero : List ℕ → ℕ
head_or_zero [] = 0
head_or_zero (n ∷ ns) = n

-- the lone loop l becomes an edge from its vertex to v
unfoldable pub mev_lone : Model → ℕ → ℕ → ℕ → Point → Model
mev_lone M l h v p = record M {
  loops = table.put M.loops l (record { face = face_of M l; content = cycle (canonical (h ∷ mate h ∷ [])) });
  edges = table.put M.edges (edge_of h) (edge_row h (lone_vertex (content M l)) v);
  vertices = table.put M.vertices v p;
}

-- h is put before g and its mate before k. What lies between g and k round the old vertex starts at v
unfoldable pub mev_at : Model → ℕ → ℕ → ℕ → ℕ → Point → Model
mev_at M g k h v p = record M {
  loops = table.map_rows (with_before k (mate h)) (table.map_rows (with_before g h) M.loops);
  edges = table.put (table.map_rows (with_tails (arc M g k) v) M.edges) (edge_of h) (edge_row h (tail M g) v);
  vertices = table.put M.vertices v p;
}

-- the edge and the vertex at its far end go
unfoldable pub kev : Model → ℕ → Model
kev M h = record M {
  loops = table.map_rows (without_edge h (tail M h)) M.loops;
  edges = table.map_rows (moved_tail (tail M (mate h)) (tail M h)) (table.remove M.edges (edge_of h));
  vertices = table.remove M.vertices (tail M (mate h));
}

-- of the loop A B, where A goes from g up to before k, h B stays; A and h's mate become the loop l of the new face f
unfoldable pub mef : Model → ℕ → ℕ → ℕ → ℕ → ℕ → Model
mef M g k h f l = record M {
  faces = table.put M.faces f (record { solid = solid_of M (face_at M g); outer = l });
  loops = table.put (table.map_rows (where_held g (λ hs. cycle (canonical (h ∷ onward g k hs)))) M.loops) l
      (record { face = f; content = cycle (canonical (upto g k (cycle_of M g) ++ mate h ∷ [])) });
  edges = table.put M.edges (edge_of h) (edge_row h (tail M g) (tail M k));
}

-- the loop of the mate, m A, goes with its face, and the loop h B becomes A B
unfoldable pub kef : Model → ℕ → Model
kef M h = let m = mate h in record M {
  faces = table.remove M.faces (face_at M m);
  loops = table.remove (table.map_rows (where_held h (λ hs. cycle (canonical (rest m (cycle_of M m) ++ rest h hs)))) M.loops) (loop_of M m);
  edges = table.remove M.edges (edge_of h);
}

-- the loop h X m Y becomes Y, and X becomes the ring l of its face
unfoldable pub kemr : Model → ℕ → ℕ → Model
kemr M h l = let m = mate h in let all = cycle_of M h in record M {
  loops = table.put (table.map_rows (where_held h (λ hs. cycle_or_lone (beyond h m hs) (tail M h))) M.loops) l
      (record { face = face_at M h; content = cycle_or_lone (between h m all) (tail M m) });
  edges = table.remove M.edges (edge_of h);
}

-- Y, from one corner on, and X, from the other on, become the loop h X m Y
unfoldable pub mekr : Model → Corner → Corner → ℕ → Model
mekr M c d h = record M {
  loops = table.remove (table.put M.loops (corner_loop M c) (record {
    face = face_of M (corner_loop M c);
    content = cycle (canonical (h ∷ corner_list M d ++ mate h ∷ corner_list M c));
  })) (corner_loop M d);
  edges = table.put M.edges (edge_of h) (edge_row h (corner_tail M c) (corner_tail M d));
}

-- face g goes, and its outer loop becomes a ring of f
unfoldable pub kfmrh : Model → ℕ → ℕ → Model
kfmrh M f g = record M {
  faces = table.remove M.faces g;
  loops = table.map_rows (loop_to_face (outer M g) f) M.loops;
}

-- ring l becomes the outer loop of the new face f of the same solid
unfoldable pub mfkrh : Model → ℕ → ℕ → Model
mfkrh M l f = record M {
  faces = table.put M.faces f (record { solid = solid_of M (face_of M l); outer = l });
  loops = table.map_rows (loop_to_face l f) M.loops;
}

-- ring l becomes a ring of f
unfoldable pub ring_in : Model → ℕ → ℕ → Model
ring_in M l f = record M { loops = table.map_rows (loop_to_face l f) M.loops }

-- ring l becomes the outer loop of f, whose old outer loop becomes a ring of f
unfoldable pub ring_out : Model → ℕ → ℕ → Model
ring_out M l f = record M {
  faces = table.map_rows (face_to_outer f l) M.faces;
  loops = table.map_rows (loop_to_face l f) M.loops;
}

-- ring l becomes the outer loop of its face, whose old outer loop becomes a ring of f
unfoldable pub take_outer : Model → ℕ → ℕ → Model
take_outer M l f = record M {
  faces = table.map_rows (face_to_outer (face_of M l) l) M.faces;
  loops = table.map_rows (loop_to_face (outer M (face_of M l)) f) M.loops;
}

-- all faces of t go to s, and t goes
unfoldable pub merge : Model → ℕ → ℕ → Model
merge M s t = record M {
  solids = table.remove M.solids t;
  faces = table.map_rows (faces_to_solid (λ _ row. nat_eq row.solid t) s) M.faces;
}

-- the listed faces go to the new solid t
unfoldable pub part : Model → ℕ → ℕ → List ℕ → Model
part M s t fs = record M {
  solids = table.put M.solids t tt;
  faces = table.map_rows (faces_to_solid (λ f _. lists fs f) t) M.faces;
}

abbrev pub mev : Model → Corner → Corner → ℕ → ℕ → Point → Model
mev M (Lone l) d h v p = mev_lone M l h v p
mev M (At g) (At k) h v p = mev_at M (code g) (code k) h v p
mev M (At g) (Lone l) h v p = M

-- the model after an operator
unfoldable pub effect : Model → Op → Model
effect M (Mvfs s f l v p) = mvfs M s f l v p
effect M (Kvfs s) = kvfs_at M s (head_or_zero (faces_of M s))
effect M (Mev c d h v p) = mev M c d (code h) v p
effect M (Kev h) = kev M (code h)
effect M (Mef g k h f l) = mef M (code g) (code k) (code h) f l
effect M (Kef h) = kef M (code h)
effect M (Kemr h l) = kemr M (code h) l
effect M (Mekr c d h) = mekr M c d (code h)
effect M (Kfmrh f g) = kfmrh M f g
effect M (Mfkrh l f) = mfkrh M l f
effect M (RingIn l f) = ring_in M l f
effect M (RingOut l f) = ring_out M l f
effect M (Outer l f) = take_outer M l f
effect M (Merge s t) = merge M s t
effect M (Part s t fs) = part M s t fs

-- the corner before the first item of a list, or, if the list is empty, that of the lone loop l
abbrev pub corner_of : List ℕ → ℕ → Corner
corner_of [] l = Lone l
corner_of (h ∷ hs) l = At (half h)

-- the corners by which mev makes the edge of h again
abbrev pub kev_corner : Model → ℕ → Corner
kev_corner M h = cond (nat_eq (after M h) (mate h))
    (cond (nat_eq (after M (mate h)) h) (Lone (loop_of M h)) (At (half (after M (mate h)))))
    (At (half (after M h)))

abbrev pub kev_corner_mate : Model → ℕ → Corner
kev_corner_mate M h = cond (nat_eq (after M h) (mate h) && nat_eq (after M (mate h)) h) (Lone (loop_of M h)) (At (half (after M (mate h))))

-- the operator that takes back the effect of another
unfoldable pub inverse : Model → Op → Op
inverse M (Mvfs s f l v p) = Kvfs s
inverse M (Kvfs s) = let f = head_or_zero (faces_of M s) in let v = lone_vertex (content M (outer M f)) in Mvfs s f (outer M f) v (point_of M v)
inverse M (Mev c d h v p) = Kev h
inverse M (Kev h) = let m = mate (code h) in Mev (kev_corner M (code h)) (kev_corner_mate M (code h)) h (tail M m) (point_of M (tail M m))
inverse M (Mef g k h f l) = Kef h
inverse M (Kef h) = let m = mate (code h) in Mef (half (after M m)) (half (after M (code h))) h (face_at M m) (loop_of M m)
inverse M (Kemr h l) = let m = mate (code h) in let hs = cycle_of M (code h) in Mekr (corner_of (beyond (code h) m hs) (loop_of M (code h))) (corner_of (between (code h) m hs) l) h
inverse M (Mekr c d h) = Kemr h (corner_loop M d)
inverse M (Kfmrh f g) = Mfkrh (outer M g) g
inverse M (Mfkrh l f) = Kfmrh (face_of M l) f
inverse M (RingIn l f) = RingIn l (face_of M l)
inverse M (RingOut l f) = Outer (outer M f) (face_of M l)
inverse M (Outer l f) = RingOut (outer M (face_of M l)) (face_of M l)
inverse M (Merge s t) = Part s t (faces_of M t)
inverse M (Part s t fs) = Merge s t
