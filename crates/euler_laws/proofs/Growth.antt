-- What each operator adds to vertices less edges plus faces less rings.
use Rattle.euler_laws.proofs.Prelude.{◌≡◌, ℕ, List, pos, neg_ℤ, ◌+ℤ◌, ◌+◌, ◌*◌, None, subst, arith, Point, HalfEdge, Corner, At, Lone, code, edge_of, Model, Sound, first_false, effect, inverse, mvfs, mev_at, mev_lone, mef, kemr, mfkrh, ring_in, ring_out, take_outer, merge, part, loop_to_face, face_to_outer, Op, Mvfs, Kvfs, Mev, Kev, Mef, Kef, Kemr, Mekr, Kfmrh, Mfkrh, RingIn, RingOut, Outer, Merge, Part, row_some, size, euler_number, growth}
use Rattle.std.proofs.lemmas.Int.{ints}
use Rattle.euler_operators.specs.Table as table
use Rattle.euler_laws.proofs.mev.Mev.{mev_goes, lone_goes, mixed_first, mixed_second}
use Rattle.euler_laws.proofs.mef.Mef.{mef_goes}
use Rattle.euler_laws.proofs.kemr.Kemr.{kemr_goes}
use Rattle.euler_laws.proofs.faces.Solids.{mvfs_goes}
use Rattle.euler_laws.proofs.faces.Kfmrh.{mfkrh_goes}
use Rattle.euler_laws.proofs.Sizes.{size-put_new, size-put_old, size-remove, size-map_rows, mapped_none, loops_are}
use Rattle.euler_laws.proofs.Cases.{effect_keeps_sound, inverse_goes, inverse_undoes}

-- the second model has g more vertices less edges plus faces less rings
abbrev Gains : Model → Model → ℕ → Type 0
Gains M N g = size N.vertices + 2 * size N.faces + size M.edges + size M.loops ≡ size M.vertices + 2 * size M.faces + size N.edges + size N.loops + g

-- accepted in a sound model, an operator adds g
abbrev Adds : Op → ℕ → Type 0
Adds op g = (M : Model) → Sound M → first_false M op ≡ None → Gains M (effect M op) g

-- ---- the sizes after each maker

mvfs_adds : (s f l v : ℕ) (p : Point) → Adds (Mvfs s f l v p) 2
unfolding effect mvfs
mvfs_adds s f l v p M sound e = grind (arith, mvfs_goes, size-put_new)

-- how many vertices, edges, faces and loops come
abbrev pub Grown : Model → Model → ℕ → ℕ → ℕ → ℕ → Type 0
Grown M N v e f l = (size N.vertices ≡ size M.vertices + v) × (size N.edges ≡ size M.edges + e) × (size N.faces ≡ size M.faces + f) × (size N.loops ≡ size M.loops + l)

pub mev_grows : (c d : Corner) (h : HalfEdge) (v : ℕ) (p : Point) (M : Model) → Sound M → first_false M (Mev c d h v p) ≡ None → Grown M (effect M (Mev c d h v p)) 1 1 0 0
unfolding effect mev_at mev_lone
mev_grows (At g) (At k) h v p M sound e = grind (arith, mev_goes, size-put_new, mapped_none, size-map_rows)
mev_grows (At g) (Lone l) h v p M sound e = absurd (mixed_first M g l h v p sound e)
mev_grows (Lone l) (At k) h v p M sound e = absurd (mixed_second M l k h v p sound e)
mev_grows (Lone l) (Lone d) h v p M sound e =
    let goes = lone_goes M l d h v p e in let w = row_some (table.get M.loops l) goes.loop_there in
    let loops : size (mev_lone M l (code h) v p).loops ≡ size M.loops = size-put_old M.loops l _ w.0 w.1 in
    grind (arith, loops, size-put_new, goes.vertex_free, goes.edge_free)

pub mef_grows : (g k h : HalfEdge) (f l : ℕ) (M : Model) → first_false M (Mef g k h f l) ≡ None → Grown M (effect M (Mef g k h f l)) 0 1 1 1
unfolding effect mef
mef_grows g k h f l M e = grind (arith, mef_goes, size-put_new, mapped_none, size-map_rows)

-- an edge goes, and a loop comes
abbrev pub Parted : Model → Model → Type 0
Parted M N = (size N.vertices ≡ size M.vertices) × (size N.edges + 1 ≡ size M.edges) × (size N.faces ≡ size M.faces) × (size N.loops ≡ size M.loops + 1)

pub kemr_grows : (h : HalfEdge) (l : ℕ) (M : Model) → first_false M (Kemr h l) ≡ None → Parted M (effect M (Kemr h l))
unfolding effect kemr
kemr_grows h l M e =
    let goes = kemr_goes M h l e in let w = row_some (table.get M.edges (edge_of (code h))) goes.h_there in
    grind (arith, size-remove M.edges (edge_of (code h)) w.0 w.1, size-put_new, mapped_none, goes.loop_free, size-map_rows)

pub mfkrh_grows : (l f : ℕ) (M : Model) → first_false M (Mfkrh l f) ≡ None → Grown M (effect M (Mfkrh l f)) 0 0 1 0
unfolding effect mfkrh
mfkrh_grows l f M e = grind (arith, mfkrh_goes, size-put_new, size-map_rows)

-- the others rewrite rows, and keep each table's size
ring_in_adds : (l f : ℕ) → Adds (RingIn l f) 0
unfolding effect ring_in
ring_in_adds l f M sound e = omega (arith, size-map_rows (loop_to_face l f) M.loops)

swap_adds : (M : Model) (k f p l : ℕ) → Gains M (record M { loops = table.map_rows (loop_to_face k f) M.loops; faces = table.map_rows (face_to_outer p l) M.faces }) 0
swap_adds M k f p l = omega (arith, size-map_rows (face_to_outer p l) M.faces, size-map_rows (loop_to_face k f) M.loops)

ring_out_adds : (l f : ℕ) → Adds (RingOut l f) 0
unfolding effect ring_out
ring_out_adds l f M sound e = swap_adds M l f f l

outer_adds : (l f : ℕ) → Adds (Outer l f) 0
unfolding effect take_outer
outer_adds l f M sound e = swap_adds M _ f _ l

merge_adds : (s t : ℕ) → Adds (Merge s t) 0
unfolding effect merge
merge_adds s t M sound e = let a : size (merge M s t).faces ≡ size M.faces = size-map_rows _ M.faces in omega (arith, a)

part_adds : (s t : ℕ) (fs : List ℕ) → Adds (Part s t fs) 0
unfolding effect part
part_adds s t fs M sound e = let a : size (part M s t fs).faces ≡ size M.faces = size-map_rows _ M.faces in omega (arith, a)

-- ---- each operator

module _ (M : Model) (op : Op) (g : ℕ) (sound : Sound M) (e : first_false M op ≡ None) where
  makes : Adds op g → euler_number (effect M op) ≡ euler_number M +ℤ pos g
  makes adds = let grown : Gains M (effect M op) g = adds M sound e in omega (arith, ints, loops_are M sound, loops_are (effect M op) (effect_keeps_sound M op sound e))

  -- what an operator adds, its inverse takes away
  takes : Adds (inverse M op) g → euler_number (effect M op) ≡ euler_number M +ℤ neg_ℤ (pos g)
  takes adds =
      let after = effect_keeps_sound M op sound e in
      let back : Gains (effect M op) M g = subst (λ N. Gains (effect M op) N g) (inverse_undoes M op sound e) (adds (effect M op) after (inverse_goes M op sound e)) in
      omega (arith, ints, loops_are M sound, loops_are (effect M op) after)

-- what each operator adds
pub grows : (M : Model) (op : Op) → Sound M → first_false M op ≡ None → euler_number (effect M op) ≡ euler_number M +ℤ growth op
unfolding inverse
grows M (Mvfs s f l v p) sound e = makes M _ 2 sound e (mvfs_adds s f l v p)
grows M (Kvfs s) sound e = takes M _ 2 sound e (mvfs_adds s _ _ _ _)
grows M (Mev c d h v p) sound e = makes M _ 0 sound e (λ N s go. let w = mev_grows c d h v p N s go in omega (arith, w.0, w.1, w.2, w.3))
grows M (Kev h) sound e = takes M _ 0 sound e (λ N s go. let w = mev_grows _ _ h _ _ N s go in omega (arith, w.0, w.1, w.2, w.3))
grows M (Mef g k h f l) sound e = makes M _ 0 sound e (λ N s go. let w = mef_grows g k h f l N go in omega (arith, w.0, w.1, w.2, w.3))
grows M (Kef h) sound e = takes M _ 0 sound e (λ N s go. let w = mef_grows _ _ h _ _ N go in omega (arith, w.0, w.1, w.2, w.3))
grows M (Kemr h l) sound e = makes M _ 0 sound e (λ N s go. let w = kemr_grows h l N go in omega (arith, w.0, w.1, w.2, w.3))
grows M (Mekr c d h) sound e = takes M _ 0 sound e (λ N s go. let w = kemr_grows h _ N go in omega (arith, w.0, w.1, w.2, w.3))
grows M (Kfmrh f g) sound e = takes M _ 2 sound e (λ N s go. let w = mfkrh_grows _ g N go in omega (arith, w.0, w.1, w.2, w.3))
grows M (Mfkrh l f) sound e = makes M _ 2 sound e (λ N s go. let w = mfkrh_grows l f N go in omega (arith, w.0, w.1, w.2, w.3))
grows M (RingIn l f) sound e = makes M _ 0 sound e (ring_in_adds l f)
grows M (RingOut l f) sound e = makes M _ 0 sound e (ring_out_adds l f)
grows M (Outer l f) sound e = makes M _ 0 sound e (outer_adds l f)
grows M (Merge s t) sound e = makes M _ 0 sound e (merge_adds s t)
grows M (Part s t fs) sound e = makes M _ 0 sound e (part_adds s t fs)
