-- Solids that a command leaves alone stay convex.
use Rattle.convex_laws.proofs.Prelude.{◌≡◌, ◌≢◌, ℕ, ◌≤◌, ℤ, pos, int_lt, true, List, [], ◌∷◌, length, map, drop, get_or, is_some, sym, ap, subst, ◌∙◌, arith, true≢false, inl, inr, cases_lt, IsIn, Plane, Point, cross, direction, dot, edge_of, holds, is_above, mate, Model, face_at, face_of, loop_of, no_point, point_of, solid_of, tail, Sound, StandsIn, Has, HasHalf, lists, loop_there, mate_there, same_content, same_solid, first_listed, listed-from_in, listed_cases, rest_listed, same_tail, corners, loops_of, normal, plane_of, start, towards, at_most_greatest, face_of_loop, Machine, held, IsSplit, IsBlock, BendsAway, BlockKeepsConvex, BlockKeepsStrictlyConvex, IsConvex, IsStrictlyConvex, SplitLeavesConvex, SplitLeavesStrictlyConvex, last_face, block_takes_six_faces, of_block, one_of, sound_after, loop_in_face, not_either}
use Rattle.euler_operators.specs.Table as table
use Rattle.euler_laws.proofs.Common.{same_point}
use Rattle.command_laws.specs.LeftAlone.{StandsAsBefore}
use Rattle.command_laws.proofs.DrawnAlone.{block_keeps_edges, block_keeps_loops, block_keeps_places, block_keeps_shapes}
use Rattle.command_laws.proofs.Kept.{block_keeps_faces}
use Rattle.command_laws.proofs.LyingFlat.{stands_flat}
use Rattle.command_laws.proofs.splits_laws.Whole as whole
use Rattle.command_laws.proofs.splits_laws.Whole.{split_keeps_edges, split_keeps_loops, split_keeps_shapes}

-- where the corners have the points of others, each lies where one of those does
pub same_corner : (M N : Model) (vs ws : List ℕ) (v : ℕ) → map (point_of N) vs ≡ map (point_of M) ws → lists vs v ≡ true → (w : ℕ) × (lists ws w ≡ true) × (point_of N v ≡ point_of M w)
same_corner M N [] ws v e l = absurd (true≢false (sym l))
same_corner M N (x ∷ vs) [] v e l = absurd (omega (arith, ap length e))
same_corner M N (x ∷ vs) (y ∷ ws) v e l = elim (listed_cases x v vs l) [
  | inl is ↦ (y, first_listed y ws, ap (point_of N) is ∙ ap (λ ps. get_or ps 0 no_point) e)
  | inr m ↦ let r = same_corner M N vs ws v (ap (drop 1) e) m in (r.0, rest_listed y r.0 ws r.1, r.2)
]

module _ (M N : Model) (u : ℕ) (back : (k : ℕ) → Has N.faces k → solid_of N k ≡ u → Has M.faces k × (solid_of M k ≡ u) × StandsAsBefore M N k) (was : IsConvex M u) where
  stays_convex : IsConvex N u
  stays_convex = record {
    flat = λ k there of. let b = back k there of in stands_flat M N k b.2 ∙ was.flat k b.0 b.1;
    below = λ k there of v w.
        let b = back k there of in
        let f = back w.face w.there w.solid in
        let c = same_corner M N (corners N w.face) (corners M w.face) v f.2.points w.corner in
        (λ i. is_above (b.2.plane i) (c.2 i)) ∙ was.below k b.0 b.1 c.0 (record { face = w.face; there = f.0; solid = f.1; corner = c.1 });
  }

-- ---- the edges of a solid that is left alone

-- how a solid u of N stood in M: each of its faces stood there, and its loops, edges and vertices are the same
record IsLeft (M N : Model) (u : ℕ) : Type 0 where
  before : Sound M
  after : Sound N
  back : (k : ℕ) → Has N.faces k → solid_of N k ≡ u → Has M.faces k × (solid_of M k ≡ u) × StandsAsBefore M N k
  loops : (l : ℕ) → Has M.loops l → solid_of M (face_of M l) ≡ u → table.get N.loops l ≡ table.get M.loops l
  edges : (h : ℕ) → HasHalf M h → solid_of M (face_at M h) ≡ u → table.get N.edges (edge_of h) ≡ table.get M.edges (edge_of h)
  points : (v : ℕ) → Has M.vertices v → table.get N.vertices v ≡ table.get M.vertices v

module _ (M N : Model) (u : ℕ) (w : IsLeft M N u) where
  -- a half-edge of the solid was there, at the same point, and its face looked the same way
  record Stood (h : ℕ) : Type 0 where
    half : HasHalf M h
    solid : solid_of M (face_at M h) ≡ u
    start : start N h ≡ start M h
    normal : normal N (face_at N h) ≡ normal M (face_at M h)

  module _ (h : ℕ) (half : HasHalf N h) (of : solid_of N (face_at N h) ≡ u) where
    abbrev loop : ℕ
    loop = loop_of N h

    there : Has N.loops loop
    there = loop_there N w.after h half

    shape : Has M.faces (face_at N h) × (solid_of M (face_at N h) ≡ u) × StandsAsBefore M N (face_at N h)
    shape = w.back (face_at N h) (w.after.loops_of_faces loop there) of

    same_loops : loops_of N (face_at N h) ≡ loops_of M (face_at N h)
    unfolding loops_of
    same_loops = λ i. shape.2.outer i ∷ shape.2.rings i

    was_there : Has M.loops loop × (face_of M loop ≡ face_at N h)
    was_there = face_of_loop M w.before (face_at N h) loop shape.0 (listed-from_in loop (loops_of M (face_at N h)) (subst (λ ls. IsIn loop ls) same_loops (loop_in_face N loop there)))

    row : table.get N.loops loop ≡ table.get M.loops loop
    row = w.loops loop was_there.0 (ap (solid_of M) was_there.1 ∙ shape.1)

    stood_in : StandsIn M h loop
    stood_in = ap (holds h) (sym (same_content M N loop row)) ∙ w.after.stands h half

    had : HasHalf M h
    had = w.before.only_edges h loop stood_in

    same_face_at : face_at M h ≡ face_at N h
    same_face_at = ap (face_of M) (w.before.one_loop h loop stood_in) ∙ was_there.1

    was_of : solid_of M (face_at M h) ≡ u
    was_of = ap (solid_of M) same_face_at ∙ shape.1

    same_normal : normal N (face_at N h) ≡ normal M (face_at M h)
    unfolding plane_of
    same_normal = ap direction shape.2.plane ∙ ap (normal M) (sym same_face_at)

    stood : Stood h
    stood = record {
      half = had;
      solid = was_of;
      start = ap (point_of N) (same_tail M N h (w.edges h had was_of)) ∙ same_point M N (tail M h) (w.points (tail M h) (w.before.tails_there h had));
      normal = same_normal;
    }

  still_bends : ((h : ℕ) → HasHalf M h → solid_of M (face_at M h) ≡ u → BendsAway M h) → (h : ℕ) → HasHalf N h → solid_of N (face_at N h) ≡ u → BendsAway N h
  still_bends bends h half of =
      let here = stood h half of in
      let beyond = stood (mate h) (mate_there N h half) (sym (w.after.one_solid h half) ∙ of) in
      (λ i. int_lt (pos 0) (dot (towards (here.start i) (beyond.start i)) (cross (here.normal i) (beyond.normal i)))) ∙ bends h here.half here.solid

  stays_strict : IsStrictlyConvex M u → IsStrictlyConvex N u
  stays_strict was = record { convex = stays_convex M N u w.back was.convex; bends = still_bends was.bends }

-- ---- after a block, and after a split

block_leaves : (before after : Machine) (s : ℕ) (p : Point) (dx dy dz : ℤ) (u : ℕ) → Sound (held before) → IsBlock before after s p dx dy dz → u ≢ s → IsLeft (held before) (held after) u
block_leaves before after s p dx dy dz u sound made other = record {
  before = sound;
  after = sound_after before after s p dx dy dz sound made;
  back = λ k there of.
      let older : k ≤ last_face before = elim (cases_lt (last_face before) k) [
        | inr m ↦ m
        | inl m ↦ absurd (other (sym of ∙ of_block before after s p dx dy dz sound made k (one_of (last_face before) k m (subst (λ n. k ≤ n) (block_takes_six_faces before after s p dx dy dz sound made) (at_most_greatest (held after).faces k there)))))
      ] in
      let row = block_keeps_faces before after s p dx dy dz made k older in
      let had : Has (held before).faces k = sym (ap is_some row) ∙ there in
      (had, sym (same_solid (held before) (held after) k row) ∙ of, block_keeps_shapes before after s p dx dy dz sound made k had tt);
  loops = λ l there of. block_keeps_loops before after s p dx dy dz sound made l there tt;
  edges = λ h there of. block_keeps_edges before after s p dx dy dz sound made h there tt;
  points = λ v there. ap (λ x. table.get (held x).vertices v) made.1 ∙ block_keeps_places (held before) s p dx dy dz sound made.0 v there;
}

split_leaves : (before after : Machine) (s : ℕ) (p : Plane) (t u : ℕ) → Sound (held before) → IsSplit before after s p t → u ≢ s → u ≢ t → IsLeft (held before) (held after) u
split_leaves before after s p t u sound made not_s not_t = record {
  before = sound;
  after = subst Sound (sym (whole.after_is before after s p t sound made)) (whole.after_sound before after s p t sound made);
  back = λ k there of.
      let row = ((whole.agree before after s p t sound made).faces_back k there (not_either s t (solid_of (held after) k) (λ e. not_s (sym of ∙ e)) (λ e. not_t (sym of ∙ e)))).0 in
      let had : Has (held before).faces k = sym (ap is_some row) ∙ there in
      let was_of : solid_of (held before) k ≡ u = sym (same_solid (held before) (held after) k row) ∙ of in
      (had, was_of, split_keeps_shapes before after s p t sound made k had (λ e. not_s (sym was_of ∙ e)));
  loops = λ l there of. split_keeps_loops before after s p t sound made l there (λ e. not_s (sym of ∙ e));
  edges = λ h there of. split_keeps_edges before after s p t sound made h there (λ e. not_s (sym of ∙ e));
  points = whole.point_kept before after s p t sound made;
}

pub block_keeps_convex : BlockKeepsConvex
block_keeps_convex before after s p dx dy dz u sound made other was = stays_convex (held before) (held after) u (block_leaves before after s p dx dy dz u sound made other).back was

pub split_leaves_convex : SplitLeavesConvex
split_leaves_convex before after s p t u sound made not_s not_t was = stays_convex (held before) (held after) u (split_leaves before after s p t u sound made not_s not_t).back was

pub block_keeps_strictly : BlockKeepsStrictlyConvex
block_keeps_strictly before after s p dx dy dz u sound made other was = stays_strict (held before) (held after) u (block_leaves before after s p dx dy dz u sound made other) was

pub split_leaves_strictly : SplitLeavesStrictlyConvex
split_leaves_strictly before after s p t u sound made not_s not_t was = stays_strict (held before) (held after) u (split_leaves before after s p t u sound made not_s not_t) was
