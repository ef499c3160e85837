-- A strictly convex solid once it is drawn: each half-edge of a face lies on the plane of the face from which that comes, and of one beyond, from which
-- it bends away. That is the plane of another face of the solid, or the one of the split.
use Rattle.convex_laws.proofs.Prelude.{◌≡◌, ◌≢◌, ℕ, ◌+◌, pos, int_lt, Bool, true, false, not, ◌&&◌, [], neg_ℤ, ℤ, refl, sym, ap, subst, ◌∙◌, arith, and_parts, ints, Plane, Point, IsIn, cross, direction, dot, is_above, is_below, is_on, mate, Model, after, face_at, face_of, point_of, solid_of, tail, Sound, Has, HasHalf, lists, mate-mate, mate_there, IsIn-from_listed, half_face, listed-from_in, loop_after, corners, face_is_above, finish, is_flat, normal, plane_of, reaches_above, reaches_below, start, straddles, straddling_pairs, towards, with_crossings, with_drawings, face_listed, CanBegin, Stays, side_of, crossings_sound, start_stays, drawing_stays, none_straddles, none_passes, can_be_drawn, rewritings_sound, ComesOf, half_comes, spread, IsStrictlyConvex, IsVertexOf, None, never_stuck, starts_in, ends_in, stages, split_refusal, or_parts, drawn_sound}
use Rattle.split_drawing_laws.specs.drawings.Laws.{CanBeDrawn}
use Rattle.split_drawing_laws.proofs.cut_volumes.CutWhole.{crossings_measured}
use Rattle.split_drawing_laws.proofs.cut_volumes.Told.{solid_stays}
use Rattle.split_drawing_laws.proofs.drawn_volumes.Bounds.{face_on}
use Rattle.split_drawing_laws.proofs.drawn_volumes.DrawWhole.{lies_flat}
use Rattle.split_laws.specs.drawn.Kept.{KeepsSolids}
use Rattle.split_laws.proofs.drawn.Solids.{drawing_keeps}
use Rattle.command_laws.specs.SplitEdges.{LeadsAlong}
use Rattle.convex_laws.proofs.Apart.{listed_passes, not_both}
use Rattle.convex_laws.proofs.Links.{AreLinked, IsEnd, drawings_linked}
use Rattle.convex_laws.proofs.Planes.{IsBent, above_facing, facing, on_line, turns_too}
use Rattle.convex_laws.proofs.Volumes.{depth, height_is, under}
use Rattle.convex_laws.proofs.Within.{drawn_under, half_on}
use Rattle.split_laws.proofs.drawn.Drawn.{begins}

-- ---- the half-edge after

module _ (G : Model) (sound : Sound G) (h : ℕ) (half : HasHalf G h) where
  pub next_starts : start G (after G h) ≡ finish G h
  next_starts = ap (point_of G) (sound.ends_meet h half)

  pub next_face : face_at G (after G h) ≡ face_at G h
  next_face = ap (face_of G) (loop_after G sound h half)

pub turned_sign : (d : ℤ) → int_lt (pos 0) d ≡ true → int_lt (neg_ℤ d) (pos 0) ≡ true
turned_sign d e = grind (arith, ints)

-- ---- a half-edge of the solid

module _ (M : Model) (s : ℕ) (sound : Sound M) (convex : IsStrictlyConvex M s) where
  pub corner_on : (k : ℕ) → Has M.faces k → solid_of M k ≡ s → (v : ℕ) → IsIn v (corners M k) → is_on (plane_of M k) (point_of M v) ≡ true
  unfolding is_flat
  corner_on k there of v i = listed_passes (λ x. is_on (plane_of M k) (point_of M x)) (corners M k) v (and_parts _ _ (convex.convex.flat k there of)).1 (listed-from_in v (corners M k) i)

  module _ (g : ℕ) (half : HasHalf M g) (of : solid_of M (face_at M g) ≡ s) where
    pub beyond_of : solid_of M (face_at M (mate g)) ≡ s
    beyond_of = sym (sound.one_solid g half) ∙ of

    back_there : HasHalf M (mate g)
    back_there = mate_there M g half

    pub bent_here : IsBent (plane_of M (face_at M g)) (plane_of M (face_at M (mate g))) M g
    unfolding plane_of
    bent_here = record {
      start_here = corner_on (face_at M g) (half_face M sound g half) of (tail M g) (starts_in M sound g half);
      finish_here = corner_on (face_at M g) (half_face M sound g half) of (tail M (mate g)) (ends_in M sound g half);
      start_beyond = subst (λ x. is_on (plane_of M (face_at M (mate g))) (start M x) ≡ true) (mate-mate g)
          (corner_on (face_at M (mate g)) (half_face M sound (mate g) back_there) beyond_of (tail M (mate (mate g))) (ends_in M sound (mate g) back_there));
      finish_beyond = corner_on (face_at M (mate g)) (half_face M sound (mate g) back_there) beyond_of (tail M (mate g)) (starts_in M sound (mate g) back_there);
      bends = convex.bends g half of;
    }

-- what leads along a half-edge lies as it does
bent_along : (n m : Plane) (M G : Model) (g x : ℕ) → LeadsAlong M G g x → IsBent n m M g → IsBent n m G x
bent_along n m M G g x w b =
    let k = w.from + w.part + w.rest in
    let some : k ≢ 0 = λ e. w.some (omega (arith, e)) in
    let a = start M g in let z = finish M g in let r = start G x in let q = finish G x in
    let r_n = on_line n k w.from a z a r some w.starts b.start_here b.finish_here b.start_here in
    let r_m = on_line m k w.from a z a r some w.starts b.start_beyond b.finish_beyond b.start_beyond in
    record {
      start_here = r_n;
      finish_here = on_line n k w.part a z r q some w.leads b.start_here b.finish_here r_n;
      start_beyond = r_m;
      finish_beyond = on_line m k w.part a z r q some w.leads b.start_beyond b.finish_beyond r_m;
      bends = turns_too (direction n) (direction m) (towards a z) (towards r q) k w.part some w.some w.leads b.bends;
    }

bent_still : (n m : Plane) (G H : Model) (x : ℕ) → start H x ≡ start G x → finish H x ≡ finish G x → IsBent n m G x → IsBent n m H x
bent_still n m G H x starts ends b = record {
  start_here = ap (is_on n) starts ∙ b.start_here;
  finish_here = ap (is_on n) ends ∙ b.finish_here;
  start_beyond = ap (is_on m) starts ∙ b.start_beyond;
  finish_beyond = ap (is_on m) ends ∙ b.finish_beyond;
  bends = subst (λ v. int_lt (pos 0) v ≡ true) (λ i. dot (towards (sym starts i) (sym ends i)) (across n m)) b.bends;
} where
  across : Plane → Plane → Point
  across n m = cross (direction n) (direction m)

-- point q isn't above the plane of any face of solid s
abbrev pub IsInside : Model → ℕ → Point → Type 0
IsInside M s q = (j : ℕ) → Has M.faces j → solid_of M j ≡ s → is_above (plane_of M j) q ≡ false

-- ---- the drawn solid

-- the drawing of an accepted split begins, and isn't stuck
pub record IsDrawnThrough (M : Model) (s : ℕ) (p : Plane) (t : ℕ) : Type 0 where
  pub begun : CanBegin M s p t
  pub unstuck : (with_drawings M s p).stuck ≡ 0
  pub D_sound : Sound (with_drawings M s p).model

pub drawn_through : (M : Model) (s : ℕ) (p : Plane) (t : ℕ) → Sound M → split_refusal M s p t ≡ None → IsDrawnThrough M s p t
drawn_through M s p t sound accepted = record { begun = begins M s p t sound accepted; unstuck = never_stuck M s p t sound accepted; D_sound = drawn_sound M s p t sound accepted }

module _ (M : Model) (s : ℕ) (p : Plane) (t : ℕ) (sound : Sound M) (begun : CanBegin M s p t) (unstuck : (with_drawings M s p).stuck ≡ 0) (convex : IsStrictlyConvex M s) where
  open stages M s p t use {cut as C, drawn as D}

  pub C_sound : Sound C
  C_sound = crossings_sound M s p t sound begun

  pub D_sound : Sound D
  D_sound = rewritings_sound M s p t sound begun

  can : CanBeDrawn (with_crossings M s p) (straddling_pairs M s p)
  can = can_be_drawn M s p t sound begun

  pub stays : Stays C D
  unfolding with_drawings
  stays = drawing_stays p (with_crossings M s p) (straddling_pairs M s p) can

  keeps : KeepsSolids C D
  unfolding with_drawings
  keeps = drawing_keeps p (with_crossings M s p) (straddling_pairs M s p) can

  pub linked : AreLinked C D (side_of M s p) (IsEnd M C s p) []
  linked = drawings_linked M s p t sound begun

  pub vertex_inside : (v : ℕ) → IsVertexOf M s v → IsInside M s (point_of M v)
  vertex_inside v w j there of = convex.convex.below j there of v w

  pub start_inside : (x : ℕ) → HasHalf D x → solid_of D (face_at D x) ≡ s → IsInside M s (start D x)
  start_inside x there of j has at = drawn_under M s p t sound begun (plane_of M j) (convex.convex.below j has at) (tail D x) (half_on D D_sound s x there of)

  pub mate_of : (x : ℕ) → HasHalf D x → solid_of D (face_at D x) ≡ s → solid_of D (face_at D (mate x)) ≡ s
  mate_of x there of = sym (D_sound.one_solid x there) ∙ of

  pub finish_inside : (x : ℕ) → HasHalf D x → solid_of D (face_at D x) ≡ s → IsInside M s (finish D x)
  finish_inside x there of = start_inside (mate x) (mate_there D x there) (mate_of x there of)

  one_side : (k : ℕ) → Has D.faces k → solid_of D k ≡ s → straddles D p k ≡ false
  one_side k has of = none_straddles M D s p t sound begun (unstuck, refl) k (face_listed D D_sound s k has of)

  -- no corner of a face lies beyond the plane
  pub corner_low : (b : Bool) (k : ℕ) → Has D.faces k → solid_of D k ≡ s → face_is_above D p k ≡ b → (v : ℕ) → IsIn v (corners D k) → is_above (facing b p) (point_of D v) ≡ false
  unfolding face_is_above straddles
  corner_low false k has of e v i = none_passes (λ x. is_above p (point_of D x)) v (corners D k) ((or_parts (reaches_above D p k) (not (reaches_below D p k) && not (int_lt (pos 0) (dot (normal D k) (direction p)))) e).0) i
  corner_low true k has of e v i = above_facing true p (point_of D v) ∙ none_passes (λ x. is_below p (point_of D x)) v (corners D k) (not_both (reaches_above D p k) (reaches_below D p k) (not (int_lt (pos 0) (dot (normal D k) (direction p)))) e (one_side k has of)) i

  -- ---- a half-edge that was there

  module _ (x : ℕ) (was : HasHalf C x) (of : solid_of D (face_at D x) ≡ s) where
    abbrev comes : ComesOf M C x
    comes = half_comes M s p t sound begun x was

    pub came_of : solid_of M (face_at M (half_comes M s p t sound begun x was).half) ≡ s
    came_of = ap (solid_of M) (sym comes.face) ∙ sym (solid_stays M C (crossings_measured M s p t sound begun).faces (face_at C x)) ∙ sym (keeps.halves x was) ∙ of

    pub came_face : Has M.faces (face_at C x) × (solid_of M (face_at C x) ≡ s)
    came_face = (subst (λ k. Has M.faces k) (sym comes.face) (half_face M sound comes.half comes.there), ap (solid_of M) comes.face ∙ came_of)

    pub came_beyond : Has M.faces (face_at C (mate x)) × (solid_of M (face_at C (mate x)) ≡ s)
    came_beyond = (subst (λ k. Has M.faces k) (sym comes.beyond) (half_face M sound (mate comes.half) (mate_there M comes.half comes.there)), ap (solid_of M) comes.beyond ∙ beyond_of M s sound convex comes.half comes.there came_of)

    pub same_start : start D x ≡ start C x
    same_start = start_stays C D stays x was

    pub same_finish : finish D x ≡ finish C x
    same_finish = start_stays C D stays (mate x) (mate_there C x was)

    pub old_bent : IsBent (plane_of M (face_at C x)) (plane_of M (face_at C (mate x))) D x
    old_bent = bent_still (plane_of M (face_at C x)) (plane_of M (face_at C (mate x))) C D x same_start same_finish
        (subst (λ k. IsBent (plane_of M k) (plane_of M (face_at C (mate x))) C x) (sym comes.face) (subst (λ k. IsBent (plane_of M (face_at M comes.half)) (plane_of M k) C x) (sym comes.beyond)
        (bent_along (plane_of M (face_at M comes.half)) (plane_of M (face_at M (mate comes.half))) M C comes.half x comes.along (bent_here M s sound convex comes.half comes.there came_of))))

    -- its face lies on the plane of the face from which it comes
    pub face_level : (v : ℕ) → IsIn v (corners D (face_at D x)) → is_on (plane_of M (face_at C x)) (point_of D v) ≡ true
    unfolding with_drawings
    face_level v i =
        let f = face_at C x in
        let same = (crossings_measured M s p t sound begun).faces in
        let flat = lies_flat M s p t sound begun f (half_face C C_sound x was) (solid_stays M C same f ∙ came_face.1) in
        listed_passes (λ y. is_on (plane_of M f) (point_of D y)) (corners D (face_at D x)) v
        (face_on D D_sound (plane_of M f) (face_at D x) (half_face D D_sound x (stays.halves x was)) (((spread M s p t sound begun).halves x was).on (plane_of M f) flat.1)) (listed-from_in v (corners D (face_at D x)) i)

    -- a corner of that face, which lies under the one beyond
    pub record Strict : Type 0 where
      pub vertex : ℕ
      pub corner : IsVertexOf M s vertex
      pub listed : lists (corners M (face_at C x)) vertex ≡ true
      pub on : is_on (plane_of M (face_at C x)) (point_of M vertex) ≡ true
      pub below : is_below (plane_of M (face_at C (mate x))) (point_of M vertex) ≡ true

    pub strict : Strict
    strict =
        let u = under M s sound convex comes.half comes.there came_of in
        let at : lists (corners M (face_at C x)) u.vertex ≡ true = ap (λ k. lists (corners M k) u.vertex) comes.face ∙ u.corner in
        record {
          vertex = u.vertex;
          corner = record { face = face_at C x; there = came_face.0; solid = came_face.1; corner = at };
          listed = at;
          on = listed_on u.vertex at;
          below = ap (λ k. is_below (plane_of M k) (point_of M u.vertex)) comes.beyond ∙ deep u.vertex u.depth;
        } where
          listed_on : (v : ℕ) → lists (corners M (face_at C x)) v ≡ true → is_on (plane_of M (face_at C x)) (point_of M v) ≡ true
          listed_on v l = corner_on M s sound convex (face_at C x) came_face.0 came_face.1 v (IsIn-from_listed v (corners M (face_at C x)) l)

          deep : (v : ℕ) → int_lt (pos 0) (depth M (point_of M v) (face_at M (mate comes.half))) ≡ true → is_below (plane_of M (face_at M (mate comes.half))) (point_of M v) ≡ true
          deep v e = ap (λ h. int_lt h (pos 0)) (height_is M (point_of M v) (face_at M (mate comes.half))) ∙ turned_sign (depth M (point_of M v) (face_at M (mate comes.half))) e
