-- Both parts of a strictly convex solid are strictly convex: at each of their edges the two faces bend away from each other.
use Rattle.convex_laws.proofs.Prelude.{◌≡◌, ℕ, pos, int_lt, Bool, true, false, cond, not, List, [], ◌∷◌, filter, fold, map, refl, sym, ap, subst, ◌∙◌, arith, inl, inr, Plane, Point, IsIn, after, cross, direction, dot, is_on, mate, Model, face_at, face_of, loop_of, point_of, tail, solid_of, Sound, Has, HasHalf, part, mate-mate, mate_there, half_face, listed-from_in, Caps, corners, face_is_above, finish, hole_closed, is_hole, normal, outer_caps, plane_of, start, towards, are_on, IsBelowHalf, cap_faces, upper_faces, side_of, Machine, held, IsSplit, caps_of, cycles_of, IsOfEither, BendsAway, IsStrictlyConvex, PartsOfConvexSolidsHaveVolume, SplitsKeepStrictlyConvex, count, ◌≤◌, stages}
use Rattle.split_laws.proofs.measures.Parts.{parts_there}
use Rattle.split_laws.proofs.volumes.Split as split
use Rattle.command_laws.proofs.caps_laws.OpenedCaps.{no_first, told_filtered}
use Rattle.command_laws.proofs.splits_laws.PartFaces.{uppers_counted}
use Rattle.command_laws.proofs.splits_laws.Whole as whole
use Rattle.convex_laws.proofs.Apart as apart
use Rattle.convex_laws.proofs.Beside as next
use Rattle.convex_laws.proofs.CapNormals.{cycles}
use Rattle.convex_laws.proofs.Caps as caps
use Rattle.convex_laws.proofs.Drawn as drawn
use Rattle.convex_laws.proofs.Links.{IsEnd, IsLink}
use Rattle.convex_laws.proofs.Parts as parts
use Rattle.convex_laws.proofs.Planes.{turned_over}
use Rattle.convex_laws.proofs.Rounds.{high_too}
use Rattle.convex_laws.proofs.Section as section
use Rattle.convex_laws.proofs.Traces.{AreTraced, IsTraced, openings_traced}
use Rattle.convex_laws.proofs.Volumes.{convex_solids_have_volume}
use Rattle.convex_laws.proofs.Turns.{IsHigh, turn, turn_first, turn_mate, turn_second}

none_mapped : {X Y : Type 0} (f : X → Y) (xs : List X) → map f xs ≡ [] → xs ≡ []
none_mapped f [] e = refl
none_mapped f (x ∷ xs) e = absurd (no_first e)

lowers_counted : (k : ℕ) (ks : List Caps) → count k (map (λ c. c.lower) ks) ≤ count k (cap_faces ks)
lowers_counted k [] = omega arith
lowers_counted k (c ∷ cs) = omega (arith, lowers_counted k cs)

-- half-edge h is as it was
record IsSame (K G : Model) (h : ℕ) : Type 0 where
  was : HasHalf G h → HasHalf K h
  start_is : start G h ≡ start K h
  face : face_at G h ≡ face_at K h

-- to part faces from a solid changes no half-edge
parted_same : (K : Model) (s t : ℕ) (us : List ℕ) (h : ℕ) → IsSame K (part K s t us) h
unfolding part tail point_of face_of loop_of
parted_same K s t us h = record { was = λ there. there; start_is = refl; face = refl }

module _ (before after_it : Machine) (s : ℕ) (p : Plane) (t : ℕ) (sound : Sound (held before)) (made : IsSplit before after_it s p t) (convex : IsStrictlyConvex (held before) s) where
  abbrev M : Model
  M = held before

  open stages M s p t use {cut as C, drawing as d, drawn as D, above, opened as X}
  open drawn.drawn_through M s p t sound made.0 use {begun, unstuck, D_sound}

  abbrev N : Model
  N = held after_it

  N_sound : Sound N
  N_sound = parts.N_sound before after_it s p t sound made convex

  -- ---- there are no holes to close

  no_holes : filter (λ k. k.hole) X.caps ≡ []
  no_holes = let same = split.flags d above s p t (whole.can before after_it s p t sound made) in
      none_mapped (λ k. k.hole) (filter (λ k. k.hole) X.caps)
      (told_filtered (λ k. k.hole) (is_hole D p) (is_hole D p) X.caps (cycles_of M s p) same same ∙ ap (map (is_hole D p)) (caps.none_of M s p t sound begun unstuck convex (cycles_of M s p) (cycles before after_it s p t sound made convex)))

  abbrev P : Model
  P = part X.model s t (upper_faces above X.caps)

  after_is : N ≡ P
  after_is = whole.after_is before after_it s p t sound made ∙ ap (λ hs. part (fold (hole_closed (outer_caps X.caps)) X.model hs) s t (upper_faces above X.caps)) no_holes

  same : (h : ℕ) → IsSame X.model N h
  same h = subst (λ G. IsSame X.model G h) (sym after_is) (parted_same X.model s t (upper_faces above X.caps) h)

  traced : AreTraced D above s X []
  traced = openings_traced D above s p d.taken (cycles_of M s p) (whole.can before after_it s p t sound made).opens

  -- ---- the faces on both sides look along their planes

  record IsAlong (k : ℕ) (n : Plane) : Type 0 where
    there : Has N.faces k
    on : are_on N n (corners N k) ≡ true
    looks : IsHigh (dot (direction n) (normal N k))

  still_turns : (k j : ℕ) (n m : Plane) (v : Point) → IsAlong k n → IsAlong j m → IsHigh (turn (direction n) v (direction m)) → IsHigh (turn (normal N k) v (normal N j))
  still_turns k j n m v a b high =
      let K = normal N k in
      let first : IsHigh (turn K v (direction m)) = ap (int_lt (pos 0)) (turn_first K v (direction m)) ∙ high_too N N_sound k a.there n a.on a.looks (cross (direction m) v) (ap (int_lt (pos 0)) (sym (turn_first (direction n) v (direction m))) ∙ high) in
      ap (int_lt (pos 0)) (turn_second K v (normal N j)) ∙ high_too N N_sound j b.there m b.on b.looks (cross v K) (ap (int_lt (pos 0)) (sym (turn_second K v (direction m))) ∙ first)

  piece_along : (k : ℕ) (has : Has D.faces k) (of : solid_of D k ≡ s) (y : ℕ) (was : HasHalf C y) → face_at D y ≡ k → IsAlong k (plane_of M (face_at C y))
  piece_along k has of y was at = record {
    there = (parts.turned before after_it s p t sound made convex k has of y was at).there;
    on = parts.face_on before after_it s p t sound made convex k has of y was at;
    looks = parts.face_looks before after_it s p t sound made convex k has of y was at;
  }

  -- ---- a half-edge that stands for one of the drawn solid

  module _ (h : ℕ) (there : HasHalf N h) (of : IsOfEither N s t (face_at N h)) (w : IsTraced D above s X.model X.caps h) where
    abbrev x : ℕ
    x = w.half

    abbrev k : ℕ
    k = face_at D x

    here : face_at N h ≡ face_at D x
    here = (same h).face ∙ w.here

    k_has : Has D.faces k
    k_has = half_face D D_sound x w.there

    k_there : Has N.faces k
    k_there = subst (λ f. Has N.faces f) here (half_face N N_sound h there)

    k_of : solid_of D k ≡ s
    k_of = apart.drawn_of before after_it s p t sound made k k_there (subst (λ f. IsOfEither N s t f) here of) k_has

    k_side : solid_of N k ≡ cond (face_is_above D p k) t s
    k_side = apart.side before after_it s p t sound made k k_has k_of

    beyond_there : Has N.faces (face_at N (mate h))
    beyond_there = half_face N N_sound (mate h) (mate_there N h there)

    beyond_of : solid_of N (face_at N (mate h)) ≡ solid_of N k
    beyond_of = sym (N_sound.one_solid h there) ∙ ap (solid_of N) here

    starts : start N h ≡ start D x
    starts = (same h).start_is ∙ w.starts

    ends : finish N h ≡ finish D x
    ends = (same (mate h)).start_is ∙ w.ends

    -- from the planes of both faces
    bends_by : (n m : Plane) → IsAlong k n → IsAlong (face_at N (mate h)) m → IsHigh (turn (direction n) (towards (start D x) (finish D x)) (direction m)) → BendsAway N h
    bends_by n m a b high = subst (λ f. int_lt (pos 0) (dot (towards (start N h) (finish N h)) (cross (normal N f) (normal N (face_at N (mate h))))) ≡ true) (sym here)
        (still_turns k (face_at N (mate h)) n m (towards (start N h) (finish N h)) a b (subst (λ v. IsHigh (turn (direction n) v (direction m))) (λ i. towards (sym starts i) (sym ends i)) high))

    -- ---- the face of its mate lies beyond

    module _ (far : face_at X.model (mate h) ≡ face_at D (mate x)) where
      beyond : face_at N (mate h) ≡ face_at D (mate x)
      beyond = (same (mate h)).face ∙ far

      mate_of : solid_of D (face_at D (mate x)) ≡ s
      mate_of = drawn.mate_of M s p t sound begun unstuck convex x w.there k_of

      old_bends : HasHalf C x → BendsAway N h
      old_bends was = bends_by (plane_of M (face_at C x)) (plane_of M (face_at C (mate x))) (piece_along k k_has k_of x was refl)
          (subst (λ f. IsAlong f (plane_of M (face_at C (mate x)))) (sym beyond) (piece_along (face_at D (mate x)) (half_face D D_sound (mate x) (mate_there D x w.there)) mate_of (mate x) (mate_there C x was) refl))
          (drawn.old_bent M s p t sound begun unstuck convex x was k_of).bends

      -- one that was drawn has the two parts on its sides
      never_new : IsLink C D (side_of M s p) (IsEnd M C s p) [] x → ⊥
      never_new l =
          let b = face_is_above D p k in
          let z_at = drawn.next_face D D_sound x w.there in
          let c_side = next.c_side M s p t sound begun unstuck convex b k k_has k_of refl (after D x) l.pair.d_there z_at x w.there refl l in
          let c_face = next.c_face M s p t sound begun unstuck convex b k k_has k_of refl (after D x) l.pair.d_there z_at x w.there refl l in
          let c_of = next.c_of M s p t sound begun unstuck convex b k k_has k_of refl (after D x) l.pair.d_there z_at x w.there refl l in
          let other : face_is_above D p (face_at D (mate x)) ≡ not b = ap (face_is_above D p) (sym c_face) ∙ sym (next.place_side M s p t sound begun unstuck convex l.from l.pair.c_there c_of l.pair.c_place (face_is_above D p (face_at D l.from)) refl) ∙ c_side in
          two_sides b (sym (apart.side before after_it s p t sound made (face_at D (mate x)) (half_face D D_sound (mate x) (mate_there D x w.there)) mate_of ∙ ap (λ c. cond c t s) other) ∙ ap (solid_of N) (sym beyond) ∙ beyond_of ∙ k_side) where
            two_sides : (b : Bool) → cond (not b) t s ≡ cond b t s → ⊥
            two_sides true e = whole.apart before after_it s p t sound made e
            two_sides false e = whole.apart before after_it s p t sound made (sym e)

      whole_bends : BendsAway N h
      whole_bends = elim ((drawn.linked M s p t sound begun unstuck convex).news x w.there) [
        | inl was ↦ old_bends was
        | inr l ↦ absurd (never_new l)
      ]

    -- ---- a cap lies beyond

    outer : IsIn (face_at X.model (mate h)) (cap_faces X.caps) → apart.OuterCap before after_it s p t sound made (face_at N (mate h))
    outer i = apart.outer_cap before after_it s p t sound made (face_at N (mate h)) beyond_there (listed-from_in (face_at N (mate h)) (cap_faces (caps_of M s p)) (subst (λ f. IsIn f (cap_faces X.caps)) (sym (same (mate h)).face) i))

    lower_bends : IsBelowHalf D above s x → IsIn (face_at X.model (mate h)) (map (λ c. c.lower) X.caps) → BendsAway N h
    lower_bends b i =
        let c = outer (omega (arith, i, lowers_counted (face_at X.model (mate h)) X.caps)) in
        let e = caps.edge M s p t sound begun unstuck convex x b in
        let a = piece_along k k_has k_of e.old e.was e.now in
        let stand = parts.stand before after_it s p t sound made convex (face_at N (mate h)) beyond_there c in
        elim c.which [
          | inl is ↦ bends_by (plane_of M (face_at C e.old)) p a (subst (λ f. IsAlong f p) (sym is) (record {
            there = stand.0.there;
            on = parts.lower_on before after_it s p t sound made convex (face_at N (mate h)) beyond_there c;
            looks = (parts.looks before after_it s p t sound made convex (face_at N (mate h)) beyond_there c).0;
          })) e.bends_here.bends
          | inr is ↦ absurd (whole.apart before after_it s p t sound made (sym (ap (λ c. cond c t s) (caps.below_side M s p t sound begun unstuck convex x b)) ∙ sym k_side ∙ sym beyond_of ∙ ap (solid_of N) is ∙ stand.1.solid))
        ]

    upper_bends : IsBelowHalf D above s (mate x) → IsIn (face_at X.model (mate h)) (map (λ c. c.upper) X.caps) → BendsAway N h
    upper_bends b i =
        let c = outer (omega (arith, i, uppers_counted (face_at X.model (mate h)) X.caps)) in
        let side : face_is_above D p k ≡ true = subst (λ y. face_is_above D p (face_at D y) ≡ true) (mate-mate x) (caps.above_side M s p t sound begun unstuck convex (mate x) b) in
        let e = section.section_edge M s p t sound begun unstuck convex true x w.there k_of side
        (subst (λ y. is_on p (start D y) ≡ true) (mate-mate x) (caps.ends_on M s p t sound begun unstuck convex (mate x) b)) (caps.starts_on M s p t sound begun unstuck convex (mate x) b) in
        let a = piece_along k k_has k_of e.old e.was e.now in
        let stand = parts.stand before after_it s p t sound made convex (face_at N (mate h)) beyond_there c in
        elim c.which [
          | inl is ↦ absurd (whole.apart before after_it s p t sound made (sym stand.0.solid ∙ ap (solid_of N) (sym is) ∙ beyond_of ∙ k_side ∙ ap (λ c. cond c t s) side))
          | inr is ↦ bends_by (plane_of M (face_at C e.old)) (turned_over p) a (subst (λ f. IsAlong f (turned_over p)) (sym is) (record {
            there = stand.1.there;
            on = parts.upper_on before after_it s p t sound made convex (face_at N (mate h)) beyond_there c;
            looks = (parts.looks before after_it s p t sound made convex (face_at N (mate h)) beyond_there c).1;
          })) e.bends_here.bends
        ]

    traced_bends : BendsAway N h
    traced_bends = elim w.beyond [
      | inl far ↦ whole_bends far
      | inr l ↦ elim l [
        | inl r ↦ lower_bends r.0 r.1
        | inr r ↦ upper_bends r.0 r.1
      ]
    ]

  -- ---- each half-edge of the parts

  back_bends : (h : ℕ) → BendsAway N (mate h) → BendsAway N h
  back_bends h bends = ap (int_lt (pos 0)) (sym (turn_mate (normal N (face_at N h)) (normal N (face_at N (mate h))) (start N h) (finish N h)))
      ∙ subst (λ y. int_lt (pos 0) (dot (towards (finish N h) (start N y)) (cross (normal N (face_at N (mate h))) (normal N (face_at N y)))) ≡ true) (mate-mate h) bends

  all_bend : (h : ℕ) → HasHalf N h → IsOfEither N s t (face_at N h) → BendsAway N h
  all_bend h there of = elim (traced.traced h ((same h).was there)) [
    | inl w ↦ traced_bends h there of w
    | inr w ↦ back_bends h (traced_bends (mate h) (mate_there N h there) (mate_either of) w)
  ] where
    mate_either : IsOfEither N s t (face_at N h) → IsOfEither N s t (face_at N (mate h))
    mate_either of = elim of [
      | inl e ↦ inl (sym (N_sound.one_solid h there) ∙ e)
      | inr e ↦ inr (sym (N_sound.one_solid h there) ∙ e)
    ]

  pub both_strict : IsStrictlyConvex (held after_it) s × IsStrictlyConvex (held after_it) t
  both_strict = let c = parts.both_convex before after_it s p t sound made convex in (
    record { convex = c.0; bends = λ h there of. all_bend h there (inl of) },
    record { convex = c.1; bends = λ h there of. all_bend h there (inr of) },
  )

pub splits_keep_strictly_convex : SplitsKeepStrictlyConvex
splits_keep_strictly_convex before after_it s p t sound made convex = both_strict before after_it s p t sound made convex

pub parts_have_volume : PartsOfConvexSolidsHaveVolume
parts_have_volume before after_it s p t sound made convex =
    let both = both_strict before after_it s p t sound made convex in
    let there : Has (held after_it).solids s × Has (held after_it).solids t = subst (λ G. Has G.solids s × Has G.solids t) (sym (ap held made.1)) (parts_there (held before) s p t sound made.0) in
    let now = N_sound before after_it s p t sound made convex in
    (convex_solids_have_volume (held after_it) s now there.0 both.0, convex_solids_have_volume (held after_it) t now there.1 both.1)
