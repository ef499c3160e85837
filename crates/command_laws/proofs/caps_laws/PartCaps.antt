-- The caps once the holes are closed and the upper faces parted from the solid.
use Rattle.command_laws.proofs.Prelude.{◌≡◌, ◌≢◌, ℕ, zero, suc, ◌+◌, ◌<◌, ◌≤◌, Bool, true, false, cond, List, [], ◌∷◌, length, map, get_or, Some, is_some, refl, sym, ap, subst, ◌∙◌, arith, true≢false, filter, option_map, eqb_tells, Plane, Point, count, tick, cross, direction, is_on, moved, origin, Model, FaceRow, LoopContent, content, cycle, face_of, lone, outer, point_of, solid_of, tail, Sound, Has, lists, kfmrh, part, tick_same, same_solid, solid_row, IsIn-from_listed, listed-from_in, face_there, solid_either, corners, loops_of, vertices_in, vertices_on, normal, negated, Drawing, holes_in, is_hole, Caps, no_caps, outer_caps, opened_at, cross_moved, face_of_loop, on_one, IsPlain, cap_faces, ArePlain, hole_ops, AllLieAlong, LiesAlong, CanBeSplit, one_outer, AreClosed, AreLevel, holes_counted, each_at, holes_each, level_each, plain_each, closing, closing_carries, CanTake, along_each, IsCapOf, area_below, sum_of}
use Rattle.euler_operators.specs.Table as table
use Rattle.split_laws.proofs.Whole as after_closing
use Rattle.split_laws.proofs.volumes.Split as split
use Rattle.split_laws.proofs.volumes.Taken as taken
use Rattle.command_laws.proofs.caps_laws.OpenedCaps.{both_opposite, both_take, closed_normal, taken_by, lowers, normals_are, outer_is, told_at, told_filtered, uppers, AllFaceApart, LiesOn, caps_apart, outer_on, plain_lies, FacesApart, apart_each}
use Rattle.split_laws.proofs.Stages.{openings}

-- ---- a cap becomes a ring of another

kept_on : (M : Model) (f g : ℕ) (c : LoopContent) → vertices_on (kfmrh M f g) c ≡ vertices_on M c
unfolding kfmrh tail
kept_on M f g (lone v) = refl
kept_on M f g (cycle hs) = refl

kept_point : (M : Model) (f g v : ℕ) → point_of (kfmrh M f g) v ≡ point_of M v
unfolding kfmrh point_of
kept_point M f g v = refl

-- a face, if it is there, lies on the plane, and its normal along the direction
abbrev Stands : Plane → ℕ → Model → Type 0
Stands p k M = Has M.faces k → LiesOn M p k × (cross (direction p) (normal M k) ≡ origin)

module _ (M : Model) (p : Plane) (k f g : ℕ) (w : CanTake M p f g) where
  abbrev N : Model
  N = kfmrh M f g

  not_g : Has N.faces k → k ≢ g
  not_g there e = true≢false (sym there ∙ ap is_some (ap (table.get N.faces) e ∙ taken.face_goes M p f g w))

  still_on : LiesOn M p k → LiesOn N p k
  still_on on l there of v i =
      let one = taken.content_same M p f g w l in let two = taken.loop_there M p f g w l in let three = kept_on M f g (content N l) in
      let four = taken.face_else M p f g w l in
      grind (arith, two, three, one, kept_point M f g v, eqb_tells l (outer M g), outer_on M p g w.g_along v, w.g_along, on l, four)

  both_along : (a b : Point) → cross (direction p) a ≡ origin → cross (direction p) b ≡ origin → cross (direction p) (moved a b) ≡ origin
  both_along a b x y = cross_moved (direction p) a b ∙ (λ i. moved (x i) (y i))

  still_along : k ≢ g → cross (direction p) (normal M k) ≡ origin → cross (direction p) (normal N k) ≡ origin
  still_along ne along =
      let one = both_along (normal M g) (normal M f) w.g_along.across in
      grind (arith, eqb_tells k f, taken.normal_f M p f g w, one, w.g_along.across, along, taken.normal_same M p f g w k)

  still_stands : Stands p k M → Stands p k N
  still_stands was there =
      let ne = not_g there in
      let w' = was (ap is_some (sym (taken.face_stays M p f g w k ne)) ∙ there) in
      (still_on w'.0, still_along ne w'.1)

-- ---- the caps of cycle i among all

module _ (x : ℕ) where
  abbrev in_caps : Caps → ℕ
  in_caps k = count x (k.lower ∷ k.upper ∷ [])

  hole_apart : (ks : List Caps) (i : ℕ) → i < length ks → (get_or ks i no_caps).hole ≡ false → count x (cap_faces (filter (λ k. k.hole) ks)) + in_caps (get_or ks i no_caps) ≤ count x (cap_faces ks)
  hole_apart [] i l e = absurd (omega (arith, l))
  hole_apart (k ∷ ks) zero l e = omega (arith, ap (λ b. count x (cap_faces (cond b (k ∷ filter (λ k. k.hole) ks) (filter (λ k. k.hole) ks)))) e, holes_counted x ks)
  hole_apart (k ∷ ks) (suc i) l e = grind (arith, hole_apart ks i (omega (arith, l)) e)

  hole_in : (ks : List Caps) (i : ℕ) → i < length ks → (get_or ks i no_caps).hole ≡ true → in_caps (get_or ks i no_caps) ≤ count x (cap_faces (filter (λ k. k.hole) ks))
  hole_in [] i l e = absurd (omega (arith, l))
  hole_in (k ∷ ks) zero l e = omega (arith, ap (λ b. count x (cap_faces (cond b (k ∷ filter (λ k. k.hole) ks) (filter (λ k. k.hole) ks)))) e)
  hole_in (k ∷ ks) (suc i) l e = grind (arith, hole_in ks i (omega (arith, l)) e)

-- ---- some of the caps

opposite_sums : (M : Model) (p : Plane) (ks : List Caps) → AllFaceApart M p ks → sum_of (uppers M ks) ≡ negated (sum_of (lowers M ks))
opposite_sums M p [] a = refl
opposite_sums M p (k ∷ ks) a = both_opposite (normal M k.lower) (sum_of (lowers M ks)) (normal M k.upper) (sum_of (uppers M ks)) a.0.opposite (opposite_sums M p ks a.1)

-- ---- a drawn model that is split

module _ (d : Drawing) (above : List ℕ) (s : ℕ) (p : Plane) (t : ℕ) (w : CanBeSplit d above s p t) where
  open openings d above s p use {begun, cycles, opened as X, closed as K, upper as us}

  abbrev ks : List Caps
  ks = X.caps

  abbrev holes : List Caps
  holes = filter (λ k. k.hole) ks

  abbrev P : Model
  P = part K s t us

  once : (x : ℕ) → count x above + count x (cap_faces ks) ≤ 1
  once = split.once d above s p t w

  closed : AreClosed X.model K s us (hole_ops ks) (filter (λ k. k.hole) ks)
  closed = split.closed d above s p t w

  all_apart : AllFaceApart X.model p ks
  all_apart = caps_apart above s p begun cycles w.opens (split.bare d above s p t w) tt

  all_along : AllLieAlong X.model p ks
  all_along = (split.closes d above s p t w).along

  -- the flags and the normals of the caps below, by the cycles
  flags : map (λ k. k.hole) ks ≡ map (is_hole d.model p) cycles
  flags = split.flags d above s p t w

  areas : lowers X.model ks ≡ map (area_below d.model) cycles
  areas = normals_are above s p begun cycles w.opens (split.bare d above s p t w)

  -- ---- the caps of cycle i

  module _ (i : ℕ) (l : i < length (opened_at d above s p).caps) where
    abbrev k : Caps
    k = get_or ks i no_caps

    plain : IsPlain X.model s k.lower × IsPlain X.model s k.upper
    plain = each_at (ArePlain X.model s) _ (plain_each X.model s) ks i l (split.caps d above s p t w).plain

    along : LiesAlong X.model p k.lower × LiesAlong X.model p k.upper
    along = each_at (AllLieAlong X.model p) _ (along_each X.model p) ks i l all_along

    level : (lists us k.lower ≡ false) × (lists us k.upper ≡ true)
    level = each_at (AreLevel us) _ (level_each us) ks i l (after_closing.level d above s p w.opens (split.bare d above s p t w) w.no_stray)

    apart : FacesApart X.model p k
    apart = each_at (AllFaceApart X.model p) _ (apart_each X.model p) ks i l all_apart

    -- what was there before the holes were closed, and is none of a hole's caps
    cap_row : k.hole ≡ false → (f : ℕ) → 1 ≤ count f (k.lower ∷ k.upper ∷ []) → table.get K.faces f ≡ table.get X.model.faces f
    cap_row e f j = closed.rows f (omega (arith, hole_apart f ks i l e, once f, j))

    gone : k.hole ≡ true → (f : ℕ) → 1 ≤ count f (k.lower ∷ k.upper ∷ []) → table.has P.faces f ≡ false
    gone e f j = ap is_some (split.row_is K s t us f ∙ ap (option_map (split.to_new K s t us f)) (closed.gone f (omega (arith, hole_in f ks i l e, j))))

    stands_closed : (f : ℕ) → LiesOn X.model p f → cross (direction p) (normal X.model f) ≡ origin → Stands p f K
    stands_closed f on across = closing_carries X.model s p ks (Stands p f) (λ A g h c was. still_stands A p f g h c was) (split.closes d above s p t w) (λ there. (on, across))

    -- ---- parted

    part_sound : Sound P → (f : ℕ) → Has P.faces f → LiesOn P p f → (v : ℕ) → lists (corners P f) v ≡ true → is_on p (point_of P v) ≡ true
    unfolding corners
    part_sound sound f there on v j =
        let r = on_one P (loops_of P f) v (IsIn-from_listed v (vertices_in P (loops_of P f)) j) in
        let q = face_of_loop P sound f r.0 there (listed-from_in r.0 (loops_of P f) r.1) in
        on r.0 q.0 q.1 v r.2

    part_on : (f : ℕ) → LiesOn K p f → LiesOn P p f
    unfolding part face_of content point_of tail
    part_on f on q there of v j = grind (arith, on q there of v)

    part_row : (f : ℕ) (row : FaceRow) → table.get K.faces f ≡ Some row → table.get P.faces f ≡ Some (split.to_new K s t us f row)
    part_row f row e = split.row_is K s t us f ∙ ap (option_map (split.to_new K s t us f)) e

    part_solid : (f u : ℕ) (b : Bool) → Has K.faces f → solid_of K f ≡ u → lists us f ≡ b → solid_of P f ≡ cond b t u
    part_solid f u b there of is = solid_row P f _ (part_row f _ (face_there K f there)) ∙ solid_either (lists us f) (record { solid = solid_of K f; outer = outer K f }) t ∙ (λ j. cond (is j) t (of j))

    -- a cap of an outer cycle
    one_cap : Sound P → (f : ℕ) (b : Bool) → k.hole ≡ false → 1 ≤ count f (k.lower ∷ k.upper ∷ []) → IsPlain X.model s f → LiesAlong X.model p f → lists us f ≡ b → IsCapOf P p (cond b t s) f
    one_cap sound f b e j simple straight is =
        let row = cap_row e f j in
        let in_K : Has K.faces f = ap is_some row ∙ simple.there in
        let stands = stands_closed f (plain_lies X.model p s f simple straight) straight.across in_K in
        let there : Has P.faces f = ap is_some (part_row f _ (face_there K f in_K)) in
        record {
          there = there;
          solid = part_solid f s b in_K (same_solid X.model K f row ∙ simple.of_solid) is;
          on_plane = part_sound sound f there (part_on f stands.0);
          across = ap (cross (direction p)) (split.normal_same K s t us f) ∙ stands.1;
        }

    pub both_caps : Sound P → k.hole ≡ false → IsCapOf P p s k.lower × IsCapOf P p t k.upper
    both_caps sound e =
        let one = one_cap sound k.lower false e in
        grind (arith, one, k.lower, tick_same k.lower, plain, along, level, one_cap sound k.upper true e, k.upper, tick_same k.upper)

    pub both_gone : k.hole ≡ true → (table.has P.faces k.lower ≡ false) × (table.has P.faces k.upper ≡ false)
    both_gone e = (gone e k.lower (omega (arith, tick_same k.lower)), gone e k.upper (omega (arith, tick_same k.upper)))

    -- ---- normals

    no_hole : k.hole ≡ false → is_hole d.model p (get_or cycles i []) ≡ false
    no_hole e = sym (told_at (λ k. k.hole) (is_hole d.model p) ks cycles i l flags) ∙ e

    -- what a cap of an outer cycle takes, once the holes are closed
    module _ (e : (get_or (opened_at d above s p).caps i no_caps).hole ≡ false) where
      own : k.lower ≢ k.upper
      own f = absurd (omega (arith, once k.lower, hole_apart k.lower ks i l e, tick_same k.lower, ap (tick k.lower) f))

      abbrev Take : Caps → Type 0
      Take o = (taken_by X.model k.lower (closing o holes) ≡ sum_of (lowers X.model holes)) × (taken_by X.model k.upper (closing o holes) ≡ sum_of (uppers X.model holes))

      take : Take (outer_caps ks)
      take = taken_by_holes holes refl where
        taken_by_holes : (hs : List Caps) → holes ≡ hs → Take (outer_caps ks)
        taken_by_holes [] none = (
          ap (λ hs. taken_by X.model k.lower (closing (outer_caps ks) hs)) none ∙ ap (λ hs. sum_of (lowers X.model hs)) (sym none),
          ap (λ hs. taken_by X.model k.upper (closing (outer_caps ks) hs)) none ∙ ap (λ hs. sum_of (uppers X.model hs)) (sym none),
        )
        taken_by_holes (h ∷ hs) some =
            let one = one_outer d.model p cycles ks flags w.no_stray (subst (λ xs. 0 < length xs) (sym some) (omega arith)) in
            subst Take (sym (outer_is ks i l e one)) (both_take X.model k holes own)

      lower_now : normal K k.lower ≡ moved (sum_of (lowers X.model holes)) (normal X.model k.lower)
      lower_now = closed_normal X.model s p ks (split.closes d above s p t w) k.lower (omega (arith, once k.lower, hole_apart k.lower ks i l e, tick_same k.lower)) ∙ ap (λ v. moved v (normal X.model k.lower)) take.0

      upper_now : normal K k.upper ≡ moved (sum_of (uppers X.model holes)) (normal X.model k.upper)
      upper_now = closed_normal X.model s p ks (split.closes d above s p t w) k.upper (omega (arith, once k.upper, hole_apart k.upper ks i l e, tick_same k.upper)) ∙ ap (λ v. moved v (normal X.model k.upper)) take.1

    pub normals_told : k.hole ≡ false → (is_hole d.model p (get_or cycles i []) ≡ false) × (normal P k.lower ≡ moved (sum_of (map (area_below d.model) (holes_in d.model p cycles))) (area_below d.model (get_or cycles i []))) × (normal P k.upper ≡ negated (normal P k.lower))
    normals_told e =
        let low = split.normal_same K s t us k.lower in
        let up = split.normal_same K s t us k.upper in
        let hole_areas = told_filtered (λ k. normal X.model k.lower) (area_below d.model) (is_hole d.model p) ks cycles areas flags in (
          no_hole e,
          low ∙ lower_now e ∙ (λ j. moved (sum_of (hole_areas j)) (told_at (λ k. normal X.model k.lower) (area_below d.model) ks cycles i l areas j)),
          up ∙ upper_now e ∙ both_opposite (sum_of (lowers X.model holes)) (normal X.model k.lower) (sum_of (uppers X.model holes)) (normal X.model k.upper)
              (opposite_sums X.model p holes (holes_each (AllFaceApart X.model p) _ (apart_each X.model p) ks all_apart)) apart.opposite ∙ ap negated (sym (lower_now e) ∙ sym low),
        )
