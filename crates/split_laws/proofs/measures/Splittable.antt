-- The drawn model of a split that isn't refused: its faces are flat, and its section lies on the plane.
use Rattle.split_laws.proofs.Prelude.{◌≡◌, ◌≢◌, ℕ, true, false, not, ℤ, pos, List, [], ◌∷◌, None, is_some, refl, sym, ap, subst, ◌∙◌, arith, true≢false, inl, inr, int_lt, int_eq, append-nil, ints, and_parts, Plane, height, origin, same_point, direction, is_on, is_above, is_below, IsIn, mate, Model, tail, loop_of, face_of, outer, point_of, solid_of, faces_of, Sound, Has, HasHalf, face_at, lists, count-append, IsIn_or_not, mate-mate, cycle_there, loop_there as has_loop, item_there, mate_there, item_loop, half_after, loop_after, half_face, listed-from_in, start, corners, plane_of, faces_above, with_drawings, split_refusal, are_on, told_anywhere, split_begins, IsBelowHalf, AreSectionCycles, drawn_lies, none_straddles, in_solid, halves_in, LieOn, AllTellAlike, CanBeSplit, IsOnSide, AreSided, HasFace}
use Rattle.euler_operators.specs.Common.{after}
use Rattle.euler_operators.specs.Table as table
use Rattle.split_drawing_laws.specs.drawn_volumes.Laws.{LiesOnOld}
use Rattle.split_drawing_laws.proofs.drawn_volumes.Bounds.{OnFace, on_face}
use Rattle.split_laws.proofs.sides.Sides.{begun_sided}
use Rattle.split_laws.proofs.drawn.Drawn.{some_above, begins, never_stuck, no_stray, drawn_sound, t_free, can_open_all, no_caps}
use Rattle.split_laws.proofs.Stages.{stages}

-- what is neither above nor below lies level
pub level : (n : ℤ) → int_lt (pos 0) n ≡ false → int_lt n (pos 0) ≡ false → int_eq n (pos 0) ≡ true
level n a b = grind (arith, ints)

-- each half of some section cycles lies between a face above and one that isn't
half_in : (N : Model) (above : List ℕ) (s : ℕ) (cs : List (List ℕ)) → AreSectionCycles N above s cs → (b : ℕ) → IsIn b (halves_in cs) → IsBelowHalf N above s b
half_in N above s [] w b i = absurd (omega (arith, i))
half_in N above s (bs ∷ cs) w b i = elim (IsIn_or_not b bs) [
  | inl j ↦ w.0.halves b j
  | inr z ↦ half_in N above s cs w.1 b (omega (arith, i, z, count-append b bs (halves_in cs)))
]

-- where the listed faces of solid s lie on one side and the others on the other, what lies between starts on the plane
module _ (N : Model) (sound : Sound N) (p : Plane) (s : ℕ) (fs : List ℕ) (sided : AreSided N p s fs) where
  half_sided : (h : ℕ) → HasHalf N h → solid_of N (face_at N h) ≡ s → IsOnSide p (lists fs (face_at N h)) (start N h)
  half_sided h there of = sided (loop_of N h) h (record { loop_there = has_loop N sound h there; face_there = half_face N sound h there; of_solid = of; item = cycle_there N sound h there })

  pub between_on : (b : ℕ) → IsBelowHalf N fs s b → is_on p (start N b) ≡ true
  between_on b w =
      let m : HasHalf N (mate b) = mate_there N b w.there in
      let n : HasHalf N (after N (mate b)) = half_after N sound (mate b) m in
      let face : face_at N (after N (mate b)) ≡ face_at N (mate b) = ap (face_of N) (loop_after N sound (mate b) m) in
      let starts : start N (after N (mate b)) ≡ start N b = ap (point_of N) (sound.ends_meet (mate b) m ∙ ap (tail N) (mate-mate b)) in
      let of : solid_of N (face_at N (after N (mate b))) ≡ s = ap (solid_of N) face ∙ sym (sound.one_solid b w.there) ∙ w.of_solid in
      let low : is_above p (start N b) ≡ false = subst (λ u. IsOnSide p u (start N b)) w.below (half_sided b w.there w.of_solid) in
      let high : is_below p (start N (after N (mate b))) ≡ false = subst (λ u. IsOnSide p u (start N (after N (mate b)))) (ap (lists fs) face ∙ w.mate_above) (half_sided (after N (mate b)) n of) in
      level (height p (start N b)) low (ap (is_below p) (sym starts) ∙ high)

-- ---- a split that isn't refused

module _ (M : Model) (s : ℕ) (p : Plane) (t : ℕ) (sound : Sound M) (accepted : split_refusal M s p t ≡ None) where
  open stages M s p t use {drawn as D, above, cycles}

  D_sound : Sound D
  D_sound = drawn_sound M s p t sound accepted

  -- ---- each face lies on the plane of an old one, from all of whose points it is told the same

  alike : AllTellAlike D s
  alike f there of h i =
      let old : LiesOnOld M D s f = drawn_lies M s p t sound (begins M s p t sound accepted) f (listed-from_in f (faces_of D s) (in_solid D f s there of)) in
      let on : OnFace D (plane_of M old.face) f = on_face D D_sound (plane_of M old.face) f (and_parts (not (same_point (direction (plane_of M old.face)) origin)) (are_on D (plane_of M old.face) (corners D f)) old.on).1 in
      told_anywhere D (plane_of M old.face) f (start D h) D_sound there old.on
      (on.halves h (item_there D D_sound (outer D f) h i) (ap (face_of D) (item_loop D D_sound (outer D f) h i) ∙ (D_sound.outers_there f there).1))

  -- ---- no face straddles, so what lies between a face above and one that isn't lies on the plane

  pub drawn_sided : AreSided (with_drawings M s p).model p s (faces_above (with_drawings M s p).model p s)
  drawn_sided = begun_sided D p s D_sound (none_straddles M D s p t sound (begins M s p t sound accepted) (never_stuck M s p t sound accepted, refl))

  section_on : LieOn D p cycles
  section_on = record {
    some_way = (split_begins M s p t (begins M s p t sound accepted)).directed;
    on_plane = λ b i. between_on D D_sound p s above drawn_sided b (half_in D above s cycles (can_open_all M s p t sound accepted).cycles.cycles b i);
  }

  -- ---- the new solid's number is another one

  pub s_there : Has (with_drawings M s p).model.solids s
  s_there = let f : HasFace D s above true = some_above M s p t sound accepted in subst (Has D.solids) f.of_solid (D_sound.faces_of_solids f.face f.there)

  two_solids : s ≢ t
  two_solids e = true≢false (sym s_there ∙ ap is_some (ap (table.get D.solids) e ∙ t_free M s p t sound accepted))

  pub can_be_split : CanBeSplit (with_drawings M s p) (faces_above (with_drawings M s p).model p s) s p t
  can_be_split = grind (arith, can_open_all, append-nil, no_caps, alike, section_on, no_stray, two_solids, t_free)
