-- The halves of the section's edges in the faces that aren't above: they are among the mates of the half-edges of the faces above that don't reach above
-- the plane.
use Rattle.split_sections.proofs.Prelude.{◌≡◌, ℕ, ◌≤◌, Bool, true, false, cond, not, ◌&&◌, ◌||◌, List, [], ◌∷◌, ◌++◌, filter, refl, sym, ap, subst, ◌∙◌, arith, true≢false, inl, inr, not-true, list_any, count, IsIn, IsApart, SameItems, mate, mate-mate, mate_there, Plane, Model, is_above, loop_of, tail, face_of, point_of, faces_of, solid_of, after, Sound, Has, HasHalf, face_at, lists, count-append, tick_same, tick_other, eqb_tells, IsIn_or_not, IsIn-filter, IsIn-map, IsApart-images, from_map, IsIn-from_listed, listed-from_in, cycle_there, half_after, loop_after, items_in, loops_in, loops_of, boundary, corners, start, face_is_above, faces_above, reaches_above, all_loops_apart, different_items, face_of_loop, in_some, items_counted, items_joined, items_there, listed_face, solid_half, tail_in, of_picked, picked_apart, AreThere, IsBelowHalf, AreSectionHalves, lies_below, lying_below, low_mates, mates_met, stays_low}
use Rattle.split_sections.proofs.section_edges_laws.Mates.{mates_joined}

-- a test that no item passes is false of each
none_passes : (t : ℕ → Bool) (x : ℕ) (xs : List ℕ) → list_any t xs ≡ false → IsIn x xs → t x ≡ false
none_passes t x [] none i = absurd (omega (arith, i))
none_passes t x (y ∷ ys) none i = grind (arith, eqb_tells, tick_other, none_passes t x ys)

module _ (M : Model) (p : Plane) where
  not_up : (f : ℕ) → face_is_above M p f ≡ false → reaches_above M p f ≡ false
  unfolding face_is_above
  not_up f low = first_off (reaches_above M p f) _ low where
    first_off : (a b : Bool) → a || b ≡ false → a ≡ false
    first_off true b e = absurd (true≢false e)
    first_off false b e = refl

module _ (M : Model) (sound : Sound M) (p : Plane) (s : ℕ) where
  abbrev above : List ℕ
  above = faces_above M p s

  -- the half-edges of some faces
  abbrev items : List ℕ → List ℕ
  items fs = items_in M (loops_in M fs)

  met_items : (fs : List ℕ) → mates_met M p fs ≡ low_mates M p (items fs)
  unfolding boundary
  met_items [] = refl
  met_items (f ∷ fs) = ap (λ ms. low_mates M p (items_in M (loops_of M f)) ++ ms) (met_items fs) ∙ sym (mates_joined M p (items_in M (loops_of M f)) (items fs))
      ∙ ap (low_mates M p) (sym (items_joined M (loops_of M f) (loops_in M fs)))

  -- ---- each is met once

  fewer : (t : ℕ → Bool) (fs : List ℕ) (l : ℕ) → count l (loops_in M (filter t fs)) ≤ count l (loops_in M fs)
  fewer t [] l = omega arith
  fewer t (f ∷ fs) l = elim (t f) as (λ b. count l (loops_in M (cond b (f ∷ filter t fs) (filter t fs))) ≤ count l (loops_in M (f ∷ fs))) [
    | true ↦ omega (arith, fewer t fs l, count-append l (loops_of M f) (loops_in M (filter t fs)), count-append l (loops_of M f) (loops_in M fs))
    | false ↦ omega (arith, fewer t fs l, count-append l (loops_of M f) (loops_in M fs))
  ]

  items_apart : IsApart (items above)
  items_apart = (different_items M sound (loops_in M above) (λ l. omega (arith, fewer (face_is_above M p) (faces_of M s) l, all_loops_apart M sound s l))).apart

  met_apart : IsApart (mates_met M p above)
  met_apart = subst IsApart (sym (met_items above))
      (IsApart-images mate (filter (stays_low M p) (items above)) (picked_apart (stays_low M p) (items above) items_apart) (λ x y i j e. sym (mate-mate x) ∙ ap mate e ∙ mate-mate y))

  -- ---- which faces they are of

  in_one : (fs : List ℕ) (h : ℕ) → IsIn h (items fs) → (f : ℕ) × IsIn f fs × IsIn h (boundary M f)
  unfolding boundary
  in_one [] h i = absurd (omega (arith, i))
  in_one (f ∷ fs) h i = elim (IsIn_or_not h (items_in M (loops_of M f))) [
    | inl j ↦ (f, omega (arith, tick_same f), j)
    | inr z ↦ let r = in_one fs h (omega (arith, i, z, ap (count h) (items_joined M (loops_of M f) (loops_in M fs)), count-append h (items_in M (loops_of M f)) (items fs))) in (r.0, omega (arith, r.1), r.2)
  ]

  bounding : (f h : ℕ) → Has M.faces f → IsIn h (boundary M f) → face_at M h ≡ f
  unfolding boundary
  bounding f h there i =
      let l : IsIn (loop_of M h) (loops_of M f) = omega (arith, i, items_counted M sound (loops_of M f) h) in
      (face_of_loop M sound f (loop_of M h) there (listed-from_in (loop_of M h) (loops_of M f) l)).1

  of_solid : (f : ℕ) → IsIn f (faces_of M s) → Has M.faces f × (solid_of M f ≡ s)
  of_solid f i = listed_face M sound s f (listed-from_in f (faces_of M s) i)

  pub above_in : (f : ℕ) → IsIn f above → IsIn f (faces_of M s)
  above_in f i = (of_picked (face_is_above M p) f (faces_of M s) i).0

  -- a half-edge of the solid bounds its face, which is one of the solid's
  bounds : (h : ℕ) → HasHalf M h → solid_of M (face_at M h) ≡ s → IsIn (face_at M h) (faces_of M s) × IsIn h (boundary M (face_at M h))
  bounds h there of =
      let o = in_one (faces_of M s) h (solid_half M sound s h there of) in
      let same : o.0 ≡ face_at M h = sym (bounding o.0 h (of_solid o.0 o.1).0 o.2) in
      (subst (λ f. IsIn f (faces_of M s)) same o.1, subst (λ f. IsIn h (boundary M f)) same o.2)

  -- ---- those met are halves of section edges, unless they lie in a face above

  met_half : (b : ℕ) → IsIn b (mates_met M p above) → HasHalf M b × (solid_of M (face_at M b) ≡ s) × (lists above (face_at M (mate b)) ≡ true)
  met_half b i =
      let m = from_map mate b (filter (stays_low M p) (items above)) (subst (IsIn b) (met_items above) i) in
      let h = (of_picked (stays_low M p) m.0 (items above) m.1).0 in
      let o = in_one above m.0 h in
      let f = of_solid o.0 (above_in o.0 o.1) in
      let back : mate b ≡ m.0 = ap mate m.2 ∙ mate-mate m.0 in
      let face : face_at M (mate b) ≡ o.0 = ap (face_at M) back ∙ bounding o.0 m.0 f.0 o.2 in
      let there : HasHalf M b = subst (HasHalf M) (sym m.2) (mate_there M m.0 (items_there M sound (loops_in M above) m.0 h)) in
      (there, sound.one_solid b there ∙ ap (solid_of M) face ∙ f.1, ap (lists above) face ∙ listed-from_in o.0 above o.1)

  -- ---- all halves of section edges are met

  -- no half-edge of a face that isn't above starts above the plane
  starts_low : (h : ℕ) → HasHalf M h → solid_of M (face_at M h) ≡ s → lists above (face_at M h) ≡ false → is_above p (start M h) ≡ false
  unfolding corners boundary
  starts_low h there of low = none_passes (λ v. is_above p (point_of M v)) (tail M h) (corners M (face_at M h)) (not_up M p (face_at M h) (not_above (face_is_above M p (face_at M h)) refl)) corner where
    corner : IsIn (tail M h) (corners M (face_at M h))
    corner = tail_in M h (loop_of M h) (loops_of M (face_at M h)) (omega (arith, (bounds h there of).1, items_counted M sound (loops_of M (face_at M h)) h)) (cycle_there M sound h there)

    not_above : (b : Bool) → face_is_above M p (face_at M h) ≡ b → face_is_above M p (face_at M h) ≡ false
    not_above true e = absurd (true≢false (sym (listed-from_in (face_at M h) above (IsIn-filter (face_is_above M p) (face_at M h) (faces_of M s) (bounds h there of).0 e)) ∙ low))
    not_above false e = e

  boundary_first : (f : ℕ) (fs : List ℕ) → items (f ∷ fs) ≡ boundary M f ++ items fs
  unfolding boundary
  boundary_first f fs = items_joined M (loops_of M f) (loops_in M fs)

  half_met : (b : ℕ) → IsBelowHalf M above s b → IsIn b (mates_met M p above)
  half_met b w =
      let m : HasHalf M (mate b) = mate_there M b w.there in
      let of : solid_of M (face_at M (mate b)) ≡ s = sym (sound.one_solid b w.there) ∙ w.of_solid in
      let held : IsIn (mate b) (items above) =
      in_some (boundary M) items boundary_first above (face_at M (mate b)) (mate b) (IsIn-from_listed (face_at M (mate b)) above w.mate_above) (bounds (mate b) m of).1 in
      let ends : is_above p (start M (mate (mate b))) ≡ false = ap (λ h. is_above p (start M h)) (mate-mate b) ∙ starts_low b w.there w.of_solid w.below in
      let face : face_at M (after M b) ≡ face_at M b = ap (face_of M) (loop_after M sound b w.there) in
      let starts : is_above p (start M (mate b)) ≡ false = ap (λ v. is_above p (point_of M v)) (sym (sound.ends_meet b w.there))
      ∙ starts_low (after M b) (half_after M sound b w.there) (ap (solid_of M) face ∙ w.of_solid) (ap (lists above) face ∙ w.below) in
      let low : stays_low M p (mate b) ≡ true = λ i. not (starts i) && not (ends i) in
      subst (IsIn b) (sym (met_items above)) (subst (λ h. IsIn h (low_mates M p (items above))) (mate-mate b) (IsIn-map mate (mate b) (filter (stays_low M p) (items above)) (IsIn-filter (stays_low M p) (mate b) (items above) held low)))

  pub section_halves : (hs : List ℕ) → SameItems hs (mates_met M p above) → AreSectionHalves M above s (lying_below M above hs)
  section_halves hs same = record {
    apart = picked_apart (lies_below M above) hs (λ x. omega (arith, same x, met_apart x));
    halves = λ b i.
        let q = of_picked (lies_below M above) b hs i in
        let h = met_half b (omega (arith, q.0, same b)) in
        record { there = h.0; of_solid = h.1; below = not-true (lists above (face_at M b)) q.1; mate_above = h.2 };
    all = λ b w. IsIn-filter (lies_below M above) b hs (omega (arith, half_met b w, same b)) (ap not w.below);
  }

  pub mates_there : (hs : List ℕ) → SameItems hs (mates_met M p above) → AreThere M hs
  mates_there hs same h i = (met_half h (omega (arith, i, same h))).0
