-- Sums over the faces of a solid, and how great they are.
use Rattle.solid_measure.proofs.Prelude.{◌≡◌, ℕ, ◌*◌, ℤ, pos, List, [], ◌∷◌, ◌++◌, length, Some, None, refl, sym, ap, ◌∙◌, arith, ◌+ℤ◌, ◌*ℤ◌, FitsSigned, length-append, Point, IsInRange, IsWithin, IsVectorWithin, dot, Model, faces_of, Sound, coordinates, coordinate_within, product_within, sum_within, fits, fits_as, held, held_is, held_as, IsNextFace, items_in, loops_of, boundary, loops_in, up_to, halves_short, items_joined, different_items, faces_none, solid_loops_apart, faces_more, faces_all, Frame, anchor, normal, read, six_volume, volume_in, IsFrame}
use mir.Syntax.{w128}
use Rattle.std.proofs.Math.IntN.{+ℤ_assoc, +ℤ_idl, +ℤ_idr}
use Rattle.solid_measure.proofs.Areas.{point_fits, area_within}

-- the half-edges of some faces
abbrev halves_of : Model → List ℕ → List ℕ
halves_of M fs = items_in M (loops_in M fs)

-- the sum over the faces of a solid that don't pass n
unfoldable pub volume_to : Model → ℕ → ℕ → ℤ
volume_to M s n = volume_in M (up_to n (faces_of M s))

pub face_volume : (M : Model) (f : ℕ) (found : Frame) → IsFrame M f found → dot found.anchor (read found.normal) ≡ dot (anchor M f) (normal M f)
face_volume M f found w = λ i. dot (w.anchored i) (w.summed i)

volume_push : (M : Model) (fs : List ℕ) (f : ℕ) → volume_in M (fs ++ f ∷ []) ≡ volume_in M fs +ℤ dot (anchor M f) (normal M f)
volume_push M [] f = +ℤ_idr (dot (anchor M f) (normal M f)) ∙ sym (+ℤ_idl (dot (anchor M f) (normal M f)))
volume_push M (g ∷ fs) f = ap (λ z. dot (anchor M g) (normal M g) +ℤ z) (volume_push M fs f) ∙ sym (+ℤ_assoc (dot (anchor M g) (normal M g)) (volume_in M fs) (dot (anchor M f) (normal M f)))

dot_within : (p q : Point) (m : ℕ) → IsInRange p → IsVectorWithin m q → IsWithin (3000000000 * m) (dot p q)
dot_within p q m r w =
    let ps = coordinates p r in
    let x = product_within p.x q.x _ _ _ (coordinate_within p.x ps.0) w.0 refl in
    let y = product_within p.y q.y _ _ _ (coordinate_within p.y ps.1) w.1 refl in
    let z = product_within p.z q.z _ _ _ (coordinate_within p.z ps.2) w.2 refl in
    let xy = sum_within (p.x *ℤ q.x) (p.y *ℤ q.y) _ _ (2000000000 * m) x y (omega arith) in
    sum_within (p.x *ℤ q.x +ℤ p.y *ℤ q.y) (p.z *ℤ q.z) _ _ (3000000000 * m) xy z (omega arith)

module _ (M : Model) (sound : Sound M) where
  volume_within : (fs : List ℕ) → IsWithin (6000000000000000000000000000 * length (halves_of M fs)) (volume_in M fs)
  unfolding normal boundary
  volume_within [] = omega arith
  volume_within (f ∷ fs) =
      let hs : List ℕ = items_in M (loops_of M f) in
      let d = dot_within (anchor M f) (normal M f) (2000000000000000000 * length hs) (point_fits M sound _) (area_within M sound hs) in
      sum_within (dot (anchor M f) (normal M f)) (volume_in M fs) _ _ _ d (volume_within fs)
      (omega (arith, ap (λ (ks : List ℕ). length ks) (items_joined M (loops_of M f) (loops_in M fs)), length-append hs (halves_of M fs)))

  module _ (s : ℕ) where
    -- below 3 * 10^34
    volume_limited : (n : ℕ) → IsWithin 20000000000000000000000000000000000 (volume_to M s n)
    unfolding volume_to
    volume_limited n =
        let fs : List ℕ = up_to n (faces_of M s) in
        omega (arith, volume_within fs, halves_short M sound (halves_of M fs) (different_items M sound (loops_in M fs) (solid_loops_apart M sound s n)))

    pub volume_start : pos 0 ≡ volume_to M s 0
    unfolding volume_to
    volume_start = sym (ap (volume_in M) (faces_none M sound s))

    volume_next : (last f : ℕ) → IsNextFace M s last (Some f) → volume_to M s last +ℤ dot (anchor M f) (normal M f) ≡ volume_to M s f
    unfolding volume_to
    volume_next last f next = sym (volume_push M (up_to last (faces_of M s)) f) ∙ sym (ap (volume_in M) (faces_more M sound s last f next))

    pub volume_end : (last : ℕ) → IsNextFace M s last None → volume_to M s last ≡ six_volume M s
    unfolding volume_to six_volume
    volume_end last none = ap (volume_in M) (faces_all M sound s last none)

    -- the code's sum with a face more
    module _ (z v : ℤ) (last f : ℕ) (so_far : z ≡ volume_to M s last) (adds : v ≡ dot (anchor M f) (normal M f)) (w : IsWithin 30000000000000000000000000000000000 v) (next : IsNextFace M s last (Some f)) where
      made_is : z +ℤ held v ≡ volume_to M s f
      made_is = (λ i. so_far i +ℤ (held_is v (fits _ _ w (omega arith)) ∙ adds) i) ∙ volume_next last f next

      pub sum_fits : FitsSigned w128 (z +ℤ held v)
      sum_fits = fits_as (z +ℤ held v) (volume_to M s f) made_is (fits _ _ (volume_limited f) (omega arith))

      pub sum_held : held (z +ℤ held v) ≡ volume_to M s f
      sum_held = held_as (z +ℤ held v) (volume_to M s f) made_is (fits _ _ (volume_limited f) (omega arith))
