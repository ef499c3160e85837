-- The plane through a point across a normal, as the code makes it.
use Rattle.solid_measure.proofs.Prelude.{◌≡◌, ℕ, ◌≤◌, ℤ, pos, sym, ap, subst, ◌∙◌, arith, ◌-ℤ◌, neg_ℤ, FitsSigned, ints, Point, Plane, IsWithin, IsVectorWithin, IsPlane, normal_limit, offset_limit, dot, Model, fits, fits_as, held, held_is, held_as, Frame, area_limit, plane_of, plane_through, read, IsFrame}
use mir.Syntax.{w128}

pub plane_told : (M : Model) (f : ℕ) (found : Frame) → IsFrame M f found → plane_through (read found.normal) found.anchor ≡ plane_of M f
unfolding plane_of
plane_told M f found w = λ i. plane_through (w.summed i) (w.anchored i)

abbrev held_vector : Point → Point
held_vector n = record { x = held n.x; y = held n.y; z = held n.z }

module _ (n a : Point) (t : ℤ) (wn : IsVectorWithin area_limit n) (wt : IsWithin 30000000000000000000000000000000000 t) where
  pub held_vector_is : held_vector n ≡ n
  held_vector_is = λ i. record { x = held_is n.x (fits _ _ wn.0 (omega arith)) i; y = held_is n.y (fits _ _ wn.1 (omega arith)) i; z = held_is n.z (fits _ _ wn.2 (omega arith)) i }

  turned : pos 0 -ℤ held t ≡ neg_ℤ t
  turned = ap (λ z. pos 0 -ℤ z) (held_is t (fits _ _ wt (omega arith))) ∙ omega (arith, ints)

  turned_within : IsWithin 30000000000000000000000000000000000 (neg_ℤ t)
  turned_within = omega (arith, ints, wt)

  pub turned_fits : FitsSigned w128 (pos 0 -ℤ held t)
  turned_fits = fits_as (pos 0 -ℤ held t) (neg_ℤ t) turned (fits _ _ turned_within (omega arith))

  turned_held : held (pos 0 -ℤ held t) ≡ neg_ℤ t
  turned_held = held_as (pos 0 -ℤ held t) (neg_ℤ t) turned (fits _ _ turned_within (omega arith))

  abbrev pub plane_made : Plane
  plane_made = record { a = held n.x; b = held n.y; c = held n.z; d = held (pos 0 -ℤ held t) }

  pub plane_is : t ≡ dot (held_vector n) a → plane_made ≡ plane_through n a
  plane_is e =
      let d : t ≡ dot n a = e ∙ ap (λ v. dot v a) held_vector_is in
      λ i. record { a = (held_vector_is i).x; b = (held_vector_is i).y; c = (held_vector_is i).z; d = (turned_held ∙ ap neg_ℤ d) i }

  wider : (m k : ℕ) (z y : ℤ) → z ≡ y → IsWithin m y → m ≤ k → IsWithin k z
  wider m k z y e w l = subst (IsWithin k) (sym e) (omega (arith, w, l))

  pub plane_ranges : IsPlane plane_made
  plane_ranges = (
    (wider area_limit normal_limit _ n.x (ap (λ v. v.x) held_vector_is) wn.0 (omega arith), wider area_limit normal_limit _ n.y (ap (λ v. v.y) held_vector_is) wn.1 (omega arith), wider area_limit normal_limit _ n.z (ap (λ v. v.z) held_vector_is) wn.2 (omega arith)),
    wider _ offset_limit _ (neg_ℤ t) turned_held turned_within (omega arith),
  )
