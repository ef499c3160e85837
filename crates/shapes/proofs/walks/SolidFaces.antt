-- The faces of a solid, and their loops.
use Rattle.shapes.proofs.Prelude.{◌≡◌, ℕ, ◌≤◌, ◌<◌, true, nat_eq, List, [], ◌∷◌, length, refl, ap, ◌∙◌, arith, inl, inr, nat_tests, eqb_tells, count, tick, IsIn, IsApart, Model, outer, face_of, rings_of, faces_of, solid_of, Sound, Has, lists, strictly_rises, count-append, tick_same, IsIn_or_not, length_below, first_listed, rest_listed, listed_cases, all_where-rises, IsIn-from_listed, listed-from_in, ring_there, outer_or_ring, ring_number, counted_once, up_to, up_to_none, count_up_to, listed_up_to, face_in, in_faces, loops_of, loops_in}
use Rattle.shapes.proofs.walks.FaceLoops.{listed_ring, ring_listed, loops_of_apart}

module _ (M : Model) (sound : Sound M) where
  -- a loop of a face names it
  pub face_of_loop : (f l : ℕ) → Has M.faces f → lists (loops_of M f) l ≡ true → Has M.loops l × (face_of M l ≡ f)
  unfolding loops_of
  face_of_loop f l t i = grind (arith, listed_cases (outer M f) l (rings_of M f) i, sound.outers_there f t, ring_there M f l, listed_ring M sound f l)

  loop_of_face : (l : ℕ) → Has M.loops l → IsIn l (loops_of M (face_of M l))
  unfolding loops_of
  loop_of_face l t = IsIn-from_listed l (outer M (face_of M l) ∷ rings_of M (face_of M l)) (elim (outer_or_ring M (face_of M l) l t refl) [
    | inl o ↦ ap (λ k. lists (k ∷ rings_of M (face_of M l)) l) o ∙ first_listed l (rings_of M (face_of M l))
    | inr r ↦ rest_listed (outer M (face_of M l)) l (rings_of M (face_of M l)) (ring_listed M sound (face_of M l) l r)
  ])

  one_face : (f l : ℕ) → Has M.faces f → count l (loops_of M f) ≤ tick (face_of M l) f
  one_face f l t =
      grind (arith, IsIn_or_not l (loops_of M f), face_of_loop f l t, listed-from_in l (loops_of M f), loops_of_apart M sound f l, tick_same f)

  -- all these are faces
  abbrev AreFaces : List ℕ → Type 0
  AreFaces fs = (f : ℕ) → lists fs f ≡ true → Has M.faces f

  -- a loop stands no more often among the loops of some faces than its face among these
  loops_counted : (fs : List ℕ) (l : ℕ) → AreFaces fs → count l (loops_in M fs) ≤ count (face_of M l) fs
  loops_counted [] l t = omega arith
  loops_counted (f ∷ fs) l t = omega (arith, count-append l (loops_of M f) (loops_in M fs), one_face f l (t f (first_listed f fs)), loops_counted fs l (λ g i. t g (rest_listed f g fs i)))

  pub loops_there : (fs : List ℕ) (l : ℕ) → AreFaces fs → IsIn l (loops_in M fs) → Has M.loops l
  loops_there [] l t i = absurd (omega arith)
  loops_there (f ∷ fs) l t i = elim (IsIn_or_not l (loops_of M f)) [
    | inl j ↦ (face_of_loop f l (t f (first_listed f fs)) (listed-from_in l (loops_of M f) j)).0
    | inr z ↦ loops_there fs l (λ g k. t g (rest_listed f g fs k)) (omega (arith, z, count-append l (loops_of M f) (loops_in M fs)))
  ]

  loops_held : (fs : List ℕ) (l : ℕ) → Has M.loops l → IsIn (face_of M l) fs → IsIn l (loops_in M fs)
  loops_held [] l t i = absurd (omega arith)
  loops_held (f ∷ fs) l t i = elim (eqb_tells (face_of M l) f) [
    | inl e ↦ omega (arith, count-append l (loops_of M f) (loops_in M fs), loop_of_face l t, ap (λ g. count l (loops_of M g)) e.1)
    | inr e ↦ omega (arith, count-append l (loops_of M f) (loops_in M fs), loops_held fs l t (IsIn-from_listed (face_of M l) fs (later (face_of M l) f (listed-from_in (face_of M l) (f ∷ fs) i) e.1)))
  ] where
    later : (g f : ℕ) → lists (f ∷ fs) g ≡ true → (g ≡ f → ⊥) → lists fs g ≡ true
    later g f l ne = elim (listed_cases f g fs l) [ inl e ↦ absurd (ne e) | inr e ↦ e ]

  module _ (s : ℕ) where
    pub listed_face : (f : ℕ) → lists (faces_of M s) f ≡ true → Has M.faces f × (solid_of M f ≡ s)
    listed_face = face_in M s

    pub face_listed : (f : ℕ) → Has M.faces f → solid_of M f ≡ s → lists (faces_of M s) f ≡ true
    face_listed = in_faces M s

    pub faces_rise : strictly_rises (faces_of M s) ≡ true
    faces_rise = all_where-rises (λ _ row. nat_eq row.solid s) M.faces

    pub face_number : (f : ℕ) → Has M.faces f → (0 < f) × (f ≤ 1000000)
    face_number f t = grind (arith, sound.faces_fit, nat_tests)

    -- the faces of the solid that don't pass n
    abbrev pub faces_to : ℕ → List ℕ
    faces_to n = up_to n (faces_of M s)

    pub faces_none : faces_to 0 ≡ []
    faces_none = up_to_none 0 (faces_of M s) (λ f i. (face_number f (listed_face f i).0).0)

    pub faces_short : length (faces_of M s) ≤ 1000001
    faces_short = length_below 1000001 (faces_of M s) (λ f. counted_once f (faces_of M s) faces_rise) (λ f i. below f (face_number f (listed_face f (listed-from_in f (faces_of M s) i)).0).1) where
      below : (f : ℕ) → f ≤ 1000000 → f < 1000001
      below f l = omega arith

    -- ---- the loops of these faces

    faces_there : (n : ℕ) → AreFaces (faces_to n)
    faces_there n f i = (listed_face f (listed_up_to f n (faces_of M s) i)).0

    pub solid_loops_apart : (n : ℕ) → IsApart (loops_in M (faces_to n))
    solid_loops_apart n l = omega (arith, loops_counted (faces_to n) l (faces_there n), count_up_to (face_of M l) n (faces_of M s), counted_once (face_of M l) (faces_of M s) faces_rise)

    -- the loops of the solid's faces
    abbrev pub solid_loops : List ℕ
    solid_loops = loops_in M (faces_of M s)

    pub all_loops_apart : IsApart solid_loops
    all_loops_apart l = omega (arith, loops_counted (faces_of M s) l (λ f i. (listed_face f i).0), counted_once (face_of M l) (faces_of M s) faces_rise)

    pub loop_in_solid : (l : ℕ) → IsIn l solid_loops → Has M.loops l × (solid_of M (face_of M l) ≡ s)
    loop_in_solid l i = grind (arith, loops_there, listed_face, listed-from_in, loops_counted)

    pub solid_has_loop : (l : ℕ) → Has M.loops l → solid_of M (face_of M l) ≡ s → IsIn l solid_loops
    solid_has_loop l t e = loops_held (faces_of M s) l t (IsIn-from_listed (face_of M l) (faces_of M s) (face_listed (face_of M l) (sound.loops_of_faces l t) e))

-- different loops that are there are at most so many
pub loops_short : (M : Model) → Sound M → (ls : List ℕ) → IsApart ls → ((l : ℕ) → IsIn l ls → Has M.loops l) → length ls ≤ 1000001
loops_short M sound ls a t = grind (arith, length_below, ring_number)
