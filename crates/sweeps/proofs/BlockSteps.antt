-- What the steps of a block say, put together.
use Rattle.sweeps.proofs.Prelude.{◌≡◌, ℕ, ◌<◌, ℤ, pos, List, ◌++◌, None, sym, ap, ◌∙◌, subst, get_or, map, Point, IsInRange, moved, plus, Model, no_point, Sound, AreLeft, Taken, taken_in, numbers_after, lamina_refusal, lamina_model, lamina_face, prism_refusal, vector, base_of, block_refusal, lamina_goes, lamina_is_sound, lamina_operators, loop_ops, sweep_ops, block_operators, CanRise, with_lamina}
use Rattle.sweeps_laws.proofs.lamina.Blocks.{blocks_have_bases, bases_rise}
use Rattle.sweeps.proofs.Base.{base, base_rises, base_ops}

module _ (M : Model) (sound : Sound M) (s : ℕ) (p : Point) (dx dy dz : ℤ) (e : block_refusal M s p dx dy dz ≡ None) where
  -- the corners of the base are in range
  pub corner_fits : (i : ℕ) → i < 4 → IsInRange (get_or (base_of p dx dy) i no_point)
  corner_fits = (lamina_goes M s (base_of p dx dy) sound (blocks_have_bases M s p dx dy dz e)).points_fit

  -- there are numbers left for its lamina
  pub base_left : AreLeft (taken_in M) (record { faces = 2; loops = 2; edges = 4; vertices = 4 })
  base_left = (lamina_goes M s (base_of p dx dy) sound (blocks_have_bases M s p dx dy dz e)).left

  -- its lamina can be made
  pub base_goes : (ps : List Point) → ps ≡ base_of p dx dy → lamina_refusal M s ps ≡ None
  base_goes ps is = ap (lamina_refusal M s) is ∙ blocks_have_bases M s p dx dy dz e

  module _ (ps : List Point) (is : ps ≡ base_of p dx dy) (N : Model) (made : N ≡ lamina_model M s ps) (d : Point) (up : d ≡ vector (pos 0) (pos 0) dz)
      (hs : List ℕ) (holds : hs ≡ map plus (numbers_after (taken_in M).edge 4)) (k : Taken) (counted : k ≡ with_lamina (taken_in M) 4) where
    lamina_is : N ≡ lamina_model M s (base_of p dx dy)
    lamina_is = made ∙ ap (lamina_model M s) is

    base_is : N ≡ base M sound s p (moved p (vector dx (pos 0) (pos 0))) (moved p (vector dx dy (pos 0))) (moved p (vector (pos 0) dy (pos 0)))
    unfolding lamina_model
    base_is = lamina_is

    same : Sound N
    same = subst Sound (sym made) (lamina_is_sound M s ps sound (base_goes ps is))

    rise_goes : prism_refusal N (lamina_face M) d ≡ None
    rise_goes = (λ i. prism_refusal (lamina_is i) (lamina_face M) (up i)) ∙ bases_rise M s p dx dy dz sound e

    -- and its first face swept
    pub block_rises : CanRise N k d hs
    block_rises = base_rises M sound s _ _ _ _ N base_is same d rise_goes hs holds k counted

    -- and so its operators are those of the block
    pub block_ops : lamina_operators M s ps ++ loop_ops N k d hs ≡ block_operators M s p dx dy dz
    unfolding block_operators
    block_ops =
        (λ t. lamina_operators M s (is t) ++ base_ops M sound s _ _ _ _ N base_is same d rise_goes hs holds k counted t)
        ∙ (λ t. lamina_operators M s (base_of p dx dy) ++ sweep_ops (lamina_is t) (lamina_face M) (up t))

-- what holds of the sizes as they were passed on holds of the sizes
pub at_sizes : (P : ℤ → ℤ → ℤ → Type 0) (a b g x y z : ℤ) → a ≡ x → b ≡ y → g ≡ z → P a b g → P x y z
at_sizes P a b g x y z ex ey ez h = subst (λ i. P i y z) ex (subst (λ i. P a i z) ey (subst (λ i. P a b i) ez h))

-- so at the four coefficients of a plane
pub at_coefficients : (P : ℤ → ℤ → ℤ → ℤ → Type 0) (a b g e x y z w : ℤ) → a ≡ x → b ≡ y → g ≡ z → e ≡ w → P a b g e → P x y z w
at_coefficients P a b g e x y z w ea eb eg ee h = at_sizes (λ i j k. P i j k w) a b g x y z ea eb eg (subst (P a b g) ee h)
