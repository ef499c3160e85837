-- The half-edge to which one of some half-edges leads.
use Rattle.split_sections.proofs.Prelude.{◌≡◌, ◌≢◌, ℕ, Bool, true, false, cond, nat_eq, List, [], ◌∷◌, map, Some, unwrap_or, refl, sym, ap, subst, ◌∙◌, arith, inl, inr, true≢false, eqb_tells, eqb-true, eq-eqb, count, IsIn, IsApart, tick_same, tick_other, IsIn-map, mate, Model, tail, Sound, half_number, first_such, next_below, AreStarts, start_vertices, starting}
use Rattle.split_sections.specs.Common.{AreThere}
use Rattle.split_sections.specs.declared.section_cycles.starts.Start.{Start}

-- the only one that passes a test is the first
first_only : (p : ℕ → Bool) (hs : List ℕ) (c : ℕ) → IsIn c hs → p c ≡ true → ((d : ℕ) → IsIn d hs → p d ≡ true → d ≡ c) → unwrap_or (first_such p hs) 0 ≡ c
first_only p [] c i t only = absurd (omega (arith, i))
first_only p (h ∷ hs) c i t only = by_test (p h) refl (λ j. first_only p hs c j t (λ d k. only d (omega (arith, k)))) where
  by_test : (b : Bool) → p h ≡ b → (IsIn c hs → unwrap_or (first_such p hs) 0 ≡ c) → unwrap_or (cond (p h) (Some h) (first_such p hs)) 0 ≡ c
  by_test true e later = ap (λ b. unwrap_or (cond b (Some h) (first_such p hs)) 0) e ∙ only h (omega (arith, tick_same h)) e
  by_test false e later = ap (λ b. unwrap_or (cond b (Some h) (first_such p hs)) 0) e ∙ later (omega (arith, i, tick_other c h (λ s. true≢false (sym t ∙ ap p s ∙ e))))

-- the first that passes does
first_passes : (p : ℕ → Bool) (hs : List ℕ) → unwrap_or (first_such p hs) 0 ≢ 0 → p (unwrap_or (first_such p hs) 0) ≡ true
first_passes p [] ne = absurd (ne refl)
first_passes p (h ∷ hs) ne = by_test (p h) refl (first_passes p hs) where
  by_test : (b : Bool) → p h ≡ b → (unwrap_or (first_such p hs) 0 ≢ 0 → p (unwrap_or (first_such p hs) 0) ≡ true) → p (unwrap_or (cond (p h) (Some h) (first_such p hs)) 0) ≡ true
  by_test true e later = ap (λ b. p (unwrap_or (cond b (Some h) (first_such p hs)) 0)) e ∙ e
  by_test false e later =
      let is : unwrap_or (cond (p h) (Some h) (first_such p hs)) 0 ≡ unwrap_or (first_such p hs) 0 = ap (λ b. unwrap_or (cond b (Some h) (first_such p hs)) 0) e in
      ap p is ∙ later (λ z. ne (is ∙ z))

-- where no two of the images are equal, those of equal images are
image_tells : (f : ℕ → ℕ) (ks : List ℕ) → IsApart (map f ks) → (c d : ℕ) → IsIn c ks → IsIn d ks → f c ≡ f d → c ≡ d
image_tells f [] apart c d i j e = absurd (omega (arith, i))
image_tells f (k ∷ ks) apart c d i j e = elim (eqb_tells c k) [
  | inl x ↦ elim (eqb_tells d k) [
    | inl y ↦ x.1 ∙ sym y.1
    | inr y ↦ absurd (twice d (omega (arith, j, tick_other d k y.1)) (sym e ∙ ap f x.1))
  ]
  | inr x ↦ elim (eqb_tells d k) [
    | inl y ↦ absurd (twice c (omega (arith, i, tick_other c k x.1)) (e ∙ ap f y.1))
    | inr y ↦ image_tells f ks (λ z. omega (arith, apart z)) c d (omega (arith, i, tick_other c k x.1)) (omega (arith, j, tick_other d k y.1)) e
  ]
] where
  twice : (n : ℕ) → IsIn n ks → f n ≡ f k → ⊥
  twice n l s = omega (arith, apart (f k), tick_same (f k), IsIn-map f n ks l, ap (λ z. count z (map f ks)) s)

module _ (M : Model) (sound : Sound M) (bs : List ℕ) (starts : List Start) (there : AreThere M bs) (told : AreStarts M bs starts) where
  pub of_themselves : AreStarts M (starting starts) starts
  of_themselves = record { halves = λ x. refl; tails = told.tails; rising = told.rising; apart = told.apart }

  pub is_next : (b c : ℕ) → IsIn c (starting starts) → tail M c ≡ tail M (mate b) → c ≡ next_below M bs b
  is_next b c i e = sym (first_only (λ d. nat_eq (tail M d) (tail M (mate b))) bs c (omega (arith, i, told.halves c)) (eq-eqb (tail M c) (tail M (mate b)) e)
      (λ d j t. image_tells (tail M) (starting starts) (subst IsApart told.tails told.apart) d c (omega (arith, j, told.halves d)) i (eqb-true (tail M d) (tail M (mate b)) t ∙ sym e)))

  pub leads_on : ((b : ℕ) → IsIn b bs → IsIn (next_below M bs b) bs) → (b : ℕ) → IsIn b bs → IsIn (tail M (mate b)) (start_vertices starts)
  leads_on stays b i =
      let c = next_below M bs b in
      let j = stays b i in
      let t : nat_eq (tail M c) (tail M (mate b)) ≡ true = first_passes (λ d. nat_eq (tail M d) (tail M (mate b))) bs (half_number M sound c (there c j)) in
      subst (λ vs. IsIn (tail M (mate b)) vs) (sym told.tails) (subst (λ v. IsIn v (map (tail M) (starting starts))) (eqb-true (tail M c) (tail M (mate b)) t) (IsIn-map (tail M) c (starting starts) (omega (arith, j, told.halves c))))
