-- What an arena answers of the normal of a face that is there.
use Rattle.split_sections.proofs.Prelude.{◌≡◌, ℕ, ℤ, List, [], ◌∷◌, None, Result, Ok, Err, sym, ap, subst, ◌∙◌, arith, IsVectorWithin, normal_limit, vector_of, numbers_of, Model, Sound, Has, need, first_refusal, Refusal, NumberRange, NoFace, vector_within, boundary, loops_of, different_items, loops_of_apart, normal, answer, face_refusal, area_limit, area_limited}

abbrev numbers_in : Result (List ℤ) Refusal → List ℤ
numbers_in (Ok ns) = ns
numbers_in (Err r) = []

module _ (M : Model) (sound : Sound M) (f : ℕ) where
  pub normal_limited : IsVectorWithin normal_limit (normal M f)
  unfolding normal boundary
  normal_limited = vector_within (normal M f) area_limit normal_limit (area_limited M sound (boundary M f) (different_items M sound (loops_of M f) (loops_of_apart M sound f))) (omega arith)

  pub no_refusal : Has M.faces f → face_refusal M f ≡ None
  no_refusal there i = first_refusal (need (sound.faces_fit f there i) NumberRange f ∷ need (there i) NoFace f ∷ [])

  -- three numbers that an arena answers are those of the normal, and in its range
  pub answered_limited : Has M.faces f → (ns : List ℤ) → Ok ns ≡ answer (face_refusal M f) (numbers_of (normal M f)) → IsVectorWithin normal_limit (vector_of ns)
  answered_limited there ns e = subst (λ ms. IsVectorWithin normal_limit (vector_of ms)) (sym (ap numbers_in (e ∙ ap (λ r. answer r (numbers_of (normal M f))) (no_refusal there)))) normal_limited

  -- and it refuses none
  pub not_refused : Has M.faces f → (r : Refusal) → Err r ≡ answer (face_refusal M f) (numbers_of (normal M f)) → ⊥
  not_refused there r e = let ok : ◌≡◌ {A = Result (List ℤ) Refusal} (Err r) (Ok (numbers_of (normal M f))) = e ∙ ap (λ o. answer o (numbers_of (normal M f))) (no_refusal there) in cc
