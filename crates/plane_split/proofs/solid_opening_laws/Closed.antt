-- The part that is left once the holes are closed.
use Rattle.plane_split.proofs.Prelude.{◌≡◌, ℕ, ◌≤◌, Bool, true, cond, List, [], ◌∷◌, ◌++◌, length, filter, slice_index_or, refl, sym, ap, ◌∙◌, subst, Model, Op, Kfmrh, Part, AreAccepted, effects, outer_caps, upper_left, closing_ops, hole_ops, others, parts, Caps, caps_of, all_caps, holes_ops, outer_uppers, Leads, AreAccepted-front, some_taken}
use Rattle.shapes.specs.split.Opening as shape

module _ (M : Model) (s t : ℕ) (above : List ℕ) (caps : List Caps) (outer : Caps) (is : caps_of outer ≡ outer_caps (all_caps caps))
    (accepted : AreAccepted M (hole_ops (all_caps caps) ++ Part s t (upper_left above (all_caps caps)) ∷ [])) where
  pub closings_go : AreAccepted M (holes_ops (caps_of outer) caps)
  closings_go = subst (λ (o : shape.Caps). AreAccepted M (holes_ops o caps)) (sym is) (AreAccepted-front M (hole_ops (all_caps caps)) (Part s t (upper_left above (all_caps caps)) ∷ []) accepted)

  -- once the holes are closed it remains
  pub part_left : (K : Model) → K ≡ effects M (holes_ops (caps_of outer) caps) → (faces : List ℕ) → faces ≡ above ++ outer_uppers caps
      → Leads K (effects M (hole_ops (all_caps caps) ++ Part s t (upper_left above (all_caps caps)) ∷ [])) (Part s t faces ∷ [])
  part_left K e faces are = subst (λ fs. Leads K (effects M (hole_ops (all_caps caps) ++ Part s t (upper_left above (all_caps caps)) ∷ [])) (Part s t fs ∷ [])) (sym are)
      (some_taken M (hole_ops (all_caps caps)) (Part s t (upper_left above (all_caps caps)) ∷ []) _ K accepted refl
      (e ∙ ap (λ (o : shape.Caps). effects M (holes_ops o caps)) is))

-- all operators of the upper part
pub upper_ops_are : (s t : ℕ) (above : List ℕ) (caps : List Caps) (outer : Caps) → caps_of outer ≡ outer_caps (all_caps caps) → (faces : List ℕ) → faces ≡ above ++ outer_uppers caps
    → holes_ops (caps_of outer) caps ++ Part s t faces ∷ [] ≡ hole_ops (all_caps caps) ++ Part s t (upper_left above (all_caps caps)) ∷ []
upper_ops_are s t above caps outer is faces are = λ i. holes_ops (is i) caps ++ Part s t (are i) ∷ []

-- ---- the first of some caps, as the code opens them

module _ (o : shape.Caps) (ks : List Caps) (d : Caps) (l : 1 ≤ length ks) where
  abbrev first : Caps
  first = slice_index_or ks 0 d

  abbrev here : Bool → List Op
  here b = closing_ops o (cond b (caps_of first ∷ filter (λ k. k.hole) (all_caps (others ks))) (filter (λ k. k.hole) (all_caps (others ks))))

  -- if it is a hole, it is closed before the others
  pub hole_and_others : (slice_index_or ks 0 d).hole ≡ true → Kfmrh o.lower (slice_index_or ks 0 d).lower ∷ Kfmrh o.upper (slice_index_or ks 0 d).upper ∷ holes_ops o (others ks) ≡ holes_ops o ks
  hole_and_others e = ap here (sym e) ∙ ap (holes_ops o) (sym (parts ks d l))
