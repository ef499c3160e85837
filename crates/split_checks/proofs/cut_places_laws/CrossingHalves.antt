-- The two halves of an edge that crosses a plane.
use Rattle.split_checks.proofs.Prelude.{◌≡◌, ℕ, true, sym, ap, ◌∙◌, arith, Plane, height, are_opposite, cut_between, edge_of, plus, minus, Model, mate_plus, mate_minus, opposite_turned, cut_back, halves_of_edge, start, finish, crosses}

module _ (M : Model) (p : Plane) where
  minus_crosses : (e : ℕ) → crosses M p (minus e) ≡ crosses M p (plus e)
  minus_crosses e = ap (λ h. are_opposite p (start M (minus e)) (start M h)) (mate_minus e) ∙ opposite_turned (height p (start M (minus e))) (height p (start M (plus e)))
      ∙ sym (ap (λ h. are_opposite p (start M (plus e)) (start M h)) (mate_plus e))

  -- a half-edge crosses where the plus half of its edge does
  pub plus_crosses : (h : ℕ) → crosses M p h ≡ crosses M p (plus (edge_of h))
  plus_crosses h = grind (arith, halves_of_edge, minus_crosses)

  turned_cut : (e : ℕ) → crosses M p (minus e) ≡ true → cut_between p (start M (plus e)) (finish M (plus e)) ≡ cut_between p (start M (minus e)) (finish M (minus e))
  turned_cut e c = grind (arith, mate_plus, cut_back, mate_minus)

  -- and meets the plane where that does
  pub one_cut : (h : ℕ) → crosses M p h ≡ true → cut_between p (start M (plus (edge_of h))) (finish M (plus (edge_of h))) ≡ cut_between p (start M h) (finish M h)
  one_cut h c = grind (arith, halves_of_edge, turned_cut)
