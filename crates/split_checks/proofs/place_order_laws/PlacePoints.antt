-- The point of a cut place is where its half-edge starts, or where this crosses the plane.
use Rattle.split_checks.proofs.Prelude.{◌≡◌, ℕ, ◌<◌, true, false, cond, List, map, length, slice_index_or, sym, ap, ◌∙◌, true≢false, get_or, arith, get_or-map, Plane, is_on, cut_between, HalfEdge, code, plus, Model, edge_of-code, start, finish, crosses, is_place, place_point, CutEdge}
use Rattle.split_checks.specs.Cuts.{cut_at}
use Rattle.split_checks.proofs.cut_places_laws.CrossingHalves.{one_cut}

module _ (M : Model) (p : Plane) where
  -- a cut place off the plane's own points is a half-edge that crosses
  pub place_off : (h : ℕ) → is_place M p h ≡ true → is_on p (start M h) ≡ false → crosses M p h ≡ true
  unfolding is_place
  place_off h place off = grind (arith, true≢false)

  pub point_on : (h : ℕ) → is_on p (start M h) ≡ true → start M h ≡ place_point M p h
  unfolding place_point
  point_on h on = sym (ap (λ b. cond b (start M h) (cut_between p (start M h) (finish M h))) on)

  pub point_off : (h : ℕ) → is_on p (start M h) ≡ false → cut_between p (start M h) (finish M h) ≡ place_point M p h
  unfolding place_point
  point_off h off = sym (ap (λ b. cond b (start M h) (cut_between p (start M h) (finish M h))) off)

  -- an edge that crosses, found among those that do, has the point
  pub point_found : (es : List ℕ) (cut : List CutEdge) (h : HalfEdge) (i : ℕ) (d : CutEdge) → cut ≡ map (cut_at M p) es → i < length es → get_or es i 0 ≡ h.edge
      → crosses M p (code h) ≡ true → is_on p (start M (code h)) ≡ false → (slice_index_or cut i d).point ≡ place_point M p (code h)
  point_found es cut h i d is lt at across off =
      ap (λ (c : CutEdge). c.point) (ap (λ (cs : List CutEdge). slice_index_or cs i d) is ∙ get_or-map (cut_at M p) es i 0 d lt)
      ∙ ap (λ e. cut_between p (start M (plus e)) (finish M (plus e))) (at ∙ sym (edge_of-code h)) ∙ one_cut M p (code h) across ∙ point_off (code h) off
