-- The edges that a walk over the faces of a solid meets as crossing a plane are those of the solid that do.
use Rattle.split_checks.proofs.Prelude.{◌≡◌, ℕ, Bool, true, ◌&&◌, nat_eq, List, [], ◌∷◌, length, map, is_some, refl, sym, ap, subst, ◌∙◌, arith, inl, inr, filter, eq-eqb, eqb-true, and_parts, map-append, filter-append, Plane, IsIn, IsApart, edge_of, is_first, mate, plus, Model, loop_of, solid_of, faces_of, Sound, Has, HasHalf, face_at, tick_same, plus_row, mate_minus, first_is_plus, IsIn-map, IsApart-images, IsIn-filter, row_some, halves_of_edge, listed_passes, passes_listed, all_where-rises, IsIn-from_listed, listed-from_in, counted_once, items_in, loops_of, boundary, edges_of, crosses, straddles, straddling_faces, crossing_edges, loops_in, leads_across, crossings_met, IsCrossing, AreCrossing, IsFaceAlong, AreFacesAlong, Rising, items_counted, items_there, items_joined, halves_apart, half_solid, solid_half, solid_loops, face_of_loop, listed_face}
use Rattle.euler_operators.specs.Table as table
use Rattle.solid_measure.proofs.face_walks_laws.TableWalks.{rising_passing}
use Rattle.solid_measure.proofs.solid_counts_laws.HowMany.{of_map, equally_many}
use Rattle.split_checks.proofs.cut_places_laws.CrossingHalves.{plus_crosses}
use Rattle.split_checks.proofs.cut_places_laws.Lists.{of_picked, picked_apart, picked_rise}

all_crossing : (M : Model) (p : Plane) (es : List ℕ) → ((e : ℕ) → IsIn e es → IsCrossing M p e) → AreCrossing M p es
all_crossing M p [] each = tt
all_crossing M p (e ∷ es) each = (each e (omega (arith, tick_same e)), all_crossing M p es (λ k i. each k (omega (arith, i))))

all_along : (M : Model) (p : Plane) (es fs : List ℕ) → ((f : ℕ) → IsIn f fs → Has M.faces f × IsFaceAlong M p es f) → AreFacesAlong M p es fs
all_along M p es [] each = tt
all_along M p es (f ∷ fs) each = let w = each f (omega (arith, tick_same f)) in (w.0, w.1, all_along M p es fs (λ k i. each k (omega (arith, i))))

module _ (M : Model) (sound : Sound M) (s : ℕ) (p : Plane) where
  abbrev halves : List ℕ
  halves = items_in M (solid_loops M sound s)

  abbrev met : List ℕ
  met = crossings_met M p (faces_of M s)

  abbrev across : ℕ → Bool
  across h = leads_across M p h

  -- the edges met, as those of the plus halves that cross
  met_in_faces : (fs : List ℕ) → crossings_met M p fs ≡ map edge_of (filter across (items_in M (loops_in M fs)))
  unfolding boundary
  met_in_faces [] = refl
  met_in_faces (f ∷ fs) = grind (arith, map-append, filter-append, items_joined, met_in_faces fs)

  met_is : met ≡ map edge_of (filter across halves)
  met_is = met_in_faces (faces_of M s)

  abbrev of_solid : ℕ → Bool
  of_solid e = nat_eq (solid_of M (face_at M (plus e))) s

  -- an edge of the solid that crosses
  edge_in : (e : ℕ) → Has M.edges e → solid_of M (face_at M (plus e)) ≡ s → crosses M p (plus e) ≡ true → IsIn e (crossing_edges M p s)
  edge_in e there of_s c =
      let r = row_some (table.get M.edges e) there in
      IsIn-filter (λ x. crosses M p (plus x)) e (edges_of M s) (IsIn-from_listed e (edges_of M s) (passes_listed (λ x _. of_solid x) M.edges e r.0 r.1 (eq-eqb (solid_of M (face_at M (plus e))) s of_s))) c

  in_edge : (e : ℕ) → IsIn e (crossing_edges M p s) → Has M.edges e × (solid_of M (face_at M (plus e)) ≡ s) × (crosses M p (plus e) ≡ true)
  in_edge e i =
      let o = of_picked (λ x. crosses M p (plus x)) e (edges_of M s) i in
      let r = listed_passes (λ x _. of_solid x) M.edges e (listed-from_in e (edges_of M s) o.0) in
      (ap is_some r.1, eqb-true (solid_of M (face_at M (plus e))) s r.2, o.1)

  pub met_crosses : (e : ℕ) → IsIn e met → IsIn e (crossing_edges M p s)
  met_crosses e i =
      let m = of_map edge_of e (filter across halves) (subst (IsIn e) met_is i) in
      let o = of_picked across m.0 halves m.1 in
      let b = and_parts (is_first m.0) (crosses M p m.0) o.1 in
      let h = half_solid M sound s m.0 o.0 in
      let x : m.0 ≡ plus e = first_is_plus m.0 b.0 ∙ ap plus m.2 in
      edge_in e (ap (table.has M.edges) (sym m.2) ∙ h.0) (ap (λ y. solid_of M (face_at M y)) (sym x) ∙ h.1) (ap (crosses M p) (sym x) ∙ b.1)

  pub crossing_met : (e : ℕ) → IsIn e (crossing_edges M p s) → IsIn e met
  crossing_met e i =
      let o = in_edge e i in
      let t : HasHalf M (plus e) = ap (table.has M.edges) (plus_row e).0 ∙ o.0 in
      let h : IsIn (plus e) halves = solid_half M sound s (plus e) t o.1 in
      subst (IsIn e) (sym met_is) (subst (λ k. IsIn k (map edge_of (filter across halves))) (plus_row e).0
      (IsIn-map edge_of (plus e) (filter across halves) (IsIn-filter across (plus e) halves h (ap (λ b. b && crosses M p (plus e)) (plus_row e).1 ∙ o.2))))

  pub met_apart : IsApart met
  met_apart = subst IsApart (sym met_is) (IsApart-images edge_of (filter across halves) (picked_apart across halves (halves_apart M sound s)) (λ x y i j e.
      first_is_plus x (and_parts (is_first x) (crosses M p x) (of_picked across x halves i).1).0 ∙ ap plus e ∙ sym (first_is_plus y (and_parts (is_first y) (crosses M p y) (of_picked across y halves j).1).0)))

  pub crossing_apart : IsApart (crossing_edges M p s)
  crossing_apart = picked_apart (λ x. crosses M p (plus x)) (edges_of M s) (λ x. counted_once x (edges_of M s) (all_where-rises (λ e _. of_solid e) M.edges))

  -- they are as many
  pub as_many : length met ≡ length (crossing_edges M p s)
  as_many = equally_many met (crossing_edges M p s) met_apart crossing_apart met_crosses crossing_met

  pub all_cross : AreCrossing M p (crossing_edges M p s)
  all_cross = all_crossing M p (crossing_edges M p s) (λ e i. let o = in_edge e i in record { there = o.0; crossing = o.2 })

  pub rising : Rising (crossing_edges M p s)
  rising = picked_rise (λ x. crosses M p (plus x)) (edges_of M s) (rising_passing (λ e _. of_solid e) M.edges)

  -- ---- the faces that straddle

  plus_solid : (h : ℕ) → HasHalf M h → solid_of M (face_at M h) ≡ s → solid_of M (face_at M (plus (edge_of h))) ≡ s
  plus_solid h t of_s = elim (halves_of_edge h) [
    | inl e ↦ ap (λ x. solid_of M (face_at M x)) (sym e.0) ∙ of_s
    | inr e ↦ ap (λ x. solid_of M (face_at M x)) (sym (ap mate e.0 ∙ mate_minus (edge_of h))) ∙ sym (sound.one_solid h t) ∙ of_s
  ]

  boundary_half : (f h : ℕ) → Has M.faces f → solid_of M f ≡ s → IsIn h (boundary M f) → HasHalf M h × (solid_of M (face_at M h) ≡ s)
  unfolding boundary
  boundary_half f h there of_s i =
      let l : IsIn (loop_of M h) (loops_of M f) = omega (arith, i, items_counted M sound (loops_of M f) h) in
      (items_there M sound (loops_of M f) h i, ap (solid_of M) (face_of_loop M sound f (loop_of M h) there (listed-from_in (loop_of M h) (loops_of M f) l)).1 ∙ of_s)

  face_along : (f : ℕ) → Has M.faces f → solid_of M f ≡ s → IsFaceAlong M p (crossing_edges M p s) f
  face_along f there of_s h i c = grind (arith, boundary_half, edge_in, plus_solid, plus_crosses)

  pub straddling_along : AreFacesAlong M p (crossing_edges M p s) (straddling_faces M p s)
  straddling_along = all_along M p (crossing_edges M p s) (straddling_faces M p s) (λ f i.
      let l = listed_face M sound s f (listed-from_in f (faces_of M s) (of_picked (straddles M p) f (faces_of M s) i).0) in
      (l.0, face_along f l.0 l.1))
