-- All edges of a solid that cross a plane cut: from the first conditions of a split to the model.
use Rattle.split_drawing_laws.proofs.Prelude.{◌≡◌, ℕ, Bool, true, false, nat_eq, [], None, is_some, unwrap_or, refl, sym, ap, ◌∙◌, arith, inl, inr, cond, ◌&&◌, ◌||◌, subst, eqb-true, false_from_ne_true, and_parts, Plane, are_opposite, height, is_on, cut_between, count, IsIn, plus, minus, edge_of, Model, tail, loop_of, face_of, solid_of, no_face, after, before, point_of, Sound, Has, HasHalf, first_refusal, face_at, lists, mate_plus, mate_minus, IsIn-filter, count-filter, filter_passes, plus_there, minus_there, IsIn_or_not, opposite_turned, level_on, not_level, AreAccepted, effects, all_where-rises, IsIn-from_listed, listed-from_in, counted_once, none_counted, all_where_has, halves_of_edge, half_after, loop_after, start, edges_of, finish, loops_of, boundary, taken_in, growing, crosses, crossing_edges, straddling_faces, with_crossings, first_conditions, is_place, place_point, places, from_place, face_of_loop, items_counted, items_there, Cuttable, split_begins, crossing_ops, Kept, AtPlace}
use Rattle.euler_operators.specs.Table as table
use Rattle.split_drawing_laws.proofs.crossings.Premises.{picked_none, crossing_here, crossing_point, one_point, minus_crosses, face_facts, edge_listed}
use Rattle.split_drawing_laws.proofs.crossings.Runs.{AreCut, Going, Gone, all_gone, all_made, none_cut, kept_start}

-- ---- where the cut places of a face are, once the edges are cut

module _ (M : Model) (sound : Sound M) (f : ℕ) (there : Has M.faces f) where
  -- the half-edges of the loops of a face are of that face
  pub item_there : (h : ℕ) → IsIn h (boundary M f) → HasHalf M h
  unfolding boundary
  item_there h i = items_there M sound (loops_of M f) h i

  pub item_face : (h : ℕ) → IsIn h (boundary M f) → face_at M h ≡ f
  unfolding boundary
  item_face h i = (face_of_loop M sound f (loop_of M h) there (listed-from_in (loop_of M h) (loops_of M f) (omega (arith, i, items_counted M sound (loops_of M f) h)))).1

module _ (M : Model) (s : ℕ) (p : Plane) (t : ℕ) (sound : Sound M) (accepted : first_refusal (first_conditions M s p t) ≡ None) where
  pub can_cut : Cuttable M s p
  can_cut = (split_begins M s p t accepted).cuttable

  pub begins : Going M p (growing M) [] (crossing_edges M p s)
  begins = grind (arith, none_cut, crossing_here, can_cut, count-filter, counted_once, all_where-rises)

  pub gone : Gone M p (growing M) [] (crossing_edges M p s)
  gone = all_gone M p sound (growing M) [] (crossing_edges M p s) begins

  pub crossings_accepted : AreAccepted M (crossing_ops M s p)
  unfolding crossing_ops
  crossings_accepted = gone.accepted

  pub crossings_made : effects M (crossing_ops M s p) ≡ (with_crossings M s p).model
  unfolding crossing_ops with_crossings
  crossings_made = all_made p (growing M) (crossing_edges M p s)

  pub crossings_counted : (with_crossings M s p).taken ≡ taken_in (with_crossings M s p).model
  unfolding with_crossings
  crossings_counted = gone.counted

  abbrev N : Model
  N = (with_crossings M s p).model

  pub crossings_cut : AreCut M (with_crossings M s p).model p gone.list
  unfolding with_crossings
  crossings_cut = gone.cut

  pub crossings_sound : Sound (with_crossings M s p).model
  crossings_sound = crossings_cut.sound

  pub crossings_keep : Kept M (with_crossings M s p).model
  crossings_keep = crossings_cut.kept

  pub not_cut : (e : ℕ) → count e (crossing_edges M p s) ≡ 0 → count e gone.list ≡ 0
  not_cut e z = omega (arith, z, gone.same e)

  -- ---- no edge of the solid crosses the plane then

  pub same_solid : (f : ℕ) → solid_of N f ≡ solid_of M f
  unfolding solid_of
  same_solid f = ap (λ u. (unwrap_or (table.get u f) no_face).solid) crossings_keep.faces

  same_face : (x : ℕ) → Has M.edges x → face_at N (plus x) ≡ face_at M (plus x)
  same_face x there = ap (face_of N) (crossings_keep.loop (plus x) (plus_there M x there)) ∙ crossings_keep.face (loop_of M (plus x))

  pub start_minus : (e : ℕ) → Has M.edges e → start N (minus e) ≡ start M (minus e)
  start_minus e there = kept_start M N sound crossings_keep (minus e) (minus_there M e there) (crossings_cut.minus_tails e there)

  pub start_plus : (e : ℕ) → Has M.edges e → count e (crossing_edges M p s) ≡ 0 → start N (plus e) ≡ start M (plus e)
  start_plus e there z = kept_start M N sound crossings_keep (plus e) (plus_there M e there) (crossings_cut.plus_tails e there (not_cut e z))

  old_crossing : (x : ℕ) → Has M.edges x → count x (crossing_edges M p s) ≡ 0 → solid_of N (face_at N (plus x)) ≡ s → crosses N p (plus x) ≡ false
  old_crossing x there z of_s = (λ i. are_opposite p (start_plus x there z i) ((ap (start N) (mate_plus x) ∙ start_minus x there ∙ sym (ap (start M) (mate_plus x))) i))
      ∙ false_from_ne_true (crosses M p (plus x)) (λ e. absurd (omega (arith, z, IsIn-filter (λ y. crosses M p (plus y)) x (edges_of M s) (edge_listed M s x there of_solid) e))) where
        of_solid : solid_of M (face_at M (plus x)) ≡ s
        of_solid = sym (ap (solid_of N) (same_face x there) ∙ same_solid (face_at M (plus x))) ∙ of_s

  pub none_crosses : crossing_edges (with_crossings M s p).model p s ≡ []
  none_crosses = picked_none (λ x. crosses N p (plus x)) (edges_of N s) (λ x i.
      let w = all_where_has (λ y _. nat_eq (solid_of N (face_at N (plus y))) s) N.edges x i in
      elim (crossings_cut.cleared x (ap is_some w.1)) [
        | inl o ↦ old_crossing x o.0 (omega (arith, o.1, gone.same x)) (eqb-true (solid_of N (face_at N (plus x))) s w.2)
        | inr o ↦ o
      ])

  pub tails_stay : (e : ℕ) → Has M.edges e → (tail (with_crossings M s p).model (minus e) ≡ tail M (minus e)) × (lists (crossing_edges M p s) e ≡ false → tail (with_crossings M s p).model (plus e) ≡ tail M (plus e))
  tails_stay e there = (crossings_cut.minus_tails e there, λ l. crossings_cut.plus_tails e there (not_cut e (none_counted e (crossing_edges M p s) l)))

  -- a place that stays where it is
  at_itself : (h : ℕ) → HasHalf M h → start N h ≡ place_point M p h → is_on p (start N h) ≡ true → AtPlace M N p h
  at_itself h there starts on =
      let is : h ≡ from_place N p h = sym (ap (λ b. cond b h (after N h)) on) in
      record {
        there = subst (HasHalf N) is (crossings_keep.halves h there);
        starts = ap (start N) (sym is) ∙ starts;
        loop = ap (loop_of N) (sym is) ∙ crossings_keep.loop h there;
      }

  -- an edge that crosses the plane: from its plus half the place is at that half, from its minus half at the next one
  module _ (e : ℕ) (i : IsIn e (crossing_edges M p s)) where
    e_there : Has M.edges e
    e_there = (crossing_here M sound s p can_cut e i).there

    plus_starts : start N (plus e) ≡ place_point M p (plus e)
    plus_starts = crossings_cut.cut_starts e e_there (omega (arith, i, gone.same e))
        ∙ sym (crossing_point M sound s p can_cut e i (plus e) (crossing_here M sound s p can_cut e i).crossing)

    pub plus_on : is_on p (start N (plus e)) ≡ true
    plus_on = level_on (height p (start N (plus e)))
        (ap (height p) (crossings_cut.cut_starts e e_there (omega (arith, i, gone.same e))) ∙ (crossing_here M sound s p can_cut e i).level)

    at_plus : AtPlace M N p (plus e)
    at_plus = at_itself (plus e) (plus_there M e e_there) plus_starts plus_on

    pub minus_off : is_on p (start N (minus e)) ≡ false
    minus_off = ap (is_on p) (start_minus e e_there) ∙ not_level (height p (start M (minus e))) (height p (start M (plus e))) (minus_crosses M sound s p can_cut e i)

    minus_in_N : HasHalf N (minus e)
    minus_in_N = crossings_keep.halves (minus e) (minus_there M e e_there)

    at_minus : AtPlace M N p (minus e)
    at_minus =
        let is : after N (minus e) ≡ from_place N p (minus e) = sym (ap (λ b. cond b (minus e) (after N (minus e))) minus_off) in
        let N_sound : Sound N = crossings_sound in
        record {
          there = subst (HasHalf N) is (half_after N N_sound (minus e) minus_in_N);
          starts = ap (start N) (sym is) ∙ ap (point_of N) (N_sound.ends_meet (minus e) minus_in_N ∙ ap (tail N) (mate_minus e)) ∙ plus_starts ∙ one_point M sound s p can_cut e i;
          loop = ap (loop_of N) (sym is) ∙ loop_after N N_sound (minus e) minus_in_N ∙ crossings_keep.loop (minus e) (minus_there M e e_there);
        }

  -- another edge stays where it is
  stays_plus : (e : ℕ) → Has M.edges e → crosses M p (plus e) ≡ false → start N (plus e) ≡ start M (plus e)
  stays_plus e there off = grind (arith, start_plus, IsIn_or_not, filter_passes)

  at_corner : (h : ℕ) → HasHalf M h → is_on p (start M h) ≡ true → start N h ≡ start M h → AtPlace M N p h
  unfolding place_point
  at_corner h there on same =
      at_itself h there (same ∙ sym (ap (λ b. cond b (start M h) (cut_between p (start M h) (finish M h))) on)) (ap (is_on p) same ∙ on)

  pub on_when : (h : ℕ) → is_place M p h ≡ true → crosses M p h ≡ false → is_on p (start M h) ≡ true
  unfolding is_place
  on_when h place off = (and_parts (is_on p (start M h)) (are_opposite p (start M (before M h)) (finish M h))
      (sym (ap (λ a. a || (is_on p (start M h) && are_opposite p (start M (before M h)) (finish M h))) off) ∙ place)).0

  pub turned : (e : ℕ) (b : Bool) → crosses M p (minus e) ≡ b → crosses M p (plus e) ≡ b
  turned e b is = grind (arith, mate_plus, opposite_turned, mate_minus)

  pub in_crossing : (e : ℕ) → Has M.edges e → solid_of M (face_at M (plus e)) ≡ s → crosses M p (plus e) ≡ true → IsIn e (crossing_edges M p s)
  in_crossing e there of_s c = IsIn-filter (λ x. crosses M p (plus x)) e (edges_of M s) (edge_listed M s e there of_s) c

  of_plus : (e : ℕ) → Has M.edges e → solid_of M (face_at M (plus e)) ≡ s → is_place M p (plus e) ≡ true → AtPlace M N p (plus e)
  of_plus e there of_s place = cut_or_corner (crosses M p (plus e)) refl where
    cut_or_corner : (b : Bool) → crosses M p (plus e) ≡ b → AtPlace M N p (plus e)
    cut_or_corner true c = at_plus e (in_crossing e there of_s c)
    cut_or_corner false c = at_corner (plus e) (plus_there M e there) (on_when (plus e) place c) (stays_plus e there c)

  of_minus : (e : ℕ) → Has M.edges e → solid_of M (face_at M (plus e)) ≡ s → is_place M p (minus e) ≡ true → AtPlace M N p (minus e)
  of_minus e there of_s place = cut_or_corner (crosses M p (minus e)) refl where
    cut_or_corner : (b : Bool) → crosses M p (minus e) ≡ b → AtPlace M N p (minus e)
    cut_or_corner true c = at_minus e (in_crossing e there of_s (turned e true c))
    cut_or_corner false c = at_corner (minus e) (minus_there M e there) (on_when (minus e) place c) (start_minus e there)

  -- a place of a face that straddles
  place_is : (f h : ℕ) → IsIn f (straddling_faces M p s) → IsIn h (boundary M f) → is_place M p h ≡ true → AtPlace M N p h
  place_is f h i j place =
      let w = face_facts M s p f i in
      let there : Has M.edges (edge_of h) = item_there M sound f w.0 h j in
      let of_s : solid_of M (face_at M h) ≡ s = ap (solid_of M) (item_face M sound f w.0 h j) ∙ w.1 in
      elim (halves_of_edge h) [
        | inl e ↦ subst (AtPlace M N p) (sym e.0) (of_plus (edge_of h) there (ap (λ x. solid_of M (face_at M x)) (sym e.0) ∙ of_s) (ap (is_place M p) (sym e.0) ∙ place))
        | inr e ↦ subst (AtPlace M N p) (sym e.0) (of_minus (edge_of h) there
            (sound.one_solid (plus (edge_of h)) (plus_there M (edge_of h) there) ∙ ap (λ x. solid_of M (face_at M x)) (mate_plus (edge_of h) ∙ sym e.0) ∙ of_s)
            (ap (is_place M p) (sym e.0) ∙ place))
      ]

  pub place_starts : (f h : ℕ) → IsIn f (straddling_faces M p s) → IsIn h (places M p f) → AtPlace M (with_crossings M s p).model p h
  unfolding places
  place_starts f h i j = place_is f h i (omega (arith, j, count-filter (is_place M p) h (boundary M f))) (filter_passes (is_place M p) h (boundary M f) j)

  pub at_place : (f h : ℕ) → lists (straddling_faces M p s) f ≡ true → lists (places M p f) h ≡ true → AtPlace M (with_crossings M s p).model p h
  at_place f h i j = place_starts f h (IsIn-from_listed f (straddling_faces M p s) i) (IsIn-from_listed h (places M p f) j)
