-- The numbers taken once the edges are cut, and those that are left.
use Rattle.split_drawing_laws.proofs.Prelude.{list_all, ◌≡◌, ℕ, ◌+◌, ◌<◌, List, [], ◌∷◌, length, refl, sym, ap, ◌∙◌, subst, arith, ◌≢◌, ◌*◌, true, false, not, nat_eq, ◌&&◌, length-map, Plane, Model, tail, loop_of, face_of, outer, point_of, rings_of, IsIn, IsApart, Sound, face_at, lists, not_or_fails, count-filter, AreAccepted, effects, AreAccepted-append, effects-append, IsIn-from_listed, AreLeft, AreFree, FacePairs, Taken, Growing, growing, undrawn, taken_in, straddling_faces, crossing_edges, is_place, places, loop_is_cut, is_cut_often, sorted, sorted_pairs, place_pairs, next_cut, all_cut, with_crossings, straddling_pairs, from_place, drawn_pairs, with_drawings, loops_of, boundary, none_above, different_items, loops_of_apart, count-sorted, length-sorted, AreLeftForPairs, pairs_in, Fits, AllFit, LoneInOneLoop, AtPlace, crossing_ops, CanBegin, drawing_ops, CanBeDrawn, Cuttable, needed_for_rewritings}
use Rattle.euler_operators.specs.Table as table
use Rattle.split_drawing_laws.specs.pairs.Laws.{rewriting_ops}
use Rattle.split_drawing_laws.proofs.drawings.Counted.{pairs_counted, of_all_pairs, fresh_taken, straddling_apart, faces_are}
use Rattle.split_drawing_laws.proofs.crossings.Whole.{place_starts, item_face, can_cut, crossings_accepted, crossings_made, crossings_sound, crossings_counted, crossings_keep}
use Rattle.split_drawing_laws.proofs.crossings.Premises.{face_facts}
use Rattle.split_drawing_laws.proofs.drawings.Whole.{drawing_accepted, drawing_made, drawing_sound, drawing_stays, drawing_fresh}
use Rattle.split_drawing_laws.proofs.loop_sides.SidesWhole.{faces_go_on}
use Rattle.split_drawing_laws.proofs.pairs.Sorted.{sorted_apart, all_paired, between, all_fit, lone_in_loop, points_apart}
use Rattle.split_drawing_laws.proofs.pairs.LoopPlaces.{places_even, two_outer, IsEven}
use Rattle.split_drawing_laws.proofs.crossings.Runs.{next_taken}

-- an edge for each edge that is cut, and neither a face nor a loop
pub record Grown (c d : Taken) (n : ℕ) : Type 0 where
  pub faces : d.face ≡ c.face
  pub loops : d.loop ≡ c.loop
  pub edges : d.edge ≡ c.edge + n

module _ (p : Plane) where
  all_grown : (g : Growing) (es : List ℕ) → Grown g.taken (all_cut p g es).taken (length es)
  all_grown g [] = record { faces = refl; loops = refl; edges = omega arith }
  all_grown g (e ∷ es) = grind (arith, next_taken, all_grown (next_cut p g e) es)

  module _ (M : Model) (s : ℕ) where
    -- room for the pairs that a split counts
    pub pairs_room : AreLeft (taken_in M) (needed_for_rewritings M s p) → AreLeftForPairs (with_crossings M s p).taken (pairs_in (straddling_pairs M s p))
    unfolding with_crossings
    pairs_room left = grind (arith, all_grown (growing M) (crossing_edges M p s), pairs_counted)

-- ---- from the first conditions of a split to the drawing of its faces

-- ---- the half-edges of a face

module _ (M : Model) (sound : Sound M) (f : ℕ) where
  pub places_in : (p : Plane) (x : ℕ) → IsIn x (places M p f) → IsIn x (boundary M f)
  unfolding places
  places_in p x i = omega (arith, i, count-filter (is_place M p) x (boundary M f))

  pub places_apart : (p : Plane) → IsApart (places M p f)
  unfolding places boundary
  places_apart p x = omega (arith, count-filter (is_place M p) x (boundary M f), (different_items M sound (loops_of M f) (loops_of_apart M sound f)).apart x)

pub outer_cut : (M : Model) (p : Plane) (f : ℕ) → is_cut_often M p f ≡ false → loop_is_cut M p (outer M f) ≡ true
unfolding is_cut_often
outer_cut M p f e = not_or_fails (loop_is_cut M p (outer M f)) (not (list_all (loop_is_cut M p) (rings_of M f)) && not (nat_eq (length (places M p f)) 2)) e

module _ (M : Model) (s : ℕ) (p : Plane) (t : ℕ) (sound : Sound M) (begins : CanBegin M s p t) where
  abbrev N : Model
  N = (with_crossings M s p).model

  premises : Cuttable M s p
  premises = can_cut M s p t sound begins

  -- ---- one face

  module _ (f : ℕ) (i : IsIn f (straddling_faces M p s)) where
    pub place_now : (h : ℕ) → IsIn h (places M p f) → AtPlace M N p h
    place_now h j = place_starts M s p t sound begins f h i j

    pub place_face : (h : ℕ) → IsIn h (places M p f) → face_at N (from_place N p h) ≡ f
    place_face h j = ap (face_of N) (place_now h j).loop ∙ (crossings_keep M s p t sound begins).face (loop_of M h) ∙ item_face M sound f (face_facts M s p f i).0 h (places_in M sound f p h j)

    starts_apart : (x y : ℕ) → IsIn x (places M p f) → IsIn y (places M p f) → x ≢ y → tail N (from_place N p x) ≢ tail N (from_place N p y)
    starts_apart x y j k ne e = points_apart M p f (premises.uncrossed f i) x y j k ne (sym (place_now x j).starts ∙ ap (point_of N) e ∙ (place_now y k).starts)

    two_fit : (x y : ℕ) → IsIn x (places M p f) → IsIn y (places M p f) → x ≢ y → Fits N f (between M N p (x, y))
    two_fit x y j k ne = grind (arith, place_now, place_face, starts_apart)

    from_sorted : (x : ℕ) → IsIn x (sorted M p (places M p f)) → IsIn x (places M p f)
    from_sorted x j = omega (arith, j, count-sorted M p x (places M p f))

    pub pairs_fit : AllFit N f (drawn_pairs M N p f)
    unfolding drawn_pairs place_pairs sorted_pairs
    pairs_fit = all_fit M N p f (sorted M p (places M p f)) (sorted_apart M p (places M p f) (places_apart M sound f p)) (λ x y j k. two_fit x y (from_sorted x j) (from_sorted y k))

    even : IsEven (length (sorted M p (places M p f)))
    even = subst IsEven (sym (length-sorted M p (places M p f))) (places_even M sound p f (premises.untouched f i))

    paired : length (places M p f) ≡ 2 * length (place_pairs M p f)
    unfolding place_pairs sorted_pairs
    paired = grind (arith, length-sorted, all_paired, even, length-map)

    outer_only : length (sorted M p (places M p f)) ≡ 2 → (x : ℕ) → IsIn x (sorted M p (places M p f)) → loop_of N (from_place N p x) ≡ outer M f
    outer_only two x j = (place_now x (from_sorted x j)).loop
        ∙ two_outer M sound p f (premises.untouched f i) (outer_cut M p f (premises.not_often f i)) (sym (length-sorted M p (places M p f)) ∙ two) x (from_sorted x j)

    pub lone_pair : LoneInOneLoop N (drawn_pairs M N p f)
    unfolding drawn_pairs place_pairs sorted_pairs
    lone_pair = lone_in_loop M N p (outer M f) (sorted M p (places M p f)) even outer_only

  pub pair_up : (f : ℕ) → lists (straddling_faces M p s) f ≡ true → length (places M p f) ≡ 2 * length (place_pairs M p f)
  pair_up f l = paired f (IsIn-from_listed f (straddling_faces M p s) l)

  -- ---- all faces

  crossings_free : AreFree N (with_crossings M s p).taken
  crossings_free = subst (AreFree N) (sym (crossings_counted M s p t sound begins)) (fresh_taken N)

  pub can_be_drawn : CanBeDrawn (with_crossings M s p) (straddling_pairs M s p)
  can_be_drawn = record {
    sound = crossings_sound M s p t sound begins;
    fresh = record { faces = crossings_free.faces; loops = crossings_free.loops; edges = crossings_free.edges; vertices = none_above N.vertices };
    room = pairs_room p M s premises.left;
    fit = of_all_pairs (λ f. AllFit N f.face f.pairs × LoneInOneLoop N f.pairs) M N p (straddling_faces M p s) (λ f i. (pairs_fit f i, lone_pair f i));
    apart = subst IsApart (sym (faces_are M N p (straddling_faces M p s))) (straddling_apart M p s);
  }

  -- ---- both rewritings

  pub rewritings_accepted : AreAccepted M (rewriting_ops M s p)
  rewritings_accepted = AreAccepted-append M (crossing_ops M s p) (drawing_ops p (with_crossings M s p) (straddling_pairs M s p)) (crossings_accepted M s p t sound begins)
      (subst (λ X. AreAccepted X (drawing_ops p (with_crossings M s p) (straddling_pairs M s p))) (sym (crossings_made M s p t sound begins))
      (drawing_accepted p (with_crossings M s p) (straddling_pairs M s p) can_be_drawn))

  pub rewritings_made : effects M (rewriting_ops M s p) ≡ (with_drawings M s p).model
  unfolding with_drawings
  rewritings_made = grind (arith, effects-append, crossings_made, drawing_made, can_be_drawn)

  pub rewritings_sound : Sound (with_drawings M s p).model
  unfolding with_drawings
  rewritings_sound = drawing_sound p (with_crossings M s p) (straddling_pairs M s p) can_be_drawn

  -- the numbers above those taken then are free
  pub rewritings_free : AreFree (with_drawings M s p).model (with_drawings M s p).taken
  unfolding with_drawings
  rewritings_free =
      let g : Growing = with_crossings M s p in
      let fs : List FacePairs = straddling_pairs M s p in
      let w = drawing_fresh p g fs can_be_drawn in
      record {
        faces = w.faces;
        loops = w.loops;
        edges = w.edges;
        vertices = λ q above. ap (λ t. table.get t q) (drawing_stays p g fs can_be_drawn).vertices ∙ crossings_free.vertices q (subst (λ n. n < q) (faces_go_on p (undrawn g) fs).vertex above);
      }
