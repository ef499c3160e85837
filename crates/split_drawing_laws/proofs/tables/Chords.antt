-- Faces drawn pair by pair: in the tables they are cut by bridges and chords.
use Rattle.split_drawing_laws.proofs.Prelude.{◌≡◌, ℕ, ◌+◌, Bool, true, false, cond, nat_eq, List, [], ◌∷◌, ◌++◌, length, refl, sym, ap, ◌∙◌, fold, Plane, Model, Sound, face_at, loop_of, is_ring_of, effect, loop_to_face, same_table, get-map_rows, Growing, Drawing, FacePairs, in_one_loop, join_next, all_joined, draw_next, all_drawn, all_pairs, drawn_between, join_edge, stuck_at, straddling_faces, ring_free, rings_above, rings_shared, next_drawn, faces_drawn, undrawn, with_rings, with_crossings, with_drawings, straddling_pairs, CanBegin, CanBeDrawn, Fits, AllFit, pairs_in, Joining, Going, Ready, Drawable}
use Rattle.euler_operators.specs.Table as table
use Rattle.split_drawing_laws.specs.tables.Chords.{with_bridge, bridged, next_bridged, all_bridged, with_chord, next_chord, all_chords, with_loops_given, rings_given, next_face_cut, faces_cut, straddling_cut}
use Rattle.split_drawing_laws.proofs.drawings.Drawn.{draw_rows, join_rows, ring_rows}
use Rattle.split_drawing_laws.proofs.drawings.Pairs.{can_back, can_on}
use Rattle.split_drawing_laws.proofs.drawings.Passes.{join_next_one, join_next_two, edge_free, edge_fits_now, join_one, can_now, draw_one, draw_next_one, draw_next_two}
use Rattle.split_drawing_laws.proofs.drawings.Faces.{begun_joining, fitting, going_free}
use Rattle.split_drawing_laws.proofs.drawings.Whole.{drawable, drawable_on, ready, next_is}
use Rattle.split_drawing_laws.proofs.face_sides.Beside.{given, rows_given}
use Rattle.split_drawing_laws.proofs.pairs.Whole.{can_be_drawn}
use Rattle.split_drawing_laws.proofs.tables.Doubled.{crossings_are_doubled}

-- ---- first pass

module _ (d : Drawing) (q : ℕ × ℕ) where
  abbrev left_out : Drawing
  left_out = record d { left = d.left ++ q ∷ [] }

  abbrev with_one : Drawing
  with_one = record d { model = bridged d.model q (d.taken.edge + 1); taken = record d.taken { edge = d.taken.edge + 1 } }

  bridged_is : (b : Bool) → in_one_loop d.model q ≡ b → next_bridged d q ≡ cond b left_out with_one
  unfolding next_bridged
  bridged_is b e = ap (λ c. cond c left_out with_one) e

module _ (M : Model) (f : ℕ) (d : Drawing) (q : ℕ × ℕ) (qs : List (ℕ × ℕ)) (n : ℕ) (fits : Fits M f q) (w : Joining M f d (q ∷ qs) n) where
  abbrev e : ℕ
  e = d.taken.edge + 1

  pair_bridged : in_one_loop d.model q ≡ false → (r : Bool) → is_ring_of d.model (face_at d.model q.0) (loop_of d.model q.0) ≡ r →
      effect d.model (cond r (join_edge q.1 q.0 e) (join_edge q.0 q.1 e)) ≡ cond r (with_bridge d.model q.1 q.0 e) (with_bridge d.model q.0 q.1 e)
  pair_bridged two true r = join_rows d.model q.1 q.0 e (can_back M d.model f q e w.joined fits two (edge_free M f d q qs n fits w) (edge_fits_now M f d q qs n fits w) r)
  pair_bridged two false r = join_rows d.model q.0 q.1 e (can_on M d.model f q e w.joined fits two (edge_free M f d q qs n fits w) (edge_fits_now M f d q qs n fits w) r)

  next_joined : (b : Bool) → in_one_loop d.model q ≡ b → join_next d q ≡ next_bridged d q
  next_joined true one = join_next_one d q one ∙ sym (bridged_is d q true one)
  next_joined false two = join_next_two d q two ∙ (λ i. record d { model = pair_bridged two (is_ring_of d.model (face_at d.model q.0) (loop_of d.model q.0)) refl i; taken = record d.taken { edge = e } }) ∙ sym (bridged_is d q false two)

all_bridges : (M : Model) (f : ℕ) (d : Drawing) (qs : List (ℕ × ℕ)) (n : ℕ) → AllFit M f qs → Joining M f d qs n → fold join_next d qs ≡ fold next_bridged d qs
all_bridges M f d [] n fit w = refl
all_bridges M f d (q ∷ qs) n fit w =
    all_bridges M f (join_next d q) qs n fit.1 (join_one M f d q qs n fit.0 w).1
    ∙ ap (λ x. fold next_bridged x qs) (next_joined M f d q qs n fit.0 w (in_one_loop d.model q) refl)

-- ---- second pass

module _ (f : ℕ) (d : Drawing) (q : ℕ × ℕ) where
  abbrev with_new : Drawing
  with_new = record d {
    model = with_chord d.model q.0 q.1 (d.taken.edge + 1) (d.taken.face + 1) (d.taken.loop + 1);
    taken = record d.taken { face = d.taken.face + 1; loop = d.taken.loop + 1; edge = d.taken.edge + 1 };
  }

  chord_is : (b : Bool) → in_one_loop d.model q ≡ b → next_chord f d q ≡ cond b with_new (stuck_at f d)
  unfolding next_chord
  chord_is b e = ap (λ c. cond c with_new (stuck_at f d)) e

module _ (M : Model) (f : ℕ) (sound : Sound M) (d : Drawing) (q : ℕ × ℕ) (qs : List (ℕ × ℕ)) (n : ℕ) (fits : Fits M f q) (w : Going M f d (q ∷ qs) n) where
  next_cut_off : (b : Bool) → in_one_loop d.model q ≡ b → draw_next f d q ≡ next_chord f d q
  next_cut_off true one = draw_next_one f d q one
      ∙ (λ i. record d {
        model = draw_rows d.model q.0 q.1 (d.taken.edge + 1) (d.taken.face + 1) (d.taken.loop + 1) (can_now M f sound d q qs n fits w one) i;
        taken = record d.taken { face = d.taken.face + 1; loop = d.taken.loop + 1; edge = d.taken.edge + 1 };
      })
      ∙ sym (chord_is f d q true one)
  next_cut_off false two = draw_next_two f d q two ∙ sym (chord_is f d q false two)

all_cut_off : (M : Model) (f : ℕ) (d : Drawing) (qs : List (ℕ × ℕ)) (n : ℕ) → Sound M → AllFit M f qs → Going M f d qs n → fold (draw_next f) d qs ≡ fold (next_chord f) d qs
all_cut_off M f d [] n sound fit w = refl
all_cut_off M f d (q ∷ qs) n sound fit w =
    all_cut_off M f (draw_next f d q) qs n sound fit.1 (draw_one M f sound d q qs n fit.0 w).1
    ∙ ap (λ x. fold (next_chord f) x qs) (next_cut_off M f sound d q qs n fit.0 w (in_one_loop d.model q) refl)

-- ---- rings, and whole faces

loops_given : (M : Model) (ls : List ℕ) (k : ℕ) → with_rings M ls k ≡ with_loops_given M ls k
loops_given M ls k = ring_rows M ls k ∙ (λ i. record M { loops = at_once i }) where
  at_once : fold (λ t l. table.map_rows (loop_to_face l k) t) M.loops ls ≡ table.map_rows (given ls k) M.loops
  at_once = same_table _ _ (λ q. rows_given M.loops ls k q ∙ sym (get-map_rows (given ls k) M.loops q))

given_or_not : (p : Plane) (f : ℕ) (qs : List (ℕ × ℕ)) (d : Drawing) → rings_shared p f qs d ≡ rings_given p f qs d
given_or_not p f qs d = λ i. cond (nat_eq (length qs) 1) (record d { model = loops_given d.model (rings_above d.model p f) d.taken.face i }) d

one_face : (p : Plane) (f : ℕ) (qs : List (ℕ × ℕ)) (d : Drawing) (n : ℕ) → Ready p f qs d n → drawn_between p f qs d ≡ rings_given p f qs (all_chords f (ring_free f qs (all_bridged qs d)))
one_face p f qs d n w =
    let free : Drawing = ring_free f qs (all_joined qs d) in
    given_or_not p f qs (all_drawn f free)
    ∙ ap (rings_given p f qs) (all_cut_off d.model f free free.left n w.sound (fitting p f qs d n w) (going_free p f qs d n w))
    ∙ ap (λ x. rings_given p f qs (all_chords f (ring_free f qs x))) (all_bridges d.model f (record d { left = [] }) qs n w.fit (begun_joining p f qs d n w))

all_faces : (p : Plane) (d : Drawing) (fs : List FacePairs) (n : ℕ) → Drawable d fs n → faces_drawn p d fs ≡ faces_cut p d fs
unfolding next_face_cut
all_faces p d [] n w = refl
all_faces p d (f ∷ fs) n w =
    all_faces p (next_drawn p d f) fs n (drawable_on p d f fs n w)
    ∙ ap (λ x. faces_cut p x fs) (next_is p d f fs n w ∙ one_face p f.face f.pairs d (pairs_in fs + n) (ready p d f fs n w))

-- ---- both rewritings

pub drawings_are_cut : (p : Plane) (g : Growing) (fs : List FacePairs) → CanBeDrawn g fs → faces_drawn p (undrawn g) fs ≡ faces_cut p (undrawn g) fs
drawings_are_cut p g fs can = all_faces p (undrawn g) fs 0 (drawable g fs can)

pub rewritings_of_tables : (M : Model) (s : ℕ) (p : Plane) (t : ℕ) → Sound M → CanBegin M s p t → with_drawings M s p ≡ straddling_cut M s p
unfolding with_drawings straddling_cut
rewritings_of_tables M s p t sound begun =
    drawings_are_cut p (with_crossings M s p) (straddling_pairs M s p) (can_be_drawn M s p t sound begun)
    ∙ ap (λ g. faces_cut p (undrawn g) (all_pairs M g.model p (straddling_faces M p s))) (crossings_are_doubled M s p t sound begun)
