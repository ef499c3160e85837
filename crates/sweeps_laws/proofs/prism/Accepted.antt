-- What it says that a sweep isn't refused; and so the sweep of a face, from its first operator to the prism.
use Rattle.sweeps_laws.proofs.Prelude.{◌≡◌, ℕ, true, false, not, nat_eq, ◌&&◌, ◌||◌, [], ◌∷◌, length, Some, None, refl, ap, ◌∙◌, subst, arith, nat_tests, not-false, Point, is_in_range, IsInRange, moved, IsIn, Model, cycle, items_of, content, face_of, tail, point_of, Sound, Has, AllHold, is_lone, lists, zero_first_where, item_there, loop_number, first_fails, AreAccepted, effects, effects_keep_sound, all_hold, listed-from_in, loop_row, not_lone_cycle, none_above, none_found, none_is_lone, none_such, numbers_are_left, loops_of_apart, tail_in, face_of_loop, AreLeft, start, loops_of, corners, vertices_in, least_lone, first_such, taken_in, prism_conditions, prism_refusal, prism_model, sweep_ops, needed_for_sides}
use Rattle.euler_operators.specs.Table as table
use Rattle.sweeps_laws.proofs.prism.Whole.{Going, loops_swept}

-- ---- a sweep that isn't refused

-- what the conditions of a prism say, by name
record PrismGoes (M : Model) (f : ℕ) (d : Point) : Type 0 where
  face_there : Has M.faces f
  none_lone : table.first_where (λ _ row. is_lone row.content && lists (f ∷ []) row.face) M.loops ≡ 0
  none_far : first_such (λ v. not (is_in_range (moved (point_of M v) d))) (corners M f) ≡ None
  left : AreLeft (taken_in M) (needed_for_sides (length (corners M f)))

prism_goes : (M : Model) (f : ℕ) (d : Point) → prism_refusal M f d ≡ None → PrismGoes M f d
unfolding prism_conditions
prism_goes M f d accepted = named (all_hold (prism_conditions M f d) accepted) where
  named : AllHold (prism_conditions M f d) → PrismGoes M f d
  named (_, (known, (_, (lone, (far, room))))) = record {
    face_there = known;
    none_lone = none_is_lone M (f ∷ []) (none_found (least_lone M (f ∷ [])) lone);
    none_far = none_found (first_such (λ v. not (is_in_range (moved (point_of M v) d))) (corners M f)) far;
    left = numbers_are_left (taken_in M) _ room;
  }

module _ (M : Model) (f : ℕ) (d : Point) (sound : Sound M) (accepted : prism_refusal M f d ≡ None) where
  goes : PrismGoes M f d
  goes = prism_goes M f d accepted

  pub face_there : Has M.faces f
  face_there = goes.face_there

  pub of_face : (l : ℕ) → IsIn l (loops_of M f) → Has M.loops l × (face_of M l ≡ f)
  of_face l i = face_of_loop M sound f l face_there (listed-from_in l (loops_of M f) i)

  -- none of them is lone
  pub is_cycle : (l : ℕ) → IsIn l (loops_of M f) → content M l ≡ cycle (items_of (content M l))
  is_cycle l i =
      let p = of_face l i in
      let at : table.get M.loops l ≡ Some (record { face = face_of M l; content = content M l }) = loop_row M l p.0 in
      let not_both : (is_lone (content M l) && lists (f ∷ []) (face_of M l)) ≡ false = zero_first_where (λ _ row. is_lone row.content && lists (f ∷ []) row.face) M.loops (loop_number M sound) goes.none_lone l (record { face = face_of M l; content = content M l }) at in
      not_lone_cycle (content M l) (first_fails (is_lone (content M l)) (lists (f ∷ []) (face_of M l)) not_both (listed (face_of M l) p.1)) where
        listed : (k : ℕ) → k ≡ f → lists (f ∷ []) k ≡ true
        listed k e = let s : nat_eq f k ≡ true = grind (arith, nat_tests) in ap (λ b. b || false) s

  -- each corner's moved point is in range
  near : (l : ℕ) → IsIn l (loops_of M f) → (h : ℕ) → IsIn h (items_of (content M l)) → IsInRange (moved (start M h) d)
  unfolding corners
  near l i h j = not-false (is_in_range (moved (start M h) d)) (none_such (λ v. not (is_in_range (moved (point_of M v) d))) (vertices_in M (loops_of M f)) goes.none_far (tail M h) (tail_in M h l (loops_of M f) i j))

  pub begins : Going M M (taken_in M) f d (loops_of M f)
  unfolding taken_in corners
  begins = record {
    sound = sound;
    free = record { faces = none_above M.faces; loops = none_above M.loops; edges = none_above M.edges; vertices = none_above M.vertices };
    left = goes.left;
    halves = λ h there. there;
    starts = λ h there. refl;
    apart = loops_of_apart M sound f;
    rows = (λ l i. let p = of_face l i in loop_row M l p.0 ∙ (λ j. Some (record { face = p.1 j; content = is_cycle l i j })));
    items_there = λ l i h j. item_there M sound l h j;
    contents = is_cycle;
    points_fit = near;
  }

  -- no operator of a sweep is refused
  pub sweep_accepted : AreAccepted M (sweep_ops M f d)
  unfolding sweep_ops
  sweep_accepted = (loops_swept M M (taken_in M) f d (loops_of M f) begins).accepted

  -- and they leave the prism
  pub sweep_is_prism : effects M (sweep_ops M f d) ≡ prism_model M f d
  unfolding sweep_ops prism_model
  sweep_is_prism = (loops_swept M M (taken_in M) f d (loops_of M f) begins).made

  pub prism_sound : Sound (prism_model M f d)
  prism_sound = subst Sound sweep_is_prism (effects_keep_sound M (sweep_ops M f d) sound sweep_accepted)
