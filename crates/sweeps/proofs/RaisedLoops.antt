-- The loops of a face that is swept, as the code takes them one after the other.
use Rattle.sweeps.proofs.Prelude.{◌≡◌, ℕ, ◌-◌, ◌≤◌, ◌<◌, None, List, [], ◌∷◌, ◌++◌, length, append-nil, append_assoc, sym, ap, ◌∙◌, subst, arith, take, drop, slice_index_or, take_rest, Point, Model, face_of, items_of, content, outer, rings_of, Sound, Op, DraftJournal, after_steps, no_steps, steps_after, steps_make, loops_of, Taken, taken_in, prism_refusal, loop_ops, ops_from, sweep_ops, taken_after, Ready, Going, same_items, turn_ready, turn_ops, turn_next, begins}

-- the first of a list, and the rest
abbrev pub first : List ℕ → ℕ
first xs = slice_index_or xs 0 0

abbrev pub others : List ℕ → List ℕ
others xs = take (length xs - 1) (drop 1 xs)

parts : (xs : List ℕ) → 1 ≤ length xs → xs ≡ first xs ∷ others xs
parts [] lt = absurd (omega arith)
parts (x ∷ xs) lt = ap (λ (ys : List ℕ). x ∷ ys) (sym (take_rest (x ∷ xs) 1))

-- before the outer loop, of what the arena says of the face
module _ (M A : Model) (same : A ≡ M) (sound : Sound A) (f : ℕ) (d : Point) (e : prism_refusal M f d ≡ None)
    (c : Taken) (counted : c ≡ taken_in A) (l : ℕ) (is_outer : l ≡ outer A f) (rs : List ℕ) (are_rings : rs ≡ rings_of A f) where
  loops : (l ∷ rs) ≡ loops_of M f
  unfolding loops_of
  loops = (λ i. is_outer i ∷ are_rings i) ∙ ap (λ X. outer X f ∷ rings_of X f) same

  taken : c ≡ taken_in M
  taken = counted ∙ ap taken_in same

  pub all_going : Going M M c f d (l ∷ rs)
  all_going = subst (λ t. Going M M t f d (l ∷ rs)) (sym taken) (subst (Going M M (taken_in M) f d) (sym loops) (begins M f d (subst Sound same sound) e))

  pub all_ops : ops_from M d c (l ∷ rs) ≡ sweep_ops M f d
  unfolding sweep_ops
  all_ops = λ j. ops_from M d (taken j) (loops j)

-- a draft in which some loops of face f are swept; those of the list are left
pub record Sweeping (old new : DraftJournal) (c : Taken) (f : ℕ) (d : Point) (ls : List ℕ) : Type 0 where
  pub going : Going old.model new.model c f d ls
  pub done : List Op
  pub steps : new ≡ after_steps old done
  pub left : done ++ ops_from old.model d c ls ≡ sweep_ops old.model f d

-- before the outer loop
pub begun : (old : DraftJournal) (c : Taken) (f : ℕ) (d : Point) (ls : List ℕ) → Going old.model old.model c f d ls → ops_from old.model d c ls ≡ sweep_ops old.model f d → Sweeping old old c f d ls
begun old c f d ls going all = record { going = going; done = []; steps = sym (no_steps old); left = all }

module _ (old new : DraftJournal) (c : Taken) (f : ℕ) (d : Point) where
  pub going_on : (xs : List ℕ) → 1 ≤ length xs → Sweeping old new c f d xs → Sweeping old new c f d (first xs ∷ others xs)
  going_on xs lt w = subst (Sweeping old new c f d) (parts xs lt) w

  -- after the last loop
  pub all_swept : (xs : List ℕ) → length xs < 1 → Sweeping old new c f d xs → new ≡ after_steps old (sweep_ops old.model f d)
  all_swept [] lt w = w.steps ∙ ap (after_steps old) (sym (append-nil w.done) ∙ w.left)
  all_swept (x ∷ xs) lt w = absurd (omega (arith, lt))

  module _ (x : ℕ) (xs : List ℕ) (w : Sweeping old new c f d (x ∷ xs)) where
    abbrev hs : List ℕ
    hs = items_of (content old.model x)

    pub loop_ready : Ready new.model c (face_of new.model x) x d (items_of (content new.model x))
    loop_ready = turn_ready old.model new.model c f x d xs w.going

    module _ (N : DraftJournal) (made : N ≡ after_steps new (loop_ops new.model c d (items_of (content new.model x)))) (t : Taken) (is : t ≡ taken_after c (length (items_of (content new.model x)))) where
      taken_is : t ≡ taken_after c (length hs)
      taken_is = is ∙ ap (λ ks. taken_after c (length ks)) (same_items old.model new.model c f x d xs w.going)

      pub loop_next : Sweeping old N t f d xs
      loop_next = record {
        going = subst (λ q. Going old.model N.model q f d xs) (sym is) (turn_next old.model new.model c f x d xs w.going N.model (steps_make _ _ _ made));
        done = w.done ++ loop_ops old.model c d hs;
        steps = steps_after old new N w.done (loop_ops old.model c d hs) w.steps (made ∙ ap (after_steps new) (turn_ops old.model new.model c f x d xs w.going));
        left = ap (λ q. (w.done ++ loop_ops old.model c d hs) ++ ops_from old.model d q xs) taken_is
            ∙ append_assoc w.done (loop_ops old.model c d hs) (ops_from old.model d (taken_after c (length hs)) xs)
            ∙ w.left;
      }
