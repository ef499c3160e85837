-- The walk round a loop, which meets each of its half-edges once.
use Rattle.euler_laws.proofs.Prelude.{◌≡◌, ◌≢◌, ℕ, ◌+◌, ◌≤◌, List, [], ◌∷◌, ◌++◌, refl, sym, ap, subst, ◌∙◌, arith, count, IsIn, IsApart, canonical, rotate_to, walk_to, orbit, successor, IsRing, IsRotation, Model, items_of, content, after, Sound, HasHalf, count-append, orbit_from, IsRing-from_successor, IsIn_successor, count-rotate_to, rotate_to-rotates, walk_done, walk_on, walk_over, item_there, item_loop, cycle_sound, length_below}
use Rattle.euler_laws.proofs.shared.Bounds.{steps, half_below}

-- the walk round loop l from its item first on has met some items and come to h, and n steps may follow
pub record Round (M : Model) (l first h n : ℕ) : Type 0 where
  pub met : List ℕ
  pub walked : orbit (after M) first steps ≡ met ++ walk_to (after M) first h n
  pub there : HasHalf M h
  pub here : IsIn h (items_of (content M l))

module _ (M : Model) (sound : Sound M) (l first : ℕ) (item : IsIn first (items_of (content M l))) where
  pub half_in : (x : ℕ) → IsIn x (items_of (content M l)) → HasHalf M x
  half_in x i = item_there M sound l x i

  abbrev xs : List ℕ
  xs = items_of (content M l)

  pub items_apart : IsApart xs
  items_apart = subst (λ k. IsApart (items_of (content M k))) (item_loop M sound l first item) (cycle_sound M sound first (half_in first item)).apart

  pub items_from_least : canonical xs ≡ xs
  items_from_least = subst (λ k. canonical (items_of (content M k)) ≡ items_of (content M k)) (item_loop M sound l first item) (cycle_sound M sound first (half_in first item)).from_least

  next_is : (x : ℕ) → IsIn x xs → after M x ≡ successor xs x
  unfolding after
  next_is x i = ap (λ k. successor (items_of (content M k)) x) (item_loop M sound l x i)

  pub next_in : (x : ℕ) → IsIn x xs → IsIn (after M x) xs
  next_in x i = subst (λ y. IsIn y xs) (sym (next_is x i)) (IsIn_successor x xs i)

  ring : IsRing (after M) xs
  ring = IsRing-from_successor (after M) xs items_apart next_is

  abbrev whole : List ℕ
  whole = orbit (after M) first steps

  whole_is : whole ≡ rotate_to first xs
  whole_is = orbit_from (after M) first xs steps ring items_apart item (length_below steps xs items_apart (λ x i. half_below M sound x (half_in x i)))

  -- what a list that is the whole walk is
  pub turned : (ys : List ℕ) → whole ≡ ys → IsRotation xs ys
  turned ys e = subst (IsRotation xs) (sym whole_is ∙ e) (rotate_to-rotates first xs)

  abbrev pub round_start : Round M l first first steps
  round_start = record { met = []; walked = refl; there = half_in first item; here = item }

  module _ (h n k : ℕ) (w : Round M l first h n) (more : n ≡ k + 1) where
    pub round_closed : after M h ≡ first → IsRotation xs (w.met ++ h ∷ [])
    round_closed e = turned (w.met ++ h ∷ []) (walk_done (after M) first h n k whole w.met w.walked more e)

    abbrev pub round_more : after M h ≢ first → Round M l first (after M h) k
    round_more ne = record { met = w.met ++ h ∷ []; walked = walk_on (after M) first h n k whole w.met w.walked more ne; there = half_in (after M h) (next_in h w.here); here = next_in h w.here }

  pub round_ended : (h n : ℕ) (w : Round M l first h n) → n ≡ 0 → IsRotation xs w.met
  round_ended h n w z = turned w.met (walk_over (after M) first h n whole w.met w.walked z)

  -- what has been met are different half-edges of the loop
  pub met_once : (h n : ℕ) (w : Round M l first h n) (x : ℕ) → count x w.met ≤ count x xs
  met_once h n w x = omega (arith, ap (count x) w.walked, count-append x w.met (walk_to (after M) first h n), ap (count x) whole_is, count-rotate_to x first xs)
