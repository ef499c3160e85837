-- The part of a walk that is still to come.
use Rattle.std.specs.Prelude.{◌≢◌, ℕ, Bool, true, false, cond, nat_eq, nat_lt, List, [], ◌∷◌, filter}
use Rattle.euler_operators.specs.Common.{IsIn, rotate_to, Model, cycle_of, outer, rings_of, Sound, HasHalf}
use Rattle.euler_operators.specs.Items.{after}

-- the numbers of a list that are greater than n
abbrev pub above : ℕ → List ℕ → List ℕ
above n ns = filter (nat_lt n) ns

-- those of the loops of face f that are still to come: the outer one, unless it came already, and the rings above n
abbrev pub loops_left : Model → ℕ → Bool → ℕ → List ℕ
loops_left M f true n = outer M f ∷ above n (rings_of M f)
loops_left M f false n = above n (rings_of M f)

-- what a walk once round a ring, from h on, meets after x
abbrev pub to_come : ℕ → List ℕ → ℕ → List ℕ
to_come h xs x = after x (rotate_to h xs)

-- of a walk round the loop of h, from h on: the next half-edge, unless it is 0, and those after it
abbrev pub items_left : Model → ℕ → ℕ → List ℕ
items_left M h next = cond (nat_eq next 0) [] (next ∷ to_come h (cycle_of M h) next)

-- the next half-edge of a walk round the loop of h is one of that loop
pub record IsRound (M : Model) (h next : ℕ) : Type 0 where
  pub sound : Sound M
  pub there : HasHalf M h
  pub inside : next ≢ 0 → IsIn next (cycle_of M h)
