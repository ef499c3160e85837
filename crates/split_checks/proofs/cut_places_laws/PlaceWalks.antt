-- The half-edges of a loop, taken one by one as a walk round it meets them.
use Rattle.split_checks.proofs.Prelude.{◌≡◌, ◌≢◌, ℕ, List, ◌++◌, map, ap, ◌∙◌, filter, map-append, filter-append, Plane, edge_of, IsIn, Model, cycle_of, loop_of, point_of, Sound, HasHalf, in_a_loop, start, finish, crossings_in, item_there}
use Rattle.euler_operators.specs.Model as model
use Rattle.split_checks.specs.cut_places.Crossings.{leads_across}

-- the next half-edge starts where this one ends
module _ (M : Model) (sound : Sound M) (h : ℕ) (there : HasHalf M h) (g r : ℕ) (i : IsIn g (cycle_of M h)) (next : loop_of M g ≢ 0 → r ≡ model.after M g) where
  pub next_starts : start M r ≡ finish M g
  next_starts =
      let at = item_there M sound h there g i in
      ap (start M) (next (in_a_loop M sound g at)) ∙ ap (point_of M) (sound.ends_meet g at)

-- the edges that cross the plane, of some half-edges and of others
pub crossings_both : (M : Model) (p : Plane) (xs ys : List ℕ) → crossings_in M p (xs ++ ys) ≡ crossings_in M p xs ++ crossings_in M p ys
crossings_both M p xs ys = ap (map edge_of) (filter-append (leads_across M p) xs ys) ∙ map-append edge_of (filter (leads_across M p) xs) (filter (leads_across M p) ys)
