-- A sound model has a bounded number of half-edges and loops.
use Rattle.euler_laws.proofs.Prelude.{◌≡◌, ℕ, ◌<◌, ◌≤◌, refl, arith, edge_of, Model, Sound, Has, HasHalf, number_fits}

-- more than the half-edges that a model can have
pub steps : ℕ
steps = 2000002

pub steps_are : steps ≡ 2000002
unfolding steps
steps_are = refl

-- a half-edge that is there is one of a bounded range of codes
pub half_below : (M : Model) → Sound M → (x : ℕ) → HasHalf M x → x < steps
unfolding edge_of
half_below M sound x t = omega (arith, steps_are, number_fits (edge_of x) (sound.edges_fit (edge_of x) t))

pub ring_number : (M : Model) → Sound M → (l : ℕ) → Has M.loops l → l ≤ 1000000
ring_number M sound l t = number_fits l (sound.loops_fit l t)
