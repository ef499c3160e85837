-- The steps of a loop's sweep, as they are taken one after the other.
use Rattle.sweeps_laws.proofs.Prelude.{◌≡◌, ℕ, suc, ◌+◌, ◌-◌, ◌≤◌, ◌<◌, List, [], ◌∷◌, length, None, is_some, sym, ap, ◌∙◌, subst, arith, get_or, Point, IsInRange, moved, IsIn, At, edge_of, half, plus, Model, HasHalf, first_false, effect, IsIn-get_or, get-put_other, in_use_within, Mev, AreAccepted, effects, AreAccepted-back, start, Taken, riser, prism_part, raise_item, raise, close, close_last, rounds, Ready}
use Rattle.sweeps_laws.proofs.prism.Sides.{has_free, half_there, old_edge, part_keeps}
use Rattle.sweeps_laws.proofs.swept.Bounds.{tail_within}
use Rattle.sweeps_laws.proofs.swept.Numbers.{riser_cases}
use Rattle.sweeps_laws.proofs.swept.Sides.{start_kept}
use Rattle.sweeps_laws.proofs.prism.Loops.{rounds_go, loop_swept}

module _ (M : Model) (c : Taken) (f l : ℕ) (d : Point) (hs : List ℕ) (w : Ready M c f l d hs) where
  -- the model once the item at place i is raised and the sides before it stand
  abbrev N : ℕ → Model
  N i = effects M (rounds M c d hs i)

  part_half : (i h : ℕ) → HasHalf M h → HasHalf (prism_part c f l d hs i M) h
  unfolding prism_part
  part_half i h there =
      let b : edge_of h ≤ c.edge = in_use_within M.edges c.edge w.free.edges (edge_of h) there in
      ap is_some (get-put_other _ _ _ (edge_of h) (λ s. omega (arith, riser_cases c.edge i)) ∙ old_edge M c f l d hs w i (edge_of h) there) ∙ there

  part_start : (i h : ℕ) → HasHalf M h → start (prism_part c f l d hs i M) h ≡ start M h
  part_start i h there = start_kept (part_keeps w i) (tail_within (has_free M c f l d hs w)) h (in_use_within M.edges c.edge w.free.edges (edge_of h) there)

  module _ (i : ℕ) (lt : i < length hs) where
    pub turn_half : (h : ℕ) → IsIn h hs → HasHalf (N i) h
    turn_half h j = subst (λ X. HasHalf X h) (sym (rounds_go M c f l d hs w i lt).made) (part_half i h (half_there M c f l d hs w h j))

    pub turn_start : (h : ℕ) → IsIn h hs → start (N i) h ≡ start M h
    turn_start h j = ap (λ X. start X h) (rounds_go M c f l d hs w i lt).made ∙ part_start i h (half_there M c f l d hs w h j)

    pub turn_range : (h : ℕ) → IsIn h hs → IsInRange (moved (start (N i) h) d)
    turn_range h j = subst (λ p. IsInRange (moved p d)) (sym (turn_start h j)) (w.points_fit h j)

  -- one more item
  module _ (i : ℕ) (lt : suc i < length hs) where
    g_in : IsIn (get_or hs (suc i) 0) hs
    g_in = IsIn-get_or hs (suc i) 0 lt

    -- told from the model then, or from the one before
    pub raises : raise_item (N i) c d (get_or hs (suc i) 0) (suc i) ≡ raise M c d hs (suc i)
    raises = ap (λ p. Mev (At (half (get_or hs (suc i) 0))) (At (half (get_or hs (suc i) 0))) (half (plus (riser c.edge (suc i)))) (c.vertex + 1 + suc i) (moved p d)) (turn_start i (omega arith) (get_or hs (suc i) 0) g_in)

    both : AreAccepted (N i) (raise M c d hs (suc i) ∷ close c (length hs) i ∷ [])
    both = AreAccepted-back M (rounds M c d hs i) (raise M c d hs (suc i) ∷ close c (length hs) i ∷ []) (rounds_go M c f l d hs w (suc i) lt).accepted

    pub raise_accepted : first_false (N i) (raise_item (N i) c d (get_or hs (suc i) 0) (suc i)) ≡ None
    raise_accepted = ap (first_false (N i)) raises ∙ both.0

    pub close_accepted : first_false (effect (N i) (raise_item (N i) c d (get_or hs (suc i) 0) (suc i))) (close c (length hs) i) ≡ None
    close_accepted = ap (λ op. first_false (effect (N i) op) (close c (length hs) i)) raises ∙ both.1.0

  -- and the last side
  pub last_accepted : first_false (N (length hs - 1)) (close_last c (length hs) (length hs - 1)) ≡ None
  last_accepted = (AreAccepted-back M (rounds M c d hs (length hs - 1)) (close_last c (length hs) (length hs - 1) ∷ []) (loop_swept M c f l d hs w).0).0
