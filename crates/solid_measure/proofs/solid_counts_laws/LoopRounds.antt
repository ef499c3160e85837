-- What a walk round a loop counts.
use Rattle.solid_measure.proofs.Prelude.{◌≡◌, ◌≢◌, ℕ, ◌%◌, ◌≤◌, ◌<◌, nat_eq, Bool, true, false, cond, List, [], ◌∷◌, length, refl, sym, ap, ◌∙◌, arith, count, IsIn, rotate_to, is_first, HalfEdge, Model, LoopContent, lone, cycle, items_of, cycle_of, after, Sound, HasHalf, count-append, split_at, rotate_to-rotates, count-rotate_to, Tells, seen, to_come, item_in, item_there, cycle_apart, start_seen, comes_back, goes_on, Met, leads, IsFew, together, nothing, half_met, halves_met, loop_met, AreHalves}
use mir.Val.{bool_byte}
use Rattle.euler_operators.specs.Items.{before, after as rest_after}
use Rattle.euler_operators.specs.declared.Content.TheVariants as Content
use Rattle.solid_measure.proofs.solid_counts_laws.Sums.{nothing_together, together_nothing, halves_push, halves_turned, halves_few}

-- the walk from `first` has come to h: with h it has counted what it has seen
pub record MetRound (M : Model) (first h : ℕ) (now : Met) : Type 0 where
  pub here : IsIn h (cycle_of M first)
  pub counted : together now (half_met M h) ≡ halves_met M (seen first (cycle_of M first) h)

module _ (M : Model) (sound : Sound M) (first : ℕ) (there : HasHalf M first) where
  pub met_start : MetRound M first first nothing
  met_start = let i = item_in M sound first there in record {
    here = i;
    counted = nothing_together (half_met M first) ∙ sym (together_nothing (half_met M first)) ∙ sym (ap (halves_met M) (start_seen first (cycle_of M first) (cycle_apart M sound first there) i));
  }

  -- what was seen is some of the loop's
  seen_in : (h x : ℕ) → IsIn h (cycle_of M first) → count x (seen first (cycle_of M first) h) ≤ count x (cycle_of M first)
  seen_in h x i =
      let ys : List ℕ = rotate_to first (cycle_of M first) in
      let turned : (y : ℕ) → count y ys ≡ count y (cycle_of M first) = λ y. count-rotate_to y first (cycle_of M first) in
      omega (arith, turned x, ap (count x) (split_at h ys (omega (arith, i, turned h))), count-append x (before h ys) (h ∷ rest_after h ys), count-append x (before h ys) (h ∷ []))

  module _ (h : ℕ) (now : Met) (w : MetRound M first h now) where
    seen_halves : AreHalves M (seen first (cycle_of M first) h)
    seen_halves = record {
      apart = λ x. omega (arith, seen_in h x w.here, cycle_apart M sound first there x);
      there = λ x i. item_there M sound first there x (omega (arith, i, seen_in h x w.here));
    }

    pub met_few : IsFew now
    met_few =
        let few = halves_few M sound (seen first (cycle_of M first) h) seen_halves in
        (omega (arith, few.0, ap (λ (m : Met). m.vertices) w.counted), omega (arith, few.1, ap (λ (m : Met). m.edges) w.counted))

    module _ (next : Met) (adds : next ≡ together now (half_met M h)) where
      pub met_closed : after M h ≡ first → next ≡ halves_met M (cycle_of M first)
      met_closed e =
          adds ∙ w.counted ∙ ap (halves_met M) (comes_back M sound first there h (after M h) w.here (λ _. refl) e).1
          ∙ sym (halves_turned M (cycle_of M first) (rotate_to first (cycle_of M first)) (rotate_to-rotates first (cycle_of M first)))

      pub met_more : after M h ≢ first → MetRound M first (after M h) next
      met_more ne =
          let on = goes_on M sound first there h (after M h) w.here (λ _. refl) ne in record {
            here = on.0;
            counted = ap (λ m. together m (half_met M (after M h))) (adds ∙ w.counted) ∙ sym (halves_push M (seen first (cycle_of M first) h) (after M h)) ∙ sym (ap (halves_met M) on.2);
          }

      -- fewer are still to come
      pub met_fewer : after M h ≢ first → length (to_come first (cycle_of M first) (after M h)) < length (to_come first (cycle_of M first) h)
      met_fewer ne = omega (arith, ap length (goes_on M sound first there h (after M h) w.here (λ _. refl) ne).1)

-- a lone loop counts for its vertex
pub lone_counts : (M : Model) (c : LoopContent) (v : ℕ) → Tells c (Content.Lone v) → ◌≡◌ {A = Met} (record { vertices = 1; edges = 0 }) (loop_met M c)
lone_counts M (lone w) v t = λ i. record { vertices = 1; edges = 0 }
lone_counts M (cycle hs) v t = absurd t

pub ring_counts : (M : Model) (c : LoopContent) (h : HalfEdge) → Tells c (Content.Ring h) → halves_met M (items_of c) ≡ loop_met M c
ring_counts M (lone w) h t = absurd t
ring_counts M (cycle hs) h t = λ i. halves_met M hs

bit : (b : Bool) → bool_byte b ≡ cond b 1 0
bit true = λ i. 1
bit false = λ i. 0

-- what the code counts for a half-edge
pub half_is : (M : Model) (h : ℕ) (b : Bool) (v e : ℕ) → b ≡ leads M h → v ≡ bool_byte b → e ≡ bool_byte (nat_eq (h % 2) 0) → ◌≡◌ {A = Met} (record { vertices = v; edges = e }) (half_met M h)
unfolding is_first
half_is M h b v e l p q = λ i. record { vertices = (p ∙ bit b ∙ ap (λ b. cond b 1 0) l) i; edges = (q ∙ bit (nat_eq (h % 2) 0)) i }
