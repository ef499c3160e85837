-- What there is of the half-edges of a loop laid over a list, one after the other.
use Rattle.session_slots.proofs.Prelude.{◌≡◌, ◌≢◌, ℕ, ◌+◌, ◌≤◌, List, [], ◌∷◌, ◌++◌, length, map, slice_set, sym, ap, ◌∙◌, arith, append_assoc, length-append, length-map, map-append, IsIn, rotate_to, loop_of, after, cycle_of, HasHalf, length-rotate_to, halves_short, to_come, start_is, item_there, item_in, same_loop, cycle_apart, goes_on, comes_back, laid_at}
use Rattle.euler_operators.specs.Common.{Model, Sound}
use Rattle.session_slots.proofs.Overlaid.{none_at, more_at}

-- those before the one at hand are laid over the old list as f tells them, and counted
pub record CycleRound {X : Type 0} (f : ℕ → X) (M : Model) (first from at : ℕ) (old now : List X) (n : ℕ) : Type 0 where
  pub written : List ℕ
  pub at_in : IsIn at (cycle_of M first)
  pub all : written ++ at ∷ to_come first (cycle_of M first) at ≡ rotate_to first (cycle_of M first)
  pub counted : n ≡ from + length written
  pub laid : now ≡ laid_at from (map f written) old

module _ {X : Type 0} (f : ℕ → X) (M : Model) (sound : Sound M) (first : ℕ) (there : HasHalf M first) (from : ℕ) (old : List X) where
  pub round_start : CycleRound f M first from first old old from
  round_start = record {
    written = [];
    at_in = item_in M sound first there;
    all = sym (start_is first (cycle_of M first) (cycle_apart M sound first there) (item_in M sound first there));
    counted = omega arith;
    laid = sym (none_at from old);
  }

  module _ (at : ℕ) (now : List X) (n : ℕ) (w : CycleRound f M first from at old now n) where
    pub at_there : HasHalf M at
    at_there = item_there M sound first there at w.at_in

    pub at_loop : loop_of M at ≡ loop_of M first
    at_loop = same_loop M sound first there at w.at_in

    pub count_short : n ≤ from + 2000002
    count_short =
        let short = halves_short M sound (cycle_of M first) (record { apart = cycle_apart M sound first there; there = item_there M sound first there }) in
        omega (arith, short, w.counted, ap (λ (hs : List ℕ). length hs) w.all, length-rotate_to first (cycle_of M first), length-append w.written (at ∷ to_come first (cycle_of M first) at))

    abbrev more : List ℕ
    more = w.written ++ at ∷ []

    more_counted : n + 1 ≡ from + length more
    more_counted = omega (arith, w.counted, length-append w.written (at ∷ []))

    more_laid : slice_set now n (f at) ≡ laid_at from (map f more) old
    more_laid =
        (λ i. slice_set (w.laid i) ((w.counted ∙ ap (λ k. from + k) (sym (length-map w.written f))) i) (f at)) ∙ more_at from (map f w.written) (f at) old
        ∙ ap (λ (xs : List X). laid_at from xs old) (sym (map-append f w.written (at ∷ [])))

    module _ (r : ℕ) (next : r ≡ after M at) where
      pub round_shorter : r ≢ first → length (to_come first (cycle_of M first) at) ≡ length (to_come first (cycle_of M first) r) + 1
      round_shorter other = let on = goes_on M sound first there at r w.at_in (λ _. next) other in omega (arith, ap (λ (hs : List ℕ). length hs) on.1)

      pub round_more : r ≢ first → CycleRound f M first from r old (slice_set now n (f at)) (n + 1)
      round_more other =
          let on = goes_on M sound first there at r w.at_in (λ _. next) other in record {
            written = more;
            at_in = on.0;
            all = append_assoc w.written (at ∷ []) (r ∷ to_come first (cycle_of M first) r) ∙ ap (λ (hs : List ℕ). w.written ++ at ∷ hs) (sym on.1) ∙ w.all;
            counted = more_counted;
            laid = more_laid;
          }

      more_is : r ≡ first → more ≡ rotate_to first (cycle_of M first)
      more_is same = let back = comes_back M sound first there at r w.at_in (λ _. next) same in ap (λ (hs : List ℕ). w.written ++ at ∷ hs) (sym back.0) ∙ w.all

      pub count_is : r ≡ first → n + 1 ≡ from + length (cycle_of M first)
      count_is same = more_counted ∙ ap (λ k. from + k) (ap (λ (hs : List ℕ). length hs) (more_is same) ∙ length-rotate_to first (cycle_of M first))

      pub cycle_laid : r ≡ first → slice_set now n (f at) ≡ laid_at from (map f (rotate_to first (cycle_of M first))) old
      cycle_laid same = more_laid ∙ ap (λ (hs : List ℕ). laid_at from (map f hs) old) (more_is same)
