-- A closed path that is moved keeps its area.
use Rattle.command_laws.proofs.Prelude.{◌≡◌, ℕ, zero, suc, ◌<◌, List, [], ◌∷◌, refl, sym, ap, subst, ◌∙◌, arith, length, get_or, map, Point, moved, cross, Model, sum_to, sum_first, same_sum, moved_at, Linked, start, finish, next_place, area, next_cases, next_within, IsPathOf, all_moved, nth}
use Rattle.command_laws.proofs.Outlines.{nth_start, as_many}
use Rattle.sweeps_laws.proofs.Loops.{ring_moved}

pub moved_many : (d : Point) (ps : List Point) → length (all_moved d ps) ≡ length ps
moved_many d [] = refl
moved_many d (p ∷ ps) = ap suc (moved_many d ps)

pub nth_moved : (d : Point) (ps : List Point) (k : ℕ) → k < length ps → nth (all_moved d ps) k ≡ moved (nth ps k) d
nth_moved d [] k l = absurd (omega arith)
nth_moved d (p ∷ ps) zero l = refl
nth_moved d (p ∷ ps) (suc k) l = nth_moved d ps k (omega (arith, l))

-- the area as a sum along the places
area_sum : (M : Model) (hs : List ℕ) → area M hs ≡ sum_to (λ i. cross (start M (get_or hs i 0)) (finish M (get_or hs i 0))) (length hs)
area_sum M [] = refl
area_sum M (h ∷ hs) = ap (moved (cross (start M h) (finish M h))) (area_sum M hs) ∙ sum_first (λ i. cross (start M (get_or (h ∷ hs) i 0)) (finish M (get_or (h ∷ hs) i 0))) (length hs)

-- the path ts of N leads along the points of the path hs of M, moved by d
module _ {M N : Model} (d : Point) {f g l k : ℕ} {hs ts : List ℕ} (was : IsPathOf M f l hs) (now : IsPathOf N g k ts) (same : map (start N) ts ≡ all_moved d (map (start M) hs)) where
  abbrev from_at : ℕ → Point
  from_at i = start M (get_or hs i 0)

  abbrev to_at : ℕ → Point
  to_at i = finish M (get_or hs i 0)

  many : length ts ≡ length hs
  many = sym (as_many N ts) ∙ ap length same ∙ moved_many d (map (start M) hs) ∙ as_many M hs

  start_at : (i : ℕ) → i < length hs → start N (get_or ts i 0) ≡ moved (start M (get_or hs i 0)) d
  start_at i m = sym (nth_start N ts i (subst (λ n. i < n) (sym many) m)) ∙ ap (λ ps. nth ps i) same
      ∙ nth_moved d (map (start M) hs) i (subst (λ n. i < n) (sym (as_many M hs)) m) ∙ ap (λ p. moved p d) (nth_start M hs i m)

  finish_at : (i : ℕ) → i < length hs → finish N (get_or ts i 0) ≡ moved (finish M (get_or hs i 0)) d
  finish_at i m = now.linked i (subst (λ n. i < n) (sym many) m) ∙ ap (λ n. start N (get_or ts (next_place n i) 0)) many
      ∙ start_at (next_place (length hs) i) (next_within (length hs) i m) ∙ ap (λ p. moved p d) (sym (was.linked i m))

  linked : Linked from_at to_at d (length hs)
  linked i m = grind (arith, was.linked, next_cases)

  closed : (m : ℕ) → suc m ≡ length hs → to_at m ≡ from_at 0
  closed m e = grind (arith, was.linked, next_cases)

  pub area_kept : area N ts ≡ area M hs
  area_kept = area_sum N ts
      ∙ ap (sum_to (λ i. cross (start N (get_or ts i 0)) (finish N (get_or ts i 0)))) many
      ∙ same_sum (λ i. cross (start N (get_or ts i 0)) (finish N (get_or ts i 0))) (moved_at from_at to_at d) (length hs) (λ i m. λ t. cross (start_at i m t) (finish_at i m t))
      ∙ ring_moved from_at to_at d (length hs) was.some_item linked closed ∙ sym (area_sum M hs)
