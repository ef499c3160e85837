-- A loop of a sound model that is known by its half-edges, written from any of them on.
use Rattle.euler_laws.proofs.Prelude.{◌≡◌, ℕ, List, Some, is_some, sym, ap, ◌∙◌, arith, IsIn, IsApart, canonical, rotate_to, Model, cycle, items_of, holds, loop_of, content, face_of, cycle_of, Sound, HasHalf, StandsIn, canonical-rotates, count-canonical, rotate_to_same, content_row, face_row, in-holds}
use Rattle.euler_operators.specs.Table as table

-- a loop of a model, written from anywhere on
pub record Around (M : Model) (l f : ℕ) (xs : List ℕ) : Type 0 where
  pub sound : Sound M
  pub at : table.get M.loops l ≡ Some (record { face = f; content = cycle (canonical xs) })

module _ (M : Model) (l f : ℕ) (xs : List ℕ) (a : Around M l f xs) where
  pub content_is : content M l ≡ cycle (canonical xs)
  content_is = content_row M l (record { face = f; content = cycle (canonical xs) }) a.at

  pub face_is : face_of M l ≡ f
  face_is = face_row M l (record { face = f; content = cycle (canonical xs) }) a.at

  pub canonical_apart : IsApart (canonical xs)
  canonical_apart = (a.sound.cycles l (canonical xs) (ap is_some a.at) content_is).apart

  pub apart_xs : IsApart xs
  apart_xs = λ x. omega (arith, canonical_apart x, count-canonical x xs)

  pub stands_in : (g : ℕ) → IsIn g xs → StandsIn M g l
  stands_in g i = ap (holds g) content_is ∙ in-holds g (cycle (canonical xs)) (omega (arith, i, count-canonical g xs))

  pub loop_is : (g : ℕ) → IsIn g xs → loop_of M g ≡ l
  loop_is g i = a.sound.one_loop g l (stands_in g i)

  pub half_is : (g : ℕ) → IsIn g xs → HasHalf M g
  half_is g i = a.sound.only_edges g l (stands_in g i)

  pub cycle_is : (g : ℕ) → IsIn g xs → cycle_of M g ≡ canonical xs
  cycle_is g i = ap (λ q. items_of (content M q)) (loop_is g i) ∙ ap items_of content_is

  pub rotated_canonical : (g : ℕ) → IsIn g xs → rotate_to g (canonical xs) ≡ rotate_to g xs
  rotated_canonical g i = sym (rotate_to_same g xs (canonical xs) (canonical-rotates xs) apart_xs i)
