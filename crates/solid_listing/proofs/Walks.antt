-- What an arena answers as a walk goes from a number to the next.
use Rattle.solid_listing.proofs.Prelude.{◌≡◌, ℕ, ◌<◌, true, false, [], ◌∷◌, Some, None, sym, ◌∙◌, arith, nat_tests, Kind, Solid, Face, Loop, Edge, Vertex, Table, has, numbers, Model, is_number, Sound, NumbersFit, Store, IsNextNumber, numbers_of, above, all_above, next_above, none_above, all_above_members, rising_numbers, member_numbers}

-- the numbers of a table
module _ {X : Type 0} (t : Table X) where
  next_in : (n m : ℕ) → (n < m) × (has t m ≡ true) × ((k : ℕ) → n < k → k < m → has t k ≡ false) → above n (numbers t) ≡ m ∷ above m (numbers t)
  next_in n m h = next_above n m (numbers t) (rising_numbers t) h.0 (member_numbers t m ∙ h.1) (λ k a b. member_numbers t k ∙ h.2 k a b)

  none_in : (n : ℕ) → ((k : ℕ) → n < k → has t k ≡ false) → above n (numbers t) ≡ []
  none_in n h = none_above n (numbers t) (λ k a. member_numbers t k ∙ h k a)

  all_in_range : NumbersFit t → above 0 (numbers t) ≡ numbers t
  all_in_range fit = all_above 0 (numbers t) (all_above_members 0 (numbers t) (λ k there. one_or_more k (fit k (sym (member_numbers t k) ∙ there)))) where
    one_or_more : (k : ℕ) → is_number k ≡ true → 0 < k
    one_or_more k e = grind (arith, nat_tests)

pub next_number : (s : Store) (kind : Kind) (n m : ℕ) → IsNextNumber s kind n (Some m) → above n (numbers_of s.model kind) ≡ m ∷ above m (numbers_of s.model kind)
next_number s Solid n m h = next_in _ n m h
next_number s kind n m h = next_in _ n m h

pub no_number : (s : Store) (kind : Kind) (n : ℕ) → IsNextNumber s kind n None → above n (numbers_of s.model kind) ≡ []
no_number s Solid n h = none_in _ n h
no_number s kind n h = none_in _ n h

pub from_zero : (M : Model) → Sound M → (kind : Kind) → above 0 (numbers_of M kind) ≡ numbers_of M kind
from_zero M sound Solid = all_in_range M.solids sound.solids_fit
from_zero M sound Face = all_in_range M.faces sound.faces_fit
from_zero M sound Loop = all_in_range M.loops sound.loops_fit
from_zero M sound Edge = all_in_range M.edges sound.edges_fit
from_zero M sound Vertex = all_in_range M.vertices sound.vertices_fit
