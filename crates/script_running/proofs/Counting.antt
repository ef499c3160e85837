-- The counts of a run.
use Rattle.script_running.proofs.Prelude.{◌≡◌, ◌+◌, ◌≤◌, ℕ, Bool, true, false, refl, ap, arith, ◌==◌, ◌&&◌, and_from, and_parts, both_ways, false_from_ne_true, false≢true, not-false, not-true, not_from_false, not_from_true, nat_tests, no_lines, one_line, counted, is_clean, stops, was_stopped, Told, Summary}
use Rattle.solid_listing.specs.declared.told.Told.TheVariants as told

-- no reply is counted twice, nor without its line
pub record IsWithin (n : Summary) : Type 0 where
  pub refused : n.refused ≤ n.lines
  pub faults : n.faults ≤ n.lines
  pub memory : n.memory ≤ n.lines

pub same_counts : (a b : Summary) → a.lines ≡ b.lines → a.refused ≡ b.refused → a.faults ≡ b.faults → a.memory ≡ b.memory → a ≡ b
same_counts a b l r f m = λ i. record { lines = l i; refused = r i; faults = f i; memory = m i }

pub counted_assoc : (a b c : Summary) → counted a (counted b c) ≡ counted (counted a b) c
counted_assoc a b c = same_counts (counted a (counted b c)) (counted (counted a b) c) (omega arith) (omega arith) (omega arith) (omega arith)

pub counted_none : (a : Summary) → counted a no_lines ≡ a
counted_none a = same_counts (counted a no_lines) a (omega arith) (omega arith) (omega arith) (omega arith)

pub none_counted : (a : Summary) → counted no_lines a ≡ a
none_counted a = same_counts (counted no_lines a) a (omega arith) (omega arith) (omega arith) (omega arith)

-- a line is counted once, and its answer in one kind at most
one_counted : (a : Told) → ((one_line a).lines ≡ 1) × ((one_line a).refused ≤ 1) × ((one_line a).faults ≤ 1) × ((one_line a).memory ≤ 1)
one_counted told.Done = (refl, omega arith, omega arith, omega arith)
one_counted a = (refl, omega arith, omega arith, omega arith)

pub one_more : (a : Told) → (one_line a).lines ≡ 1
one_more a = (one_counted a).0

pub counted_within : (n : Summary) (a : Told) → IsWithin n → IsWithin (counted n (one_line a))
counted_within n a h = let o = one_counted a in record {
  refused = omega (arith, h.refused, o.0, o.1);
  faults = omega (arith, h.faults, o.0, o.2);
  memory = omega (arith, h.memory, o.0, o.3);
}

is_zero : (n : ℕ) → (n == 0) ≡ true → n ≡ 0
is_zero n e = grind (arith, nat_tests)

-- the counts are clean where none is raised
none_raised : (n : Summary) → is_clean n ≡ true → n.refused + n.faults + n.memory ≡ 0
none_raised n c =
    let (two, m) = and_parts (n.refused == 0 && n.faults == 0) (n.memory == 0) c in
    let (r, f) = and_parts (n.refused == 0) (n.faults == 0) two in
    omega (arith, is_zero n.refused r, is_zero n.faults f, is_zero n.memory m)

clean_at : (n : Summary) → n.refused + n.faults + n.memory ≡ 0 → is_clean n ≡ true
clean_at n e =
    let zero : (k : ℕ) → k ≤ n.refused + n.faults + n.memory → (k == 0) ≡ true = λ k le. let none : k ≡ 0 = omega (arith, e, le) in ap (λ (i : ℕ). i == 0) none in
    and_from _ _ (and_from _ _ (zero n.refused (omega arith)) (zero n.faults (omega arith))) (zero n.memory (omega arith))

-- the answer that stops a run is counted
pub stop_counted : (stop : Bool) (n : Summary) (a : Told) → stops stop a ≡ true → was_stopped stop (counted n (one_line a)) ≡ true
stop_counted true n a e = not_from_false _ (false_from_ne_true _ (λ c. let none = none_raised (counted n (one_line a)) c in both_ways _ (not-true _ e) (clean_at (one_line a) (omega (arith, none)))))
stop_counted false n a e = absurd (false≢true e)

-- an answer that doesn't stop a run leaves it unstopped
pub calm_counted : (stop : Bool) (n : Summary) (a : Told) → was_stopped stop n ≡ false → stops stop a ≡ false → was_stopped stop (counted n (one_line a)) ≡ false
calm_counted true n a u calm =
    let before = none_raised n (not-false _ u) in let one = none_raised (one_line a) (not-false _ calm) in not_from_true _ (clean_at (counted n (one_line a)) (omega (arith, before, one)))
calm_counted false n a u calm = refl

pub none_calm : (stop : Bool) → was_stopped stop no_lines ≡ false
none_calm true = refl
none_calm false = refl
