-- How often a number stands in what a search lists. The volumes of lists of faces are passed on.
use Rattle.gluing_laws.proofs.Prelude.{◌≡◌, ℕ, Bool, true, cond, List, Option, Some, None, sym, ◌∙◌, arith, count, SameItems, Table, lists, strictly_rises, listed_passes, listed_as, all_where-rises, IsIn-from_listed, listed-from_in, within, counted_once, none_counted}
use Rattle.euler_operators.specs.Table as table
pub use Rattle.shapes.proofs.measures.Sums.{volume_of, volume_append, volume_same, same_volumes}

-- ---- lists

-- rising lists with the same items are one
pub rising_same : (xs ys : List ℕ) → strictly_rises xs ≡ true → strictly_rises ys ≡ true → SameItems xs ys → xs ≡ ys
rising_same xs ys r s e = grind (arith, within xs ys r s, within ys xs s r, listed-from_in, IsIn-from_listed)

-- ---- searches

abbrev pub one_if : Bool → ℕ
one_if b = cond b 1 0

-- 1 where the row of k is there and passes, else 0
abbrev pub passed : {X : Type 0} → (ℕ → X → Bool) → ℕ → Option X → ℕ
passed p k None = 0
passed p k (Some x) = one_if (p k x)

count_listed : (q : ℕ) (ns : List ℕ) → strictly_rises ns ≡ true → count q ns ≡ one_if (lists ns q)
count_listed q ns up = grind (arith, counted_once, IsIn-from_listed, none_counted)

pub count_where : {X : Type 0} (p : ℕ → X → Bool) (t : Table X) (k : ℕ) → count k (table.all_where p t) ≡ passed p k (table.get t k)
count_where {X = X} p t k = grind (arith, count_listed, all_where-rises, listed_passes, listed_as)

-- searches that agree on every number list the same
pub same_search : {X Y : Type 0} (p : ℕ → X → Bool) (q : ℕ → Y → Bool) (t : Table X) (u : Table Y) → ((k : ℕ) → passed p k (table.get t k) ≡ passed q k (table.get u k)) → table.all_where p t ≡ table.all_where q u
same_search p q t u e = rising_same (table.all_where p t) (table.all_where q u) (all_where-rises p t) (all_where-rises q u) (λ k. count_where p t k ∙ e k ∙ sym (count_where q u k))
