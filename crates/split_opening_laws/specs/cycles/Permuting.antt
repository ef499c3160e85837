-- A function that permutes the items of a list.
use Rattle.std.specs.Prelude.{◌≡◌, ℕ, List}
use Rattle.euler_operators.specs.Common.{IsIn, IsApart}

-- no item stands twice, and next leads from each item to an item of the list, and from no two to the same
pub record Permutes (next : ℕ → ℕ) (xs : List ℕ) : Type 0 where
  pub apart : IsApart xs
  pub stays : (x : ℕ) → IsIn x xs → IsIn (next x) xs
  pub one_way : (x y : ℕ) → IsIn x xs → IsIn y xs → next x ≡ next y → x ≡ y
