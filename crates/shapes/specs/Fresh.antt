-- The numbers that a larger command takes, and refusals that name what a search has found.
use Rattle.std.specs.Prelude.{◌≡◌, ℕ, ◌+◌, ◌≤◌, ◌<◌, zero, suc, Bool, cond, nat_eq, nat_le, List, [], ◌∷◌, Option, Some, None, is_some, unwrap_or}
use Rattle.euler_operators.specs.Table as table
use Rattle.euler_operators.specs.Common.{Model, Condition, need, never}
use Rattle.euler_operators.specs.declared.Why.{Why}
use Rattle.euler_operators.specs.declared.Why.TheVariants.{NumbersSpent}

-- the first number that passes a test, if there is one
abbrev pub first_such : (ℕ → Bool) → List ℕ → Option ℕ
first_such p [] = None
first_such p (n ∷ ns) = cond (p n) (Some n) (first_such p ns)

-- the number that a search has found, if 0 stands for nothing found
abbrev pub found : ℕ → Option ℕ
found n = cond (nat_eq n 0) None (Some n)

-- no such number may be there; if there is one, the refusal names it
abbrev pub no_such : Option ℕ → Why → Condition
no_such o why = never (is_some o) why (unwrap_or o 0)

-- the greatest numbers taken so far
pub record Taken : Type 0 where
  pub face : ℕ
  pub loop : ℕ
  pub edge : ℕ
  pub vertex : ℕ

-- when a command begins, these are the greatest numbers in use
unfoldable pub taken_in : Model → Taken
taken_in M = record { face = table.greatest M.faces; loop = table.greatest M.loops; edge = table.greatest M.edges; vertex = table.greatest M.vertices }

-- all numbers above these are free
pub record AreFree (M : Model) (c : Taken) : Type 0 where
  pub faces : (q : ℕ) → c.face < q → table.get M.faces q ≡ None
  pub loops : (q : ℕ) → c.loop < q → table.get M.loops q ≡ None
  pub edges : (q : ℕ) → c.edge < q → table.get M.edges q ≡ None
  pub vertices : (q : ℕ) → c.vertex < q → table.get M.vertices q ≡ None

-- how many numbers of each kind a command needs
pub record Needed : Type 0 where
  pub faces : ℕ
  pub loops : ℕ
  pub edges : ℕ
  pub vertices : ℕ

-- the numbers needed are left within the limit
pub record AreLeft (c : Taken) (n : Needed) : Type 0 where
  pub faces : c.face + n.faces ≤ 1000000
  pub loops : c.loop + n.loops ≤ 1000000
  pub edges : c.edge + n.edges ≤ 1000000
  pub vertices : c.vertex + n.vertices ≤ 1000000

-- when the numbers needed are taken, all numbers stay within the limit
abbrev pub numbers_left : Taken → Needed → List Condition
numbers_left c n =
    need (nat_le (c.face + n.faces) 1000000) NumbersSpent 2
    ∷ need (nat_le (c.loop + n.loops) 1000000) NumbersSpent 3
    ∷ need (nat_le (c.edge + n.edges) 1000000) NumbersSpent 4
    ∷ need (nat_le (c.vertex + n.vertices) 1000000) NumbersSpent 5 ∷ []

-- a model in the making, and the numbers taken so far
pub record Growing : Type 0 where
  pub model : Model
  pub taken : Taken

abbrev pub growing : Model → Growing
growing M = record { model = M; taken = taken_in M }

-- n numbers from k + 1 on
abbrev pub numbers_after : ℕ → ℕ → List ℕ
numbers_after k zero = []
numbers_after k (suc n) = (k + 1) ∷ numbers_after (k + 1) n
