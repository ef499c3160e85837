-- The least of some numbers, if there is one.
use Rattle.std.specs.Prelude.{ℕ, Bool, cond, nat_le, List, [], ◌∷◌, Option, Some, None}

-- the number alone, if it is wanted
abbrev pub only : Bool → ℕ → Option ℕ
only b n = cond b (Some n) None

-- the lesser of two numbers; if there is only one, this one
abbrev pub lesser : Option ℕ → Option ℕ → Option ℕ
lesser None n = n
lesser (Some m) None = Some m
lesser (Some m) (Some n) = Some (cond (nat_le m n) m n)

-- the least number of a list that passes a test
abbrev pub least_such : (ℕ → Bool) → List ℕ → Option ℕ
least_such p [] = None
least_such p (n ∷ ns) = lesser (only (p n) n) (least_such p ns)
