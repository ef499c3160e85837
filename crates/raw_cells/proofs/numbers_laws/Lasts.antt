-- The greatest number in use where one number comes or goes.
use Rattle.raw_cells.proofs.Prelude.{◌≡◌, ℕ, Bool, false, ◌∙◌, refl, IsLast}

pub last_none : (used : ℕ → Bool) → ((k : ℕ) → used k ≡ false) → IsLast used 0
last_none used none = record { here = λ n. absurd (n refl); above = λ k h. none k }

pub last_same : (used new : ℕ → Bool) (m : ℕ) → ((k : ℕ) → new k ≡ used k) → IsLast used m → IsLast new m
last_same used new m same last = record { here = λ n. same m ∙ last.here n; above = λ k h. same k ∙ last.above k h }
