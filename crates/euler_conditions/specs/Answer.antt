-- The answer of a test of conditions that also finds a value.
use Rattle.std.specs.Prelude.{Option, Some, None, Result, Ok, Err}
use Rattle.euler_operators.specs.declared.Refusal.{Refusal}

-- the value if no condition is false, otherwise the refusal
abbrev pub answer : {A : Type 0} → Option Refusal → A → Result A Refusal
answer None x = Ok x
answer (Some r) x = Err r
