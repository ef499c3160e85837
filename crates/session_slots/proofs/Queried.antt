-- What an answer tells of the refusal behind it.
use Rattle.session_slots.proofs.Prelude.{◌≡◌, Option, Some, None, Ok, Err, refl, Refusal, answer}
use Rattle.euler_operators.specs.Common.{verdict}

pub is_refused : {A : Type 0} (o : Option Refusal) (a : A) (r : Refusal) → Err r ≡ answer o a → o ≡ Some r
is_refused None a r e = cc
is_refused (Some s) a r e = cc

pub is_told : {A : Type 0} (o : Option Refusal) (a b : A) → Ok b ≡ answer o a → (o ≡ None) × (b ≡ a)
is_told None a b e = (refl, cc)
is_told (Some s) a b e = absurd (cc e)

pub is_false : (o : Option Refusal) (r : Refusal) → Err r ≡ verdict o → o ≡ Some r
is_false None r e = cc
is_false (Some s) r e = cc

pub none_false : (o : Option Refusal) (u : Unit {0}) → Ok u ≡ verdict o → o ≡ None
none_false None u e = refl
none_false (Some r) u e = cc
