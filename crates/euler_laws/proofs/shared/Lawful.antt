-- What is proved of an operator.
use Rattle.euler_laws.proofs.Prelude.{◌≡◌, None, Model, Sound, first_false, effect, inverse, Op}

-- the model after is sound, the inverse is accepted in it, and gives the model before
pub record Lawful (M : Model) (op : Op) : Type 0 where
  pub sound : Sound (effect M op)
  pub goes : first_false (effect M op) (inverse M op) ≡ None
  pub undone : effect (effect M op) (inverse M op) ≡ M

-- so in every sound model in which it is accepted
abbrev pub IsLawful : Op → Type 0
IsLawful op = (M : Model) → Sound M → first_false M op ≡ None → Lawful M op
