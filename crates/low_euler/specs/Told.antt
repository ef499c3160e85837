-- Operators that tell their inverses: those that name all that they make.
use Rattle.std.specs.Prelude.{Option, Some, None}
use Rattle.euler_operators.specs.declared.Op.{Op}
use Rattle.euler_operators.specs.declared.Op.TheVariants.{Mvfs, Kvfs, Mev, Kev, Mef, Kef, Merge, Part}
use Rattle.euler_conditions.specs.Store.{Store}
use Rattle.euler_conditions.specs.Ready.{IsReady, Accepts, after}

-- the inverse of an operator, if the operator alone tells it: it is the same in every model
abbrev pub told_inverse : Op → Option Op
told_inverse (Mvfs s f l v p) = Some (Kvfs s)
told_inverse (Mev a b h v p) = Some (Kev h)
told_inverse (Mef a b h f l) = Some (Kef h)
told_inverse (Part s t fs) = Some (Merge s t)
told_inverse o = None

-- what is told is accepted
abbrev pub AcceptsTold : Store → Option Op → Type 0
AcceptsTold s (Some inverse) = Accepts s inverse
AcceptsTold s None = IsReady s

-- the arena after what is told, or the same arena if nothing is
abbrev pub after_told : Store → Option Op → Store
after_told s (Some inverse) = after s inverse
after_told s None = s
