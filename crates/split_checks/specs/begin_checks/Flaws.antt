-- What a face that straddles must not be.
use Rattle.std.specs.Prelude.{ℕ, Bool, Option, List, find, option_map}
use Rattle.euler_operators.specs.Common.{Plane, Model}
use Rattle.shapes.specs.Common.{is_touched, is_cut_often}
use Rattle.split_checks.specs.declared.begin_checks.flaws.Flaw.{Flaw}
use Rattle.split_checks.specs.declared.begin_checks.flaws.Flaw.TheVariants.{Touched, CutOften}
use Rattle.split_checks.specs.declared.cut_places.found.FaceMet.{FaceMet}

abbrev pub has_flaw : Flaw → Model → Plane → ℕ → Bool
has_flaw Touched M p f = is_touched M p f
has_flaw CutOften M p f = is_cut_often M p f

-- whether a face has the flaw, by what was found of it; and the first face that has it
abbrev pub shows : Flaw → FaceMet → Bool
shows Touched q = q.touched
shows CutOften q = q.often

abbrev pub first_showing : Flaw → List FaceMet → Option ℕ
first_showing flaw qs = option_map (λ q. q.face) (find (shows flaw) qs)
