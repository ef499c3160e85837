-- Where a plane meets a segment, as it is told.
use Rattle.split_checks.proofs.Prelude.{◌≡◌, Bool, not, Option, Some, is_some, true≢false, arith, Point, Plane, cuts_lattice, cut_between, cut_point}

pub told_off : (s : Plane) (p q : Point) (found : Option Point) (off : Bool) → found ≡ cut_point s p q → is_some found ≡ not off → off ≡ not (cuts_lattice s p q)
told_off s p q found off is e = grind arith

pub told_point : (s : Plane) (p q r : Point) → Some r ≡ cut_point s p q → r ≡ cut_between s p q
told_point s p q r e = grind (arith, true≢false)
