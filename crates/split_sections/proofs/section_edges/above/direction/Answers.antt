use Rattle.split_sections.proofs.Prelude.{◌≡◌, ◌&&◌, true, ℤ, sym, ap, subst, ◌∙◌, arith, FitsSigned, is_coordinate, IsWithin, within_coordinate, coordinate_is, fits, held, held_is, held_short}
use Rattle.std.proofs.lemmas.Int.{fits_signed_from_abs}
use mir.Syntax.{w64}
use Rattle.split_sections.proofs.section_edges.above.direction.Goals as goal

-- a number of a plane fits 64 bits, and is the same there
held_fits : (n : ℤ) → IsWithin 1000000000 n → FitsSigned w64 (held n)
held_fits n w = subst (FitsSigned w64) (sym (held_is n (fits _ n w (omega arith)))) (fits_signed_from_abs w64 n (omega (arith, w)))

cast_is : (n : ℤ) → IsWithin 1000000000 n → held_short (held n) ≡ n
cast_is n w = ap held_short (held_is n (fits _ n w (omega arith))) ∙ coordinate_is n (within_coordinate n w)

cast_held : (n : ℤ) → IsWithin 1000000000 n → is_coordinate (held_short (held n)) ≡ true
cast_held n w = ap is_coordinate (cast_is n w) ∙ within_coordinate n w

pub overflow_cast-result : goal.overflow_cast-result
overflow_cast-result c = held_fits c.args.plane.a c.requires.0.0

pub overflow_cast-result-2 : goal.overflow_cast-result-2
overflow_cast-result-2 c = held_fits c.args.plane.b c.requires.0.1

pub overflow_cast-result-3 : goal.overflow_cast-result-3
overflow_cast-result-3 c = held_fits c.args.plane.c c.requires.0.2

pub returns-clause-is : goal.returns-clause-is
returns-clause-is c = let p = c.args.plane in let w = c.requires.0 in λ i. record { x = cast_is p.a w.0 i; y = cast_is p.b w.1 i; z = cast_is p.c w.2 i }

pub returns-clause-range : goal.returns-clause-range
returns-clause-range c = let p = c.args.plane in let w = c.requires.0 in λ i. cast_held p.a w.0 i && (cast_held p.b w.1 i && cast_held p.c w.2 i)
