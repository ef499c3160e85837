use Rattle.lattice.proofs.Prelude.{◌≡◌, sym, ap, ◌∙◌, subst, arith, FitsSigned, to_z-of_z, fits_signed_from_abs, IsWithin, height}
use mir.Syntax.{w64}
use Rattle.lattice.proofs.Magnitudes.{fits, held, held_as, held_short}
use Rattle.lattice.proofs.Cuts.{height_within}
use Rattle.lattice.proofs.planes.cut_height.Goals as goal

kept : (c : goal.After-from) → held c.from.result ≡ height c.args.plane c.args.p
kept c =
    let w = height_within c.args.plane c.args.p c.requires.plane c.requires.p in
    let long = held_as _ (height c.args.plane c.args.p) c.height.ensures (fits _ _ w (omega arith)) in
    let short = fits_signed_from_abs w64 (height c.args.plane c.args.p) (omega (arith, w)) in
    held_as _ (height c.args.plane c.args.p) (c.from.ensures ∙ ap held_short long ∙ to_z-of_z w64 (height c.args.plane c.args.p) short) (fits _ _ w (omega arith))

pub overflow_cast-height : goal.overflow_cast-height
overflow_cast-height c =
    let w = height_within c.args.plane c.args.p c.requires.plane c.requires.p in
    subst (FitsSigned w64) (sym (held_as _ (height c.args.plane c.args.p) c.height.ensures (fits _ _ w (omega arith)))) (fits_signed_from_abs w64 (height c.args.plane c.args.p) (omega (arith, w)))

pub returns-clause-is : goal.returns-clause-is
returns-clause-is c = kept c

pub returns-clause-within : goal.returns-clause-within
returns-clause-within c = subst (IsWithin 6000000000000000000) (sym (kept c)) (height_within c.args.plane c.args.p c.requires.plane c.requires.p)
