-- mef as an operator: what its conditions say, and that it keeps a model sound.
use Rattle.euler_laws.proofs.Prelude.{◌≡◌, ℕ, None, arith, eqb-true, not-true, eqb-false, HalfEdge, code, Model, first_false, conditions, edge_of-code, no_row, Mef}
use Rattle.euler_laws.proofs.shared.Goes.{all_hold}
use Rattle.euler_laws.proofs.shared.Rows.{half_of}
use Rattle.euler_laws.proofs.mef.MefSound.{MefGoes}

pub mef_goes : (M : Model) (g k h : HalfEdge) (f l : ℕ) → first_false M (Mef g k h f l) ≡ None → MefGoes M (code g) (code k) (code h) f l
unfolding first_false conditions
mef_goes M g k h f l e =
    grind (arith, all_hold (conditions M (Mef g k h f l)) e, half_of, edge_of-code, not-true, no_row, eqb-true, eqb-false)
