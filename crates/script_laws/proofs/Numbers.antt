-- The number of a refusal tells why, and the number of a fault what it is.
use Rattle.script_laws.proofs.Prelude.{◌≡◌, ◌<◌, ℕ, arith, refl, sym, ap, ◌∙◌, cond, ◌==◌, Why, Fault, RefusalsTell, FaultsTell}
use Rattle.euler_operators.specs.Refusal as why
use Rattle.euler_operators.specs.declared.Why.TheVariants as whys
use Rattle.script_reader.specs.Fault as fault
use Rattle.script_reader.specs.declared.command.Fault.TheVariants as faults

reason : ℕ → Why
reason n = cond (n == 1) whys.NumberRange (cond (n == 2) whys.NoSolid (cond (n == 3) whys.NoFace (cond (n == 4) whys.NoLoop (cond (n == 5) whys.NoEdge (cond (n == 6) whys.SolidTaken (cond (n == 7) whys.FaceTaken (cond (n == 8) whys.LoopTaken (cond (n == 9) whys.EdgeTaken (cond (n == 10) whys.VertexTaken (cond (n == 11) whys.PointRange (cond (n == 12) whys.NotBare (cond (n == 13) whys.NotLone (cond (n == 14) whys.DifferentTails (cond (n == 15) whys.ParallelEdge (cond (n == 16) whys.KeptEndBare (cond (n == 17) whys.DifferentLoops (cond (n == 18) whys.SameTail (cond (n == 19) whys.SameFace (cond (n == 20) whys.HasRings (cond (n == 21) whys.SameLoop (cond (n == 22) whys.DifferentFaces (cond (n == 23) whys.NotRing (cond (n == 24) whys.DifferentSolids (cond (n == 25) whys.NothingToUndo (cond (n == 26) whys.NothingToRedo (cond (n == 27) whys.NumbersSpent (cond (n == 28) whys.FewPoints (cond (n == 29) whys.ZeroSweep (cond (n == 30) whys.LoneLoop (cond (n == 31) whys.SameSolid (cond (n == 32) whys.NotFlat (cond (n == 33) whys.RepeatedPoint (cond (n == 34) whys.NoMatch (cond (n == 35) whys.PlaneRange (cond (n == 36) whys.PlaneMisses (cond (n == 37) whys.NotLattice (cond (n == 38) whys.TouchedFace (cond (n == 39) whys.CutOften (cond (n == 40) whys.CutCrossed (cond (n == 41) whys.BranchedVertex (cond (n == 42) whys.SectionHoles (cond (n == 43) whys.SizeRange (whys.BadPart)))))))))))))))))))))))))))))))))))))))))))

reason_back : (a : Why) → reason (why.code_of a) ≡ a
unfolding reason
reason_back whys.NumberRange = refl
reason_back a = refl

pub reason_small : (a : Why) → why.code_of a < 45
reason_small whys.NumberRange = omega arith
reason_small a = omega arith

fault_of : ℕ → Fault
fault_of n = cond (n == 1) faults.BadWord (cond (n == 2) faults.BadNumber (cond (n == 3) faults.MissingWord (cond (n == 4) faults.ExtraWord (cond (n == 5) faults.NotAscii (faults.LongLine)))))

fault_of_back : (a : Fault) → fault_of (fault.code_of a) ≡ a
unfolding fault_of
fault_of_back faults.BadWord = refl
fault_of_back a = refl

pub refusals_tell : RefusalsTell
refusals_tell a b e = sym (reason_back a) ∙ ap reason e ∙ reason_back b

pub faults_tell : FaultsTell
faults_tell a b e = sym (fault_of_back a) ∙ ap fault_of e ∙ fault_of_back b
