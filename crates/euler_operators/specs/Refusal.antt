-- Why a command is refused, with the number that a reply prints.
use Rattle.std.specs.Prelude.{ℕ}
use Rattle.euler_operators.specs.declared.Why.{Why}
use Rattle.euler_operators.specs.declared.Why.TheVariants.{NumberRange, NoSolid, NoFace, NoLoop, NoEdge, SolidTaken, FaceTaken, LoopTaken, EdgeTaken, VertexTaken, PointRange, NotBare, NotLone, DifferentTails, ParallelEdge, KeptEndBare, DifferentLoops, SameTail, SameFace, HasRings, SameLoop, DifferentFaces, NotRing, DifferentSolids, NothingToUndo, NothingToRedo, NumbersSpent, FewPoints, ZeroSweep, LoneLoop, SameSolid, NotFlat, RepeatedPoint, NoMatch, PlaneRange, PlaneMisses, NotLattice, TouchedFace, CutOften, CutCrossed, BranchedVertex, SectionHoles, SizeRange, BadPart}

-- the number of a reason
abbrev pub code_of : Why → ℕ
code_of NumberRange = 1
code_of NoSolid = 2
code_of NoFace = 3
code_of NoLoop = 4
code_of NoEdge = 5
code_of SolidTaken = 6
code_of FaceTaken = 7
code_of LoopTaken = 8
code_of EdgeTaken = 9
code_of VertexTaken = 10
code_of PointRange = 11
code_of NotBare = 12
code_of NotLone = 13
code_of DifferentTails = 14
code_of ParallelEdge = 15
code_of KeptEndBare = 16
code_of DifferentLoops = 17
code_of SameTail = 18
code_of SameFace = 19
code_of HasRings = 20
code_of SameLoop = 21
code_of DifferentFaces = 22
code_of NotRing = 23
code_of DifferentSolids = 24
code_of NothingToUndo = 25
code_of NothingToRedo = 26
code_of NumbersSpent = 27
code_of FewPoints = 28
code_of ZeroSweep = 29
code_of LoneLoop = 30
code_of SameSolid = 31
code_of NotFlat = 32
code_of RepeatedPoint = 33
code_of NoMatch = 34
code_of PlaneRange = 35
code_of PlaneMisses = 36
code_of NotLattice = 37
code_of TouchedFace = 38
code_of CutOften = 39
code_of CutCrossed = 40
code_of BranchedVertex = 41
code_of SectionHoles = 42
code_of SizeRange = 43
code_of BadPart = 44
