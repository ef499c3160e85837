-- Solids that are convex: no vertex of the solid lies above the plane of one of its faces. Strictly convex: at each edge the two faces bend, too.
use Rattle.std.specs.Prelude.{◌≡◌, ◌≢◌, ℕ, ℤ, pos, int_lt, true, false, None, Some}
use Rattle.euler_operators.specs.Common.{Plane, Point, IsIn, cross, dot, is_above, is_below, mate, Model, face_at, point_of, solid_of, Sound, Has, HasHalf, lists}
use Rattle.euler_operators.specs.declared.Refusal.{Refusal}
use Rattle.euler_operators.specs.declared.Why.{Why}
use Rattle.euler_operators.specs.declared.Why.TheVariants.{BranchedVertex, CutCrossed, LoneLoop, NoSolid, NotLattice, NumberRange, NumbersSpent, PlaneMisses, PlaneRange, SolidTaken}
use Rattle.shapes.specs.Common.{boundary, corners, finish, is_flat, normal, plane_of, six_volume, start, towards}
use Rattle.undo_journal.specs.Machine as machine
use Rattle.undo_journal.specs.Machine.{Machine, held, undo, undo_refusal, redo, redo_refusal}
use Rattle.plane_split.specs.Machine.{split_refusal}
use Rattle.plane_split.specs.SplitModels.{IsSplit}
use Rattle.command_laws.specs.Commands.{IsBlock}

-- v is a vertex of solid s: a corner of one of its faces
pub record IsVertexOf (M : Model) (s v : ℕ) : Type 0 where
  pub face : ℕ
  pub there : Has M.faces face
  pub solid : solid_of M face ≡ s
  pub corner : lists (corners M face) v ≡ true

-- no vertex of solid s lies above plane p
abbrev pub LiesBelow : Model → Plane → ℕ → Type 0
LiesBelow M p s = (v : ℕ) → IsVertexOf M s v → is_above p (point_of M v) ≡ false

-- solid s is convex: each face is flat, and no vertex of the solid lies above its plane
pub record IsConvex (M : Model) (s : ℕ) : Type 0 where
  pub flat : (k : ℕ) → Has M.faces k → solid_of M k ≡ s → is_flat M k ≡ true
  pub below : (k : ℕ) → Has M.faces k → solid_of M k ≡ s → LiesBelow M (plane_of M k) s

-- along half-edge h, its face and that of its mate bend away from each other
abbrev pub BendsAway : Model → ℕ → Type 0
BendsAway M h = int_lt (pos 0) (dot (towards (start M h) (finish M h)) (cross (normal M (face_at M h)) (normal M (face_at M (mate h))))) ≡ true

-- solid s is strictly convex: it is convex, and at each of its edges the two faces bend away from each other
pub record IsStrictlyConvex (M : Model) (s : ℕ) : Type 0 where
  pub convex : IsConvex M s
  pub bends : (h : ℕ) → HasHalf M h → solid_of M (face_at M h) ≡ s → BendsAway M h

-- a new block is strictly convex
abbrev pub BlocksAreConvex : Type 0
BlocksAreConvex = (before after : Machine) (s : ℕ) (p : Point) (dx dy dz : ℤ) → Sound (held before) → IsBlock before after s p dx dy dz → IsStrictlyConvex (held after) s

-- a strictly convex solid has a volume, greater than 0
abbrev pub ConvexSolidsHaveVolume : Type 0
ConvexSolidsHaveVolume = (M : Model) (s : ℕ) → Sound M → Has M.solids s → IsStrictlyConvex M s → int_lt (pos 0) (six_volume M s) ≡ true

-- if no vertex of a solid lies above a plane, no vertex of its parts does after a split: each half-space that holds the solid holds both parts
abbrev pub SplitsStayBelow : Type 0
SplitsStayBelow = (before after : Machine) (s : ℕ) (p : Plane) (t : ℕ) (q : Plane) → Sound (held before) → IsSplit before after s p t →
    LiesBelow (held before) q s → LiesBelow (held after) q s × LiesBelow (held after) q t

-- no vertex of solid s lies below plane p
abbrev pub LiesAbove : Model → Plane → ℕ → Type 0
LiesAbove M p s = (v : ℕ) → IsVertexOf M s v → is_below p (point_of M v) ≡ false

-- the parts of a split lie on the two sides of its plane
abbrev pub SplitPartsLieApart : Type 0
SplitPartsLieApart = (before after : Machine) (s : ℕ) (p : Plane) (t : ℕ) → Sound (held before) → IsSplit before after s p t → LiesBelow (held after) p s × LiesAbove (held after) p t

-- what half-edge h sweeps over, seen from point q: twice the area of the triangle, as a vector across it
abbrev pub swept_from : Model → Point → ℕ → Point
swept_from M q h = cross (towards q (start M h)) (towards q (finish M h))

-- seen from point q, the half-edges of face k go round vector n: none goes backwards, and at least one goes forwards
pub record GoesRound (M : Model) (k : ℕ) (n q : Point) : Type 0 where
  pub none_back : (h : ℕ) → IsIn h (boundary M k) → int_lt (dot n (swept_from M q h)) (pos 0) ≡ false
  pub half : ℕ
  pub stands : IsIn half (boundary M k)
  pub goes_on : int_lt (pos 0) (dot n (swept_from M q half)) ≡ true

-- then the face's normal points along n, even if the face isn't flat
abbrev pub RoundLooksAlong : Type 0
RoundLooksAlong = (M : Model) (k : ℕ) (n q : Point) → Sound M → GoesRound M k n q → int_lt (pos 0) (dot n (normal M k)) ≡ true

-- every other solid that was convex before a block or a split is convex after it
abbrev pub BlockKeepsConvex : Type 0
BlockKeepsConvex = (before after : Machine) (s : ℕ) (p : Point) (dx dy dz : ℤ) (u : ℕ) → Sound (held before) → IsBlock before after s p dx dy dz → u ≢ s → IsConvex (held before) u → IsConvex (held after) u

abbrev pub SplitLeavesConvex : Type 0
SplitLeavesConvex = (before after : Machine) (s : ℕ) (p : Plane) (t u : ℕ) → Sound (held before) → IsSplit before after s p t → u ≢ s → u ≢ t → IsConvex (held before) u → IsConvex (held after) u

-- and strictly convex, if it was
abbrev pub BlockKeepsStrictlyConvex : Type 0
BlockKeepsStrictlyConvex = (before after : Machine) (s : ℕ) (p : Point) (dx dy dz : ℤ) (u : ℕ) → Sound (held before) → IsBlock before after s p dx dy dz → u ≢ s →
    IsStrictlyConvex (held before) u → IsStrictlyConvex (held after) u

abbrev pub SplitLeavesStrictlyConvex : Type 0
SplitLeavesStrictlyConvex = (before after : Machine) (s : ℕ) (p : Plane) (t u : ℕ) → Sound (held before) → IsSplit before after s p t → u ≢ s → u ≢ t →
    IsStrictlyConvex (held before) u → IsStrictlyConvex (held after) u

-- both parts of a strictly convex solid are strictly convex
abbrev pub SplitsKeepStrictlyConvex : Type 0
SplitsKeepStrictlyConvex = (before after : Machine) (s : ℕ) (p : Plane) (t : ℕ) → Sound (held before) → IsSplit before after s p t → IsStrictlyConvex (held before) s →
    IsStrictlyConvex (held after) s × IsStrictlyConvex (held after) t

-- so both have a volume, greater than 0
abbrev pub PartsOfConvexSolidsHaveVolume : Type 0
PartsOfConvexSolidsHaveVolume = (before after : Machine) (s : ℕ) (p : Plane) (t : ℕ) → Sound (held before) → IsSplit before after s p t → IsStrictlyConvex (held before) s →
    (int_lt (pos 0) (six_volume (held after) s) ≡ true) × (int_lt (pos 0) (six_volume (held after) t) ≡ true)

-- the reasons for which a split of a strictly convex solid can be refused
pub data MayRefuseConvexSplit : Why → Type 0 where
  number_out_of_range : MayRefuseConvexSplit NumberRange
  no_such_solid : MayRefuseConvexSplit NoSolid
  solid_there_already : MayRefuseConvexSplit SolidTaken
  plane_out_of_range : MayRefuseConvexSplit PlaneRange
  lone_loop : MayRefuseConvexSplit LoneLoop
  all_on_one_side : MayRefuseConvexSplit PlaneMisses
  cut_off_the_lattice : MayRefuseConvexSplit NotLattice
  places_crossed : MayRefuseConvexSplit CutCrossed
  vertex_branched : MayRefuseConvexSplit BranchedVertex
  numbers_spent : MayRefuseConvexSplit NumbersSpent

-- it is refused for no other reason
abbrev pub ConvexSplitsAreRefusedFor : Type 0
ConvexSplitsAreRefusedFor = (m : Machine) (s : ℕ) (p : Plane) (t : ℕ) (r : Refusal) → Sound (held m) → IsStrictlyConvex (held m) s → split_refusal m s p t ≡ Some r → MayRefuseConvexSplit r.why

-- a machine to which accepted blocks, splits, undos and redos lead from the first machine, in any order and number
pub data IsBuilt : Machine → Type 0 where
  started : IsBuilt machine.start
  block_made : (before after : Machine) (s : ℕ) (p : Point) (dx dy dz : ℤ) → IsBuilt before → IsBlock before after s p dx dy dz → IsBuilt after
  solid_split : (before after : Machine) (s : ℕ) (p : Plane) (t : ℕ) → IsBuilt before → IsSplit before after s p t → IsBuilt after
  undone : (before : Machine) → IsBuilt before → undo_refusal before ≡ None → IsBuilt (undo before)
  redone : (before : Machine) → IsBuilt before → redo_refusal before ≡ None → IsBuilt (redo before)

-- then each solid that it holds is strictly convex
abbrev pub BuiltAreConvex : Type 0
BuiltAreConvex = (m : Machine) → IsBuilt m → (s : ℕ) → Has (held m).solids s → IsStrictlyConvex (held m) s

-- and has a volume, greater than 0
abbrev pub BuiltHaveVolume : Type 0
BuiltHaveVolume = (m : Machine) → IsBuilt m → (s : ℕ) → Has (held m).solids s → int_lt (pos 0) (six_volume (held m) s) ≡ true
