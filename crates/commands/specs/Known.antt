-- What a session knows of one of its solids, so that a glue and a split needn't test all faces of it.
use Rattle.std.specs.Prelude.{◌≡◌, ◌⊎◌}
use Rattle.euler_operators.specs.Common.{solid_of}
use Rattle.gluing.specs.Flat.{IsClosedFlat}
use Rattle.convex_laws.specs.Convex.{IsStrictlyConvex}
use Rattle.commands.specs.Common.{Change, Journal, Model, held}
use Rattle.call_types.specs.declared.command.Change.TheVariants as change
use Rattle.commands.specs.declared.known.Known.{Known}
use Rattle.commands.specs.declared.known.Known.TheVariants as known

-- what is known holds in the model held
abbrev pub IsKnown : Journal → Known → Type 0
IsKnown s known.Nothing = Unit {0}
IsKnown s (known.Flat u) = IsClosedFlat (held s.machine) u
IsKnown s (known.Convex u) = IsClosedFlat (held s.machine) u × IsStrictlyConvex (held s.machine) u

-- once a change is accepted, k is known: a block leaves what was known, and is strictly convex; a glue makes the solid of its first face one that is
-- flat; and if the solid that is split was strictly convex, its upper part is
abbrev pub MakesKnown : Model → Known → Change → Known → Type 0
MakesKnown M o (change.Block n p dx dy dz) k = (k ≡ o) ⊎ (k ≡ known.Convex n)
MakesKnown M o (change.Glue f g) k = (k ≡ known.Nothing) ⊎ (k ≡ known.Flat (solid_of M f))
MakesKnown M o (change.Split n x y z w t) k = (k ≡ known.Nothing) ⊎ ((o ≡ known.Convex n) × (k ≡ known.Convex t))
MakesKnown M o c k = k ≡ known.Nothing
