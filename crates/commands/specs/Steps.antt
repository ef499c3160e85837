-- How many operators the larger commands take: as many steps in a draft, and as many in their record, each with its inverse.
use Rattle.std.specs.Prelude.{◌≡◌, ℕ, ℤ, ◌+◌, ◌*◌, Bool, true, false, List, length, filter, None}
use Rattle.euler_operators.specs.Common.{Point, Plane}
use Rattle.euler_operators.specs.declared.Op.{Op}
use Rattle.euler_operators.specs.declared.Op.TheVariants.{RingIn}
use Rattle.shapes.specs.Common.{lamina_refusal, block_refusal, prism_refusal, glue_refusal, glue_ops, corners, rim, split_refusal, crossing_edges, straddling_faces, pair_count, with_drawings, faces_above, below_halves, section_cycles, holes_in}
use Rattle.sweeps_laws.specs.lamina.Path.{lamina_operators}
use Rattle.sweeps_laws.specs.block.BlockOps.{block_operators}
use Rattle.sweeps_laws.specs.prism.SweepOps.{sweep_ops}
use Rattle.plane_split.specs.SplitOps.{split_ops}
use Rattle.commands.specs.Common.{Model, Sound}

-- a lamina takes one for each point, and one that closes the ring
abbrev pub LaminasTakeSteps : Type 0
LaminasTakeSteps = (M : Model) (n : ℕ) (ps : List Point) → Sound M → lamina_refusal M n ps ≡ None → length (lamina_operators M n ps) ≡ length ps + 1

-- a block takes thirteen
abbrev pub BlocksTakeSteps : Type 0
BlocksTakeSteps = (M : Model) (n : ℕ) (p : Point) (dx dy dz : ℤ) → Sound M → block_refusal M n p dx dy dz ≡ None → length (block_operators M n p dx dy dz) ≡ 13

-- a sweep takes two for each corner of the face
abbrev pub SweepsTakeSteps : Type 0
SweepsTakeSteps = (M : Model) (f : ℕ) (d : Point) → Sound M → prism_refusal M f d ≡ None → length (sweep_ops M f d) ≡ 2 * length (corners M f)

-- a glue takes three for each half-edge of the first face's outer loop, and two more
abbrev pub GluesTakeSteps : Type 0
GluesTakeSteps = (M : Model) (f g : ℕ) → Sound M → glue_refusal M f g ≡ None → length (glue_ops M f g) ≡ 3 * length (rim M f) + 2

-- an operator that gives a ring to another face
abbrev pub gives_ring : Op → Bool
gives_ring (RingIn l f) = true
gives_ring op = false

-- a split takes one for each edge that crosses the plane, one for each pair of cut places, and one for each ring that goes to a new face;
-- three for each edge of the section, and one more for each of its cycles; two for each hole; and one that parts the solid
abbrev pub SplitsTakeSteps : Type 0
SplitsTakeSteps = (M : Model) (s : ℕ) (p : Plane) (t : ℕ) → Sound M → split_refusal M s p t ≡ None →
    let D = (with_drawings M s p).model in
    let section = below_halves D (faces_above D p s) s in
    let cycles = section_cycles D section in
    let ops = split_ops M s p t in
    length ops ≡ length (crossing_edges M p s) + pair_count M p (straddling_faces M p s) + length (filter gives_ring ops) + 3 * length section + length cycles + 2 * length (holes_in D p cycles) + 1
