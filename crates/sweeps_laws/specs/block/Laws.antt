-- The laws of blocks, each over every sound model and every block that isn't refused.
use Rattle.std.specs.Prelude.{◌≡◌, ℕ, ℤ, None}
use Rattle.euler_operators.specs.Common.{Point, Model, Sound}
use Rattle.euler_laws.specs.Laws.{effects, AreAccepted}
use Rattle.shapes.specs.Common.{block_refusal, block_model}
use Rattle.sweeps_laws.specs.block.BlockOps.{block_operators}

-- each operator is accepted in its turn
abbrev pub BlocksAreAccepted : Type 0
BlocksAreAccepted = (M : Model) (s : ℕ) (p : Point) (dx dy dz : ℤ) → Sound M → block_refusal M s p dx dy dz ≡ None → AreAccepted M (block_operators M s p dx dy dz)

-- together they make the block
abbrev pub OperatorsMakeBlocks : Type 0
OperatorsMakeBlocks = (M : Model) (s : ℕ) (p : Point) (dx dy dz : ℤ) → Sound M → block_refusal M s p dx dy dz ≡ None → effects M (block_operators M s p dx dy dz) ≡ block_model M s p dx dy dz

abbrev pub BlocksAreSound : Type 0
BlocksAreSound = (M : Model) (s : ℕ) (p : Point) (dx dy dz : ℤ) → Sound M → block_refusal M s p dx dy dz ≡ None → Sound (block_model M s p dx dy dz)
