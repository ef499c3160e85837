use Rattle.raw_ring.proofs.Prelude.{◌≡◌, [], begun, piled, places}
use Rattle.raw_ring.proofs.nodes.free_blocks.Given as goal

abbrev pub invariant-blocks-2 : goal.invariant-blocks-2
invariant-blocks-2 l = (places l.memory.cells ≡ piled l.memory.deeds) × (l.memory.deeds ≡ begun l.blocks.items [])

abbrev pub decreases-blocks-2 : goal.decreases-blocks-2
decreases-blocks-2 l = goal.left-blocks-2 l
