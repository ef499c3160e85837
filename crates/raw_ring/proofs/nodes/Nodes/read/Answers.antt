use Rattle.raw_ring.proofs.Prelude.{◌∙◌, sym}
use Rattle.raw_ring.proofs.Blocks.{found_all, node_at-drop}
use Rattle.raw_ring.proofs.nodes.Nodes.read.Goals as goal

pub read-requires : goal.read-requires
read-requires c = found_all _ _ _ c.self.invariant.apart (rw (← c.self.view_is) at c.requires)

pub returns : goal.returns
returns c = rw (← c.self.view_is) (sym (node_at-drop _ _ _ c.self.invariant.apart (rw (← c.self.view_is) at c.requires)) ∙ c.read.ensures)
